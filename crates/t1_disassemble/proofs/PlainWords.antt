-- The words of bodies that were assembled, and the lines in which they are printed.
use Rattle.std.proofs.Common.{◌≡◌, ℕ, ℤ, Bool, true, false, ltb, ◌+◌, ◌^◌, ◌≤◌, ◌<◌, if◌then◌else◌, List, [], ◌∷◌, ◌++◌, length, map, replicate, codes, Option, None, Some, Result, Ok, Err, refl, sym, ap, ◌∙◌, append-nil, append_assoc, length-append, inl, inr, arith}
use Rattle.std.proofs.lemmas.Bool.{cases_Bool, le-ltb, ltb-false, and_parts}
use Rattle.std.proofs.lemmas.List.{length-replicate}
use Rattle.std.proofs.lemmas.Slice.Eq.{bytes_eq-Decides}
use Rattle.std.specs.List.{list_all}
use Rattle.std.specs.Map.{lookup}
use Rattle.std.specs.Str.{bytes_eq}
use Rattle.std.specs.Fmt.{signed_decimal}
use Rattle.t1_frac.specs.Outcome.{◌>>=◌}
use Rattle.t1_frac.specs.Numbers.{is_number_word, number_written}
use Rattle.t1_frac.specs.declared.fault.Code.{Code}
use Rattle.t1_text.specs.Lines.{joined}
use Rattle.t1_code.specs.declared.command.Command.{Command}
use Rattle.t1_code.specs.declared.command.Command.TheVariants.{Num}
use Rattle.t1_code.specs.Charstring.{charstring}
use Rattle.t1_code.specs.Cipher.{encrypted_charstring, encrypted_words}
use Rattle.t1_code.specs.Words.{commands, commands_of_words, command_of_word, command_then, number_of_word, number_command, in_32_bits, fits_32_bits, operator_named, operator_words, or_unknown}
use Rattle.t1_code.proofs.Encrypting.{length-cipher}
use Rattle.t1_code.proofs.Fitting.{compiled_spells}
use Rattle.t1_code.proofs.Lengths.{compiled_short}
use Rattle.t1_parts.specs.Printing.{body_line, word_groups, last_line, entry_lines}
use Rattle.t1_parts.proofs.GroupLaws.{left, left_number, left_other}
use Rattle.t1_disassemble.specs.CommandWords.{command_word}
use Rattle.t1_disassemble.specs.Laws.{plain_word}
use Rattle.t1_disassemble.specs.PrivateText.{head_line}
use Rattle.t1_disassemble.specs.Words.{words_of, words_of_encrypted, printed_words}
use Rattle.t1_disassemble.proofs.Deciphering.{charstring_again}
use Rattle.t1_disassemble.proofs.WordLaws.{words_again}

-- ---- an encrypted body

pub record Compiled (lead : ℕ) (words : List (List ℕ)) (code : List ℕ) : Type 0 where
  pub cs : List Command
  pub read : commands words ≡ Ok cs
  pub is : code ≡ encrypted_charstring lead (charstring cs)

compiled_from : (lead : ℕ) (words : List (List ℕ)) (code : List ℕ) (read : Result (List Command) Code) → commands words ≡ read
    → (read >>= λ cs. Ok (charstring cs) >>= λ plain. Ok (encrypted_charstring lead plain)) ≡ Ok code → Compiled lead words code
compiled_from lead words code (Ok cs) e h = record { cs = cs; read = e; is = cc }
compiled_from lead words code (Err fault) e h = absurd (cc)

regrouped : (lead : ℕ) (read : Result (List Command) Code)
    → ((read >>= λ cs. Ok (charstring cs)) >>= λ plain. Ok (encrypted_charstring lead plain)) ≡ (read >>= λ cs. Ok (charstring cs) >>= λ plain. Ok (encrypted_charstring lead plain))
regrouped lead (Ok cs) = refl
regrouped lead (Err fault) = refl

pub compiled : (lead : ℕ) (words : List (List ℕ)) (code : List ℕ) → encrypted_words lead words ≡ Ok code → Compiled lead words code
unfolding encrypted_words
compiled lead words code h = compiled_from lead words code (commands words) refl (sym (regrouped lead (commands words)) ∙ h)

length_encrypted : (lead : ℕ) (plain : List ℕ) → length (encrypted_charstring lead plain) ≡ lead + length plain
length_encrypted lead plain = length-cipher 4330 (replicate lead 0 ++ plain) ∙ length-append (replicate lead 0) plain ∙ ap (λ n. n + length plain) (length-replicate lead 0)

pub encrypted_again : (lead : ℕ) (words : List (List ℕ)) (cs : List Command) → commands words ≡ Ok cs → words_of_encrypted lead (encrypted_charstring lead (charstring cs)) ≡ Ok (map command_word cs)
unfolding words_of_encrypted
encrypted_again lead words cs h =
    rw (le-ltb (length (encrypted_charstring lead (charstring cs))) lead (omega (arith, length_encrypted lead (charstring cs))))
    (ap words_of (charstring_again lead (charstring cs)) ∙ words_again (charstring cs) cs (compiled_spells words cs h))

few_words : (words : List (List ℕ)) (cs : List Command) → commands words ≡ Ok cs → (length words ≤ 65535) × (commands_of_words words ≡ Ok cs)
unfolding commands
few_words words cs h = elim (cases_Bool (ltb 65535 (length words))) [
  | inl t ↦ (let off = rw t at h in absurd (cc))
  | inr f ↦ (ltb-false 65535 (length words) f, rw f at h)
]

-- an encrypted body has less than 1,000,000,000 bytes
pub short_code : (lead : ℕ) (words : List (List ℕ)) (cs : List Command) → lead ≤ 64 → commands words ≡ Ok cs → length (encrypted_charstring lead (charstring cs)) < 10 ^ 9
short_code lead words cs small h =
    omega (arith, small, length_encrypted lead (charstring cs), compiled_short words cs h, (few_words words cs h).0)

-- ---- words in their plain spelling

found_word : (w : List ℕ) (c : Command) (rows : List (List ℕ × Command)) → list_all (λ row. bytes_eq (command_word row.1) row.0) rows ≡ true → lookup (bytes_eq w) rows ≡ Some c → command_word c ≡ w
found_word w c [] all h = absurd (cc)
found_word w c (row ∷ rows) all h =
    let parts = and_parts (bytes_eq (command_word row.1) row.0) (list_all (λ r. bytes_eq (command_word r.1) r.0) rows) all in
    elim (cases_Bool (bytes_eq w row.0)) [
      | inl t ↦ (let same : ◌≡◌ {A = Option Command} (Some row.1) (Some c) = rw t at h in
          let is : row.1 ≡ c = cc in
          ap command_word (sym is) ∙ (bytes_eq-Decides (command_word row.1) row.0).0 parts.0 ∙ sym ((bytes_eq-Decides w row.0).0 t))
      | inr f ↦ found_word w c rows parts.1 (rw f at h)
    ]

named_word : (w : List ℕ) (c : Command) → operator_named w ≡ Some c → command_word c ≡ w
unfolding operator_named operator_words
named_word w c h = found_word w c operator_words refl h

number_said : (n : ℤ) (c : Command) → number_command (in_32_bits n) ≡ Ok c → command_word c ≡ signed_decimal n
number_said n c h = elim (cases_Bool (fits_32_bits n)) [
  | inl t ↦ (let same : ◌≡◌ {A = Result Command Code} (Ok (Num n)) (Ok c) = rw t at h in
      let is : Num n ≡ c = cc in ap command_word (sym is))
  | inr f ↦ (let off = rw f at h in absurd (cc))
]

other_said : (w : List ℕ) (c : Command) (found : Option Command) → operator_named w ≡ found → or_unknown found ≡ Ok c → command_word c ≡ w
other_said w c (Some d) e h = let is : d ≡ c = cc in named_word w c (e ∙ ap Some is)
other_said w c None e h = absurd (cc)

word_said : (w : List ℕ) (c : Command) → command_of_word w ≡ Ok c → command_word c ≡ plain_word w
unfolding command_of_word number_of_word
word_said w c h = elim (cases_Bool (is_number_word w)) [
  | inl t ↦ number_said (number_written w) c (rw t at h) ∙ rw t refl
  | inr f ↦ other_said w c (operator_named w) refl (rw f at h) ∙ rw f refl
]

then_said : (w : List ℕ) (ws : List (List ℕ)) (first : Result Command Code) (others : Result (List Command) Code) (cs : List Command) → ((c : Command) → first ≡ Ok c → command_word c ≡ plain_word w)
    → ((ds : List Command) → others ≡ Ok ds → map command_word ds ≡ map plain_word ws) → command_then first others ≡ Ok cs → map command_word cs ≡ map plain_word (w ∷ ws)
then_said w ws (Ok c) (Ok ds) cs one more h =
    let is : c ∷ ds ≡ cs = cc in
    ap (map command_word) (sym is) ∙ ap (λ v. v ∷ map command_word ds) (one c refl) ∙ ap (λ vs. plain_word w ∷ vs) (more ds refl)
then_said w ws (Ok c) (Err fault) cs one more h = absurd (cc)
then_said w ws (Err fault) others cs one more h = absurd (cc)

words_said : (ws : List (List ℕ)) (cs : List Command) → commands_of_words ws ≡ Ok cs → map command_word cs ≡ map plain_word ws
words_said [] cs h = let is : ◌≡◌ {A = List Command} [] cs = cc in ap (map command_word) (sym is)
words_said (w ∷ ws) cs h = then_said w ws (command_of_word w) (commands_of_words ws) cs (word_said w) (words_said ws) h

-- the words of the commands of a body are those of the body, in their plain spelling
pub plain_said : (ws : List (List ℕ)) (cs : List Command) → commands ws ≡ Ok cs → map command_word cs ≡ map plain_word ws
plain_said ws cs h = words_said ws cs (few_words ws cs h).1

-- ---- the lines of words

pub printed_number : (is_open : Bool) (w : List ℕ) (ws : List (List ℕ)) → is_number_word w ≡ true → printed_words is_open (w ∷ ws) ≡ (if is_open then 32 else 9) ∷ (w ++ printed_words true ws)
printed_number is_open w ws t = rw t refl

pub printed_other : (is_open : Bool) (w : List ℕ) (ws : List (List ℕ)) → is_number_word w ≡ false → printed_words is_open (w ∷ ws) ≡ (if is_open then 32 else 9) ∷ (w ++ 10 ∷ printed_words false ws)
printed_other is_open w ws f = rw f refl

printed_left : (is_open : Bool) (ws : List (List ℕ)) → printed_words is_open ws ≡ left is_open ws
printed_left true [] = refl
printed_left false [] = refl
printed_left is_open (w ∷ ws) = elim (cases_Bool (is_number_word w)) [
  | inl t ↦ printed_number is_open w ws t ∙ ap (λ l. (if is_open then 32 else 9) ∷ (w ++ l)) (printed_left true ws) ∙ sym (left_number is_open w ws t)
  | inr f ↦ printed_other is_open w ws f ∙ ap (λ l. (if is_open then 32 else 9) ∷ (w ++ 10 ∷ l)) (printed_left false ws) ∙ sym (left_other is_open w ws f)
]

pub joined-append : (xs ys : List (List ℕ)) → joined (xs ++ ys) ≡ joined xs ++ joined ys
joined-append [] ys = refl
joined-append (x ∷ xs) ys = ap (λ l. (x ++ 10 ∷ []) ++ l) (joined-append xs ys) ∙ sym (append_assoc (x ++ 10 ∷ []) (joined xs) (joined ys))

-- the lines of an entry, after a text
pub entry_printed : (text name : List ℕ) (ws : List (List ℕ)) (closing : List ℕ)
    → ((text ++ head_line name) ++ printed_words false ws) ++ (last_line closing ++ 10 ∷ []) ≡ text ++ joined (entry_lines (name ++ codes " {") ws closing)
entry_printed text name ws closing =
    let groups = map body_line (word_groups ws) in
    let last = last_line closing in
    let inner : joined (groups ++ last ∷ []) ≡ joined groups ++ (last ++ 10 ∷ []) = joined-append groups (last ∷ []) ∙ ap (λ l. joined groups ++ l) (append-nil (last ++ 10 ∷ [])) in
    ap (λ l. ((text ++ head_line name) ++ l) ++ (last ++ 10 ∷ [])) (printed_left false ws)
    ∙ append_assoc (text ++ head_line name) (joined groups) (last ++ 10 ∷ [])
    ∙ append_assoc text (head_line name) (joined groups ++ (last ++ 10 ∷ []))
    ∙ ap (λ l. text ++ (((name ++ codes " {") ++ 10 ∷ []) ++ l)) (sym inner)
