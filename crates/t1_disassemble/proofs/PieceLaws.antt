-- Lines and entries of a private text read back.
use Rattle.std.proofs.Common.{◌≡◌, ◌⊎◌, ℕ, Bool, true, false, not, ◌&&◌, ◌+◌, List, [], ◌∷◌, ◌++◌, length, drop, codes, Option, None, Some, Result, Ok, refl, ap, ◌∙◌, append-nil, append_assoc, length-append, inl, inr, arith}
use Rattle.std.proofs.lemmas.Bool.{cases_Bool, ne_eqb, le-ltb}
use Rattle.std.proofs.lemmas.List.{take_at, drop_at}
use Rattle.std.proofs.lemmas.Slice.Eq.{bytes_eq-Decides}
use Rattle.std.specs.Prelude.{is_none}
use Rattle.std.specs.Str.{bytes_eq}
use Rattle.t1_frac.specs.Outcome.{◌>>=◌}
use Rattle.t1_text.specs.Lines.{is_line, begins_with}
use Rattle.t1_text.specs.Names.{decimal_of}
use Rattle.t1_text.specs.Tokens.{places_from}
use Rattle.t1_parts.specs.Parts.{is_closefile}
use Rattle.t1_disassemble.specs.declared.fault.FontFault.{FontFault}
use Rattle.t1_disassemble.specs.Front.{front_line, past_line}
use Rattle.t1_disassemble.specs.Laws.{fits}
use Rattle.t1_disassemble.specs.Layouts.{is_border, begins_closefile, one_line, are_one}
use Rattle.t1_disassemble.specs.Opening.{Opening, length_said, glyph_opening, subr_opening, subr_here, opening_here, or_other, first_opening}
use Rattle.t1_disassemble.specs.PiecesOnto.{entry_left, entry_onto, piece_onto, read_onto, private_onto}
use Rattle.t1_disassemble.specs.PrivateText.{PieceRead, plain_text, line_text, cut_len, head_line, goes_on, headed_line, past_headed, source_line, past_source_line}
use Rattle.t1_disassemble.specs.Settings.{heads_section}
use Rattle.t1_disassemble.specs.Words.{words_of_encrypted, printed_words}
use Rattle.t1_disassemble.proofs.FrontLaws.{front_append, line_front, line_past, lines_parts, IsToken, token_place, token_line}
use Rattle.t1_disassemble.proofs.HeadLaws.{headless}
use Rattle.t1_disassemble.proofs.Openings.{here_glyph, here_other}
use Rattle.t1_disassemble.proofs.Pieces.{go_on, private_more}

-- ---- a line on which nothing opens, and that doesn't go on with the next

never_first : (a b c d : Bool) → b ≡ false → (not a && b && c && d) ≡ false
never_first true b c d h = refl
never_first false b c d h = rw h refl

never_border : (a b c d : Bool) → a ≡ true → (not a && b && c && d) ≡ false
never_border a b c d h = rw h refl

-- it may not go on, or is a border by itself
abbrev pub Alone : List ℕ → Type 0
Alone line = (begins_closefile line ≡ false) ⊎ (is_border line ≡ true)

not_one : (l m : List ℕ) → Alone l → are_one l m ≡ false
not_one l m (inl h) = never_first (is_border l) (begins_closefile l) (not (is_border m)) (is_closefile (one_line l m)) h
not_one l m (inr h) = never_border (is_border l) (begins_closefile l) (not (is_border m)) (is_closefile (one_line l m)) h

stays_one : (operator line rest : List ℕ) → is_line line ≡ true → Alone line → goes_on operator (line ++ 10 ∷ rest) ≡ false
stays_one operator line rest whole alone =
    let bytes = line ++ 10 ∷ rest in
    let next = front_line (past_line bytes) in
    ap (λ (l : List ℕ). are_one l next && is_none (first_opening operator (places_from 0 next))) (line_front line rest whole)
    ∙ ap (λ (one : Bool). one && is_none (first_opening operator (places_from 0 next))) (not_one line next alone)

pub source_again : (operator line rest : List ℕ) → is_line line ≡ true → Alone line → fits line ≡ true → source_line operator (line ++ 10 ∷ rest) ≡ line
source_again operator line rest whole alone fit =
    rw (stays_one operator line rest whole alone) (ap (headed_line operator (line ++ 10 ∷ rest)) (headless line rest whole fit) ∙ line_front line rest whole)

pub past_again : (operator line rest : List ℕ) → is_line line ≡ true → Alone line → fits line ≡ true → past_source_line operator (line ++ 10 ∷ rest) ≡ rest
past_again operator line rest whole alone fit =
    rw (stays_one operator line rest whole alone) (ap (past_headed operator (line ++ 10 ∷ rest)) (headless line rest whole fit) ∙ line_past line rest whole)

pub closes_alone : (line : List ℕ) → is_closefile line ≡ true → Alone line
closes_alone line h = inr (elim (cases_Bool (heads_section line)) [
  | inl t ↦ rw t refl
  | inr f ↦ rw f h
])

made : List ℕ → Bool → List ℕ → List ℕ → PieceRead
made text waits line rest = record { text = text ++ line_text waits line; waits = false; rest = rest; is_last = is_closefile line }

plain_read : (operator : List ℕ) (lead : ℕ) (text : List ℕ) (waits : Bool) (line rest : List ℕ) → is_line line ≡ true → first_opening operator (places_from 0 line) ≡ None → Alone line → fits line ≡ true
    → read_onto operator lead text waits (line ++ 10 ∷ rest) ≡ Ok (made text waits line rest)
unfolding read_onto made
plain_read operator lead text waits line rest whole none alone fit =
    let bytes = line ++ 10 ∷ rest in
    let front = line_front line rest whole in
    rw (ne_eqb (length bytes) 0 (omega (arith, length-append line (10 ∷ rest))))
    (ap (λ (o : Option Opening). piece_onto operator lead text waits bytes o) (ap (λ (l : List ℕ). first_opening operator (places_from 0 l)) front ∙ none)
    ∙ ap (λ (l : List ℕ). Ok (made text waits l (past_source_line operator bytes))) (source_again operator line rest whole alone fit)
    ∙ ap (λ (r : List ℕ). Ok (made text waits line r)) (past_again operator line rest whole alone fit))

-- a line that doesn't close the encrypted part, and what comes after it
pub plain_again : (operator : List ℕ) (lead : ℕ) (text : List ℕ) (waits : Bool) (line rest : List ℕ) → is_line line ≡ true → first_opening operator (places_from 0 line) ≡ None → is_closefile line ≡ false → begins_closefile line ≡ false → fits line ≡ true → cut_len waits line ≡ None
    → private_onto operator lead text waits (line ++ 10 ∷ rest) ≡ private_onto operator lead (text ++ plain_text waits line) false rest
unfolding made
plain_again operator lead text waits line rest whole none stays alone fit uncut =
    private_more operator lead text waits (line ++ 10 ∷ rest)
    ∙ ap (λ (r : Result PieceRead FontFault). r >>= go_on (private_onto operator lead)) (plain_read operator lead text waits line rest whole none (inl alone) fit) ∙ rw (stays, uncut) refl

-- the line that closes it
pub last_again : (operator : List ℕ) (lead : ℕ) (text : List ℕ) (line rest : List ℕ) → is_line line ≡ true → first_opening operator (places_from 0 line) ≡ None → is_closefile line ≡ true → fits line ≡ true → cut_len false line ≡ None
    → private_onto operator lead text false (line ++ 10 ∷ rest) ≡ Ok (text ++ plain_text false line, rest)
unfolding made
last_again operator lead text line rest whole none closes fit uncut =
    private_more operator lead text false (line ++ 10 ∷ rest)
    ∙ ap (λ (r : Result PieceRead FontFault). r >>= go_on (private_onto operator lead)) (plain_read operator lead text false line rest whole none (closes_alone line closes) fit) ∙ rw (closes, uncut) refl

-- ---- an entry

entry_again : (lead : ℕ) (text : List ℕ) (o : Opening) (code more : List ℕ) (ws : List (List ℕ)) → length code ≡ o.count → words_of_encrypted lead code ≡ Ok ws
    → entry_onto lead text o (code ++ more) ≡ Ok (entry_left ((text ++ head_line o.name) ++ printed_words false ws) more)
entry_again lead text o code more ws e said =
    rw (le-ltb (length (code ++ more)) o.count (omega (arith, e, length-append code more)), take_at code more o.count e, drop_at code more o.count e, said) refl

-- the head of an entry, which ends after the reading operator and a space: whatever stands after it on its line, it opens the entry
pub record Opens (operator head name : List ℕ) (count end : ℕ) : Type 0 where
  pub line : is_line head ≡ true
  pub size : length head ≡ end + 1
  pub opens : (rest : List ℕ) → first_opening operator (places_from 0 (head ++ rest)) ≡ Some (record { at = 0; name = name; count = count; end = end })

entry_read : (operator : List ℕ) (lead : ℕ) (text head name code more : List ℕ) (ws : List (List ℕ)) (end : ℕ) → Opens operator head name (length code) end → words_of_encrypted lead code ≡ Ok ws
    → read_onto operator lead text false (head ++ (code ++ more)) ≡ Ok (entry_left ((text ++ head_line name) ++ printed_words false ws) more)
unfolding read_onto
entry_read operator lead text head name code more ws end is said =
    let bytes = head ++ (code ++ more) in
    let o : Opening = record { at = 0; name = name; count = length code; end = end } in
    rw (ne_eqb (length bytes) 0 (omega (arith, is.size, length-append head (code ++ more))))
    (ap (λ (found : Option Opening). piece_onto operator lead text false bytes found)
    (ap (λ (l : List ℕ). first_opening operator (places_from 0 l)) (front_append head (code ++ more) is.line) ∙ is.opens (front_line (code ++ more)))
    ∙ ap (λ (t : List ℕ). entry_onto lead t o (drop (end + 1) bytes)) (append-nil text)
    ∙ ap (entry_onto lead text o) (drop_at head (code ++ more) (end + 1) is.size)
    ∙ entry_again lead text o code more ws refl said)

-- an entry, and what comes after its charstring
pub entry_more : (operator : List ℕ) (lead : ℕ) (text head name code more : List ℕ) (ws : List (List ℕ)) (end : ℕ) → Opens operator head name (length code) end → words_of_encrypted lead code ≡ Ok ws
    → private_onto operator lead text false (head ++ (code ++ more)) ≡ private_onto operator lead ((text ++ head_line name) ++ printed_words false ws) true more
entry_more operator lead text head name code more ws end is said =
    private_more operator lead text false (head ++ (code ++ more))
    ∙ ap (λ (r : Result PieceRead FontFault). r >>= go_on (private_onto operator lead)) (entry_read operator lead text head name code more ws end is said)

-- ---- heads of glyphs and of Subrs

same_bytes : (l : List ℕ) → bytes_eq l l ≡ true
same_bytes l = (bytes_eq-Decides l l).1 refl

first_here : (operator : List ℕ) (xs ys : List (ℕ × List ℕ)) (a : ℕ × List ℕ) (o : Opening) → xs ≡ a ∷ ys → opening_here operator xs ≡ Some o → first_opening operator xs ≡ Some o
first_here operator xs ys a o e h = rw e (ap (λ (found : Option Opening). or_other found (first_opening operator ys)) (rw e at h))

-- three tokens with a space after each
abbrev pub three : List ℕ → List ℕ → List ℕ → List ℕ
three name digits operator = name ++ 32 ∷ (digits ++ 32 ∷ (operator ++ 32 ∷ []))

pub three_more : (name digits operator rest : List ℕ) → three name digits operator ++ rest ≡ name ++ 32 ∷ (digits ++ 32 ∷ (operator ++ 32 ∷ rest))
three_more name digits operator rest = simp append_assoc

three_size : (name digits operator : List ℕ) → length (three name digits operator) ≡ length name + 1 + length digits + 1 + length operator + 1
three_size name digits operator =
    omega (arith, length-append name (32 ∷ (digits ++ 32 ∷ (operator ++ 32 ∷ []))), length-append digits (32 ∷ (operator ++ 32 ∷ [])), length-append operator (32 ∷ []))

space_line : (t rest : List ℕ) → is_line t ≡ true → is_line rest ≡ true → is_line (t ++ 32 ∷ rest) ≡ true
space_line t rest p q = lines_parts t (32 ∷ rest) p q

pub glyph_opens : (operator name digits : List ℕ) (size : ℕ) → IsToken operator → IsToken name → begins_with 47 name ≡ true → IsToken digits → decimal_of digits ≡ Some size
    → Opens operator (three name digits operator) name (length_said digits) (0 + length name + 1 + length digits + 1 + length operator)
glyph_opens operator name digits size op named slashed counts counted = record {
  line = space_line name (digits ++ 32 ∷ (operator ++ 32 ∷ [])) (token_line name named) (space_line digits (operator ++ 32 ∷ []) (token_line digits counts) (space_line operator [] (token_line operator op) refl));
  size = omega (arith, three_size name digits operator);
  opens = λ rest.
      let xs = places_from 0 (three name digits operator ++ rest) in
      let ys = places_from (0 + length name + 1) (digits ++ 32 ∷ (operator ++ 32 ∷ rest)) in
      let zs = places_from (0 + length name + 1 + length digits + 1) (operator ++ 32 ∷ rest) in
      let ws = places_from (0 + length name + 1 + length digits + 1 + length operator + 1) rest in
      let a : ℕ × List ℕ = (0, name) in
      let b : ℕ × List ℕ = (0 + length name + 1, digits) in
      let c : ℕ × List ℕ = (0 + length name + 1 + length digits + 1, operator) in
      let one : xs ≡ a ∷ ys = ap (places_from 0) (three_more name digits operator rest) ∙ token_place 0 name (digits ++ 32 ∷ (operator ++ 32 ∷ rest)) named in
      let two : ys ≡ b ∷ zs = token_place (0 + length name + 1) digits (operator ++ 32 ∷ rest) counts in
      let three : zs ≡ c ∷ ws = token_place (0 + length name + 1 + length digits + 1) operator rest op in
      let o : Opening = record { at = 0; name = name; count = length_said digits; end = 0 + length name + 1 + length digits + 1 + length operator } in
      let is : glyph_opening operator a b c ≡ Some o = rw (slashed, counted, same_bytes operator) refl in
      first_here operator xs ys a o one (here_glyph operator xs ys zs ws a b c o one two three is);
}

dup : List ℕ
dup = codes "dup"

pub subr_opens : (operator number digits : List ℕ) (n size : ℕ) → IsToken operator → IsToken number → decimal_of number ≡ Some n → IsToken digits → decimal_of digits ≡ Some size
    → Opens operator (three (codes "dup " ++ number) digits operator) (codes "dup " ++ number) (length_said digits) (0 + 3 + 1 + length number + 1 + length digits + 1 + length operator)
unfolding dup
subr_opens operator number digits n size op numbered is_number counts counted = record {
  line = lines_parts (codes "dup ") (number ++ 32 ∷ (digits ++ 32 ∷ (operator ++ 32 ∷ []))) refl
      (space_line number (digits ++ 32 ∷ (operator ++ 32 ∷ [])) (token_line number numbered) (space_line digits (operator ++ 32 ∷ []) (token_line digits counts) (space_line operator [] (token_line operator op) refl)));
  size = omega (arith, three_size (codes "dup " ++ number) digits operator);
  opens = λ rest.
      let behind = digits ++ 32 ∷ (operator ++ 32 ∷ rest) in
      let xs = places_from 0 (three (codes "dup " ++ number) digits operator ++ rest) in
      let ys = places_from (0 + 3 + 1) (number ++ 32 ∷ behind) in
      let zs = places_from (0 + 3 + 1 + length number + 1) behind in
      let ws = places_from (0 + 3 + 1 + length number + 1 + length digits + 1) (operator ++ 32 ∷ rest) in
      let vs = places_from (0 + 3 + 1 + length number + 1 + length digits + 1 + length operator + 1) rest in
      let a : ℕ × List ℕ = (0, dup) in
      let b : ℕ × List ℕ = (0 + 3 + 1, number) in
      let c : ℕ × List ℕ = (0 + 3 + 1 + length number + 1, digits) in
      let d : ℕ × List ℕ = (0 + 3 + 1 + length number + 1 + length digits + 1, operator) in
      let one : xs ≡ a ∷ ys = ap (places_from 0) (three_more (codes "dup " ++ number) digits operator rest) ∙ token_place 0 dup (number ++ 32 ∷ behind) (refl, refl, refl, refl) in
      let two : ys ≡ b ∷ zs = token_place (0 + 3 + 1) number behind numbered in
      let three : zs ≡ c ∷ ws = token_place (0 + 3 + 1 + length number + 1) digits (operator ++ 32 ∷ rest) counts in
      let four : ws ≡ d ∷ vs = token_place (0 + 3 + 1 + length number + 1 + length digits + 1) operator rest op in
      let o : Opening = record { at = 0; name = codes "dup " ++ number; count = length_said digits; end = 0 + 3 + 1 + length number + 1 + length digits + 1 + length operator } in
      let other : glyph_opening operator a b c ≡ None = refl in
      let is : subr_opening operator a b c d ≡ Some o = rw (is_number, counted, same_bytes operator) refl in
      let here : opening_here operator xs ≡ Some o =
      here_other operator xs ys zs ws a b c one two three other ∙ ap (λ (l : List (ℕ × List ℕ)). subr_here operator a b c l) four ∙ is
      in
      first_here operator xs ys a o one here;
}
