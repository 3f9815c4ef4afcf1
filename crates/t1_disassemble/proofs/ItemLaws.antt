-- The items of an assembled private text read back.
use Rattle.std.proofs.Common.{◌≡◌, ℕ, suc, true, false, not, ◌&&◌, ◌^◌, ◌-◌, ◌≤◌, ◌<◌, min, List, [], ◌∷◌, ◌++◌, length, map, drop, reverse, codes, Option, None, Some, Result, Ok, Err, refl, sym, ap, subst, ◌∙◌, append-nil, append_assoc, arith}
use Rattle.std.proofs.lemmas.Bool.{and_parts, leb-true, not-true, ltb-true}
use Rattle.std.proofs.lemmas.Slice.Eq.{bytes_eq-Decides}
use Rattle.std.specs.Fmt.{decimal}
use Rattle.std.specs.List.{list_all, prefix_len, flat_map}
use Rattle.std.specs.Prelude.{is_none, nat_le, nat_lt}
use Rattle.std.specs.Str.{bytes_eq}
use Rattle.t1_frac.specs.Outcome.{◌>>=◌}
use Rattle.t1_frac.specs.Words.{is_blank, trimmed_front}
use Rattle.t1_frac.specs.declared.fault.Code.{Code}
use Rattle.t1_text.specs.Lines.{is_line, joined, trimmed}
use Rattle.t1_text.specs.Names.{decimal_of, is_name, is_name_byte}
use Rattle.t1_text.specs.Tokens.{places_from}
use Rattle.t1_text.proofs.NumberLaws.{decimal_spells, spelled}
use Rattle.t1_code.specs.Cipher.{encrypted_words}
use Rattle.t1_code.specs.Pfb.{entry_text, closing_text}
use Rattle.t1_parts.specs.declared.item.Item.{Item}
use Rattle.t1_parts.specs.declared.item.Item.TheVariants.{Plain, Section, Subr, Glyph}
use Rattle.t1_parts.specs.Parts.{is_closefile}
use Rattle.t1_parts.specs.Printing.{item_lines, entry_lines, last_line}
use Rattle.t1_parts.proofs.EntryLaws.{digits_regular, name_regular}
use Rattle.t1_disassemble.specs.declared.fault.FontFault.{FontFault}
use Rattle.t1_disassemble.specs.Laws.{fits, plain_word, plain_item, item_text, items_text, reads_line, reads_closing, reads_item}
use Rattle.t1_disassemble.specs.Layouts.{begins_closefile}
use Rattle.t1_disassemble.specs.Opening.{Opening, length_said, first_opening}
use Rattle.t1_disassemble.specs.PiecesOnto.{private_onto}
use Rattle.t1_disassemble.specs.PrivateText.{cut_len, head_line}
use Rattle.t1_disassemble.specs.Words.{words_of_encrypted, printed_words}
use Rattle.t1_disassemble.proofs.FrontLaws.{IsToken, regular_token}
use Rattle.t1_disassemble.proofs.PieceLaws.{Opens, three, three_more, glyph_opens, subr_opens, plain_again, last_again, entry_more}
use Rattle.t1_disassemble.proofs.PlainWords.{Compiled, compiled, encrypted_again, short_code, plain_said, joined-append, entry_printed}

-- ---- lines that read as themselves

pub none_of : (o : Option Opening) → is_none o ≡ true → o ≡ None
none_of None h = refl
none_of (Some o) h = absurd (cc)

pub record Reads (operator line : List ℕ) : Type 0 where
  pub whole : is_line line ≡ true
  pub none : first_opening operator (places_from 0 line) ≡ None
  pub stays : is_closefile line ≡ false
  pub alone : begins_closefile line ≡ false
  pub fit : fits line ≡ true
  pub uncut : cut_len false line ≡ None

pub uncut_of : (n : Option ℕ) → is_none n ≡ true → n ≡ None
uncut_of None h = refl
uncut_of (Some n) h = absurd (cc)

pub reads : (operator line : List ℕ) → reads_line operator line ≡ true → Reads operator line
reads operator line h =
    let found = first_opening operator (places_from 0 line) in
    let a = and_parts (is_line line && is_none found && not (is_closefile line) && not (begins_closefile line) && fits line) (is_none (cut_len false line)) h in
    let b = and_parts (is_line line && is_none found && not (is_closefile line) && not (begins_closefile line)) (fits line) a.0 in
    let c = and_parts (is_line line && is_none found && not (is_closefile line)) (not (begins_closefile line)) b.0 in
    let d = and_parts (is_line line && is_none found) (not (is_closefile line)) c.0 in
    let e = and_parts (is_line line) (is_none found) d.0 in
    record { whole = e.0; none = none_of found e.1; stays = not-true (is_closefile line) d.1; alone = not-true (begins_closefile line) c.1; fit = b.1; uncut = uncut_of (cut_len false line) a.1 }

-- what is read of bytes, whatever comes after them: these lines
abbrev pub Gives : List ℕ → ℕ → List ℕ → List (List ℕ) → Type 0
Gives operator lead bytes lines = (text rest : List ℕ) → private_onto operator lead text false (bytes ++ rest) ≡ private_onto operator lead (text ++ joined lines) false rest

line_gives : (operator : List ℕ) (lead : ℕ) (line : List ℕ) → reads_line operator line ≡ true → Gives operator lead (line ++ 10 ∷ []) (line ∷ [])
line_gives operator lead line h text rest =
    let r = reads operator line h in
    ap (private_onto operator lead text false) (append_assoc line (10 ∷ []) rest)
    ∙ plain_again operator lead text false line rest r.whole r.none r.stays r.alone r.fit r.uncut
    ∙ ap (λ t. private_onto operator lead (text ++ t) false rest) (sym (append-nil (line ++ 10 ∷ [])))

-- ---- a closing text

front_space : (l : List ℕ) → trimmed_front (32 ∷ l) ≡ trimmed_front l
front_space l = let size : prefix_len is_blank (32 ∷ l) ≡ suc (prefix_len is_blank l) = omega arith in ap (λ n. drop n (32 ∷ l)) size

trimmed_closing : (closing : List ℕ) → trimmed closing ≡ closing → trimmed (closing_text closing) ≡ closing
trimmed_closing [] h = h
trimmed_closing (c ∷ cs) h = ap (λ l. reverse (trimmed_front (reverse l))) (front_space (c ∷ cs)) ∙ h

closing_gives : (operator : List ℕ) (lead : ℕ) (text closing rest : List ℕ) → reads_closing operator closing ≡ true
    → private_onto operator lead text true (closing_text closing ++ 10 ∷ rest) ≡ private_onto operator lead (text ++ (last_line closing ++ 10 ∷ [])) false rest
closing_gives operator lead text closing rest h =
    let all = and_parts (bytes_eq (trimmed closing) closing && reads_line operator (closing_text closing)) (is_none (cut_len true (closing_text closing))) h in
    let parts = and_parts (bytes_eq (trimmed closing) closing) (reads_line operator (closing_text closing)) all.0 in
    let r = reads operator (closing_text closing) parts.1 in
    let bare = trimmed_closing closing ((bytes_eq-Decides (trimmed closing) closing).0 parts.0) in
    plain_again operator lead text true (closing_text closing) rest r.whole r.none r.stays r.alone r.fit (uncut_of (cut_len true (closing_text closing)) all.1)
    ∙ ap (λ l. private_onto operator lead (text ++ (last_line l ++ 10 ∷ [])) false rest) bare

-- ---- an entry

six : (a b c d e f rest : List ℕ) → (((((a ++ b) ++ c) ++ d) ++ e) ++ f) ++ rest ≡ a ++ (b ++ (c ++ (d ++ (e ++ (f ++ rest)))))
six a b c d e f rest = simp append_assoc

pub entry_regrouped : (name operator code closing rest : List ℕ)
    → entry_text name operator code closing ++ rest ≡ three name (decimal (length code)) operator ++ (code ++ (closing_text closing ++ 10 ∷ rest))
entry_regrouped name operator code closing rest =
    six name (32 ∷ decimal (length code)) (32 ∷ operator) (32 ∷ code) (closing_text closing) (10 ∷ []) rest
    ∙ sym (three_more name (decimal (length code)) operator (code ++ (closing_text closing ++ 10 ∷ rest)))

entry_gives : (operator : List ℕ) (lead : ℕ) (name code closing : List ℕ) (ws : List (List ℕ)) (end : ℕ) → Opens operator (three name (decimal (length code)) operator) name (length code) end
    → words_of_encrypted lead code ≡ Ok ws → reads_closing operator closing ≡ true → Gives operator lead (entry_text name operator code closing) (entry_lines (name ++ codes " {") ws closing)
entry_gives operator lead name code closing ws end is said closes text rest =
    let all = (text ++ head_line name) ++ printed_words false ws in
    ap (private_onto operator lead text false) (entry_regrouped name operator code closing rest)
    ∙ entry_more operator lead text (three name (decimal (length code)) operator) name code (closing_text closing ++ 10 ∷ rest) ws end is said
    ∙ closing_gives operator lead all closing rest closes
    ∙ ap (λ t. private_onto operator lead t false rest) (entry_printed text name ws closing)

pub decimal_counts : (n : ℕ) → n < 10 ^ 9 → (decimal_of (decimal n) ≡ Some n) × IsToken (decimal n) × (length_said (decimal n) ≡ n)
decimal_counts n h =
    let s = decimal_spells n (omega (arith, h)) in (
      spelled (decimal n) n s,
      regular_token (decimal n) s.2 (digits_regular (decimal n) s.0),
      ap (λ (k : ℕ). min k (2 ^ 64 - 1)) s.1 ∙ omega (arith, h),
    )

-- a name is a token, and so is one after a slash
name_bytes : (n : List ℕ) → is_name n ≡ true → (1 ≤ length n) × (list_all is_name_byte n ≡ true)
name_bytes n h =
    let outer = and_parts (nat_le 1 (length n) && nat_le (length n) 127) (list_all is_name_byte n) h in
    let inner = and_parts (nat_le 1 (length n)) (nat_le (length n) 127) outer.0 in
    (leb-true 1 (length n) inner.0, outer.1)

pub name_token : (n : List ℕ) → is_name n ≡ true → IsToken n
name_token n h = let parts = name_bytes n h in regular_token n parts.0 (name_regular n parts.1)

pub slashed_token : (n : List ℕ) → is_name n ≡ true → IsToken (47 ∷ n)
slashed_token n h = (refl, refl, refl, name_regular n (name_bytes n h).1)

-- the words of a compiled body, in their plain spelling
pub said_again : (lead : ℕ) (words : List (List ℕ)) (code : List ℕ) → Compiled lead words code → words_of_encrypted lead code ≡ Ok (map plain_word words)
said_again lead words code c = ap (words_of_encrypted lead) c.is ∙ encrypted_again lead words c.cs c.read ∙ ap Ok (plain_said words c.cs c.read)

pub code_short : (lead : ℕ) (words : List (List ℕ)) (code : List ℕ) → lead ≤ 64 → Compiled lead words code → length code < 10 ^ 9
code_short lead words code small c = omega (arith, ap length c.is, short_code lead words c.cs small c.read)

pub counted_as : (operator head name : List ℕ) (m n end : ℕ) → m ≡ n → Opens operator head name m end → Opens operator head name n end
counted_as operator head name m n end e o = subst (λ (k : ℕ). Opens operator head name k end) e o

glyph_gives : (operator : List ℕ) (lead : ℕ) (name : List ℕ) (words : List (List ℕ)) (closing code : List ℕ) → is_name operator ≡ true → lead ≤ 64 → is_name name ≡ true → reads_closing operator closing ≡ true
    → encrypted_words lead words ≡ Ok code → Gives operator lead (entry_text (47 ∷ name) operator code closing) (item_lines (Glyph name (map plain_word words) closing))
glyph_gives operator lead name words closing code op small named closes e =
    let c = compiled lead words code e in
    let counts = decimal_counts (length code) (code_short lead words code small c) in
    let opens = glyph_opens operator (47 ∷ name) (decimal (length code)) (length code) (name_token operator op) (slashed_token name named) refl counts.1 counts.0 in
    entry_gives operator lead (47 ∷ name) code closing (map plain_word words) _ (counted_as operator (three (47 ∷ name) (decimal (length code)) operator) (47 ∷ name) _ (length code) _ counts.2 opens) (said_again lead words code c) closes

subr_gives : (operator : List ℕ) (lead number : ℕ) (words : List (List ℕ)) (closing code : List ℕ) → is_name operator ≡ true → lead ≤ 64 → number < 2 ^ 64 → reads_closing operator closing ≡ true
    → encrypted_words lead words ≡ Ok code → Gives operator lead (entry_text (codes "dup " ++ decimal number) operator code closing) (item_lines (Subr number (map plain_word words) closing))
subr_gives operator lead number words closing code op small fits closes e =
    let c = compiled lead words code e in
    let counts = decimal_counts (length code) (code_short lead words code small c) in
    let s = decimal_spells number fits in
    let name = codes "dup " ++ decimal number in
    let opens = subr_opens operator (decimal number) (decimal (length code)) number (length code) (name_token operator op) (regular_token (decimal number) s.2 (digits_regular (decimal number) s.0)) (spelled (decimal number) number s) counts.1 counts.0 in
    entry_gives operator lead name code closing (map plain_word words) _ (counted_as operator (three name (decimal (length code)) operator) name _ (length code) _ counts.2 opens) (said_again lead words code c) closes

-- ---- items

then_gives : (operator : List ℕ) (lead : ℕ) (made : Result (List ℕ) Code) (entry : List ℕ → List ℕ) (lines : List (List ℕ)) (bytes : List ℕ)
    → ((code : List ℕ) → made ≡ Ok code → Gives operator lead (entry code) lines) → (made >>= λ code. Ok (entry code)) ≡ Ok bytes → Gives operator lead bytes lines
then_gives operator lead (Ok code) entry lines bytes each h =
    let is : entry code ≡ bytes = cc in subst (λ (b : List ℕ). Gives operator lead b lines) is (each code refl)
then_gives operator lead (Err fault) entry lines bytes each h = absurd (cc)

line_same : (operator : List ℕ) (lead : ℕ) (line bytes : List ℕ) → reads_line operator line ≡ true → ◌≡◌ {A = Result (List ℕ) Code} (Ok (line ++ 10 ∷ [])) (Ok bytes) → Gives operator lead bytes (line ∷ [])
line_same operator lead line bytes h e = let is : line ++ 10 ∷ [] ≡ bytes = cc in subst (λ (b : List ℕ). Gives operator lead b (line ∷ [])) is (line_gives operator lead line h)

item_gives : (operator : List ℕ) (lead : ℕ) (item : Item) (bytes : List ℕ) → is_name operator ≡ true → lead ≤ 64 → reads_item operator item ≡ true → item_text lead operator item ≡ Ok bytes
    → Gives operator lead bytes (item_lines (plain_item item))
item_gives operator lead (Plain line) bytes op small h e = line_same operator lead line bytes h e
item_gives operator lead (Section before count after) bytes op small h e = line_same operator lead (before ++ decimal count ++ after) bytes h e
item_gives operator lead (Subr number words closing) bytes op small h e =
    let parts = and_parts (nat_lt number (2 ^ 64)) (reads_closing operator closing) h in
    then_gives operator lead (encrypted_words lead words) (λ code. entry_text (codes "dup " ++ decimal number) operator code closing) (item_lines (Subr number (map plain_word words) closing)) bytes
    (λ code made. subr_gives operator lead number words closing code op small (ltb-true number (2 ^ 64) parts.0) parts.1 made) e
item_gives operator lead (Glyph name words closing) bytes op small h e =
    let parts = and_parts (is_name name) (reads_closing operator closing) h in
    then_gives operator lead (encrypted_words lead words) (λ code. entry_text (47 ∷ name) operator code closing) (item_lines (Glyph name (map plain_word words) closing)) bytes
    (λ code made. glyph_gives operator lead name words closing code op small parts.0 parts.1 made) e

-- the lines of an item, and those of others after it
both_give : (operator : List ℕ) (lead : ℕ) (one other : List ℕ) (xs ys : List (List ℕ)) → Gives operator lead one xs → Gives operator lead other ys → Gives operator lead (one ++ other) (xs ++ ys)
both_give operator lead one other xs ys p q text rest =
    ap (private_onto operator lead text false) (append_assoc one other rest) ∙ p text (other ++ rest) ∙ q (text ++ joined xs) rest
    ∙ ap (λ t. private_onto operator lead t false rest) (append_assoc text (joined xs) (joined ys) ∙ ap (λ l. text ++ l) (sym (joined-append xs ys)))

nothing_gives : (operator : List ℕ) (lead : ℕ) (bytes : List ℕ) → ◌≡◌ {A = Result (List ℕ) Code} (Ok []) (Ok bytes) → Gives operator lead bytes []
nothing_gives operator lead bytes e text rest =
    let is : [] ≡ bytes = cc in
    ap (λ b. private_onto operator lead text false (b ++ rest)) (sym is) ∙ ap (λ t. private_onto operator lead t false rest) (sym (append-nil text))

items_then : (operator : List ℕ) (lead : ℕ) (first others : Result (List ℕ) Code) (xs ys : List (List ℕ)) (bytes : List ℕ) → ((b : List ℕ) → first ≡ Ok b → Gives operator lead b xs)
    → ((b : List ℕ) → others ≡ Ok b → Gives operator lead b ys) → (first >>= λ text. others >>= λ texts. Ok (text ++ texts)) ≡ Ok bytes → Gives operator lead bytes (xs ++ ys)
items_then operator lead (Ok one) (Ok other) xs ys bytes p q h =
    let is : one ++ other ≡ bytes = cc in
    subst (λ (b : List ℕ). Gives operator lead b (xs ++ ys)) is (both_give operator lead one other xs ys (p one refl) (q other refl))
items_then operator lead (Ok one) (Err fault) xs ys bytes p q h = absurd (cc)
items_then operator lead (Err fault) others xs ys bytes p q h = absurd (cc)

pub items_give : (operator : List ℕ) (lead : ℕ) (items : List Item) (bytes : List ℕ) → is_name operator ≡ true → lead ≤ 64 → list_all (reads_item operator) items ≡ true → items_text lead operator items ≡ Ok bytes
    → Gives operator lead bytes (flat_map item_lines (map plain_item items))
items_give operator lead [] bytes op small h e = nothing_gives operator lead bytes e
items_give operator lead (item ∷ items) bytes op small h e =
    let parts = and_parts (reads_item operator item) (list_all (reads_item operator) items) h in
    items_then operator lead (item_text lead operator item) (items_text lead operator items) (item_lines (plain_item item)) (flat_map item_lines (map plain_item items)) bytes
    (λ b. item_gives operator lead item b op small parts.0) (λ b. items_give operator lead items b op small parts.1) e

-- a whole private text: items, and the line that closes the encrypted part
pub private_again : (operator : List ℕ) (lead : ℕ) (items : List Item) (bytes text last rest : List ℕ) → is_name operator ≡ true → lead ≤ 64 → list_all (reads_item operator) items ≡ true
    → items_text lead operator items ≡ Ok bytes → is_line last ≡ true → is_none (first_opening operator (places_from 0 last)) ≡ true → is_closefile last ≡ true → fits last ≡ true → is_none (cut_len false last) ≡ true
    → private_onto operator lead text false (bytes ++ (last ++ 10 ∷ rest)) ≡ Ok (text ++ joined (flat_map item_lines (map plain_item items) ++ last ∷ []), rest)
private_again operator lead items bytes text last rest op small h e whole none closes fit uncut =
    let lines = flat_map item_lines (map plain_item items) in
    let end : joined (lines ++ last ∷ []) ≡ joined lines ++ (last ++ 10 ∷ []) = joined-append lines (last ∷ []) ∙ ap (λ l. joined lines ++ l) (append-nil (last ++ 10 ∷ [])) in
    items_give operator lead items bytes op small h e text (last ++ 10 ∷ rest)
    ∙ last_again operator lead (text ++ joined lines) last rest whole (none_of (first_opening operator (places_from 0 last)) none) closes fit (uncut_of (cut_len false last) uncut)
    ∙ ap (λ (t : List ℕ). finished t) (append_assoc text (joined lines) (last ++ 10 ∷ []) ∙ ap (λ l. text ++ l) (sym end))
  where
    finished : List ℕ → Result (List ℕ × List ℕ) FontFault
    finished t = Ok (t, rest)
