-- What is made of the items of an assembled private text, one after another.
use Rattle.std.proofs.Common.{◌≡◌, ℕ, Bool, true, false, if◌then◌else◌, ◌&&◌, ◌+◌, ◌^◌, ◌≤◌, ◌<◌, List, [], ◌∷◌, ◌++◌, length, drop, codes, None, Some, Result, Ok, Err, refl, sym, ap, subst, ◌∙◌, append_assoc, length-append, inl, arith}
use Rattle.std.proofs.lemmas.Bool.{and_parts, ltb-true}
use Rattle.std.proofs.lemmas.List.{drop_at}
use Rattle.std.specs.Fmt.{decimal}
use Rattle.std.specs.List.{list_all}
use Rattle.std.specs.Prelude.{is_none, nat_lt}
use Rattle.std.specs.Str.{bytes_eq}
use Rattle.t1_frac.specs.Outcome.{◌>>=◌}
use Rattle.t1_frac.specs.declared.fault.Code.{Code}
use Rattle.t1_text.specs.Lines.{is_line, trimmed}
use Rattle.t1_text.specs.Names.{is_name}
use Rattle.t1_text.specs.Tokens.{places_from}
use Rattle.t1_text.proofs.NumberLaws.{decimal_spells, spelled}
use Rattle.t1_code.specs.Cipher.{encrypted_words}
use Rattle.t1_code.specs.Pfb.{entry_text, closing_text}
use Rattle.t1_parts.specs.declared.item.Item.{Item}
use Rattle.t1_parts.specs.declared.item.Item.TheVariants.{Plain, Section, Subr, Glyph}
use Rattle.t1_parts.specs.Parts.{is_closefile}
use Rattle.t1_parts.proofs.EntryLaws.{digits_regular}
use Rattle.t1_disassemble.specs.Front.{front_line}
use Rattle.t1_disassemble.specs.Laws.{fits, item_text, items_text, reads_line, reads_closing, reads_item, item_judged, items_judged}
use Rattle.t1_disassemble.specs.Opening.{Opening, first_opening}
use Rattle.t1_disassemble.specs.PrivateText.{cut_len, past_source_line}
use Rattle.t1_disassemble.specs.Standing.{Standing, fresh, line_judged, cut_judged, text_judged, entry_judged, judged, all_kept}
use Rattle.t1_disassemble.proofs.FrontLaws.{front_append, line_front, regular_token}
use Rattle.t1_disassemble.proofs.ItemLaws.{reads, none_of, uncut_of, entry_regrouped, decimal_counts, name_token, slashed_token, code_short, counted_as}
use Rattle.t1_disassemble.proofs.PieceLaws.{Alone, source_again, past_again, closes_alone, Opens, three, glyph_opens, subr_opens}
use Rattle.t1_disassemble.proofs.PlainWords.{compiled}
use Rattle.t1_disassemble.proofs.StandingLaws.{line_more, entry_more}

-- what is made of bytes, whatever comes after them
abbrev Judges : List ℕ → ℕ → List ℕ → (Standing → Standing) → Type 0
Judges operator lead bytes step = (s : Standing) (rest : List ℕ) → judged operator lead (bytes ++ rest) false s ≡ judged operator lead rest false (step s)

-- ---- a line

-- a line on which nothing opens, which closes the encrypted part or doesn't
line_read : (lead : ℕ) (operator line rest : List ℕ) (waits : Bool) (s : Standing) → is_line line ≡ true → first_opening operator (places_from 0 line) ≡ None → Alone line → fits line ≡ true → cut_len waits line ≡ None
    → judged operator lead (line ++ 10 ∷ rest) waits s ≡ (if is_closefile line then line_judged operator lead waits s line else judged operator lead rest false (line_judged operator lead waits s line))
line_read lead operator line rest waits s whole none alone fit uncut =
    let bytes = line ++ 10 ∷ rest in
    let nothing : first_opening operator (places_from 0 (front_line bytes)) ≡ None = ap (λ (l : List ℕ). first_opening operator (places_from 0 l)) (line_front line rest whole) ∙ none in
    line_more operator lead bytes waits s (omega (arith, length-append line (10 ∷ rest))) nothing
    ∙ ap (λ (l : List ℕ). if is_closefile l then text_judged operator lead waits s l else judged operator lead (past_source_line operator bytes) false (text_judged operator lead waits s l)) (source_again operator line rest whole alone fit)
    ∙ ap (λ (l : List ℕ). if is_closefile line then text_judged operator lead waits s line else judged operator lead l false (text_judged operator lead waits s line)) (past_again operator line rest whole alone fit)
    ∙ ap (λ (t : Standing). if is_closefile line then t else judged operator lead rest false t) (ap (cut_judged operator lead waits s line) uncut)

line_after : (lead : ℕ) (operator line rest : List ℕ) (waits : Bool) (s : Standing) → reads_line operator line ≡ true → cut_len waits line ≡ None → judged operator lead (line ++ 10 ∷ rest) waits s ≡ judged operator lead rest false (line_judged operator lead waits s line)
line_after lead operator line rest waits s h uncut =
    let r = reads operator line h in
    line_read lead operator line rest waits s r.whole r.none (inl r.alone) r.fit uncut
    ∙ ap (λ (b : Bool). if b then line_judged operator lead waits s line else judged operator lead rest false (line_judged operator lead waits s line)) r.stays

line_judges : (lead : ℕ) (operator line : List ℕ) → reads_line operator line ≡ true → Judges operator lead (line ++ 10 ∷ []) (λ s. line_judged operator lead false s line)
line_judges lead operator line h s rest = ap (λ (l : List ℕ). judged operator lead l false s) (append_assoc line (10 ∷ []) rest) ∙ line_after lead operator line rest false s h (reads operator line h).uncut

-- ---- an entry

entry_after : (lead : ℕ) (operator head name code more : List ℕ) (end : ℕ) (s : Standing) → Opens operator head name (length code) end
    → judged operator lead (head ++ (code ++ more)) false s ≡ judged operator lead more true (entry_judged operator lead false s [] name)
entry_after lead operator head name code more end s is =
    let bytes = head ++ (code ++ more) in
    let o : Opening = record { at = 0; name = name; count = length code; end = end } in
    let found : first_opening operator (places_from 0 (front_line bytes)) ≡ Some o =
    ap (λ (l : List ℕ). first_opening operator (places_from 0 l)) (front_append head (code ++ more) is.line) ∙ is.opens (front_line (code ++ more))
    in
    entry_more operator lead bytes false s o (omega (arith, is.size, length-append head (code ++ more))) found
    ∙ ap (λ (l : List ℕ). judged operator lead (drop (length code) l) true (entry_judged operator lead false s [] name)) (drop_at head (code ++ more) (end + 1) is.size)
    ∙ ap (λ (l : List ℕ). judged operator lead l true (entry_judged operator lead false s [] name)) (drop_at code more (length code) refl)

-- what is made of an entry and its closing text
abbrev step : List ℕ → ℕ → List ℕ → List ℕ → Standing → Standing
step operator lead name closing s = line_judged operator lead true (entry_judged operator lead false s [] name) (closing_text closing)

entry_judges : (lead : ℕ) (operator name code closing : List ℕ) (end : ℕ) → Opens operator (three name (decimal (length code)) operator) name (length code) end → reads_closing operator closing ≡ true
    → Judges operator lead (entry_text name operator code closing) (step operator lead name closing)
entry_judges lead operator name code closing end is closes s rest =
    let all = and_parts (bytes_eq (trimmed closing) closing && reads_line operator (closing_text closing)) (is_none (cut_len true (closing_text closing))) closes in
    let parts = and_parts (bytes_eq (trimmed closing) closing) (reads_line operator (closing_text closing)) all.0 in
    ap (λ (l : List ℕ). judged operator lead l false s) (entry_regrouped name operator code closing rest)
    ∙ entry_after lead operator (three name (decimal (length code)) operator) name code (closing_text closing ++ 10 ∷ rest) end s is
    ∙ line_after lead operator (closing_text closing) rest true (entry_judged operator lead false s [] name) parts.1 (uncut_of (cut_len true (closing_text closing)) all.1)

glyph_judges : (operator : List ℕ) (lead : ℕ) (name : List ℕ) (words : List (List ℕ)) (closing code : List ℕ) → is_name operator ≡ true → lead ≤ 64 → is_name name ≡ true → reads_closing operator closing ≡ true
    → encrypted_words lead words ≡ Ok code → Judges operator lead (entry_text (47 ∷ name) operator code closing) (step operator lead (47 ∷ name) closing)
glyph_judges operator lead name words closing code op small named closes e =
    let counts = decimal_counts (length code) (code_short lead words code small (compiled lead words code e)) in
    let opens = glyph_opens operator (47 ∷ name) (decimal (length code)) (length code) (name_token operator op) (slashed_token name named) refl counts.1 counts.0 in
    entry_judges lead operator (47 ∷ name) code closing _ (counted_as operator (three (47 ∷ name) (decimal (length code)) operator) (47 ∷ name) _ (length code) _ counts.2 opens) closes

subr_judges : (operator : List ℕ) (lead number : ℕ) (words : List (List ℕ)) (closing code : List ℕ) → is_name operator ≡ true → lead ≤ 64 → number < 2 ^ 64 → reads_closing operator closing ≡ true
    → encrypted_words lead words ≡ Ok code → Judges operator lead (entry_text (codes "dup " ++ decimal number) operator code closing) (step operator lead (codes "dup " ++ decimal number) closing)
subr_judges operator lead number words closing code op small fits closes e =
    let counts = decimal_counts (length code) (code_short lead words code small (compiled lead words code e)) in
    let s = decimal_spells number fits in
    let name = codes "dup " ++ decimal number in
    let opens = subr_opens operator (decimal number) (decimal (length code)) number (length code) (name_token operator op) (regular_token (decimal number) s.2 (digits_regular (decimal number) s.0)) (spelled (decimal number) number s) counts.1 counts.0 in
    entry_judges lead operator name code closing _ (counted_as operator (three name (decimal (length code)) operator) name _ (length code) _ counts.2 opens) closes

-- ---- items

then_judges : (lead : ℕ) (operator : List ℕ) (made : Result (List ℕ) Code) (entry : List ℕ → List ℕ) (go : Standing → Standing) (bytes : List ℕ)
    → ((code : List ℕ) → made ≡ Ok code → Judges operator lead (entry code) go) → (made >>= λ code. Ok (entry code)) ≡ Ok bytes → Judges operator lead bytes go
then_judges lead operator (Ok code) entry go bytes each h =
    let is : entry code ≡ bytes = cc in subst (λ (b : List ℕ). Judges operator lead b go) is (each code refl)
then_judges lead operator (Err fault) entry go bytes each h = absurd (cc)

line_same : (lead : ℕ) (operator line bytes : List ℕ) → reads_line operator line ≡ true → ◌≡◌ {A = Result (List ℕ) Code} (Ok (line ++ 10 ∷ [])) (Ok bytes) → Judges operator lead bytes (λ s. line_judged operator lead false s line)
line_same lead operator line bytes h e =
    let is : line ++ 10 ∷ [] ≡ bytes = cc in subst (λ (b : List ℕ). Judges operator lead b (λ s. line_judged operator lead false s line)) is (line_judges lead operator line h)

item_judges : (operator : List ℕ) (lead : ℕ) (item : Item) (bytes : List ℕ) → is_name operator ≡ true → lead ≤ 64 → reads_item operator item ≡ true → item_text lead operator item ≡ Ok bytes
    → Judges operator lead bytes (λ s. item_judged operator lead s item)
item_judges operator lead (Plain line) bytes op small h e = line_same lead operator line bytes h e
item_judges operator lead (Section before count after) bytes op small h e = line_same lead operator (before ++ decimal count ++ after) bytes h e
item_judges operator lead (Subr number words closing) bytes op small h e =
    let parts = and_parts (nat_lt number (2 ^ 64)) (reads_closing operator closing) h in
    then_judges lead operator (encrypted_words lead words) (λ code. entry_text (codes "dup " ++ decimal number) operator code closing) (step operator lead (codes "dup " ++ decimal number) closing) bytes
    (λ code made. subr_judges operator lead number words closing code op small (ltb-true number (2 ^ 64) parts.0) parts.1 made) e
item_judges operator lead (Glyph name words closing) bytes op small h e =
    let parts = and_parts (is_name name) (reads_closing operator closing) h in
    then_judges lead operator (encrypted_words lead words) (λ code. entry_text (47 ∷ name) operator code closing) (step operator lead (47 ∷ name) closing) bytes
    (λ code made. glyph_judges operator lead name words closing code op small parts.0 parts.1 made) e

both_judge : (lead : ℕ) (operator one other : List ℕ) (go on : Standing → Standing) → Judges operator lead one go → Judges operator lead other on → Judges operator lead (one ++ other) (λ s. on (go s))
both_judge lead operator one other go on p q s rest = ap (λ (l : List ℕ). judged operator lead l false s) (append_assoc one other rest) ∙ p s (other ++ rest) ∙ q (go s) rest

nothing_judges : (lead : ℕ) (operator bytes : List ℕ) → ◌≡◌ {A = Result (List ℕ) Code} (Ok []) (Ok bytes) → Judges operator lead bytes (λ s. s)
nothing_judges lead operator bytes e s rest = let is : [] ≡ bytes = cc in ap (λ (b : List ℕ). judged operator lead (b ++ rest) false s) (sym is)

items_then : (lead : ℕ) (operator : List ℕ) (first others : Result (List ℕ) Code) (go on : Standing → Standing) (bytes : List ℕ) → ((b : List ℕ) → first ≡ Ok b → Judges operator lead b go)
    → ((b : List ℕ) → others ≡ Ok b → Judges operator lead b on) → (first >>= λ text. others >>= λ texts. Ok (text ++ texts)) ≡ Ok bytes → Judges operator lead bytes (λ s. on (go s))
items_then lead operator (Ok one) (Ok other) go on bytes p q h =
    let is : one ++ other ≡ bytes = cc in subst (λ (b : List ℕ). Judges operator lead b (λ s. on (go s))) is (both_judge lead operator one other go on (p one refl) (q other refl))
items_then lead operator (Ok one) (Err fault) go on bytes p q h = absurd (cc)
items_then lead operator (Err fault) others go on bytes p q h = absurd (cc)

items_judge : (operator : List ℕ) (lead : ℕ) (items : List Item) (bytes : List ℕ) → is_name operator ≡ true → lead ≤ 64 → list_all (reads_item operator) items ≡ true → items_text lead operator items ≡ Ok bytes
    → Judges operator lead bytes (λ s. items_judged operator lead s items)
items_judge operator lead [] bytes op small h e = nothing_judges lead operator bytes e
items_judge operator lead (item ∷ items) bytes op small h e =
    let parts = and_parts (reads_item operator item) (list_all (reads_item operator) items) h in
    items_then lead operator (item_text lead operator item) (items_text lead operator items) (λ s. item_judged operator lead s item) (λ s. items_judged operator lead s items) bytes
    (λ b. item_judges operator lead item b op small parts.0) (λ b. items_judge operator lead items b op small parts.1) e

-- a whole private text: items, and the line that closes the encrypted part
pub stands_again : (operator : List ℕ) (lead : ℕ) (items : List Item) (bytes last rest : List ℕ) → is_name operator ≡ true → lead ≤ 64 → list_all (reads_item operator) items ≡ true → items_text lead operator items ≡ Ok bytes
    → is_line last ≡ true → is_none (first_opening operator (places_from 0 last)) ≡ true → is_closefile last ≡ true → fits last ≡ true → is_none (cut_len false last) ≡ true → all_kept (line_judged operator lead false (items_judged operator lead (fresh operator lead) items) last) ≡ Ok tt
    → all_kept (judged operator lead (bytes ++ (last ++ 10 ∷ rest)) false (fresh operator lead)) ≡ Ok tt
stands_again operator lead items bytes last rest op small h e whole none closes fit uncut kept =
    let s = items_judged operator lead (fresh operator lead) items in
    ap all_kept (items_judge operator lead items bytes op small h e (fresh operator lead) (last ++ 10 ∷ rest)
    ∙ line_read lead operator last rest false s whole (none_of (first_opening operator (places_from 0 last)) none) (closes_alone last closes) fit (uncut_of (cut_len false last) uncut)
    ∙ ap (λ (b : Bool). if b then line_judged operator lead false s last else judged operator lead rest false (line_judged operator lead false s last)) closes)
    ∙ kept
