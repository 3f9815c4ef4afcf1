-- A source that was read or edited is one with its number words in their plain spelling too.
use Rattle.std.proofs.Common.{◌≡◌, ℕ, ℤ, suc, Bool, true, not, ◌==◌, ◌&&◌, ◌||◌, ◌+◌, ◌^◌, ◌<◌, ◌≤◌, cond, pos, negsuc, List, [], ◌∷◌, ◌++◌, length, take, map, fold, codes, Option, Result, Ok, Err, FitsSigned, w32, refl, sym, ap, ◌∙◌, subst, inl, inr, arith}
use Rattle.std.proofs.lemmas.Bool.{and_parts, and_from, cases_Bool, leb-true, ltb-true, ne_eqb}
use Rattle.std.specs.Char.{is_ascii_digit}
use Rattle.std.specs.Fmt.{decimal, signed_decimal}
use Rattle.std.specs.List.{cons_option, list_all, list_any}
use Rattle.std.specs.Prelude.{is_some, nat_lt, max, filter_map, find, option_and_then, unwrap_or, if◌then◌else◌}
use Rattle.t1_frac.specs.Numbers.{is_number_word, number_written}
use Rattle.t1_frac.specs.declared.fault.Code.{Code}
use Rattle.t1_frac.specs.declared.fault.Code.TheVariants.{F22}
use Rattle.t1_text.specs.Lines.{is_line}
use Rattle.t1_text.proofs.NumberLaws.{decimal_spells}
use Rattle.t1_code.specs.declared.command.Command.{Command}
use Rattle.t1_code.specs.Words.{commands, commands_of_words, command_of_word, command_then, number_of_word, number_command, in_32_bits, fits_32_bits}
use Rattle.t1_parts.specs.declared.item.Item.{Item}
use Rattle.t1_parts.specs.declared.item.Item.TheVariants.{Plain, Section, Subr, Glyph}
use Rattle.t1_parts.specs.Counts.{subrs_needed, glyphs_needed, is_glyph_entry, raised_item, raised}
use Rattle.t1_parts.specs.Entries.{is_word_byte, is_word, is_subr, is_glyph}
use Rattle.t1_parts.specs.LenIV.{said_lead, first_lead, lead_of_token, lead_among, plain_line}
use Rattle.t1_parts.specs.Operator.{operator_on, reads_strings, operator_among}
use Rattle.t1_parts.specs.Parts.{holds}
use Rattle.t1_parts.specs.Sections.{is_subrs_line, is_glyphs_line}
use Rattle.t1_parts.specs.SourceParts.{SourceParts}
use Rattle.t1_source.specs.WellFormed.{IsEntry, Stand, IsPrivate, IsWellFormed, is_counted}
use Rattle.t1_source.proofs.StandLaws.{Serves, stands_serves, serves_further, serves_itself}
use Rattle.t1_disassemble.specs.Laws.{plain_word, plain_item}
use Rattle.t1_round_trip.specs.ReadBack.{plain_source}

-- ---- words

-- each byte of a printed number is one of a word and of a line
abbrev IsPrinted : List ℕ → Type 0
IsPrinted w = (list_all is_word_byte w ≡ true) × (is_line w ≡ true)

digit_printed : (d : ℕ) → is_ascii_digit d ≡ true → (is_word_byte d ≡ true) × (not (d == 10 || d == 13) ≡ true)
digit_printed d h =
    let low = leb-true 48 d (and_parts _ _ h).0 in
    let high = leb-true d 57 (and_parts _ _ h).1 in (
      rw (ne_eqb d 0 (omega (arith, low)), ne_eqb d 9 (omega (arith, low)), ne_eqb d 10 (omega (arith, low)), ne_eqb d 12 (omega (arith, low)), ne_eqb d 13 (omega (arith, low)), ne_eqb d 32 (omega (arith, low)), ne_eqb d 37 (omega (arith, low)), ne_eqb d 123 (omega (arith, high)), ne_eqb d 125 (omega (arith, high))) refl,
      rw (ne_eqb d 10 (omega (arith, low)), ne_eqb d 13 (omega (arith, low))) refl,
    )

digits_printed : (ds : List ℕ) → list_all is_ascii_digit ds ≡ true → IsPrinted ds
digits_printed [] h = (refl, refl)
digits_printed (d ∷ ds) h =
    let parts = and_parts (is_ascii_digit d) (list_all is_ascii_digit ds) h in
    let here = digit_printed d parts.0 in
    let more = digits_printed ds parts.1 in
    (and_from (is_word_byte d) (list_all is_word_byte ds) here.0 more.0, and_from (not (d == 10 || d == 13)) (is_line ds) here.1 more.1)

some_word : (w : List ℕ) → 1 ≤ length w → list_all is_word_byte w ≡ true → is_word w ≡ true
some_word [] some h = absurd (omega (arith, some))
some_word (c ∷ w) some h = h

-- a printed number is a word on a line
number_is_word : (n : ℤ) → FitsSigned w32 n → (is_word (signed_decimal n) ≡ true) × (is_line (signed_decimal n) ≡ true)
number_is_word (pos n) fits =
    let small : n < 2 ^ 64 = omega (arith, fits.sfits) in
    let s = decimal_spells n small in
    let p = digits_printed (decimal n) s.0 in
    (some_word (decimal n) s.2 p.0, p.1)
number_is_word (negsuc n) fits =
    let small : suc n < 2 ^ 64 = omega (arith, fits.sfits) in
    let p = digits_printed (decimal (suc n)) (decimal_spells (suc n) small).0 in
    (p.0, p.1)

fits_from : (n : ℤ) → fits_32_bits n ≡ true → FitsSigned w32 n
fits_from (pos n) h = record { sfits = ltb-true n (2 ^ 31) h }
fits_from (negsuc n) h = record { sfits = ltb-true n (2 ^ 31) h }

-- a number word that is a command fits
number_fits : (n : ℤ) (c : Command) → number_command (in_32_bits n) ≡ Ok c → FitsSigned w32 n
number_fits n c h = elim (cases_Bool (fits_32_bits n)) [
  | inl t ↦ fits_from n t
  | inr f ↦ (let off = rw f at h in absurd (cc))
]

said_number : (w : List ℕ) (c : Command) → is_number_word w ≡ true → command_of_word w ≡ Ok c → number_command (in_32_bits (number_written w)) ≡ Ok c
unfolding command_of_word number_of_word
said_number w c t h = rw t at h

plain_is_word : (w : List ℕ) (c : Command) → command_of_word w ≡ Ok c → is_word w ≡ true → is_line w ≡ true → (is_word (plain_word w) ≡ true) × (is_line (plain_word w) ≡ true)
plain_is_word w c h word line = elim (cases_Bool (is_number_word w)) [
  | inl t ↦ (let n = number_is_word (number_written w) (number_fits (number_written w) c (said_number w c t h)) in rw t n)
  | inr f ↦ rw f (word, line)
]

abbrev AreWords : List (List ℕ) → Type 0
AreWords ws = (list_all is_word ws ≡ true) × (list_all is_line ws ≡ true)

then_words : (w : List ℕ) (ws : List (List ℕ)) (first : Result Command Code) (others : Result (List Command) Code) (cs : List Command) → command_of_word w ≡ first → commands_of_words ws ≡ others
    → AreWords (w ∷ ws) → ((ds : List Command) → others ≡ Ok ds → AreWords ws → AreWords (map plain_word ws)) → command_then first others ≡ Ok cs → AreWords (map plain_word (w ∷ ws))
then_words w ws (Ok c) (Ok ds) cs e f are more h =
    let word = and_parts (is_word w) (list_all is_word ws) are.0 in
    let line = and_parts (is_line w) (list_all is_line ws) are.1 in
    let here = plain_is_word w c e word.0 line.0 in
    let rest = more ds refl (word.1, line.1) in
    (and_from (is_word (plain_word w)) (list_all is_word (map plain_word ws)) here.0 rest.0, and_from (is_line (plain_word w)) (list_all is_line (map plain_word ws)) here.1 rest.1)
then_words w ws (Ok c) (Err fault) cs e f are more h = absurd (cc)
then_words w ws (Err fault) others cs e f are more h = absurd (cc)

words_plain : (ws : List (List ℕ)) (cs : List Command) → commands_of_words ws ≡ Ok cs → AreWords ws → AreWords (map plain_word ws)
words_plain [] cs h are = are
words_plain (w ∷ ws) cs h are = then_words w ws (command_of_word w) (commands_of_words ws) cs refl refl are (λ ds e more. words_plain ws ds e more) h

few : (n : ℕ) (read : Result (List Command) Code) (cs : List Command) → (if nat_lt 65535 n then Err F22 else read) ≡ Ok cs → read ≡ Ok cs
few n read cs h = elim (cases_Bool (nat_lt 65535 n)) [
  | inl t ↦ (let off = rw t at h in absurd (cc))
  | inr f ↦ rw f at h
]

body_plain : (ws : List (List ℕ)) (cs : List Command) → commands ws ≡ Ok cs → AreWords ws → AreWords (map plain_word ws)
unfolding commands
body_plain ws cs h are = words_plain ws cs (few (length ws) (commands_of_words ws) cs h) are

-- ---- items

-- each body says commands
abbrev pub Compile : List Item → Type 0
Compile [] = Unit {0}
Compile (Plain l ∷ items) = Compile items
Compile (Section before n after ∷ items) = Compile items
Compile (Subr n ws closing ∷ items) = ((cs : List Command) × (commands ws ≡ Ok cs)) × Compile items
Compile (Glyph g ws closing ∷ items) = ((cs : List Command) × (commands ws ≡ Ok cs)) × Compile items

entry_plain : (ws : List (List ℕ)) (closing : List ℕ) → ((cs : List Command) × (commands ws ≡ Ok cs)) → IsEntry ws closing → IsEntry (map plain_word ws) closing
entry_plain ws closing c h = let are = body_plain ws c.0 c.1 (h.0, h.1) in (are.0, are.1, h.2, h.3)

same_subrs : (i : Item) → is_subrs_line i ≡ is_subrs_line (plain_item i)
same_subrs (Plain l) = refl
same_subrs (Section before n after) = refl
same_subrs (Subr n ws closing) = refl
same_subrs (Glyph g ws closing) = refl

same_glyphs : (i : Item) → is_glyphs_line i ≡ is_glyphs_line (plain_item i)
same_glyphs (Plain l) = refl
same_glyphs (Section before n after) = refl
same_glyphs (Subr n ws closing) = refl
same_glyphs (Glyph g ws closing) = refl

same_number : (n : ℕ) (i : Item) → is_subr n i ≡ is_subr n (plain_item i)
same_number n (Plain l) = refl
same_number n (Section before m after) = refl
same_number n (Subr m ws closing) = refl
same_number n (Glyph g ws closing) = refl

same_name : (name : List ℕ) (i : Item) → is_glyph name i ≡ is_glyph name (plain_item i)
same_name name (Plain l) = refl
same_name name (Section before m after) = refl
same_name name (Subr m ws closing) = refl
same_name name (Glyph g ws closing) = refl

further : (e f items : List Item) (i : Item) → Serves e f (i ∷ items) → Serves (e ++ i ∷ []) (f ++ plain_item i ∷ []) items
further e f items i v = serves_further e f items i (plain_item i) (same_subrs i) (same_glyphs i) (λ n. same_number n i) (λ name. same_name name i) v

stand_plain : (e f items : List Item) → Serves e f items → Compile items → Stand e items → Stand f (map plain_item items)
stand_plain e f [] v c h = tt
stand_plain e f (Plain l ∷ items) v c h = (
  stands_serves e f items (Plain l) v h.0,
  stand_plain (e ++ Plain l ∷ []) (f ++ Plain l ∷ []) items (further e f items (Plain l) v) c h.1,
)
stand_plain e f (Section before n after ∷ items) v c h = (
  stands_serves e f items (Section before n after) v h.0,
  stand_plain (e ++ Section before n after ∷ []) (f ++ Section before n after ∷ []) items (further e f items (Section before n after) v) c h.1,
)
stand_plain e f (Subr n ws closing ∷ items) v c h =
    let s = stands_serves e f items (Subr n ws closing) v h.0 in (
      (s.0, s.1, s.2, s.3, entry_plain ws closing c.0 s.4),
      stand_plain (e ++ Subr n ws closing ∷ []) (f ++ plain_item (Subr n ws closing) ∷ []) items (further e f items (Subr n ws closing) v) c.1 h.1,
    )
stand_plain e f (Glyph g ws closing ∷ items) v c h =
    let s = stands_serves e f items (Glyph g ws closing) v h.0 in (
      (s.0, s.1, s.2, entry_plain ws closing c.0 s.3),
      stand_plain (e ++ Glyph g ws closing ∷ []) (f ++ plain_item (Glyph g ws closing) ∷ []) items (further e f items (Glyph g ws closing) v) c.1 h.1,
    )

-- ---- tests of all items

any_same : (test : Item → Bool) → ((i : Item) → test i ≡ test (plain_item i)) → (items : List Item) → list_any test (map plain_item items) ≡ list_any test items
any_same test same [] = refl
any_same test same (i ∷ items) = ap (λ b. b || list_any test (map plain_item items)) (sym (same i)) ∙ ap (λ b. test i || b) (any_same test same items)

counted_same : (items : List Item) → list_all is_counted (map plain_item items) ≡ list_all is_counted items
counted_same [] = refl
counted_same (Plain l ∷ items) = counted_same items
counted_same (Section before n after ∷ items) = ap (λ b. is_counted (Section before n after) && b) (counted_same items)
counted_same (Subr n ws closing ∷ items) = counted_same items
counted_same (Glyph g ws closing ∷ items) = counted_same items

said_same : (items : List Item) → filter_map said_lead (map plain_item items) ≡ filter_map said_lead items
said_same [] = refl
said_same (Plain l ∷ items) = ap (cons_option (said_lead (Plain l))) (said_same items)
said_same (Section before n after ∷ items) = said_same items
said_same (Subr n ws closing ∷ items) = said_same items
said_same (Glyph g ws closing ∷ items) = said_same items

-- lenIV and the reading operator are the same
pub lead_same : (items : List Item) → lead_among (map plain_item items) ≡ lead_among items
lead_same items = ap first_lead (said_same items)

abbrev said_operator : Option Item → Option (List ℕ)
said_operator found = option_and_then operator_on (option_and_then plain_line found)

found_same : (items : List Item) → said_operator (find reads_strings (map plain_item items)) ≡ said_operator (find reads_strings items)
found_same [] = refl
found_same (Plain l ∷ items) = elim (cases_Bool (holds (codes "string currentfile") l)) [
  | inl t ↦ rw t refl
  | inr f ↦ rw f (found_same items)
]
found_same (Section before n after ∷ items) = found_same items
found_same (Subr n ws closing ∷ items) = found_same items
found_same (Glyph g ws closing ∷ items) = found_same items

pub operator_same : (items : List Item) → operator_among (map plain_item items) ≡ operator_among items
operator_same items = ap (λ (o : Option (List ℕ)). unwrap_or o (codes "RD")) (found_same items)

subrs_same : (items : List Item) → subrs_needed (map plain_item items) ≡ subrs_needed items
subrs_same [] = refl
subrs_same (Plain l ∷ items) = subrs_same items
subrs_same (Section before n after ∷ items) = subrs_same items
subrs_same (Subr n ws closing ∷ items) = ap (max (n + 1)) (subrs_same items)
subrs_same (Glyph g ws closing ∷ items) = subrs_same items

glyphs_from : (a : ℕ) (items : List Item) → fold (λ m i. m + cond (is_glyph_entry i) 1 0) a (map plain_item items) ≡ fold (λ m i. m + cond (is_glyph_entry i) 1 0) a items
glyphs_from a [] = refl
glyphs_from a (Plain l ∷ items) = glyphs_from (a + 0) items
glyphs_from a (Section before n after ∷ items) = glyphs_from (a + 0) items
glyphs_from a (Subr n ws closing ∷ items) = glyphs_from (a + 0) items
glyphs_from a (Glyph g ws closing ∷ items) = glyphs_from (a + 1) items

raised_each : (s g : ℕ) (items : List Item) → map (raised_item s g) (map plain_item items) ≡ map plain_item (map (raised_item s g) items)
raised_each s g [] = refl
raised_each s g (Plain l ∷ items) = ap (λ is. Plain l ∷ is) (raised_each s g items)
raised_each s g (Section before n after ∷ items) = ap (λ is. raised_item s g (Section before n after) ∷ is) (raised_each s g items)
raised_each s g (Subr n ws closing ∷ items) = ap (λ is. Subr n (map plain_word ws) closing ∷ is) (raised_each s g items)
raised_each s g (Glyph h ws closing ∷ items) = ap (λ is. Glyph h (map plain_word ws) closing ∷ is) (raised_each s g items)

raised_plain : (items : List Item) → raised (map plain_item items) ≡ map plain_item (raised items)
raised_plain items =
    ap (λ s. map (raised_item s (glyphs_needed (map plain_item items))) (map plain_item items)) (subrs_same items)
    ∙ ap (λ g. map (raised_item (subrs_needed items) g) (map plain_item items)) (glyphs_from 0 items)
    ∙ raised_each (subrs_needed items) (glyphs_needed items) items

map_last : (items : List Item) (l : List ℕ) → map plain_item (items ++ Plain l ∷ []) ≡ map plain_item items ++ Plain l ∷ []
map_last [] l = refl
map_last (item ∷ items) l = ap (λ is. plain_item item ∷ is) (map_last items l)

compile_front : (a b : List Item) → Compile (a ++ b) → Compile a
compile_front [] b c = tt
compile_front (Plain l ∷ a) b c = compile_front a b c
compile_front (Section before n after ∷ a) b c = compile_front a b c
compile_front (Subr n ws closing ∷ a) b c = (c.0, compile_front a b c.1)
compile_front (Glyph g ws closing ∷ a) b c = (c.0, compile_front a b c.1)

private_plain : (items : List Item) → IsPrivate items → Compile items → IsPrivate (map plain_item items)
private_plain items p c = record {
  inner = map plain_item p.inner;
  closefile = p.closefile;
  whole = ap (map plain_item) p.whole ∙ map_last p.inner p.closefile;
  stand = stand_plain [] [] p.inner (serves_itself [] p.inner) (compile_front p.inner (Plain p.closefile ∷ []) (subst Compile p.whole c)) p.stand;
  line = p.line;
  last = p.last;
  section = any_same is_glyphs_line same_glyphs items ∙ p.section;
  lead = ap (λ (said : List (Option (List ℕ))). list_all (λ t. is_some (lead_of_token t)) (take 1 said)) (said_same items) ∙ p.lead;
  counts = raised_plain items ∙ ap (map plain_item) p.counts;
}

pub plain_kept : (source : SourceParts) → IsWellFormed source → Compile source.items → IsWellFormed (plain_source source)
plain_kept source w c = record { clear = w.clear; items = private_plain source.items w.items c; lines = w.lines; tail = w.tail }

pub plain_counted : (source : SourceParts) → list_all is_counted source.items ≡ true → list_all is_counted (plain_source source).items ≡ true
plain_counted source h = counted_same source.items ∙ h
