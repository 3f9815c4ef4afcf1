-- The length of the private text of a source that was edited.
use Rattle.std.proofs.Common.{◌≡◌, ◌-◌, ◌^◌, ◌<◌, ◌≤◌, min, ℕ, zero, suc, Bool, true, false, cond, List, [], ◌∷◌, ◌++◌, map, length, codes, refl, sym, ap, ◌∙◌, Option, Some, Ok, Result, arith}
use Rattle.std.specs.Prelude.{option_and_then, unwrap_or}
use Rattle.std.specs.List.{find, insert, remove, slice_set}
use Rattle.t1_frac.specs.declared.fault.Fault.{Fault}
use Rattle.t1_parts.specs.declared.item.Item.{Item}
use Rattle.t1_parts.specs.declared.item.Item.TheVariants as items
use Rattle.t1_parts.specs.Counts.{glyphs_needed, raised, raised_item, subrs_needed}
use Rattle.t1_parts.specs.LenIV.{lead, plain_line}
use Rattle.t1_parts.specs.Operator.{operator, operator_among, operator_on, reads_strings}
use Rattle.t1_parts.specs.SourceParts.{SourceParts}
use Rattle.t1_source.specs.Changes.{IsInPlaceOf}
use Rattle.t1_source.proofs.ChangeLaws.{raised_put, raised_removed}
use Rattle.t1_font.specs.Assembly.{private_text}
use Rattle.t1_run.specs.Run.{Key, Subr, Glyph}
use Rattle.t1_charstrings.specs.declared.entries.Charstrings.{Charstrings}
use Rattle.t1_font.specs.Lengths.{IsPrivateLen}
use Rattle.t1_charstrings.specs.Lines.{kept_lines_text}
use Rattle.t1_charstrings.specs.Sums.{has_key, item_at, section_line, section_lines_text, InsertSumLaw, PutSumLaw, RemoveSumLaw}
use Rattle.t1_charstrings.proofs.Adding.{inserted_len, put_len, raised_len, remove_len}
use Rattle.t1_font.proofs.Lookups.{bytes_tell, numbers_tell}
use Rattle.t1_charstrings.proofs.Texts.{kept_text_is}

-- ---- entries say nothing of the operator, nor of a section

no-reader : (key : Key) (i : Item) → has_key key i ≡ true → reads_strings i ≡ false
no-reader (Subr n) (items.Plain l) on = absurd (cc)
no-reader (Glyph g) (items.Plain l) on = absurd (cc)
no-reader key (items.Section before n after) on = refl
no-reader key (items.Subr n ws closing) on = refl
no-reader key (items.Glyph g ws closing) on = refl

no-section : (key : Key) (i : Item) → has_key key i ≡ true → section_line i ≡ []
no-section key (items.Plain l) on = refl
no-section (Subr n) (items.Section before k after) on = absurd (cc)
no-section (Glyph g) (items.Section before k after) on = absurd (cc)
no-section key (items.Subr n ws closing) on = refl
no-section key (items.Glyph g ws closing) on = refl

in-place : (key : Key) (i x : Item) → has_key key i ≡ true → has_key key x ≡ true → IsInPlaceOf i x
in-place (Subr k) (items.Subr m ws c) (items.Subr n vs d) on also = sym (numbers_tell.same k m on) ∙ numbers_tell.same k n also
in-place (Glyph k) (items.Glyph g ws c) (items.Glyph h vs d) on also = sym (bytes_tell.same k g on) ∙ bytes_tell.same k h also
in-place (Subr k) (items.Plain l) x on also = absurd (cc)
in-place (Glyph k) (items.Plain l) x on also = absurd (cc)
in-place (Subr k) (items.Section b n a) x on also = absurd (cc)
in-place (Glyph k) (items.Section b n a) x on also = absurd (cc)
in-place (Glyph k) (items.Subr m ws c) x on also = absurd (cc)
in-place (Subr k) (items.Glyph g ws c) x on also = absurd (cc)
in-place (Subr k) (items.Subr m ws c) (items.Plain l) on also = absurd (cc)
in-place (Subr k) (items.Subr m ws c) (items.Section b n a) on also = absurd (cc)
in-place (Subr k) (items.Subr m ws c) (items.Glyph h vs d) on also = absurd (cc)
in-place (Glyph k) (items.Glyph g ws c) (items.Plain l) on also = absurd (cc)
in-place (Glyph k) (items.Glyph g ws c) (items.Section b n a) on also = absurd (cc)
in-place (Glyph k) (items.Glyph g ws c) (items.Subr n vs d) on also = absurd (cc)

-- ---- what is found first, past other items

find-put : (test : Item → Bool) (is : List Item) (at : ℕ) (x : Item) → at < length is → test (item_at is at) ≡ false → test x ≡ false
    → find test (slice_set is at x) ≡ find test is
find-put test [] at x within off also = absurd (omega (arith, within))
find-put test (i ∷ is) zero x within off also =
    ap (λ b. cond b (Some x) (find test is)) also ∙ sym (ap (λ b. cond b (Some i) (find test is)) off)
find-put test (i ∷ is) (suc at) x within off also = ap (cond (test i) (Some i)) (find-put test is at x (omega (arith, within)) off also)

find-removed : (test : Item → Bool) (is : List Item) (at : ℕ) → at < length is → test (item_at is at) ≡ false → find test (remove is at) ≡ find test is
find-removed test [] at within off = absurd (omega (arith, within))
find-removed test (i ∷ is) zero within off = sym (ap (λ b. cond b (Some i) (find test is)) off)
find-removed test (i ∷ is) (suc at) within off = ap (cond (test i) (Some i)) (find-removed test is at (omega (arith, within)) off)

find-inserted : (test : Item → Bool) (is : List Item) (at : ℕ) (x : Item) → at ≤ length is → test x ≡ false → find test (insert is at x) ≡ find test is
find-inserted test is zero x within off = ap (λ b. cond b (Some x) (find test is)) off
find-inserted test [] (suc at) x within off = absurd (omega (arith, within))
find-inserted test (i ∷ is) (suc at) x within off = ap (cond (test i) (Some i)) (find-inserted test is at x (omega (arith, within)) off)

pub find-raised : (subrs glyphs : ℕ) (is : List Item) → find reads_strings (map (raised_item subrs glyphs) is) ≡ find reads_strings is
find-raised subrs glyphs [] = refl
find-raised subrs glyphs (items.Plain l ∷ is) =
    ap (cond (reads_strings (items.Plain l)) (Some (items.Plain l))) (find-raised subrs glyphs is)
find-raised subrs glyphs (items.Section before n after ∷ is) = find-raised subrs glyphs is
find-raised subrs glyphs (items.Subr n ws closing ∷ is) = find-raised subrs glyphs is
find-raised subrs glyphs (items.Glyph g ws closing ∷ is) = find-raised subrs glyphs is

-- the operator of the first item that reads strings
abbrev pub named : Option Item → List ℕ
named found = unwrap_or (option_and_then operator_on (option_and_then plain_line found)) (codes "RD")

-- ---- section lines

sections-inserted : (is : List Item) (at : ℕ) (x : Item) → at ≤ length is → section_line x ≡ [] → section_lines_text (insert is at x) ≡ section_lines_text is
sections-inserted is zero x within none = ap (λ l. l ++ section_lines_text is) none
sections-inserted [] (suc at) x within none = absurd (omega (arith, within))
sections-inserted (i ∷ is) (suc at) x within none = ap (λ l. section_line i ++ l) (sections-inserted is at x (omega (arith, within)) none)

-- ---- the sums

pub same-ok : (a b : List ℕ) → ◌≡◌ {A = Result (List ℕ) Fault} (Ok a) (Ok b) → a ≡ b
same-ok a b e = cc

-- the length of the lines that are kept is that of the private text
pub len-of : (s : SourceParts) (c : Charstrings) (n : ℕ) → private_text (lead s) (operator s) s.items ≡ Ok (kept_lines_text c (operator s) s.items)
    → IsPrivateLen s n → n < 2 ^ 64 - 1 → n ≡ length (kept_lines_text c (operator s) s.items)
len-of s c n known len small =
    let same = ap (λ (t : List ℕ). length t) (same-ok len.0 (kept_lines_text c (operator s) s.items) (sym len.1 ∙ known)) in
    omega (arith, len.2, same, small)

len-is : (made : SourceParts) (c : Charstrings) (o : List ℕ) (m : ℕ) → private_text (lead made) (operator made) made.items ≡ Ok (kept_lines_text c (operator made) made.items)
    → operator made ≡ o → m ≡ length (kept_lines_text c o made.items) → IsPrivateLen made (min m (2 ^ 64 - 1))
len-is made c o m known named m_is =
    (kept_lines_text c (operator made) made.items, known, ap (λ k. min k (2 ^ 64 - 1)) (m_is ∙ ap (λ name. length (kept_lines_text c name made.items)) (sym named)))

pub put_sum : PutSumLaw
put_sum key entry s made old new edited at item within on also made_is n m len small sum =
    let counts = raised_put s.items at item within (in-place key (item_at s.items at) item on also) edited.well.items.counts in
    let items_are : made.items ≡ slice_set s.items at item = ap (λ t. t.items) made_is ∙ counts in
    let name : operator made ≡ operator s =
    ap operator_among items_are
    ∙ ap named (find-put reads_strings s.items at item within (no-reader key (item_at s.items at) on) (no-reader key item also)) in
    let was = len-of s old n (kept_text_is s old edited.well edited.kept) len small in
    let more = put_len s key at item edited.well within on old new entry edited.sets (operator s) in
    let now = ap (λ is. length (kept_lines_text new (operator s) is)) items_are in
    len-is made new (operator s) m (kept_text_is made new edited.well_made edited.kept_made) name (omega (arith, was, more, now, sum))

pub remove_sum : RemoveSumLaw
remove_sum key entry s made old new edited at within on made_is n m len small sum =
    let counts = raised_removed s.items at edited.well.items.counts in
    let items_are : made.items ≡ remove s.items at = ap (λ t. t.items) made_is ∙ counts in
    let name : operator made ≡ operator s =
    ap operator_among items_are ∙ ap named (find-removed reads_strings s.items at within (no-reader key (item_at s.items at) on)) in
    let was = len-of s old n (kept_text_is s old edited.well edited.kept) len small in
    let less = remove_len s key at edited.well within on old new entry edited.sets (operator s) in
    let now = ap (λ is. length (kept_lines_text new (operator s) is)) items_are in
    len-is made new (operator s) m (kept_text_is made new edited.well_made edited.kept_made) name (omega (arith, was, less, now, sum))

pub insert_sum : InsertSumLaw
insert_sum key entry s made old new edited at item within none also made_is n m len small sum =
    let more-items = insert s.items at item in
    let items_are : made.items ≡ raised more-items = ap (λ t. t.items) made_is in
    let name : operator made ≡ operator s =
    ap operator_among items_are ∙ ap named (find-raised (subrs_needed more-items) (glyphs_needed more-items) more-items)
    ∙ ap named (find-inserted reads_strings s.items at item within (no-reader key item also)) in
    let was = len-of s old n (kept_text_is s old edited.well edited.kept) len small in
    let more = inserted_len s key at item within none old new entry edited.sets (operator s) in
    let up = raised_len more-items new (operator s) in
    let others = ap (λ (t : List ℕ). length t) (sections-inserted s.items at item within (no-section key item also)) in
    let now = ap (λ is. length (kept_lines_text new (operator s) is)) items_are in
    let sections = ap (λ is. length (section_lines_text is)) items_are in
    len-is made new (operator s) m (kept_text_is made new edited.well_made edited.kept_made) name (omega (arith, was, more, up, others, now, sections, sum))
