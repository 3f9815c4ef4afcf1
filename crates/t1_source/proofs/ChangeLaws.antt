-- Items in the place of others, and items taken out, need no raising of counts.
use Rattle.std.proofs.Common.{◌≡◌, ℕ, ◌+◌, ◌<◌, ◌≤◌, zero, suc, max, Bool, true, false, if◌then◌else◌, List, [], ◌∷◌, map, fold, length, refl, sym, ◌∙◌, ap, arith, Some, Result, Ok, Err, length-append}
use Rattle.std.specs.Prelude.{IsOk, OnOk}
use Rattle.std.specs.List.{position, remove, slice_set, slice_index_or}
use Rattle.std.proofs.lemmas.Bool.{eqb-true}
use Rattle.std.proofs.lemmas.Slice.Eq.{bytes_eq-Decides}
use Rattle.t1_parts.specs.Entries.{is_subr, is_glyph}
use Rattle.t1_source.proofs.ItemPlaceLaws.{position_first, got_there}
use Rattle.t1_parts.specs.declared.item.Item.{Item}
use Rattle.t1_parts.specs.declared.item.Item.TheVariants.{Plain, Section, Subr, Glyph}
use Rattle.t1_parts.specs.Sections.{is_glyphs_line}
use Rattle.t1_parts.specs.Counts.{subrs_needed, glyphs_needed, raised_item, raised, is_glyph_entry}
use Rattle.t1_parts.specs.SourceParts.{SourceParts}
use Rattle.t1_parts.specs.Stretches.{stands_alone, StandsAloneAt}
use Rattle.t1_parts.proofs.AloneLaws.{alone_at, alone_glyph, alone_subr, alone_saying}
use Rattle.t1_parts.specs.LenIV.{says_lead}
use Rattle.t1_source.specs.WellFormed.{IsWellFormed}
use Rattle.t1_source.specs.Changes.{IsInPlaceOf}
use Rattle.t1_source.specs.Editing.{with_items}

first-fixed : (s g : ℕ) (i : Item) (items : List Item) → map (raised_item s g) (i ∷ items) ≡ i ∷ items → raised_item s g i ≡ i
first-fixed s g i items e = ap first e where
  first : List Item → Item
  first [] = i
  first (y ∷ ys) = y

rest-fixed : (s g : ℕ) (i : Item) (items : List Item) → map (raised_item s g) (i ∷ items) ≡ i ∷ items → map (raised_item s g) items ≡ items
rest-fixed s g i items e = ap rest e where
  rest : List Item → List Item
  rest [] = []
  rest (y ∷ ys) = ys

-- ---- an item in the place of another

put-raised : (s g : ℕ) (items : List Item) (at : ℕ) (x : Item) → at < length items → IsInPlaceOf (slice_index_or items at (Plain [])) x
    → map (raised_item s g) items ≡ items → map (raised_item s g) (slice_set items at x) ≡ slice_set items at x
put-raised s g [] at x h same e = absurd (omega (arith, h))
put-raised s g (i ∷ items) zero x h same e = placed i x same (ap tail e) where
  tail : List Item → List Item
  tail [] = []
  tail (y ∷ ys) = ys

  placed : (i x : Item) → IsInPlaceOf i x → map (raised_item s g) items ≡ items → map (raised_item s g) (x ∷ items) ≡ x ∷ items
  placed (Plain l) (Plain m) same e = ap (λ t. Plain m ∷ t) e
  placed (Plain l) (Section b n a) same e = absurd same
  placed (Plain l) (Subr n vs d) same e = absurd same
  placed (Plain l) (Glyph h vs d) same e = absurd same
  placed (Section b n a) x same e = absurd same
  placed (Subr m ws c) (Plain l) same e = absurd same
  placed (Subr m ws c) (Section b n a) same e = absurd same
  placed (Subr m ws c) (Subr n vs d) same e = ap (λ t. Subr n vs d ∷ t) e
  placed (Subr m ws c) (Glyph h vs d) same e = absurd same
  placed (Glyph h ws c) (Plain l) same e = absurd same
  placed (Glyph h ws c) (Section b n a) same e = absurd same
  placed (Glyph h ws c) (Subr n vs d) same e = absurd same
  placed (Glyph h ws c) (Glyph k vs d) same e = ap (λ t. Glyph k vs d ∷ t) e
put-raised s g (i ∷ items) (suc at) x h same e =
    let following = put-raised s g items at x (omega (arith, h)) same (rest-fixed s g i items e) in
    (λ j. first-fixed s g i items e j ∷ following j)

subrs_put : (items : List Item) (at : ℕ) (x : Item) → at < length items → IsInPlaceOf (slice_index_or items at (Plain [])) x
    → subrs_needed (slice_set items at x) ≡ subrs_needed items
subrs_put [] at x h same = absurd (omega (arith, h))
subrs_put (i ∷ items) zero x h same = placed i x same where
  placed : (i x : Item) → IsInPlaceOf i x → subrs_needed (x ∷ items) ≡ subrs_needed (i ∷ items)
  placed (Plain l) (Plain m) same = refl
  placed (Plain l) (Section b n a) same = absurd same
  placed (Plain l) (Subr n vs d) same = absurd same
  placed (Plain l) (Glyph h vs d) same = absurd same
  placed (Section b n a) x same = absurd same
  placed (Subr m ws c) (Plain l) same = absurd same
  placed (Subr m ws c) (Section b n a) same = absurd same
  placed (Subr m ws c) (Subr n vs d) same = ap (λ k. max (k + 1) (subrs_needed items)) (sym same)
  placed (Subr m ws c) (Glyph h vs d) same = absurd same
  placed (Glyph h ws c) (Plain l) same = absurd same
  placed (Glyph h ws c) (Section b n a) same = absurd same
  placed (Glyph h ws c) (Subr n vs d) same = absurd same
  placed (Glyph h ws c) (Glyph k vs d) same = refl
subrs_put (i ∷ items) (suc at) x h same = following i (subrs_put items at x (omega (arith, h)) same) where
  following : (i : Item) → subrs_needed (slice_set items at x) ≡ subrs_needed items → subrs_needed (i ∷ slice_set items at x) ≡ subrs_needed (i ∷ items)
  following (Plain l) e = e
  following (Section b n a) e = e
  following (Subr n ws c) e = ap (max (n + 1)) e
  following (Glyph g ws c) e = e

-- the glyphs counted from a number on
count_from : ℕ → List Item → ℕ
count_from n items = fold (λ m i. m + (if is_glyph_entry i then 1 else 0)) n items

glyphs_put : (n : ℕ) (items : List Item) (at : ℕ) (x : Item) → at < length items → IsInPlaceOf (slice_index_or items at (Plain [])) x
    → count_from n (slice_set items at x) ≡ count_from n items
unfolding count_from
glyphs_put n [] at x h same = absurd (omega (arith, h))
glyphs_put n (i ∷ items) zero x h same = placed i x same where
  placed : (i x : Item) → IsInPlaceOf i x → count_from n (x ∷ items) ≡ count_from n (i ∷ items)
  placed (Plain l) (Plain m) same = refl
  placed (Plain l) (Section b n a) same = absurd same
  placed (Plain l) (Subr n vs d) same = absurd same
  placed (Plain l) (Glyph h vs d) same = absurd same
  placed (Section b k a) x same = absurd same
  placed (Subr m ws c) (Plain l) same = absurd same
  placed (Subr m ws c) (Section b k a) same = absurd same
  placed (Subr m ws c) (Subr k vs d) same = refl
  placed (Subr m ws c) (Glyph h vs d) same = absurd same
  placed (Glyph h ws c) (Plain l) same = absurd same
  placed (Glyph h ws c) (Section b k a) same = absurd same
  placed (Glyph h ws c) (Subr k vs d) same = absurd same
  placed (Glyph h ws c) (Glyph k vs d) same = refl
glyphs_put n (i ∷ items) (suc at) x h same = glyphs_put (n + (if is_glyph_entry i then 1 else 0)) items at x (omega (arith, h)) same

-- counts that are raised are raised when an entry comes in the place of one of its kind and key
pub raised_put : (items : List Item) (at : ℕ) (x : Item) → at < length items → IsInPlaceOf (slice_index_or items at (Plain [])) x
    → raised items ≡ items → raised (slice_set items at x) ≡ slice_set items at x
unfolding count_from
raised_put items at x h same e =
    ap (λ s. map (raised_item s (glyphs_needed (slice_set items at x))) (slice_set items at x)) (subrs_put items at x h same)
    ∙ ap (λ g. map (raised_item (subrs_needed items) g) (slice_set items at x)) (glyphs_put 0 items at x h same)
    ∙ put-raised (subrs_needed items) (glyphs_needed items) items at x h same e

-- ---- an item taken out

remove-none : (at : ℕ) → remove {X = Item} [] at ≡ []
remove-none zero = refl
remove-none (suc at) = refl

fixed-less : (s g s' g' : ℕ) (i : Item) → s' ≤ s → g' ≤ g → raised_item s g i ≡ i → raised_item s' g' i ≡ i
fixed-less s g s' g' (Plain l) hs hg e = refl
fixed-less s g s' g' (Section b n a) hs hg e = ap (λ k. Section b k a) (lower (is_glyphs_line (Section b n a)) (ap count e)) where
  count : Item → ℕ
  count (Section b n a) = n
  count _ = 0

  lower : (t : Bool) → max n (if t then g else s) ≡ n → max n (if t then g' else s') ≡ n
  lower true e = omega (arith, e, hg)
  lower false e = omega (arith, e, hs)
fixed-less s g s' g' (Subr n ws c) hs hg e = refl
fixed-less s g s' g' (Glyph h ws c) hs hg e = refl

all-less : (s g s' g' : ℕ) (items : List Item) → s' ≤ s → g' ≤ g → map (raised_item s g) items ≡ items → map (raised_item s' g') items ≡ items
all-less s g s' g' [] hs hg e = refl
all-less s g s' g' (i ∷ items) hs hg e =
    (λ j. fixed-less s g s' g' i hs hg (first-fixed s g i items e) j ∷ all-less s g s' g' items hs hg (rest-fixed s g i items e) j)

without-less : (s g s' g' : ℕ) (items : List Item) (at : ℕ) → s' ≤ s → g' ≤ g → map (raised_item s g) items ≡ items
    → map (raised_item s' g') (remove items at) ≡ remove items at
without-less s g s' g' [] at hs hg e = rw (remove-none at) refl
without-less s g s' g' (i ∷ items) zero hs hg e = all-less s g s' g' items hs hg (rest-fixed s g i items e)
without-less s g s' g' (i ∷ items) (suc at) hs hg e =
    (λ j. fixed-less s g s' g' i hs hg (first-fixed s g i items e) j ∷ without-less s g s' g' items at hs hg (rest-fixed s g i items e) j)

subrs_less : (i : Item) (items : List Item) → subrs_needed items ≤ subrs_needed (i ∷ items)
subrs_less (Plain l) items = omega arith
subrs_less (Section b n a) items = omega arith
subrs_less (Subr n ws c) items = omega arith
subrs_less (Glyph g ws c) items = omega arith

subrs_removed : (items : List Item) (at : ℕ) → subrs_needed (remove items at) ≤ subrs_needed items
subrs_removed [] at = rw (remove-none at) (omega arith)
subrs_removed (i ∷ items) zero = subrs_less i items
subrs_removed (i ∷ items) (suc at) = following i (subrs_removed items at) where
  following : (i : Item) → subrs_needed (remove items at) ≤ subrs_needed items → subrs_needed (i ∷ remove items at) ≤ subrs_needed (i ∷ items)
  following (Plain l) h = h
  following (Section b n a) h = h
  following (Subr n ws c) h = omega (arith, h)
  following (Glyph g ws c) h = h

from-less : (m n : ℕ) (items : List Item) → m ≤ n → count_from m items ≤ count_from n items
unfolding count_from
from-less m n [] h = h
from-less m n (i ∷ items) h = from-less (m + (if is_glyph_entry i then 1 else 0)) (n + (if is_glyph_entry i then 1 else 0)) items (omega (arith, h))

glyphs_removed : (n : ℕ) (items : List Item) (at : ℕ) → count_from n (remove items at) ≤ count_from n items
unfolding count_from
glyphs_removed n [] at = rw (remove-none at) (omega arith)
glyphs_removed n (i ∷ items) zero = from-less n (n + (if is_glyph_entry i then 1 else 0)) items (omega arith)
glyphs_removed n (i ∷ items) (suc at) = glyphs_removed (n + (if is_glyph_entry i then 1 else 0)) items at

-- counts that are raised stay so when an item is taken out
pub raised_removed : (items : List Item) (at : ℕ) → raised items ≡ items → raised (remove items at) ≡ remove items at
unfolding count_from
raised_removed items at e =
    without-less (subrs_needed items) (glyphs_needed items) (subrs_needed (remove items at)) (glyphs_needed (remove items at)) items at
    (subrs_removed items at) (glyphs_removed 0 items at) e

-- ---- sources that are well formed

-- an item in the place of one of its kind and key; s is what the source is made of, now what is seen of it
pub put_seen : (s now : SourceParts) (at : ℕ) (x : Item) (items : List Item) → IsWellFormed s → s ≡ now → at < length now.items → IsInPlaceOf (slice_index_or now.items at (Plain [])) x
    → items ≡ slice_set s.items at x → record { clear = s.clear; items = items; tail = s.tail } ≡ with_items now (slice_set now.items at x)
put_seen s now at x items kept seen within same e =
    let whole : raised s.items ≡ s.items = kept.items.counts in
    let counts : raised now.items ≡ now.items = ap (λ t. raised t.items) (sym seen) ∙ whole ∙ ap (λ t. t.items) seen in
    let made : items ≡ raised (slice_set now.items at x) = e ∙ ap (λ t. slice_set t.items at x) seen ∙ sym (raised_put now.items at x within same counts) in
    (λ j. record { clear = (seen j).clear; items = made j; tail = (seen j).tail })

-- an item taken out
pub removed_seen : (s now : SourceParts) (at : ℕ) (items : List Item) → IsWellFormed s → s ≡ now
    → items ≡ remove s.items at → record { clear = s.clear; items = items; tail = s.tail } ≡ with_items now (remove now.items at)
removed_seen s now at items kept seen e =
    let made : items ≡ raised (remove now.items at) = e ∙ sym (raised_removed s.items at kept.items.counts) ∙ ap (λ t. raised (remove t.items at)) seen in
    (λ j. record { clear = (seen j).clear; items = made j; tail = (seen j).tail })

-- a glyph that was found by its name
glyph-there : (g : List ℕ) (i : Item) (ws : List (List ℕ)) (c : List ℕ) → is_glyph g i ≡ true → IsInPlaceOf i (Glyph g ws c)
glyph-there g (Plain l) ws c h = cc
glyph-there g (Section b n a) ws c h = cc
glyph-there g (Subr n vs d) ws c h = cc
glyph-there g (Glyph name vs d) ws c h = sym ((bytes_eq-Decides g name).0 h)

pub glyph_fits : (items : List Item) (g name : List ℕ) (at : ℕ) (ws : List (List ℕ)) (c : List ℕ) → name ≡ g → position (is_glyph g) items ≡ Some at
    → IsInPlaceOf (slice_index_or items at (Plain [])) (Glyph name ws c)
glyph_fits items g name at ws c same e =
    let f = position_first (is_glyph g) items at e in
    let here = ap (λ t. slice_index_or t at (Plain [])) f.found.whole ∙ got_there f.found.before f.found.here f.found.after at (Plain []) f.place in
    rw same (glyph-there g (slice_index_or items at (Plain [])) ws c (ap (is_glyph g) here ∙ f.found.passes))

-- a Subr that was found by its number
subr-there : (m n : ℕ) (i : Item) (ws : List (List ℕ)) (c : List ℕ) → m ≡ n → is_subr n i ≡ true → IsInPlaceOf i (Subr m ws c)
subr-there m n (Plain l) ws c e h = cc
subr-there m n (Section b k a) ws c e h = cc
subr-there m n (Subr k vs d) ws c e h = sym (e ∙ eqb-true n k h)
subr-there m n (Glyph name vs d) ws c e h = cc

pub subr_fits : (items : List Item) (m n : ℕ) (at : ℕ) (ws : List (List ℕ)) (c : List ℕ) → m ≡ n → position (is_subr n) items ≡ Some at
    → IsInPlaceOf (slice_index_or items at (Plain [])) (Subr m ws c)
subr_fits items m n at ws c same e =
    let f = position_first (is_subr n) items at e in
    let here = ap (λ t. slice_index_or t at (Plain [])) f.found.whole ∙ got_there f.found.before f.found.here f.found.after at (Plain []) f.place in
    subr-there m n (slice_index_or items at (Plain [])) ws c same (ap (is_subr n) here ∙ f.found.passes)

-- ---- what is found by its key or by what it says stands alone

found_alone : (test : Item → Bool) → ((i : Item) → test i ≡ true → stands_alone i ≡ true) → (items : List Item) (at : ℕ) → position test items ≡ Some at → StandsAloneAt items at
found_alone test alone items at e =
    let f = position_first test items at e in
    let here = ap (λ t. slice_index_or t at (Plain [])) f.found.whole ∙ got_there f.found.before f.found.here f.found.after at (Plain []) f.place in
    let size = ap length f.found.whole in
    let parts = length-append f.found.before (f.found.here ∷ f.found.after) in
    alone_at items at (Plain []) (omega (arith, size, parts, f.place)) (ap stands_alone here ∙ alone f.found.here f.found.passes)

glyph-alone : (g : List ℕ) (i : Item) → is_glyph g i ≡ true → stands_alone i ≡ true
glyph-alone g (Plain l) h = cc
glyph-alone g (Section b n a) h = cc
glyph-alone g (Subr n ws c) h = cc
glyph-alone g (Glyph name ws c) h = alone_glyph name ws c

pub found_glyph_alone : (items : List Item) (g : List ℕ) (at : ℕ) → position (is_glyph g) items ≡ Some at → StandsAloneAt items at
found_glyph_alone items g at e = found_alone (is_glyph g) (glyph-alone g) items at e

subr-alone : (n : ℕ) (i : Item) → is_subr n i ≡ true → stands_alone i ≡ true
subr-alone n (Plain l) h = cc
subr-alone n (Section b k a) h = cc
subr-alone n (Subr m ws c) h = alone_subr m ws c
subr-alone n (Glyph name ws c) h = cc

pub found_subr_alone : (items : List Item) (n : ℕ) (at : ℕ) → position (is_subr n) items ≡ Some at → StandsAloneAt items at
found_subr_alone items n at e = found_alone (is_subr n) (subr-alone n) items at e

pub found_lead_alone : (items : List Item) (at : ℕ) → position says_lead items ≡ Some at → StandsAloneAt items at
found_lead_alone items at e = found_alone says_lead alone_saying items at e
