-- What items ask of the counts of their sections, after an edit.
use Rattle.std.proofs.Common.{◌≡◌, ◌≤◌, ◌<◌, ◌+◌, ℕ, zero, suc, max, cond, List, [], ◌∷◌, ◌++◌, length, map, refl, sym, ◌∙◌, ap, arith}
use Rattle.std.specs.List.{insert, remove, slice_index_or, slice_set}
use Rattle.std.proofs.lemmas.List.Sums.{sum_by-cons, sum_by-append, count_by-le-length}
use Rattle.t1_parts.specs.declared.item.Item.{Item}
use Rattle.t1_parts.specs.declared.item.Item.TheVariants.{Plain, Section, Subr, Glyph}
use Rattle.t1_parts.specs.declared.starts.Needs.{Needs}
use Rattle.t1_parts.specs.Counts.{subrs_needed, glyphs_needed, is_glyph_entry, raised_item}
use Rattle.t1_parts.specs.Items.{line_items}
use Rattle.t1_parts.specs.Needs.{AreNeeded}
use Rattle.t1_parts.proofs.CountLaws.{subrs_same, glyphs_same}

-- ---- one item and others

least : (n : ℕ) → n ≡ max 0 n
least n = omega arith

first-max : (n k : ℕ) → max n k ≡ max (max n 0) k
first-max n k = omega arith

pub subrs_more : (i : Item) (items : List Item) → subrs_needed (i ∷ items) ≡ max (subrs_needed (i ∷ [])) (subrs_needed items)
subrs_more (Plain l) items = least (subrs_needed items)
subrs_more (Section before n after) items = least (subrs_needed items)
subrs_more (Subr n ws closing) items = first-max (n + 1) (subrs_needed items)
subrs_more (Glyph g ws closing) items = least (subrs_needed items)

pub glyphs_more : (i : Item) (items : List Item) → glyphs_needed (i ∷ items) ≡ glyphs_needed (i ∷ []) + glyphs_needed items
glyphs_more i items =
    let many : glyphs_needed (i ∷ items) ≡ cond (is_glyph_entry i) 1 0 + glyphs_needed items = sum_by-cons (λ y. cond (is_glyph_entry y) 1 0) i items in
    let alone : glyphs_needed (i ∷ []) ≡ cond (is_glyph_entry i) 1 0 + 0 = sum_by-cons (λ y. cond (is_glyph_entry y) 1 0) i [] in
    omega (arith, many, alone)

pub glyphs_within : (items : List Item) → glyphs_needed items ≤ length items
glyphs_within items = count_by-le-length is_glyph_entry items

-- ---- plain lines ask nothing

pub lines_subrs : (ls : List (List ℕ)) → subrs_needed (line_items ls) ≡ 0
lines_subrs [] = refl
lines_subrs (l ∷ ls) = lines_subrs ls

pub lines_glyphs : (ls : List (List ℕ)) → glyphs_needed (line_items ls) ≡ 0
lines_glyphs [] = refl
lines_glyphs (l ∷ ls) = let more = glyphs_more (Plain l) (line_items ls) in omega (arith, more, lines_glyphs ls)

-- ---- edits

subrs_both : (xs ys : List Item) → subrs_needed (xs ++ ys) ≡ max (subrs_needed xs) (subrs_needed ys)
subrs_both [] ys = least (subrs_needed ys)
subrs_both (x ∷ xs) ys =
    let all = subrs_more x (xs ++ ys) in
    let front = subrs_more x xs in
    let rest = subrs_both xs ys in
    omega (arith, all, front, rest)

glyphs_both : (xs ys : List Item) → glyphs_needed (xs ++ ys) ≡ glyphs_needed xs + glyphs_needed ys
glyphs_both xs ys = sum_by-append (λ y. cond (is_glyph_entry y) 1 0) xs ys

subrs_inserted : (at : ℕ) (xs : List Item) (i : Item) → subrs_needed (insert xs at i) ≡ max (subrs_needed (i ∷ [])) (subrs_needed xs)
subrs_inserted zero xs i = subrs_more i xs
subrs_inserted (suc at) [] i = subrs_more i []
subrs_inserted (suc at) (x ∷ xs) i =
    let all = subrs_more x (insert xs at i) in
    let old = subrs_more x xs in
    let rest = subrs_inserted at xs i in
    omega (arith, all, old, rest)

glyphs_inserted : (at : ℕ) (xs : List Item) (i : Item) → glyphs_needed (insert xs at i) ≡ glyphs_needed (i ∷ []) + glyphs_needed xs
glyphs_inserted zero xs i = glyphs_more i xs
glyphs_inserted (suc at) [] i = glyphs_more i []
glyphs_inserted (suc at) (x ∷ xs) i =
    let all = glyphs_more x (insert xs at i) in
    let old = glyphs_more x xs in
    let rest = glyphs_inserted at xs i in
    omega (arith, all, old, rest)

subrs_removed : (at : ℕ) (xs : List Item) (d : Item) → at < length xs → subrs_needed xs ≡ max (subrs_needed (slice_index_or xs at d ∷ [])) (subrs_needed (remove xs at))
subrs_removed at [] d h = absurd (omega (arith, h))
subrs_removed zero (x ∷ xs) d h = subrs_more x xs
subrs_removed (suc at) (x ∷ xs) d h =
    let all = subrs_more x xs in
    let left = subrs_more x (remove xs at) in
    let rest = subrs_removed at xs d (omega (arith, h)) in
    omega (arith, all, left, rest)

glyphs_removed : (at : ℕ) (xs : List Item) (d : Item) → at < length xs → glyphs_needed xs ≡ glyphs_needed (slice_index_or xs at d ∷ []) + glyphs_needed (remove xs at)
glyphs_removed at [] d h = absurd (omega (arith, h))
glyphs_removed zero (x ∷ xs) d h = glyphs_more x xs
glyphs_removed (suc at) (x ∷ xs) d h =
    let all = glyphs_more x xs in
    let left = glyphs_more x (remove xs at) in
    let rest = glyphs_removed at xs d (omega (arith, h)) in
    omega (arith, all, left, rest)

subrs_set : (at : ℕ) (xs : List Item) (d i : Item) → at < length xs → subrs_needed (slice_index_or xs at d ∷ []) ≡ subrs_needed (i ∷ []) → subrs_needed (slice_set xs at i) ≡ subrs_needed xs
subrs_set at [] d i h e = absurd (omega (arith, h))
subrs_set zero (x ∷ xs) d i h e =
    let old = subrs_more x xs in
    let new = subrs_more i xs in
    omega (arith, old, new, e)
subrs_set (suc at) (x ∷ xs) d i h e =
    let old = subrs_more x xs in
    let new = subrs_more x (slice_set xs at i) in
    let rest = subrs_set at xs d i (omega (arith, h)) e in
    omega (arith, old, new, rest)

glyphs_set : (at : ℕ) (xs : List Item) (d i : Item) → at < length xs → glyphs_needed (slice_index_or xs at d ∷ []) ≡ glyphs_needed (i ∷ []) → glyphs_needed (slice_set xs at i) ≡ glyphs_needed xs
glyphs_set at [] d i h e = absurd (omega (arith, h))
glyphs_set zero (x ∷ xs) d i h e =
    let old = glyphs_more x xs in
    let new = glyphs_more i xs in
    omega (arith, old, new, e)
glyphs_set (suc at) (x ∷ xs) d i h e =
    let old = glyphs_more x xs in
    let new = glyphs_more x (slice_set xs at i) in
    let rest = glyphs_set at xs d i (omega (arith, h)) e in
    omega (arith, old, new, rest)

-- ---- what is kept of them

pub needs_pushed : (old more new : Needs) (xs ys zs : List Item) → AreNeeded old xs → AreNeeded more ys → new.subrs ≡ max old.subrs more.subrs → new.glyphs ≡ old.glyphs + more.glyphs → zs ≡ xs ++ ys → AreNeeded new zs
needs_pushed old more new xs ys zs o m s g made =
    let subrs = ap subrs_needed made ∙ subrs_both xs ys in
    let glyphs = ap glyphs_needed made ∙ glyphs_both xs ys in
    (omega (arith, subrs, s, o.0, m.0), omega (arith, glyphs, g, o.1, m.1))

pub needs_inserted : (old more new : Needs) (at : ℕ) (xs zs : List Item) (i : Item) → AreNeeded old xs → AreNeeded more (i ∷ []) → new.subrs ≡ max old.subrs more.subrs → new.glyphs ≡ old.glyphs + more.glyphs → zs ≡ insert xs at i
    → AreNeeded new zs
needs_inserted old more new at xs zs i o m s g made =
    let subrs = ap subrs_needed made ∙ subrs_inserted at xs i in
    let glyphs = ap glyphs_needed made ∙ glyphs_inserted at xs i in
    (omega (arith, subrs, s, o.0, m.0), omega (arith, glyphs, g, o.1, m.1))

-- what the items ask is what one of them asks, and the others
pub needs_parted : (old gone : Needs) (at : ℕ) (xs zs : List Item) (d i : Item) → AreNeeded old xs → AreNeeded gone (i ∷ []) → at < length xs → slice_index_or xs at d ≡ i → zs ≡ remove xs at
    → (old.subrs ≡ max gone.subrs (subrs_needed zs)) × (old.glyphs ≡ gone.glyphs + glyphs_needed zs)
needs_parted old gone at xs zs d i o g h is made =
    let subrs = subrs_removed at xs d h in
    let glyphs = glyphs_removed at xs d h in
    let here = ap (λ x. subrs_needed (x ∷ [])) is in
    let there = ap (λ x. glyphs_needed (x ∷ [])) is in
    let left = ap subrs_needed made in
    let rest = ap glyphs_needed made in
    (omega (arith, o.0, g.0, subrs, here, left), omega (arith, o.1, g.1, glyphs, there, rest))

pub needs_set : (old : Needs) (at : ℕ) (xs zs : List Item) (d j i : Item) → AreNeeded old xs → at < length xs → slice_index_or xs at d ≡ j
    → (subrs_needed (j ∷ []) ≡ subrs_needed (i ∷ [])) × (glyphs_needed (j ∷ []) ≡ glyphs_needed (i ∷ [])) → zs ≡ slice_set xs at i → AreNeeded old zs
needs_set old at xs zs d j i o h is same made =
    let subrs = ap subrs_needed made ∙ subrs_set at xs d i h (ap (λ x. subrs_needed (x ∷ [])) is ∙ same.0) in
    let glyphs = ap glyphs_needed made ∙ glyphs_set at xs d i h (ap (λ x. glyphs_needed (x ∷ [])) is ∙ same.1) in
    (o.0 ∙ sym subrs, o.1 ∙ sym glyphs)

pub needs_raised : (old : Needs) (subrs glyphs : ℕ) (xs zs : List Item) → AreNeeded old xs → zs ≡ map (raised_item subrs glyphs) xs → AreNeeded old zs
needs_raised old subrs glyphs xs zs o made =
    (o.0 ∙ sym (ap subrs_needed made ∙ subrs_same subrs glyphs xs), o.1 ∙ sym (ap glyphs_needed made ∙ glyphs_same subrs glyphs xs))
