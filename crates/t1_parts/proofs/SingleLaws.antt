-- Stretches of one item each.
use Rattle.std.proofs.Common.{◌≡◌, ◌≤◌, ◌<◌, suc, zero, ℕ, List, [], ◌∷◌, ◌++◌, length, take, map, refl, sym, ◌∙◌, ap, arith}
use Rattle.std.specs.List.{slice_index_or, slice_set, insert, remove}
use Rattle.std.proofs.lemmas.List.{append_assoc, append-nil, length-append}
use Rattle.t1_parts.specs.declared.stretch.Stretch.{Stretch}
use Rattle.t1_parts.specs.declared.stretch.Stretch.TheVariants.{One, Lines}
use Rattle.t1_parts.specs.Items.{stretch_items, items_in}
use Rattle.t1_parts.specs.Stretches.{raised_stretch, AreSingle, IsPlaceOfItem}

-- ---- places

-- they have as many items as they are
pub single_length : (ss : List Stretch) → AreSingle ss → length (items_in ss) ≡ length ss
single_length [] h = refl
single_length (s ∷ ss) h =
    let front = length-append (stretch_items s) (items_in ss) in
    let rest = single_length ss h.1 in
    omega (arith, front, rest, h.0)

pub single_taken : (i : ℕ) (ss : List Stretch) → AreSingle ss → i ≤ length ss → length (items_in (take i ss)) ≡ i
single_taken zero ss h within = refl
single_taken (suc i) [] h within = absurd (omega (arith, within))
single_taken (suc i) (s ∷ ss) h within =
    let front = length-append (stretch_items s) (items_in (take i ss)) in
    let rest = single_taken i ss h.1 (omega (arith, within)) in
    omega (arith, front, rest, h.0)

pub single_at : (i : ℕ) (ss : List Stretch) (d : Stretch) → AreSingle ss → i < length ss → length (stretch_items (slice_index_or ss i d)) ≡ 1
single_at i [] d h within = absurd (omega (arith, within))
single_at zero (s ∷ ss) d h within = h.0
single_at (suc i) (s ∷ ss) d h within = single_at i ss d h.1 (omega (arith, within))

-- a place is its own index
pub single_place : (at : ℕ) (ss : List Stretch) → AreSingle ss → at ≤ length (items_in ss) → IsPlaceOfItem at ss (at, 0)
single_place at ss h within =
    let size = single_length ss h in
    let taken = single_taken at ss h (omega (arith, size, within)) in (
      omega (arith, size, within),
      omega (arith, taken),
      λ d inside. (let one = single_at at ss d h inside in omega (arith, one)),
      λ past. refl,
    )

-- and there is nothing to cut
pub single_uncut : (at : ℕ) (ss : List Stretch) (p : ℕ × ℕ) (d : Stretch) → AreSingle ss → p.0 < length ss → IsPlaceOfItem at ss p → 0 < p.1 → ⊥
single_uncut at ss p d h here place some =
    let within = place.2 d here in
    let one = single_at p.0 ss d h here in
    absurd (omega (arith, within, one, some))

-- ---- edits

-- the items with those of a further stretch
pub items_pushed : (ss : List Stretch) (s : Stretch) → items_in (ss ++ s ∷ []) ≡ items_in ss ++ stretch_items s
items_pushed [] s = append-nil (stretch_items s)
items_pushed (t ∷ ss) s = ap (λ u. stretch_items t ++ u) (items_pushed ss s) ∙ sym (append_assoc (stretch_items t) (items_in ss) (stretch_items s))

pub single_pushed : (ss : List Stretch) (s : Stretch) → AreSingle ss → length (stretch_items s) ≡ 1 → AreSingle (ss ++ s ∷ [])
single_pushed [] s h one = (one, tt)
single_pushed (t ∷ ss) s h one = (h.0, single_pushed ss s h.1 one)

pub single_inserted : (i : ℕ) (ss : List Stretch) (s : Stretch) → AreSingle ss → length (stretch_items s) ≡ 1 → AreSingle (insert ss i s)
single_inserted zero ss s h one = (one, h)
single_inserted (suc i) [] s h one = (one, tt)
single_inserted (suc i) (t ∷ ss) s h one = (h.0, single_inserted i ss s h.1 one)

pub single_removed : (i : ℕ) (ss : List Stretch) → AreSingle ss → AreSingle (remove ss i)
single_removed zero [] h = tt
single_removed (suc i) [] h = tt
single_removed zero (t ∷ ss) h = h.1
single_removed (suc i) (t ∷ ss) h = (h.0, single_removed i ss h.1)

pub single_set : (i : ℕ) (ss : List Stretch) (s : Stretch) → AreSingle ss → length (stretch_items s) ≡ 1 → AreSingle (slice_set ss i s)
single_set zero [] s h one = tt
single_set (suc i) [] s h one = tt
single_set zero (t ∷ ss) s h one = (one, h.1)
single_set (suc i) (t ∷ ss) s h one = (h.0, single_set i ss s h.1 one)

pub single_raised : (s g : ℕ) (ss : List Stretch) → AreSingle ss → AreSingle (map (raised_stretch s g) ss)
single_raised s g [] h = tt
single_raised s g (One item ∷ ss) h = (refl, single_raised s g ss h.1)
single_raised s g (Lines ls ∷ ss) h = (h.0, single_raised s g ss h.1)
