-- The lenIV of items after an edit that changes nothing which says lenIV.
use Rattle.std.proofs.Common.{◌≡◌, ℕ, zero, suc, false, Option, Some, None, is_some, List, [], ◌∷◌, ◌++◌, filter_map, map, refl, sym, ◌∙◌, ap}
use Rattle.std.specs.List.{find, insert, remove, slice_index_or, slice_set}
use Rattle.std.proofs.lemmas.List.{append-nil}
use Rattle.std.proofs.lemmas.List.Elements.{filter_map-append}
use Rattle.t1_parts.specs.declared.item.Item.{Item}
use Rattle.t1_parts.specs.declared.item.Item.TheVariants.{Plain, Section, Subr, Glyph}
use Rattle.t1_parts.specs.Counts.{raised_item}
use Rattle.t1_parts.specs.LenIV.{said_lead, says_lead, first_lead, lead_among}

-- what the items say
abbrev said : List Item → List (Option (List ℕ))
said items = filter_map said_lead items

silent : (i : Item) → says_lead i ≡ false → said_lead i ≡ None
silent i h = by (said_lead i) h where
  by : (o : Option (Option (List ℕ))) → is_some o ≡ false → o ≡ None
  by None h = refl
  by (Some t) h = absurd (cc)

-- the same item in front of items that say the same
said_more : (i : Item) (xs ys : List Item) → said xs ≡ said ys → said (i ∷ xs) ≡ said (i ∷ ys)
said_more i xs ys same = filter_map-append said_lead (i ∷ []) xs ∙ ap (λ t. said (i ∷ []) ++ t) same ∙ sym (filter_map-append said_lead (i ∷ []) ys)

said_first : (i : Item) (xs : List Item) → says_lead i ≡ false → said (i ∷ xs) ≡ said xs
said_first i xs h = rw (silent i h) refl

said_inserted : (at : ℕ) (xs : List Item) (i : Item) → says_lead i ≡ false → said (insert xs at i) ≡ said xs
said_inserted zero xs i h = said_first i xs h
said_inserted (suc at) [] i h = said_first i [] h
said_inserted (suc at) (x ∷ xs) i h = said_more x (insert xs at i) xs (said_inserted at xs i h)

said_removed : (at : ℕ) (xs : List Item) (d : Item) → says_lead (slice_index_or xs at d) ≡ false → said (remove xs at) ≡ said xs
said_removed zero [] d h = refl
said_removed (suc at) [] d h = refl
said_removed zero (x ∷ xs) d h = sym (said_first x xs h)
said_removed (suc at) (x ∷ xs) d h = said_more x (remove xs at) xs (said_removed at xs d h)

said_set : (at : ℕ) (xs : List Item) (d i : Item) → says_lead (slice_index_or xs at d) ≡ false → says_lead i ≡ false → said (slice_set xs at i) ≡ said xs
said_set zero [] d i h g = refl
said_set (suc at) [] d i h g = refl
said_set zero (x ∷ xs) d i h g = said_first i xs g ∙ sym (said_first x xs h)
said_set (suc at) (x ∷ xs) d i h g = said_more x (slice_set xs at i) xs (said_set at xs d i h g)

said_nothing : (xs : List Item) → find says_lead xs ≡ None → said xs ≡ []
said_nothing [] e = refl
said_nothing (x ∷ xs) e = by (said_lead x) refl e (said_nothing xs) where
  by : (o : Option (Option (List ℕ))) → said_lead x ≡ o → find says_lead (x ∷ xs) ≡ None → (find says_lead xs ≡ None → said xs ≡ []) → said (x ∷ xs) ≡ []
  by None is h more = let rest : find says_lead xs ≡ None = rw is at h in rw is (more rest)
  by (Some t) is h more = let here : Some x ≡ None = rw is at h in absurd (cc)

-- the search in one that says nothing finds none
pub one_silent : (i : Item) → says_lead i ≡ false → find says_lead (i ∷ []) ≡ None
one_silent i off = rw off refl

said_raised : (subrs glyphs : ℕ) (xs : List Item) → said (map (raised_item subrs glyphs) xs) ≡ said xs
said_raised subrs glyphs [] = refl
said_raised subrs glyphs (Plain l ∷ xs) = said_more (Plain l) (map (raised_item subrs glyphs) xs) xs (said_raised subrs glyphs xs)
said_raised subrs glyphs (Section before n after ∷ xs) = said_raised subrs glyphs xs
said_raised subrs glyphs (Subr n ws closing ∷ xs) = said_raised subrs glyphs xs
said_raised subrs glyphs (Glyph g ws closing ∷ xs) = said_raised subrs glyphs xs

-- ---- the lenIV that is kept

pub lead_pushed : (n : ℕ) (xs ys new : List Item) → n ≡ lead_among xs → find says_lead ys ≡ None → new ≡ xs ++ ys → n ≡ lead_among new
lead_pushed n xs ys new e none made =
    e ∙ sym (ap lead_among made ∙ ap first_lead (filter_map-append said_lead xs ys ∙ ap (λ t. said xs ++ t) (said_nothing ys none) ∙ append-nil (said xs)))

pub lead_inserted : (n at : ℕ) (xs new : List Item) (i : Item) → n ≡ lead_among xs → says_lead i ≡ false → new ≡ insert xs at i → n ≡ lead_among new
lead_inserted n at xs new i e h made = e ∙ sym (ap lead_among made ∙ ap first_lead (said_inserted at xs i h))

pub lead_removed : (n at : ℕ) (xs new : List Item) (d : Item) → n ≡ lead_among xs → says_lead (slice_index_or xs at d) ≡ false → new ≡ remove xs at → n ≡ lead_among new
lead_removed n at xs new d e h made = e ∙ sym (ap lead_among made ∙ ap first_lead (said_removed at xs d h))

pub lead_set : (n at : ℕ) (xs new : List Item) (d i : Item) → n ≡ lead_among xs → says_lead (slice_index_or xs at d) ≡ false → says_lead i ≡ false → new ≡ slice_set xs at i → n ≡ lead_among new
lead_set n at xs new d i e h g made = e ∙ sym (ap lead_among made ∙ ap first_lead (said_set at xs d i h g))

pub lead_raised : (n subrs glyphs : ℕ) (xs new : List Item) → n ≡ lead_among xs → new ≡ map (raised_item subrs glyphs) xs → n ≡ lead_among new
lead_raised n subrs glyphs xs new e made = e ∙ sym (ap lead_among made ∙ ap first_lead (said_raised subrs glyphs xs))
