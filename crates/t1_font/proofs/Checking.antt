-- The check of the bodies of items, in parts and with raised counts.
use Rattle.std.proofs.Common.{◌≡◌, ℕ, List, [], ◌∷◌, ◌++◌, map, Result, Ok, Err, refl, ap}
use Rattle.t1_frac.specs.declared.fault.Fault.{Fault}
use Rattle.t1_frac.specs.declared.fault.Place.TheVariants as places
use Rattle.t1_frac.specs.Outcome.{◌>>=◌}
use Rattle.t1_parts.specs.declared.item.Item.{Item}
use Rattle.t1_parts.specs.declared.item.Item.TheVariants as items
use Rattle.t1_parts.specs.Counts.{raised_item}
use Rattle.t1_font.specs.Bodies.{bodies_check, body_check, words_check}

pub raised-checks : (subrs glyphs : ℕ) (is : List Item) → bodies_check (map (raised_item subrs glyphs) is) ≡ bodies_check is
raised-checks subrs glyphs [] = refl
raised-checks subrs glyphs (items.Plain l ∷ is) = raised-checks subrs glyphs is
raised-checks subrs glyphs (items.Section before count after ∷ is) = raised-checks subrs glyphs is
raised-checks subrs glyphs (items.Subr m ws closing ∷ is) = ap (λ r. words_check (places.Subr m) ws >>= λ _. r) (raised-checks subrs glyphs is)
raised-checks subrs glyphs (items.Glyph g ws closing ∷ is) = ap (λ r. words_check (places.Glyph g) ws >>= λ _. r) (raised-checks subrs glyphs is)

pub check-both : (a b : List Item) → bodies_check (a ++ b) ≡ (bodies_check a >>= λ _. bodies_check b)
check-both [] b = refl
check-both (i ∷ a) b = by (body_check i) (check-both a b) where
  by : (r : Result (Unit {0}) Fault) → bodies_check (a ++ b) ≡ (bodies_check a >>= λ _. bodies_check b)
      → (r >>= λ _. bodies_check (a ++ b)) ≡ ((r >>= λ _. bodies_check a) >>= λ _. bodies_check b)
  by (Ok tt) rest = rest
  by (Err fault) rest = refl
