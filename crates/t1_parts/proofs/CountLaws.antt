-- Counts that are raised stay so.
use Rattle.std.proofs.Common.{◌≡◌, ℕ, ◌+◌, max, if◌then◌else◌, List, [], ◌∷◌, map, fold, refl, ◌∙◌, ap, arith}
use Rattle.t1_parts.specs.declared.item.Item.{Item}
use Rattle.t1_parts.specs.declared.item.Item.TheVariants.{Plain, Section, Subr, Glyph}
use Rattle.t1_parts.specs.Sections.{is_glyphs_line}
use Rattle.t1_parts.specs.Counts.{subrs_needed, glyphs_needed, raised_item, raised, is_glyph_entry}

max_again : (n k : ℕ) → max (max n k) k ≡ max n k
max_again n k = omega arith

item_again : (s g : ℕ) (i : Item) → raised_item s g (raised_item s g i) ≡ raised_item s g i
item_again s g (Plain l) = refl
item_again s g (Section before n after) =
    ap (λ k. Section before k after) (max_again n (if is_glyphs_line (Section before n after) then g else s))
item_again s g (Subr n ws closing) = refl
item_again s g (Glyph h ws closing) = refl

all_again : (s g : ℕ) (items : List Item) → map (raised_item s g) (map (raised_item s g) items) ≡ map (raised_item s g) items
all_again s g [] = refl
all_again s g (i ∷ items) = ap (λ x. x ∷ map (raised_item s g) (map (raised_item s g) items)) (item_again s g i) ∙ ap (λ t. raised_item s g i ∷ t) (all_again s g items)

pub subrs_same : (s g : ℕ) (items : List Item) → subrs_needed (map (raised_item s g) items) ≡ subrs_needed items
subrs_same s g [] = refl
subrs_same s g (Plain l ∷ items) = subrs_same s g items
subrs_same s g (Section before n after ∷ items) = subrs_same s g items
subrs_same s g (Subr n ws closing ∷ items) = ap (max (n + 1)) (subrs_same s g items)
subrs_same s g (Glyph h ws closing ∷ items) = subrs_same s g items

-- the glyphs counted from a number on
count_from : ℕ → List Item → ℕ
count_from n items = fold (λ m i. m + (if is_glyph_entry i then 1 else 0)) n items

from_same : (s g n : ℕ) (items : List Item) → count_from n (map (raised_item s g) items) ≡ count_from n items
unfolding count_from
from_same s g n [] = refl
from_same s g n (Plain l ∷ items) = from_same s g (n + 0) items
from_same s g n (Section before k after ∷ items) = from_same s g (n + 0) items
from_same s g n (Subr k ws closing ∷ items) = from_same s g (n + 0) items
from_same s g n (Glyph h ws closing ∷ items) = from_same s g (n + 1) items

pub glyphs_same : (s g : ℕ) (items : List Item) → glyphs_needed (map (raised_item s g) items) ≡ glyphs_needed items
unfolding count_from
glyphs_same s g items = from_same s g 0 items

-- raised counts need no raising
pub raised_again : (items : List Item) → raised (raised items) ≡ raised items
raised_again items =
    let s = subrs_needed items in
    let g = glyphs_needed items in
    ap (λ n. map (raised_item n (glyphs_needed (raised items))) (raised items)) (subrs_same s g items)
    ∙ ap (λ n. map (raised_item s n) (raised items)) (glyphs_same s g items)
    ∙ all_again s g items
