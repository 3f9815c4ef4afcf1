-- The outline of a glyph depends on the footprints of all its parts, and on nothing else.
use Rattle.std.proofs.Common.{◌≡◌, ℕ, zero, suc, List, ◌++◌, refl, ◌∙◌, ap, Option, Some, None}
use Rattle.std.specs.Prelude.{Result, Ok, Err}
use Rattle.t1_frac.specs.Outcome.{◌>>=◌}
use Rattle.t1_frac.specs.declared.fault.Code.{Code}
use Rattle.t1_frac.specs.declared.fault.Code.TheVariants.{F46}
use Rattle.t1_run.specs.declared.outline.Composite.{Composite}
use Rattle.t1_run.specs.declared.outline.Segment.{Segment}
use Rattle.t1_run.specs.Composite.{joined_outline, with_parts, drawn, outline_within, outline}
use Rattle.t1_run.specs.Footprint.{AgreeOn, OutlineFootprintLaw, asked_by_parts, asked_after, foot, foot_within, outline_foot}
use Rattle.t1_run.specs.Run.{FontBodies, Key, Drawing, own}
pub use Rattle.t1_run.proofs.Agreeing.{in_first, in_second}
use Rattle.t1_run.proofs.Agreeing.{agree-part, own_same}

-- the parts of this glyph draw the same in both fonts, from the same keys
abbrev SameParts : FontBodies → FontBodies → (List ℕ → Result (List Segment) Code) → (List ℕ → Result (List Segment) Code) → (List ℕ → List Key) → (List ℕ → List Key) → Type 0
SameParts m n part part' keys keys' = (g : List ℕ) → AgreeOn m n (keys g) → (part' g ≡ part g) × (keys' g ≡ keys g)

parts-same : {m n : FontBodies} (part part' : List ℕ → Result (List Segment) Code) (keys keys' : List ℕ → List Key) → SameParts m n part part' keys keys'
    → (c : Option Composite) (d : Drawing) → AgreeOn m n (asked_by_parts keys c)
    → (with_parts part' c d ≡ with_parts part c d) × (asked_by_parts keys' c ≡ asked_by_parts keys c)
parts-same part part' keys keys' same None d h = (refl, refl)
parts-same part part' keys keys' same (Some c) d h =
    let base = same c.base (agree-part h (λ k i. in_first (keys c.base) (keys c.accent) k i)) in
    let accent = same c.accent (agree-part h (λ k i. in_second (keys c.base) (keys c.accent) k i)) in (
      ap (λ b. b >>= (λ base. part' c.accent >>= (λ accent. joined_outline d base accent))) base.0
          ∙ ap (λ t. part c.base >>= (λ base. t >>= (λ accent. joined_outline d base accent))) accent.0,
      ap (λ ks. ks ++ keys' c.accent) base.1 ∙ ap (λ ks. keys c.base ++ ks) accent.1,
    )

drawn-same : {m n : FontBodies} (part part' : List ℕ → Result (List Segment) Code) (keys keys' : List ℕ → List Key) → SameParts m n part part' keys keys'
    → (r : Option (Result Drawing Code)) → AgreeOn m n (asked_after keys r)
    → (drawn part' r ≡ drawn part r) × (asked_after keys' r ≡ asked_after keys r)
drawn-same part part' keys keys' same None h = (refl, refl)
drawn-same part part' keys keys' same (Some (Err fault)) h = (refl, refl)
drawn-same part part' keys keys' same (Some (Ok d)) h = parts-same part part' keys keys' same d.composite d h

within-same : (m n : FontBodies) (depth : ℕ)
    → SameParts m n (outline_within (own m) depth) (outline_within (own n) depth) (foot_within m depth) (foot_within n depth)
within-same m n zero g h =
    let e = own_same m n g h in
    (ap (drawn (λ part. Err F46)) e.0, e.1)
within-same m n (suc depth) g h =
    let e = own_same m n g (agree-part h (λ k i. in_first (foot m g) (asked_after (foot_within m depth) (own m g)) k i)) in
    let p = drawn-same (outline_within (own m) depth) (outline_within (own n) depth) (foot_within m depth) (foot_within n depth) (within-same m n depth)
    (own m g) (agree-part h (λ k i. in_second (foot m g) (asked_after (foot_within m depth) (own m g)) k i)) in (
      ap (drawn (outline_within (own n) depth)) e.0 ∙ p.0,
      ap (λ ks. ks ++ asked_after (foot_within n depth) (own n g)) e.1
          ∙ ap (λ r. foot m g ++ asked_after (foot_within n depth) r) e.0
          ∙ ap (λ ks. foot m g ++ ks) p.1,
    )

pub outline_same : OutlineFootprintLaw
unfolding outline outline_foot
outline_same m n g h = within-same m n 4 g h
