-- Composites: a base with an accent, to four levels.
use Rattle.std.specs.Prelude.{◌≡◌, true, ℕ, zero, suc, List, [], ◌∷◌, ◌++◌, Option, Some, None, Result, Ok, Err}
use Rattle.t1_frac.specs.Limits.{IsCoordinate, coordinate_sum, coordinate_difference}
use Rattle.t1_frac.specs.Outcome.{◌>>=◌}
use Rattle.t1_frac.specs.declared.fault.Code.{Code}
use Rattle.t1_frac.specs.declared.fault.Code.TheVariants.{F45, F46}
use Rattle.t1_code.specs.Encoding.{is_standard_name}
use Rattle.t1_run.specs.declared.outline.Composite.{Composite}
use Rattle.t1_run.specs.declared.outline.Point.{Point}
use Rattle.t1_run.specs.declared.outline.Segment.{Segment}
use Rattle.t1_run.specs.declared.outline.Segment.TheVariants.{Line, Curve}
use Rattle.t1_run.specs.Step.{moved}
use Rattle.t1_run.specs.Run.{FontBodies, Drawing, own}

-- Type 1 Font Format, Chapter 6 (seac): how far the accent's origin is moved, by the composite's own side bearing
abbrev pub accent_move : Point → Composite → Result Point Code
accent_move bearing c =
    coordinate_sum bearing.x c.adx >>= (λ right.
    coordinate_difference right c.asb >>= (λ x.
    Ok (record { x = x; y = c.ady })))

-- profile: a point moved
abbrev pub moved_point : Point → Point → Result Point Code
moved_point by p = moved p by.x by.y

-- profile: a segment moved, point by point
abbrev pub moved_segment : Point → Segment → Result Segment Code
moved_segment by (Line start end) =
    moved_point by start >>= (λ start'.
    moved_point by end >>= (λ end'.
    Ok (Line start' end')))
moved_segment by (Curve start first second end) =
    moved_point by start >>= (λ start'.
    moved_point by first >>= (λ first'.
    moved_point by second >>= (λ second'.
    moved_point by end >>= (λ end'.
    Ok (Curve start' first' second' end')))))

-- profile: an outline moved, segment by segment
abbrev pub moved_outline : Point → List Segment → Result (List Segment) Code
moved_outline by [] = Ok []
moved_outline by (s ∷ ss) = moved_segment by s >>= (λ s'. moved_outline by ss >>= (λ ss'. Ok (s' ∷ ss')))

-- Type 1 Font Format, Chapter 6 (seac): the own segments, the base's outline, and the accent's outline moved
abbrev pub joined_by : Composite → Drawing → List Segment → List Segment → Result (List Segment) Code
joined_by c d base accent =
    accent_move d.bearing c >>= (λ by.
    moved_outline by accent >>= (λ accent'.
    Ok (d.segments ++ base ++ accent')))

-- profile: a glyph without parts draws its own segments alone
abbrev pub joined_with : Option Composite → Drawing → List Segment → List Segment → Result (List Segment) Code
joined_with None d base accent = Ok d.segments
joined_with (Some c) d base accent = joined_by c d base accent

-- profile: the same, by the parts that the glyph's run found
unfoldable pub joined_outline : Drawing → List Segment → List Segment → Result (List Segment) Code
joined_outline d base accent = joined_with d.composite d base accent

-- profile, order of faults: the base's outline, then the accent's, then both joined
abbrev pub with_parts : (List ℕ → Result (List Segment) Code) → Option Composite → Drawing → Result (List Segment) Code
with_parts part None d = Ok d.segments
with_parts part (Some c) d = part c.base >>= (λ base. part c.accent >>= (λ accent. joined_outline d base accent))

-- profile, order of faults: its own run comes first; seac asks for its parts, so none of them is missing
abbrev pub drawn : (List ℕ → Result (List Segment) Code) → Option (Result Drawing Code) → Result (List Segment) Code
drawn part None = Err F45
drawn part (Some (Err fault)) = Err fault
drawn part (Some (Ok d)) = with_parts part d.composite d

-- profile, limits: a glyph's outline, where composites may nest so deep; a composite past that is F46
abbrev pub outline_within : (List ℕ → Option (Result Drawing Code)) → ℕ → List ℕ → Result (List Segment) Code
outline_within run zero glyph = drawn (λ part. Err F46) (run glyph)
outline_within run (suc depth) glyph = drawn (outline_within run depth) (run glyph)

-- profile, limits: composites nest four deep
unfoldable pub outline : FontBodies → List ℕ → Result (List Segment) Code
outline m glyph = outline_within (own m) 4 glyph

-- ---- parts by their names

-- Type 1 Font Format, Chapter 6 (seac): the base and the accent have codes of StandardEncoding
pub record HasStandardParts (c : Composite) : Type 0 where
  pub base : is_standard_name c.base ≡ true
  pub accent : is_standard_name c.accent ≡ true

-- ---- points within the limits

-- profile, limits: both coordinates of a point are within the limits
pub record IsPoint (p : Point) : Type 0 where
  pub x : IsCoordinate p.x
  pub y : IsCoordinate p.y

-- profile, limits: each point of the segment is within the limits of coordinates and denominators
abbrev pub IsWithin : Segment → Type 0
IsWithin (Line start end) = IsPoint start × IsPoint end
IsWithin (Curve start first second end) = IsPoint start × IsPoint first × IsPoint second × IsPoint end
