-- Outlines of composites, by those of their parts.
use Rattle.std.specs.Prelude.{ℕ, zero, suc, List, ◌++◌, Option, Result, Ok, Err}
use Rattle.t1_frac.specs.Outcome.{◌>>=◌}
use Rattle.t1_frac.specs.declared.fault.Code.{Code}
use Rattle.t1_frac.specs.declared.fault.Code.TheVariants.{F46}
use Rattle.t1_run.specs.declared.outline.Composite.{Composite}
use Rattle.t1_run.specs.declared.outline.Point.{Point}
use Rattle.t1_run.specs.declared.outline.Segment.{Segment}
use Rattle.t1_run.specs.Composite.{accent_move, moved_outline, outline_within}
use Rattle.t1_run.specs.Run.{Drawing}

-- word, limits: the outlines of the parts of a composite in which composites nest so deep; where they may not, F46
abbrev pub part_within : (List ℕ → Option (Result Drawing Code)) → ℕ → List ℕ → Result (List Segment) Code
part_within run zero = λ part. Err F46
part_within run (suc depth) = outline_within run depth

-- Type 1 Font Format, Chapter 6 (seac): the base's outline, and the accent's moved
abbrev pub parts_joined : Point → Composite → List Segment → List Segment → Result (List Segment) Code
parts_joined bearing c base accent =
    accent_move bearing c >>= (λ by.
    moved_outline by accent >>= (λ accent'.
    Ok (base ++ accent')))

-- word, order of faults: the base's outline, then the accent's, then both joined
abbrev pub both_parts : Point → Composite → Result (List Segment) Code → Result (List Segment) Code → Result (List Segment) Code
both_parts bearing c base accent = base >>= (λ b. accent >>= (λ a. parts_joined bearing c b a))

-- word: the parts of a composite with this side bearing, by the outlines of glyphs
abbrev pub parts_outline : (List ℕ → Result (List Segment) Code) → Point → Composite → Result (List Segment) Code
parts_outline part bearing c = both_parts bearing c (part c.base) (part c.accent)
