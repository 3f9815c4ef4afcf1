-- The state of a run.
use Rattle.std.specs.Prelude.{ℕ, List, [], Option, None, pos}
use Rattle.t1_frac.specs.Fraction.{Fraction, whole}
use Rattle.t1_run.specs.declared.outline.Point.{Point}
use Rattle.t1_run.specs.declared.outline.Segment.{Segment}
use Rattle.t1_run.specs.declared.outline.Metric.{Metric}

-- Type 1 Font Format, Chapter 8 (flex): the current point before a flex, and the points recorded so far
pub record Flex : Type 0 where
  pub before : Point
  pub recorded : List Point

-- Type 1 Font Format, Chapter 6: what the commands of a charstring change
pub record State : Type 0 where
  -- the operand stack, its lowest value first
  pub stack : List Fraction
  -- what pop takes, the next one first
  pub results : List Fraction
  pub current : Point
  -- side bearing and width, where they are set
  pub metric : Option Metric
  pub flex : Option Flex
  pub segments : List Segment
  pub steps : ℕ
  -- the Subrs entered, ascending and each once
  pub entered : List ℕ

-- profile: the point whose coordinates are both 0
abbrev pub origin : Point
origin = record { x = whole (pos 0); y = whole (pos 0) }

-- profile: the state before the first word
abbrev pub initial : State
initial = record { stack = []; results = []; current = origin; metric = None; flex = None; segments = []; steps = 0; entered = [] }
