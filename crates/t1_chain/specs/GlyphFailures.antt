-- Glyphs whose own runs fail, and the parts of those whose runs don't.
use Rattle.std.specs.Prelude.{ℕ, List, Option, Some, None, Result, Ok, Err}
use Rattle.t1_frac.specs.declared.fault.Code.{Code}
use Rattle.t1_run.specs.declared.outline.Composite.{Composite}
use Rattle.t1_run.specs.Run.{Drawing}
use Rattle.t1_chain.specs.Failing.{Failure}

-- profile, faults: a glyph whose own run fails, and where and why
pub record GlyphFailure : Type 0 where
  pub glyph : List ℕ
  pub failure : Failure

-- Type 1 Font Format, Chapter 6 (seac): the parts that a run without a fault found
abbrev pub parts_found : Option (Result Drawing Code) → Option Composite
parts_found None = None
parts_found (Some (Err code)) = None
parts_found (Some (Ok drawing)) = drawing.composite
