-- Where the runs of glyphs' own bodies fail, and which of it is told.
use Rattle.std.specs.Prelude.{ℕ, ℤ, pos, negsuc, Bool, true, false, is_none, ◌&&◌, ◌==◌, if◌then◌else◌, Option, None, Some, List}
use Rattle.std.specs.List.{list_any}
use Rattle.std.specs.Option.{option_and_then}
use Rattle.std.specs.Result.{result_ok}
use Rattle.t1_frac.specs.declared.fault.Code.{Code}
use Rattle.t1_frac.specs.declared.fault.Code.TheVariants.{F32}
use Rattle.t1_parts.specs.declared.item.Item.{Item}
use Rattle.t1_parts.specs.declared.item.Item.TheVariants.{Subr}
use Rattle.t1_code.specs.Words.{commands}
use Rattle.t1_run.specs.Run.{FontBodies}
use Rattle.t1_font.specs.ToRun.{font_to_run}
use Rattle.t1_chain.specs.declared.failure.Detail.{Detail}
use Rattle.t1_chain.specs.declared.failure.Detail.TheVariants.{Number}
use Rattle.t1_chain.specs.Failing.{Failure, failure_in}

-- profile, faults: where and why the runs of glyphs' own bodies fail, by the glyphs' names
abbrev pub Failures : Type 0
Failures = List ℕ → Option Failure

-- profile, faults: where and why the run of a glyph's own body fails
abbrev pub glyph_failure : FontBodies → Failures
glyph_failure m g = option_and_then (failure_in m) (m.glyphs g)

-- profile, faults: whether a code says that a Subr is missing
abbrev pub is_missing_subr : Code → Bool
is_missing_subr F32 = true
is_missing_subr code = false

-- profile, faults: a number that isn't negative
abbrev pub natural : ℤ → Option ℕ
natural (pos n) = Some n
natural (negsuc n) = None

-- profile, faults: the number that a detail tells, where it may be a Subr's
abbrev pub subr_told : Detail → Option ℕ
subr_told (Number number) = natural number.num
subr_told detail = None

-- profile, faults: the number of the Subr that a run misses, where it fails for that
abbrev pub missing_subr : Failure → Option ℕ
missing_subr failure = if is_missing_subr failure.code then subr_told failure.detail else None

-- profile, faults: whether there is a number and it passes a test
abbrev pub is_some_and : (ℕ → Bool) → Option ℕ → Bool
is_some_and test None = false
is_some_and test (Some n) = test n

-- profile, faults: whether an item is the Subr of this number, and its words have a fault
abbrev pub is_faulty_subr : ℕ → Item → Bool
is_faulty_subr n (Subr number words closing) = n == number && is_none (result_ok (commands words))
is_faulty_subr n _ = false

-- profile, faults: a Subr whose words have a fault isn't there for a run; the faults of its words are told in place of that
abbrev pub told_failure : (ℕ → Bool) → Failure → Option Failure
told_failure faulty failure = if is_some_and faulty (missing_subr failure) then None else Some failure

-- profile, faults: the same, of those that are told
abbrev pub told_by : (ℕ → Bool) → FontBodies → Failures
told_by faulty m g = option_and_then (told_failure faulty) (glyph_failure m g)

-- profile, faults: where and why the runs of the glyphs of a source fail, by its items
abbrev pub failures_in : List Item → Failures
failures_in items = told_by (λ n. list_any (is_faulty_subr n) items) (font_to_run items)
