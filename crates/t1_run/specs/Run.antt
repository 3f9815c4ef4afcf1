-- The run of a glyph's own body.
use Rattle.std.specs.Prelude.{ℕ, zero, suc, nat_lt, ◌==◌, if◌then◌else◌, List, [], ◌∷◌, Option, Some, None, Result, Ok, Err, ℤ, pos, negsuc}
use Rattle.std.specs.Option.{ok_or, option_map}
use Rattle.t1_frac.specs.Outcome.{◌>>=◌}
use Rattle.t1_frac.specs.declared.fault.Code.{Code}
use Rattle.t1_frac.specs.declared.fault.Code.TheVariants.{F32, F33, F34, F35, F36, F44, F45}
use Rattle.t1_code.specs.Encoding.{standard_name}
use Rattle.t1_code.specs.declared.command.Command.{Command}
use Rattle.t1_run.specs.declared.outline.Accent.{Accent}
use Rattle.t1_run.specs.declared.outline.Composite.{Composite}
use Rattle.t1_run.specs.declared.outline.Metric.{Metric}
use Rattle.t1_run.specs.declared.outline.Point.{Point}
use Rattle.t1_run.specs.declared.outline.Segment.{Segment}
use Rattle.t1_run.specs.State.{State, initial}
use Rattle.t1_run.specs.Step.{Step, Next, Call, Back, End, Compose, Fault}
use Rattle.t1_run.specs.Words.{step}

-- profile: the compiled bodies of a font, by Subr number and by glyph name
pub record FontBodies : Type 0 where
  pub subrs : ℕ → Option (List Command)
  pub glyphs : List ℕ → Option (List Command)

-- profile: the font of these two maps
abbrev pub font : (ℕ → Option (List Command)) → (List ℕ → Option (List Command)) → FontBodies
font subrs glyphs = record { subrs = subrs; glyphs = glyphs }

-- profile: what may be asked of the maps
pub data Key : Type 0 where
  Subr : ℕ → Key
  Glyph : List ℕ → Key

-- profile: how a list of commands stops
pub data RunEnd : Type 0 where
  -- after its last word
  OutOfWords : State → RunEnd
  -- by return
  Returned : State → RunEnd
  -- by endchar, or by seac with the parts that it found
  Completed : Option Composite → State → RunEnd
  -- by a fault
  Failed : Code → RunEnd

-- profile: what a list of commands does from a state
abbrev pub Runner : Type 0
Runner = State → RunEnd

-- profile: what a call of a Subr does from there
abbrev pub Caller : Type 0
Caller = ℕ → Runner

-- ---- Subrs entered

-- profile: a number among others, ascending and each once
abbrev pub entered_with : ℕ → List ℕ → List ℕ
entered_with n [] = n ∷ []
entered_with n (m ∷ ms) = if nat_lt n m then n ∷ m ∷ ms else (if n == m then m ∷ ms else m ∷ entered_with n ms)

-- profile: a Subr that is entered is noted
abbrev pub entering : ℕ → State → State
entering n s = record s { entered = entered_with n s.entered }

-- ---- composites

-- Type 1 Font Format, Chapter 6 (seac): the glyph name of a code of StandardEncoding
abbrev pub standard_glyph : ℤ → Option (List ℕ)
standard_glyph (pos code) = if nat_lt code 256 then standard_name code else None
standard_glyph (negsuc code) = None

-- profile: F44 where the base's code, then the accent's, has no name; F45 where the font lacks the base, then the accent
abbrev pub composite_of : (List ℕ → Option (List Command)) → Accent → Result Composite Code
composite_of glyphs a =
    ok_or (standard_glyph a.base) F44 >>= (λ base.
    ok_or (standard_glyph a.accent) F44 >>= (λ accent.
    ok_or (glyphs base) F45 >>= (λ _.
    ok_or (glyphs accent) F45 >>= (λ _.
    Ok (record { base = base; accent = accent; asb = a.asb; adx = a.adx; ady = a.ady })))))

-- profile: the run ends with its composite, or by the composite's fault
abbrev pub composed : Result Composite Code → Runner
composed (Ok composite) s = Completed (Some composite) s
composed (Err fault) s = Failed fault

-- ---- words and calls

-- Type 1 Font Format, Chapter 6 (return): where a Subr is over, the caller goes on
abbrev pub go_on : Runner → RunEnd → RunEnd
go_on next (OutOfWords s) = next s
go_on next (Returned s) = next s
go_on next (Completed composite s) = Completed composite s
go_on next (Failed fault) = Failed fault

-- profile: what a word's step does to the run
abbrev pub act : FontBodies → Caller → Runner → Step → RunEnd
act m caller next (Next s) = next s
act m caller next (Call n s) = go_on next (caller n s)
act m caller next (Back s) = Returned s
act m caller next (End s) = Completed None s
act m caller next (Compose a s) = composed (composite_of m.glyphs a) s
act m caller next (Fault fault) = Failed fault

-- Type 1 Font Format, Chapter 6: the words one after another
abbrev pub run_words : FontBodies → Caller → List Command → Runner
run_words m caller [] s = OutOfWords s
run_words m caller (c ∷ cs) s = act m caller (run_words m caller cs) (step c s)

-- Type 1 Font Format, Chapter 6 (callsubr): a Subr's body, run by this runner; F32 where there is no such Subr
abbrev pub called : (List Command → Runner) → Option (List Command) → Caller
called run None n s = Failed F32
called run (Some body) n s = run body (entering n s)

-- profile, limits: a body that is called where no Subr more may be active
abbrev pub too_deep : List Command → Runner
too_deep body s = Failed F33

-- profile, limits: a call, where so many Subrs more may be active at once
abbrev pub call_within : FontBodies → ℕ → Caller
call_within m zero n s = called too_deep (m.subrs n) n s
call_within m (suc levels) n s = called (run_words m (call_within m levels)) (m.subrs n) n s

-- profile, limits: what a list of commands does, where so many Subrs may be active at once
abbrev pub runs : FontBodies → ℕ → List Command → Runner
runs m levels = run_words m (call_within m levels)

-- profile, limits: how a glyph's own body stops, in which ten Subrs may be active
unfoldable pub body_stop : FontBodies → List Command → RunEnd
body_stop m body = runs m 10 body initial

-- ---- what a run answers

-- profile: what a run answers: width, side bearing and segments, the parts of a composite, the Subrs entered, and the
-- steps made
pub record Drawing : Type 0 where
  pub width : Point
  pub bearing : Point
  pub segments : List Segment
  pub composite : Option Composite
  pub entered : List ℕ
  pub steps : ℕ

-- profile: what a run answers, with its number among the runs
pub record NumberedRun : Type 0 where
  pub drawing : Drawing
  pub serial : ℕ

-- profile: endchar and seac ask for the side bearing, so it is set where a run ends by them
abbrev pub drawing_of : Option Metric → Option Composite → State → Result Drawing Code
drawing_of None composite s = Err F36
drawing_of (Some metric) composite s =
    Ok (record {
      width = metric.width;
      bearing = metric.bearing;
      segments = s.segments;
      composite = composite;
      entered = s.entered;
      steps = s.steps;
    })

-- Type 1 Font Format, Chapter 6 (endchar): a glyph's own body ends by endchar or seac
abbrev pub outcome_of : RunEnd → Result Drawing Code
outcome_of (OutOfWords s) = Err F35
outcome_of (Returned s) = Err F34
outcome_of (Completed composite s) = drawing_of s.metric composite s
outcome_of (Failed fault) = Err fault

-- profile: what a body draws, or its first fault, where there is a body
abbrev pub own_of : FontBodies → Option (List Command) → Option (Result Drawing Code)
own_of m body = option_map (λ cs. outcome_of (body_stop m cs)) body

-- profile: what the own body of a glyph of the maps draws, or its first fault
unfoldable pub own : FontBodies → List ℕ → Option (Result Drawing Code)
own m glyph = own_of m (m.glyphs glyph)
