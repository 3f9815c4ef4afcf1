-- What is shown of a name of a font, by its body and its outline.
use Rattle.std.proofs.Common.{◌≡◌, ℕ, true, false, cond, List, refl, sym, ap, ◌∙◌, subst, Option, Some, None, is_some}
use Rattle.std.specs.Prelude.{Result, Ok, Err}
use Rattle.t1_frac.specs.declared.fault.Code.{Code}
use Rattle.t1_frac.specs.declared.fault.Fault.{Fault as TheFault}
use Rattle.t1_frac.specs.declared.fault.Place.TheVariants as places
use Rattle.t1_frac.specs.declared.fault.Refusal.{Refusal}
use Rattle.t1_frac.specs.declared.fault.Refusal.TheVariants.{Fault, Memory}
use Rattle.t1_frac.specs.Outcome.{reported_at, ◌>>=◌, Refuses}
use Rattle.t1_code.specs.declared.command.Command.{Command}
use Rattle.t1_run.specs.declared.outline.Segment.{Segment}
use Rattle.t1_run.specs.Composite.{outline}
use Rattle.t1_run.specs.Run.{FontBodies, own}
use Rattle.t1_font.specs.RunCounts.{counted}
use Rattle.t1_outline.specs.Counting.{outline_runs, runs_within}
use Rattle.t1_outline.specs.Shown.{glyph_outline}
use Rattle.t1_outline.specs.Text.{outline_text}
use Rattle.t1_outline.proofs.Nesting.{own_missing, none_run}

-- the text of an outline that is reported
abbrev pub text_of : Result (List Segment) TheFault → Result (Option (List ℕ)) TheFault
text_of reported = reported >>= λ segments. Ok (Some (outline_text segments))

-- what is shown, of a body and an outline
abbrev pub of_body : List ℕ → Option (List Command) → Result (List Segment) Code → Result (Option (List ℕ)) TheFault
of_body name body drawn = cond (is_some body) (text_of (reported_at (places.Glyph name) drawn)) (Ok None)

pub shows : (m : FontBodies) (name : List ℕ) → glyph_outline m name ≡ of_body name (m.glyphs name) (outline m name)
unfolding glyph_outline
shows m name = refl

pub runs_are : (m : FontBodies) (name : List ℕ) → outline_runs m name ≡ runs_within (own m) 4 name
unfolding outline_runs
runs_are m name = refl

-- ---- a glyph that is there

there_shows : (m : FontBodies) (name : List ℕ) → is_some (m.glyphs name) ≡ true → glyph_outline m name ≡ text_of (reported_at (places.Glyph name) (outline m name))
there_shows m name e = shows m name ∙ ap (λ b. cond b (text_of (reported_at (places.Glyph name) (outline m name))) (Ok None)) e

text_shown : (reported : Result (List Segment) TheFault) (segments : List Segment) (text : List ℕ) → reported ≡ Ok segments → text ≡ outline_text segments
    → text_of reported ≡ Ok (Some text)
text_shown reported segments text e f = ap text_of e ∙ ap (λ t. Ok (Some t)) (sym f)

pub there_shown : (m : FontBodies) (name : List ℕ) (segments : List Segment) (text : List ℕ) → is_some (m.glyphs name) ≡ true
    → reported_at (places.Glyph name) (outline m name) ≡ Ok segments → text ≡ outline_text segments → glyph_outline m name ≡ Ok (Some text)
there_shown m name segments text there e f = there_shows m name there ∙ text_shown (reported_at (places.Glyph name) (outline m name)) segments text e f

text_refused : (refused : Refusal) (reported : Result (List Segment) TheFault) → Refuses refused reported → Refuses refused (text_of reported)
text_refused Memory reported h = tt
text_refused (Fault fault) (Ok segments) h = absurd (cc)
text_refused (Fault fault) (Err e) h = cc

pub there_refused : (m : FontBodies) (name : List ℕ) (refused : Refusal) → is_some (m.glyphs name) ≡ true
    → Refuses refused (reported_at (places.Glyph name) (outline m name)) → Refuses refused (glyph_outline m name)
there_refused m name refused there h =
    subst (Refuses refused) (sym (there_shows m name there)) (text_refused refused (reported_at (places.Glyph name) (outline m name)) h)

-- ---- a glyph that isn't there

none_there : {X : Type 0} (body : Option X) → is_some body ≡ false → body ≡ None
none_there None e = refl
none_there (Some x) e = absurd (cc)

pub absent_shown : (m : FontBodies) (name : List ℕ) → is_some (m.glyphs name) ≡ false → glyph_outline m name ≡ Ok None
absent_shown m name e = shows m name ∙ ap (λ b. cond b (text_of (reported_at (places.Glyph name) (outline m name))) (Ok None)) e

pub absent_counted : (m : FontBodies) (name : List ℕ) (count : ℕ) → is_some (m.glyphs name) ≡ false → count ≡ counted count (outline_runs m name)
absent_counted m name count e =
    ap (counted count) (sym (runs_are m name ∙ none_run (own m) 4 name (own_missing m name (none_there (m.glyphs name) e))))
