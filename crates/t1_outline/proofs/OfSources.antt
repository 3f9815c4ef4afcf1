-- What a source without a fault shows of a name.
use Rattle.std.proofs.Common.{◌≡◌, ℕ, Bool, true, false, List, [], ◌∷◌, refl, sym, ap, ◌∙◌, subst, Option, Some, None, inl, inr, is_some}
use Rattle.std.specs.Prelude.{Result, Ok, Err, ◌||◌}
use Rattle.std.specs.List.{list_any}
use Rattle.std.specs.Str.{bytes_eq}
use Rattle.std.proofs.lemmas.Bool.{cases_Bool}
use Rattle.t1_frac.specs.declared.fault.Code.{Code}
use Rattle.t1_frac.specs.declared.fault.Code.TheVariants.{F45}
use Rattle.t1_frac.specs.declared.fault.Fault.{Fault}
use Rattle.t1_frac.specs.declared.fault.Place.TheVariants as places
use Rattle.t1_frac.specs.Outcome.{reported_at, ◌>>=◌}
use Rattle.t1_frac.proofs.OutcomeLaws.{bind_ok, reported_ok}
use Rattle.t1_parts.specs.declared.item.Item.{Item}
use Rattle.t1_parts.specs.declared.item.Item.TheVariants.{Plain, Section, Subr, Glyph}
use Rattle.t1_parts.specs.Entries.{is_glyph}
use Rattle.t1_parts.specs.SourceParts.{SourceParts}
use Rattle.t1_code.specs.declared.command.Command.{Command}
use Rattle.t1_run.specs.declared.outline.Segment.{Segment}
use Rattle.t1_run.specs.Composite.{outline, outline_within}
use Rattle.t1_run.specs.Run.{FontBodies, Drawing, own}
use Rattle.t1_run.specs.Run as keys
use Rattle.t1_run.proofs.Asked.{bytes_same}
use Rattle.t1_run.proofs.Outlines.{outline_same}
use Rattle.t1_font.specs.Bodies.{bodies, glyph_among}
use Rattle.t1_font.specs.Glyphs.{Glyph as Reported, glyph_of, glyphs, glyphs_by, glyph_names}
use Rattle.t1_extent.specs.FoundRuns.{run_there}
use Rattle.t1_font.specs.SourceChecks.{source_check, source_glyphs}
use Rattle.t1_font.specs.Assembly.{file_check}
use Rattle.t1_font.proofs.GlyphsOfSource.{check-by-glyphs}
use Rattle.t1_font.proofs.Measuring.{own-same, same-function}
use Rattle.t1_outline.specs.Counting.{runs_within}
use Rattle.t1_outline.specs.Laws.{StoredOutlineLaw, GlyphShownLaw, OtherShownLaw}
use Rattle.t1_outline.specs.Shown.{glyph_outline, source_outline}
use Rattle.t1_outline.specs.Text.{outline_text}
use Rattle.t1_outline.proofs.Nesting.{missing, own_missing}
use Rattle.t1_outline.proofs.OfNames.{of_body, shows, runs_are, there_shown, absent_shown}

-- ---- what is shown, by the source

-- where a check has no fault, what comes after it is what counts
checked : {X : Type 0} (r : Result (Unit {0}) Fault) (next : Result X Fault) → r ≡ Ok tt → (r >>= λ _. next) ≡ next
checked r next e = ap (λ r. r >>= λ _. next) e

source-shows : (s : SourceParts) (name : List ℕ) → source_check s ≡ Ok tt → source_outline s name ≡ glyph_outline (bodies s.items) name
unfolding source_outline
source-shows s name e = checked (source_check s) (glyph_outline (bodies s.items) name) e

-- ---- fonts with the same bodies

pub stored : StoredOutlineLaw
stored m s name e same = record {
  text =
      let n = bodies s.items in
      let drawn : outline m name ≡ outline n name = sym (outline_same m n name (record { same = λ k i. same k })).0 in
      shows m name ∙ ap (λ b. of_body name b (outline m name)) (same (keys.Glyph name)) ∙ ap (of_body name (n.glyphs name)) drawn ∙ sym (shows n name)
      ∙ sym (source-shows s name e);
  runs =
      let n = bodies s.items in
      runs_are m name ∙ ap (λ run. runs_within run 4 name) (same-function (own m) (own n) (λ g. own-same m n g same)) ∙ sym (runs_are n name);
}

-- ---- a glyph of the source

among-names : (items : List Item) (g : List ℕ) → list_any (is_glyph g) items ≡ list_any (bytes_eq g) (glyph_names items)
among-names [] g = refl
among-names (Plain line ∷ items) g = among-names items g
among-names (Section before count after ∷ items) g = among-names items g
among-names (Subr number words closing ∷ items) g = among-names items g
among-names (Glyph name words closing ∷ items) g = ap (λ rest. bytes_eq g name || rest) (among-names items g)

-- a glyph that is reported has its outline
abbrev Drawn : (List ℕ → Result (List Segment) Code) → List ℕ → Type 0
Drawn outlines g = (segments : List Segment) × (outlines g ≡ Ok segments)

drew : (name : List ℕ) (run : Option (Result Drawing Code)) (drawn : Result (List Segment) Code) (reported : Reported) → glyph_of name run drawn ≡ Ok reported
    → (segments : List Segment) × (drawn ≡ Ok segments)
drew name run drawn reported e =
    let own = bind_ok (run_there run) _ reported e in
    let all = bind_ok drawn _ reported own.2 in
    (all.0, all.1)

each-drawn : (run : List ℕ → Option (Result Drawing Code)) (outlines : List ℕ → Result (List Segment) Code) (names : List (List ℕ)) (all : List Reported) (g : List ℕ)
    → glyphs_by run outlines names ≡ Ok all → list_any (bytes_eq g) names ≡ true → Drawn outlines g
each-drawn run outlines [] all g e h = absurd (cc)
each-drawn run outlines (name ∷ names) all g e h =
    let first = bind_ok (reported_at (places.Glyph name) (glyph_of name (run name) (outlines name))) _ all e in
    let rest = bind_ok (glyphs_by run outlines names) _ all first.2 in
    elim (cases_Bool (bytes_eq g name)) [
      | inl same ↦
          subst (Drawn outlines) (sym (bytes_same g name same))
          (drew name (run name) (outlines name) first.0 (reported_ok (places.Glyph name) (glyph_of name (run name) (outlines name)) first.0 first.1))
      | inr other ↦ each-drawn run outlines names rest.0 g rest.1 (rw other at h)
    ]

source-glyphs : (s : SourceParts) → source_check s ≡ Ok tt → (all : List Reported) × (glyphs (bodies s.items) (glyph_names s.items) ≡ Ok all)
source-glyphs s e =
    let found = bind_ok (source_glyphs s) _ tt (sym (check-by-glyphs s) ∙ e) in
    let made = bind_ok (file_check s) _ found.0 found.1 in
    (found.0, made.2)

-- an outline without a fault is that of a body
drawn-there : (m : FontBodies) (g : List ℕ) (segments : List Segment) → outline m g ≡ Ok segments → is_some (m.glyphs g) ≡ true
unfolding outline
drawn-there m g segments e = by (m.glyphs g) refl where
  by : (body : Option (List Command)) → m.glyphs g ≡ body → is_some body ≡ true
  by (Some body) f = refl
  by None f =
      let lost : outline_within (own m) 4 g ≡ Err F45 = missing (own m) 4 g (own_missing m g f) in
      let never : Err F45 ≡ Ok segments = sym lost ∙ e in
      absurd (cc)

pub glyph-shown : GlyphShownLaw
glyph-shown s name e h =
    let all = source-glyphs s e in
    let drawn = each-drawn (own (bodies s.items)) (outline (bodies s.items)) (glyph_names s.items) all.0 name all.1 (sym (among-names s.items name) ∙ h) in
    record {
      segments = drawn.0;
      drawn = drawn.1;
      shown = source-shows s name e ∙ there_shown (bodies s.items) name drawn.0 (outline_text drawn.0) (drawn-there (bodies s.items) name drawn.0 drawn.1) (ap (reported_at (places.Glyph name)) drawn.1) refl;
    }

-- ---- another name

or-first : (a b : Bool) → a ≡ true → (a || b) ≡ true
or-first true b h = refl
or-first false b h = absurd (cc)

no-body : (items : List Item) (g : List ℕ) → list_any (is_glyph g) items ≡ false → glyph_among items g ≡ None
no-body [] g h = refl
no-body (Plain line ∷ items) g h = no-body items g h
no-body (Section before count after ∷ items) g h = no-body items g h
no-body (Subr number words closing ∷ items) g h = no-body items g h
no-body (Glyph name words closing ∷ items) g h =
    elim (cases_Bool (bytes_eq g name)) [
      | inl same ↦
          let never : true ≡ false = sym (or-first (bytes_eq g name) (list_any (is_glyph g) items) same) ∙ h in
          absurd (cc)
      | inr other ↦ rw other (no-body items g (rw other at h))
    ]

pub other-shown : OtherShownLaw
other-shown s name e h =
    source-shows s name e ∙ absent_shown (bodies s.items) name (ap is_some (no-body s.items name h))
