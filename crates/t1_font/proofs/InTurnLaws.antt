-- What is reported of a glyph at its turn.
use Rattle.std.proofs.Common.{append-nil, ◌≡◌, ◌∙◌, ℕ, Bool, true, false, cond, List, [], ◌∷◌, ◌++◌, map, Option, Some, None, is_some, refl, sym, ap, subst, inl, inr}
use Rattle.std.specs.Prelude.{Result, Ok, Err, ◌||◌, ◌&&◌}
use Rattle.std.specs.List.{list_any}
use Rattle.std.specs.Option.{option_or}
use Rattle.std.specs.Str.{bytes_eq}
use Rattle.std.proofs.lemmas.Bool.{cases_Bool}
use Rattle.std.proofs.lemmas.List.Folds.{list_any-append}
use Rattle.std.proofs.lemmas.List.{append_assoc}
use Rattle.t1_frac.specs.declared.fault.Code.{Code}
use Rattle.t1_frac.specs.declared.fault.Fault.{Fault}
use Rattle.t1_frac.specs.declared.fault.Refusal.{Refusal}
use Rattle.t1_frac.specs.declared.fault.Refusal.TheVariants as refusals
use Rattle.t1_frac.specs.declared.fault.Place.TheVariants as places
use Rattle.t1_frac.specs.Outcome.{◌>>=◌, reported_at, Refuses}
use Rattle.t1_run.specs.Run.{Drawing, font, own}
use Rattle.t1_afm.specs.Box.{drawn_box}
use Rattle.t1_font.specs.declared.glyph_metrics.GlyphMetrics.{GlyphMetrics}
use Rattle.t1_parts.specs.declared.item.Item.{Item}
use Rattle.t1_parts.specs.declared.item.Item.TheVariants.{Plain, Section, Subr, Glyph}
use Rattle.t1_source.specs.Editing.{is_subr_entry}
use Rattle.t1_code.specs.declared.command.Command.{Command}
use Rattle.t1_code.specs.Words.{commands}
use Rattle.t1_font.specs.declared.in_turn.Row.{Row}
use Rattle.t1_font.specs.declared.in_turn.Row.TheVariants as rows
use Rattle.t1_font.specs.Bodies.{subr_among}
use Rattle.t1_font.specs.Glyphs.{glyph_names, name_in}
use Rattle.t1_font.specs.InTurn.{may_be_part, staying, AreRows, IsRow, RunsAs, SubrsStandFirst}
use Rattle.t1_font.specs.ToRun.{commands_or_none, font_to_run, glyph_to_run}
use Rattle.t1_font.specs.MeasuredGlyphs.{glyph_metrics_at}
use Rattle.t1_font.specs.MetricsByRuns.{glyph_metrics_among, glyph_metrics_by}
use Rattle.t1_font.proofs.Compiling.{same-maps}
use Rattle.t1_font.proofs.Gathering.{put_after, one-reported, one-refused}
use Rattle.t1_run.proofs.Asked.{bytes_same}
use Rattle.t1_font.proofs.Measuring.{own-same}
use Rattle.std.proofs.Math.Bool.{or-false}

-- of a run that has a fault, the fault
pub faulty-metrics : (run : List ℕ → Option (Result Drawing Code)) (name : List ℕ) (code : Code) → run name ≡ Some (Err code) → glyph_metrics_at run name ≡ Err code
unfolding glyph_metrics_at
faulty-metrics run name code h = rw h refl

-- of one without parts, its own metrics
pub plain-metrics : (run : List ℕ → Option (Result Drawing Code)) (name : List ℕ) (d : Drawing) (glyph : GlyphMetrics) → run name ≡ Some (Ok d) → d.composite ≡ None
    → glyph_metrics_by name d (drawn_box d.segments) ≡ Ok glyph → glyph_metrics_at run name ≡ Ok glyph
unfolding glyph_metrics_at
plain-metrics run name d glyph h none by = let e = rw none at by in rw (h, none) e

-- ---- one glyph more

pub rows-more : (run : List ℕ → Option (Result Drawing Code)) (gs : List (List ℕ)) (name : List ℕ) (rows : List Row) (row : Row)
    → AreRows run gs rows → IsRow run name row → AreRows run (gs ++ name ∷ []) (rows ++ row ∷ [])
rows-more run [] name [] row are is = (is, tt)
rows-more run [] name (other ∷ rows) row are is = absurd are
rows-more run (g ∷ gs) name [] row are is = absurd are
rows-more run (g ∷ gs) name (other ∷ rows) row are is = (are.0, rows-more run gs name rows row are.1 is)

-- what stays among some names with one more
pub runs-more : (run : List ℕ → Option (Result Drawing Code)) (gs : List (List ℕ)) (name g : List ℕ) (old new : Option (Result Drawing Code))
    → old ≡ staying run gs g → new ≡ cond (bytes_eq g name && may_be_part name (run name)) (run name) old → new ≡ staying run (gs ++ name ∷ []) g
runs-more run gs name g old new before after =
    elim (cases_Bool (bytes_eq g name)) [
      | inl same ↦
          let is = bytes_same g name same in
          after ∙ here (bytes_eq g name) (may_be_part name (run name)) (list_any (bytes_eq g) gs) (run name) old same (before ∙ ap (λ x. cond (list_any (bytes_eq g) gs && may_be_part x (run x)) (run x) None) is)
          ∙ sym (ap (λ b. cond (b && may_be_part g (run g)) (run g) None) (list_any-append (bytes_eq g) gs (name ∷ [])) ∙ ap (λ x. cond ((list_any (bytes_eq g) gs || (bytes_eq g name || false)) && may_be_part x (run x)) (run x) None) is)
      | inr other ↦
          after ∙ ap (λ b. cond (b && may_be_part name (run name)) (run name) old) other ∙ before
          ∙ sym (ap (λ b. cond (b && may_be_part g (run g)) (run g) None) (list_any-append (bytes_eq g) gs (name ∷ []) ∙ ap (λ b. list_any (bytes_eq g) gs || (b || false)) other ∙ or-false (list_any (bytes_eq g) gs)))
    ]
  where
    here : {X : Type 0} (same stay any : Bool) (x old : Option X) → same ≡ true → old ≡ cond (any && stay) x None → cond (same && stay) x old ≡ cond ((any || (same || false)) && stay) x None
    here true true true x old e h = refl
    here true true false x old e h = refl
    here true false true x old e h = h
    here true false false x old e h = h
    here false stay any x old e h = absurd (cc)

-- a name among those of an item and of the items after it
pub name-taken : (g : List ℕ) (b : Bool) (item : Item) (rest : List Item)
    → ((b || list_any (bytes_eq g) (name_in item)) || list_any (bytes_eq g) (glyph_names rest)) ≡ (b || list_any (bytes_eq g) (glyph_names (item ∷ rest)))
name-taken g true item rest = refl
name-taken g false item rest = sym (list_any-append (bytes_eq g) (name_in item) (glyph_names rest))

-- ---- the items that are left

-- each glyph has something to be run
pub names-known : (items : List Item) (g : List ℕ) → list_any (bytes_eq g) (glyph_names items) ≡ is_some (glyph_to_run items g)
names-known [] g = refl
names-known (Plain line ∷ items) g = names-known items g
names-known (Section before count after ∷ items) g = names-known items g
names-known (Subr number words closing ∷ items) g = names-known items g
names-known (Glyph name words closing ∷ items) g =
    ap (λ b. bytes_eq g name || b) (names-known items g) ∙ either (bytes_eq g name) (commands_or_none (commands words)) (glyph_to_run items g)
  where
    either : {X : Type 0} (b : Bool) (x : X) (r : Option X) → (b || is_some r) ≡ is_some (cond b (Some x) r)
    either true x r = refl
    either false x r = refl

no-subr : (items : List Item) (n : ℕ) → list_any is_subr_entry items ≡ false → subr_among items n ≡ None
no-subr [] n h = refl
no-subr (Plain line ∷ items) n h = no-subr items n h
no-subr (Section before count after ∷ items) n h = no-subr items n h
no-subr (Subr number words closing ∷ items) n h = absurd (cc)
no-subr (Glyph name words closing ∷ items) n h = no-subr items n h

all-there : {X : Type 0} (r : Option X) (rest all : Option X) → rest ≡ None → option_or r rest ≡ all → r ≡ all
all-there None rest all none e = sym none ∙ e
all-there (Some x) rest all none e = e

-- where a glyph stands, all Subrs were compiled
pub runs-as : (items : List Item) (item : Item) (rest : List Item) (subrs : ℕ → Option (List Command)) → SubrsStandFirst (item ∷ rest)
    → ((n : ℕ) → option_or (subrs n) (subr_among (item ∷ rest) n) ≡ subr_among items n)
    → RunsAs item (own (font_to_run items)) (font subrs (glyph_to_run items))
runs-as items (Plain line) rest subrs first left = tt
runs-as items (Section before count after) rest subrs first left = tt
runs-as items (Subr number words closing) rest subrs first left = tt
runs-as items (Glyph name words closing) rest subrs first left =
    let none = first [] rest name words closing refl in
    own-same (font_to_run items) (font subrs (glyph_to_run items)) name
    (same-maps (font_to_run items) (font subrs (glyph_to_run items))
    (λ n. sym (all-there (subrs n) (subr_among rest n) (subr_among items n) (no-subr rest n none) (left n)))
    (λ g. refl))

-- the first fault of two checks is that of the first, where it has one
pub refused-first : (refused : Refusal) (r next : Result (Unit {0}) Fault) → Refuses refused r → Refuses refused (r >>= (λ _. next))
refused-first refusals.Memory r next h = tt
refused-first (refusals.Fault fault) (Ok u) next h = absurd (cc)
refused-first (refusals.Fault fault) (Err e) next h = h

-- ---- all that was reported, measured

-- what is measured so far stands in front of what is measured of the glyphs that are left
abbrev pub RowsLeft : (List ℕ → Option (Result Drawing Code)) → List (List ℕ) → List GlyphMetrics → List Row → Type 0
RowsLeft run names metrics rows = (left : List (List ℕ)) × AreRows run left rows × (put_after metrics (glyph_metrics_among run left) ≡ glyph_metrics_among run names)

after-none : (r : Result (List GlyphMetrics) Fault) → put_after [] r ≡ r
after-none (Ok rest) = refl
after-none (Err fault) = refl

pub all-left : (run : List ℕ → Option (Result Drawing Code)) (names : List (List ℕ)) (rows : List Row) → AreRows run names rows → RowsLeft run names [] rows
all-left run names rows are = (names, are, after-none (glyph_metrics_among run names))

pub one-measured : (run : List ℕ → Option (Result Drawing Code)) (names : List (List ℕ)) (metrics : List GlyphMetrics) (row : Row) (rows : List Row) (glyph : GlyphMetrics)
    → RowsLeft run names metrics (row ∷ rows) → ((name : List ℕ) → IsRow run name row → reported_at (places.Glyph name) (glyph_metrics_at run name) ≡ Ok glyph)
    → RowsLeft run names (metrics ++ glyph ∷ []) rows
one-measured run names metrics row rows glyph ([], are, is) reported = absurd are
one-measured run names metrics row rows glyph (name ∷ left, are, is) reported =
    (left, are.1, one-reported run metrics name left glyph (reported name are.0) ∙ is)

-- those that are measured already
pub measured-first : (run : List ℕ → Option (Result Drawing Code)) (names : List (List ℕ)) (metrics measured : List GlyphMetrics) (rest : List Row)
    → RowsLeft run names metrics (map (λ glyph. rows.Measured glyph) measured ++ rest) → RowsLeft run names (metrics ++ measured) rest
measured-first run names metrics [] rest h = subst (λ l. RowsLeft run names l rest) (sym (append-nil metrics)) h
measured-first run names metrics (glyph ∷ measured) rest h =
    subst (λ l. RowsLeft run names l rest) (append_assoc metrics (glyph ∷ []) measured)
    (measured-first run names (metrics ++ glyph ∷ []) measured rest
    (one-measured run names metrics (rows.Measured glyph) (map (λ glyph. rows.Measured glyph) measured ++ rest) glyph h (λ name. λ row. ap (reported_at (places.Glyph name)) row)))

pub one-faulty : (run : List ℕ → Option (Result Drawing Code)) (names : List (List ℕ)) (metrics : List GlyphMetrics) (row : Row) (rows : List Row) (refused : Refusal)
    → RowsLeft run names metrics (row ∷ rows) → ((name : List ℕ) → IsRow run name row → Refuses refused (reported_at (places.Glyph name) (glyph_metrics_at run name)))
    → Refuses refused (glyph_metrics_among run names)
one-faulty run names metrics row rows refused ([], are, is) reported = absurd are
one-faulty run names metrics row rows refused (name ∷ left, are, is) reported =
    subst (Refuses refused) is (one-refused run metrics name left refused (reported name are.0))

none-among : (run : List ℕ → Option (Result Drawing Code)) → glyph_metrics_among run [] ≡ Ok []
unfolding glyph_metrics_among
none-among run = refl

pub none-left : (run : List ℕ → Option (Result Drawing Code)) (names : List (List ℕ)) (metrics : List GlyphMetrics) → RowsLeft run names metrics [] → glyph_metrics_among run names ≡ Ok metrics
none-left run names metrics ([], are, is) = sym is ∙ ap (put_after metrics) (none-among run) ∙ ap Ok (append-nil metrics)
none-left run names metrics (name ∷ left, are, is) = absurd are
