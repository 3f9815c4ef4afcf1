-- Glyphs that were judged in the order in which they were found.
use Rattle.std.proofs.Common.{◌≡◌, ℕ, Bool, true, false, cond, length, List, [], ◌∷◌, map, filter, refl, sym, ◌∙◌, ap, subst, inl, inr, Option, Some, None, is_some}
use Rattle.std.specs.Prelude.{Result, Ok, Err, ◌||◌, ◌&&◌}
use Rattle.std.specs.Borrow.{Bor}
use Rattle.std.specs.List.{AllByRecursion, list_any}
use Rattle.std.specs.Option.{option_or}
use Rattle.std.specs.Str.{bytes_eq}
use Rattle.std.proofs.Math.Bool.{and_comm}
use Rattle.std.proofs.lemmas.Bool.{or_right}
use Rattle.t1_frac.specs.declared.fault.Code.{Code}
use Rattle.t1_frac.specs.declared.fault.Fault.{Fault}
use Rattle.t1_frac.specs.declared.fault.Place.TheVariants as places
use Rattle.t1_frac.specs.declared.fault.Refusal.{Refusal}
use Rattle.t1_frac.specs.declared.fault.Refusal.TheVariants as refusals
use Rattle.t1_frac.specs.Outcome.{reported_at, ◌>>=◌, Refuses}
use Rattle.t1_code.specs.declared.command.Command.{Command}
use Rattle.t1_parts.specs.SourceParts.{SourceParts}
use Rattle.t1_run.specs.declared.outline.Segment.{Segment}
use Rattle.t1_run.specs.Composite.{outline_within}
use Rattle.t1_run.specs.Run.{FontBodies, Key, Subr, Glyph, Drawing, own}
use Rattle.t1_run.specs.Touched.{is_user, AreStale}
use Rattle.t1_afm.specs.declared.bbox.BBox.{BBox}
use Rattle.t1_afm.specs.Box.{drawn_box}
use Rattle.t1_font.specs.declared.glyph_metrics.GlyphMetrics.{GlyphMetrics}
use Rattle.t1_font.specs.Assembly.{file_check}
use Rattle.t1_font.specs.Bodies.{bodies, bodies_check}
use Rattle.t1_font.specs.KeptBodies.{SameBodies}
use Rattle.t1_font.specs.Glyphs.{Glyph as Reported, glyph_names, glyph_of, glyphs_by}
use Rattle.t1_font.specs.MeasuredGlyphs.{glyph_metrics}
use Rattle.t1_font.specs.MetricsByRuns.{glyph_metrics_among}
use Rattle.t1_font.specs.Runs.{NamedRun as KeptRun, drawing_in as run_of, own_among, AreTraced}
use Rattle.t1_font.specs.SourceChecks.{source_check}
use Rattle.t1_font.proofs.LengthLaws.{body_fault_reported}
use Rattle.t1_font.proofs.Measuring.{names-there, same-function}
use Rattle.t1_font.specs.declared.owned_key.OwnedKey.{OwnedKey}
use Rattle.t1_cache.specs.declared.records.Records.{Records}
use Rattle.t1_cache.specs.declared.records.Rerun.{Rerun}
use Rattle.t1_cache.specs.Edited.{stale}
use Rattle.t1_cache.specs.Laws.{AreDistinct}
use Rattle.t1_cache.specs.Renewed.{recorded_run}
use Rattle.t1_cache.specs.Users.{is_name_among, has_pair}
use Rattle.t1_font.specs.OwnedKeys.{key_of}
use Rattle.t1_cache.proofs.Counting.{found_count}
use Rattle.t1_cache.proofs.Lists.{all-weaken, all-at}
use Rattle.t1_font.proofs.Lookups.{bytes_tell}
use Rattle.t1_rerun.specs.declared.changing.Renewal.{Renewal}
use Rattle.t1_rerun.specs.Newest.{judged_in, newest_among, FirstIn}
use Rattle.t1_rerun.specs.Renewals.{rerun_names, HasBox, IsRenewal, IsMeasuredRerun}
use Rattle.t1_rerun.specs.Right.{has_glyph, IsEdit}
use Rattle.t1_rerun.proofs.Gathering.{box-measured, measured-all, measured-names, IsMeasured}
use Rattle.t1_cache.proofs.Filtering.{has-passing}
use Rattle.t1_rerun.proofs.Meeting.{all-among, glyph-among}
use Rattle.t1_rerun.proofs.Reaching.{all-some, has-names, is-faultless, is-refused, is-renewal, stale-names}

abbrev Runs : Type 0
Runs = List ℕ → Option (Result Drawing Code)

abbrev Outlines : Type 0
Outlines = List ℕ → Result (List Segment) Code

-- ---- lists

-- and of each name of a list of such names
all-within : (P : List ℕ → Type 0) (xs ys : List (List ℕ)) → AllByRecursion P xs
    → ((g : List ℕ) → list_any (bytes_eq g) ys ≡ true → list_any (bytes_eq g) xs ≡ true) → AllByRecursion P ys
all-within P xs ys all within = all-weaken (λ g. list_any (bytes_eq g) xs ≡ true) P (λ g h. all-at P xs all g h) ys (all-among ys xs within)

-- those of distinct names that pass are distinct
pub distinct-passing : (p : List ℕ → Bool) (xs : List (List ℕ)) → AreDistinct xs → AreDistinct (filter p xs)
distinct-passing p [] d = tt
distinct-passing p (x ∷ xs) d = one (p x) (distinct-passing p xs d.1) where
  one : (b : Bool) → AreDistinct (filter p xs) → AreDistinct (cond b (x ∷ filter p xs) (filter p xs))
  one true rest = (has-passing p x xs ∙ ap (λ t. t && p x) d.0, rest)
  one false rest = rest

-- those that have a body have it
pub bodies-there : (f : List ℕ → Option (List Command)) (xs : List (List ℕ)) → AllByRecursion (λ g. (b : List Command) × (f g ≡ Some b)) (filter (λ g. is_some (f g)) xs)
bodies-there f [] = tt
bodies-there f (x ∷ xs) = one (f x) refl (bodies-there f xs) where
  one : (o : Option (List Command)) → f x ≡ o → AllByRecursion (λ g. (b : List Command) × (f g ≡ Some b)) (filter (λ g. is_some (f g)) xs)
      → AllByRecursion (λ g. (b : List Command) × (f g ≡ Some b)) (cond (is_some (f x)) (x ∷ filter (λ g. is_some (f g)) xs) (filter (λ g. is_some (f g)) xs))
  one None e rest =
      subst (λ o. AllByRecursion (λ g. (b : List Command) × (f g ≡ Some b)) (cond (is_some o) (x ∷ filter (λ g. is_some (f g)) xs) (filter (λ g. is_some (f g)) xs))) (sym e) rest
  one (Some b) e rest =
      subst (λ o. AllByRecursion (λ g. (b : List Command) × (f g ≡ Some b)) (cond (is_some o) (x ∷ filter (λ g. is_some (f g)) xs) (filter (λ g. is_some (f g)) xs))) (sym e)
      ((b, e), rest)

-- names that were found, of which those that have a body are left
module _ (f : List ℕ → Option (List Command)) (keys : List (Bor (List ℕ))) (these : List (List ℕ)) (is : these ≡ filter (λ g. is_some (f g)) (map (λ name. name.now) keys)) where
  pub those-are : (g : List ℕ) → list_any (bytes_eq g) these ≡ (is_name_among (λ name. name.now) keys g && is_some (f g))
  those-are g =
      ap (list_any (bytes_eq g)) is ∙ has-passing (λ g. is_some (f g)) g (map (λ name. name.now) keys) ∙ ap (λ b. b && is_some (f g)) (sym (has-names keys g))

  pub those-distinct : AreDistinct (map (λ name. name.now) keys) → AreDistinct these
  those-distinct d = subst AreDistinct (sym is) (distinct-passing (λ g. is_some (f g)) (map (λ name. name.now) keys) d)

  pub those-there : AllByRecursion (λ g. (b : List Command) × (f g ≡ Some b)) these
  those-there = subst (AllByRecursion (λ g. (b : List Command) × (f g ≡ Some b))) (sym is) (bodies-there f (map (λ name. name.now) keys))

-- ---- glyphs in another order

-- what is reported of each glyph
abbrev IsReported : Runs → Outlines → List ℕ → Type 0
IsReported run o g = (t : Reported) × (reported_at (places.Glyph g) (glyph_of g (run g) (o g)) ≡ Ok t)

reported-each : (run : Runs) (o : Outlines) (names : List (List ℕ)) (ts : List Reported) → glyphs_by run o names ≡ Ok ts → AllByRecursion (IsReported run o) names
reported-each run o [] ts e = tt
reported-each run o (g ∷ names) ts e =
    one (reported_at (places.Glyph g) (glyph_of g (run g) (o g))) refl (glyphs_by run o names) refl (reported-each run o names) e
  where
    one : (r : Result Reported Fault) → reported_at (places.Glyph g) (glyph_of g (run g) (o g)) ≡ r → (rest : Result (List Reported) Fault) → glyphs_by run o names ≡ rest
        → ((xs : List Reported) → glyphs_by run o names ≡ Ok xs → AllByRecursion (IsReported run o) names)
        → (r >>= (λ x. rest >>= (λ xs. Ok (x ∷ xs)))) ≡ Ok ts → AllByRecursion (IsReported run o) (g ∷ names)
    one (Ok x) here (Ok xs) there others e = ((x, here), others xs there)
    one (Ok x) here (Err fault) there others e = absurd (cc)
    one (Err fault) here rest there others e = absurd (cc)

each-reported : (run : Runs) (o : Outlines) (names : List (List ℕ)) → AllByRecursion (IsReported run o) names → (ts : List Reported) × (glyphs_by run o names ≡ Ok ts)
each-reported run o [] all = ([], refl)
each-reported run o (g ∷ names) all =
    let rest = each-reported run o names all.1 in
    (all.0.0 ∷ rest.0, ap (λ r. r >>= (λ x. glyphs_by run o names >>= (λ xs. Ok (x ∷ xs)))) all.0.1 ∙ ap (λ r. r >>= (λ xs. Ok (all.0.0 ∷ xs))) rest.1)

-- glyphs that are among those that were measured are measured
measured-within : (run : Runs) (xs ys : List (List ℕ)) (ms : List GlyphMetrics) → glyph_metrics_among run xs ≡ Ok ms
    → ((g : List ℕ) → list_any (bytes_eq g) ys ≡ true → list_any (bytes_eq g) xs ≡ true) → (ns : List GlyphMetrics) × (glyph_metrics_among run ys ≡ Ok ns)
unfolding glyph_metrics_among
measured-within run xs ys ms e within = by (glyphs_by run (outline_within run 4) xs) refl e where
  by : (r : Result (List Reported) Fault) → glyphs_by run (outline_within run 4) xs ≡ r → (r >>= (λ ts. Ok (map glyph_metrics ts))) ≡ Ok ms
      → (ns : List GlyphMetrics) × ((glyphs_by run (outline_within run 4) ys >>= (λ ts. Ok (map glyph_metrics ts))) ≡ Ok ns)
  by (Ok ts) reported e =
      let again = each-reported run (outline_within run 4) ys
      (all-within (IsReported run (outline_within run 4)) xs ys (reported-each run (outline_within run 4) xs ts reported) within) in
      (map glyph_metrics again.0, ap (λ r. r >>= (λ ts. Ok (map glyph_metrics ts))) again.1)
  by (Err fault) reported e = absurd (cc)

has-box-name : (ms : List GlyphMetrics) (g : List ℕ) (box : Option BBox) → HasBox ms g box → list_any (bytes_eq g) (map (λ m. m.name) ms) ≡ true
has-box-name [] g box h = absurd h
has-box-name (m ∷ ms) g box (inl h) = ap (λ n. bytes_eq g n || list_any (bytes_eq g) (map (λ m. m.name) ms)) h.0 ∙ ap (λ b. b || list_any (bytes_eq g) (map (λ m. m.name) ms)) (bytes_tell.itself g)
has-box-name (m ∷ ms) g box (inr h) = or_right (bytes_eq g m.name) (list_any (bytes_eq g) (map (λ m. m.name) ms)) (has-box-name ms g box h)

box-there : (run : Runs) (ns : List GlyphMetrics) (g : List ℕ) (box : Option BBox) (s : List Segment) → AllByRecursion (IsMeasured run) ns
    → outline_within run 4 g ≡ Ok s → box ≡ drawn_box s → list_any (bytes_eq g) (map (λ m. m.name) ns) ≡ true → HasBox ns g box
box-there run [] g box s all draws is h = absurd (cc)
box-there run (n ∷ ns) g box s all draws is h = by (bytes_eq g n.name) refl h (box-there run ns g box s all.1 draws is) where
  by : (b : Bool) → bytes_eq g n.name ≡ b → (b || list_any (bytes_eq g) (map (λ m. m.name) ns)) ≡ true
      → (list_any (bytes_eq g) (map (λ m. m.name) ns) ≡ true → HasBox ns g box) → HasBox (n ∷ ns) g box
  by true e h others =
      let same : g ≡ n.name = bytes_tell.same g n.name e in
      let oks : ◌≡◌ {A = Result (List Segment) Code} (Ok s) (Ok all.0.segments) = sym draws ∙ ap (outline_within run 4) same ∙ all.0.draws in
      let lists : s ≡ all.0.segments = cc in
      inl (sym same, all.0.box ∙ ap drawn_box (sym lists) ∙ sym is)
  by false e h others = inr (others h)

-- the same boxes
boxes-again : (run : Runs) (xs ys : List (List ℕ)) (ms ns : List GlyphMetrics) → glyph_metrics_among run xs ≡ Ok ms → glyph_metrics_among run ys ≡ Ok ns
    → ((g : List ℕ) → list_any (bytes_eq g) xs ≡ list_any (bytes_eq g) ys) → (g : List ℕ) (box : Option BBox) → HasBox ms g box → HasBox ns g box
boxes-again run xs ys ms ns reported again same g box h =
    let before = measured-all run xs ms reported in
    let after = measured-all run ys ns again in
    let its = box-measured run ms g box before.0 h in
    box-there run ns g box its.1.0 after.0 its.1.1.1.0 its.1.1.1.1
    (ap (list_any (bytes_eq g)) after.1 ∙ sym (same g) ∙ ap (list_any (bytes_eq g)) (sym before.1) ∙ has-box-name ms g box h)

reruns-again : (run : Runs) (xs ys : List (List ℕ)) (ms ns : List GlyphMetrics) → glyph_metrics_among run xs ≡ Ok ms → glyph_metrics_among run ys ≡ Ok ns
    → ((g : List ℕ) → list_any (bytes_eq g) xs ≡ list_any (bytes_eq g) ys) → (runs : List KeptRun) (rs : List Rerun)
    → AllByRecursion (IsMeasuredRerun runs ms) rs → AllByRecursion (IsMeasuredRerun runs ns) rs
reruns-again run xs ys ms ns reported again same runs rs all =
    all-weaken (IsMeasuredRerun runs ms) (IsMeasuredRerun runs ns)
    (λ r is. record { run = is.run; box = boxes-again run xs ys ms ns reported again same r.name.items r.bbox is.box }) rs all

names-again : (run : Runs) (xs ys : List (List ℕ)) (ms ns : List GlyphMetrics) → glyph_metrics_among run xs ≡ Ok ms → glyph_metrics_among run ys ≡ Ok ns
    → ((g : List ℕ) → list_any (bytes_eq g) xs ≡ list_any (bytes_eq g) ys)
    → (g : List ℕ) → list_any (λ m. bytes_eq g m.name) ms ≡ list_any (λ m. bytes_eq g m.name) ns
names-again run xs ys ms ns reported again same g =
    measured-names g ms ∙ ap (list_any (bytes_eq g)) (measured-all run xs ms reported).1 ∙ same g
    ∙ ap (list_any (bytes_eq g)) (sym (measured-all run ys ns again).1) ∙ sym (measured-names g ns)

-- ---- judged in an order, or reported in another

refuses-alike : (X : Type 0) (refused : Refusal) (fault : Fault) → Refuses {Y = Unit {0}} refused (Err fault) → Refuses {Y = X} refused (Err fault)
refuses-alike X refusals.Memory fault h = tt
refuses-alike X (refusals.Fault other) fault h = let same : fault ≡ other = cc in ap Err same

pub judged-ok : (r s : Result (List GlyphMetrics) Fault) (ms : List GlyphMetrics) → judged_in r s ≡ Ok ms → r ≡ Ok ms
judged-ok (Ok xs) s ms e = e
judged-ok (Err fault) (Ok ys) ms e = absurd (cc)
judged-ok (Err fault) (Err first) ms e = absurd (cc)

-- a fault is the other order's, where that has one
pub judged-refused : (refusal : Refusal) (r s : Result (List GlyphMetrics) Fault)
    → ((ys : List GlyphMetrics) → s ≡ Ok ys → (ms : List GlyphMetrics) × (r ≡ Ok ms)) → Refuses refusal (judged_in r s) → Refuses refusal s
judged-refused refusals.Memory r s ok h = tt
judged-refused (refusals.Fault fault) (Ok xs) s ok h = absurd (cc)
judged-refused (refusals.Fault fault) (Err first) (Ok ys) ok h =
    let its = ok ys refl in
    let never : ◌≡◌ {A = Result (List GlyphMetrics) Fault} (Err first) (Ok its.0) = its.1 in
    absurd (cc)
judged-refused (refusals.Fault fault) (Err first) (Err other) ok h = h

-- a fault of one order, or the first of the other, is what both report
pub first-reported : {X Y : Type 0} (r : Result X Fault) (s : Result Y Fault) (refusal refused : Refusal) → Refuses refusal r → FirstIn refusal s refused → Refuses refused (judged_in r s)
first-reported {X} {Y} r s refusals.Memory refused h first = subst (λ x. Refuses x (judged_in r s)) (sym first) tt
first-reported {X} {Y} r (Ok there) (refusals.Fault fault) refused h first =
    subst (λ r. Refuses {Y = X} refused (judged_in {X = X} {Y = Y} r (Ok there))) (sym h) (refuses-alike X refused fault first)
first-reported {X} {Y} r (Err other) (refusals.Fault fault) refused h first =
    subst (λ r. Refuses {Y = X} refused (judged_in {X = X} {Y = Y} r (Err other))) (sym h) (refuses-alike X refused other first)

-- ---- an edit

pub bodies-fine : (s : SourceParts) → file_check s ≡ Ok tt → bodies_check s.items ≡ Ok tt
bodies-fine s file = by (bodies_check s.items) refl where
  by : (r : Result (Unit {0}) Fault) → bodies_check s.items ≡ r → r ≡ Ok tt
  by (Ok checked) e = refl
  by (Err fault) e =
      let never : ◌≡◌ {A = Result (Unit {0}) Fault} (Ok tt) (Err fault) = sym file ∙ body_fault_reported s fault e in
      absurd (cc)

lent : (names : List (List ℕ)) → (lent_names : List (Bor (List ℕ))) × (map (λ name. name.now) lent_names ≡ names)
lent [] = ([], refl)
lent (g ∷ names) = let rest = lent names in (record { ref_ptr = (0, 0); now = g } ∷ rest.0, ap (λ l. g ∷ l) rest.1)

-- a source whose file has no fault has the glyphs that have a body
module _ (s : SourceParts) (file : file_check s ≡ Ok tt) where
  abbrev its-bodies : FontBodies
  its-bodies = bodies s.items

  same-as-itself : SameBodies its-bodies its-bodies
  same-as-itself (Subr n) = refl
  same-as-itself (Glyph g) = refl

  have-bodies : AllByRecursion (λ g. (b : List Command) × (its-bodies.glyphs g ≡ Some b)) (glyph_names s.items)
  have-bodies =
      let names = lent (glyph_names s.items) in
      subst (AllByRecursion (λ g. (b : List Command) × (its-bodies.glyphs g ≡ Some b))) names.1
      (all-some its-bodies.glyphs names.0 (names-there its-bodies s.items names.0 tt (bodies-fine s file) same-as-itself names.1))

  pub has-its-body : (g : List ℕ) → has_glyph s g ≡ is_some (its-bodies.glyphs g)
  has-its-body g = by (its-bodies.glyphs g) refl (has_glyph s g) refl where
    by : (o : Option (List Command)) → its-bodies.glyphs g ≡ o → (t : Bool) → has_glyph s g ≡ t → t ≡ is_some o
    by (Some b) is t h = sym h ∙ glyph-among s.items g b is
    by None is false h = refl
    by None is true h =
        let there = all-at (λ x. (b : List Command) × (its-bodies.glyphs x ≡ Some b)) (glyph_names s.items) have-bodies g h in
        let never : ◌≡◌ {A = Option (List Command)} None (Some there.0) = sym is ∙ there.1 in
        absurd (cc)

module _ (edits : List OwnedKey) (old new : SourceParts) (records : Records) (m : FontBodies) (names : List (List ℕ)) (e : IsEdit edits old new records m names)
    (found : List ℕ → Bool) (reached : AreStale (bodies old.items) (map key_of edits) found)
    (these : List (List ℕ)) (these-are : (g : List ℕ) → list_any (bytes_eq g) these ≡ (found g && is_some (m.glyphs g))) where
  -- each glyph of the edited source has a body
  have : AllByRecursion (λ g. (b : List Command) × (m.glyphs g ≡ Some b)) names
  have =
      let its = lent names in
      subst (AllByRecursion (λ g. (b : List Command) × (m.glyphs g ≡ Some b))) its.1
      (all-some m.glyphs its.0 (names-there m new.items its.0 tt (bodies-fine new e.file) e.bodies (its.1 ∙ e.names)))

  abbrev ordered : List (List ℕ)
  ordered = filter found names

  has-name : (g : List ℕ) → list_any (bytes_eq g) names ≡ is_some (m.glyphs g)
  has-name g = by (m.glyphs g) refl (list_any (bytes_eq g) names) refl where
    by : (o : Option (List Command)) → m.glyphs g ≡ o → (t : Bool) → list_any (bytes_eq g) names ≡ t → t ≡ is_some o
    by (Some b) is t h = sym h ∙ ap (list_any (bytes_eq g)) e.names ∙ glyph-among new.items g b (sym (e.bodies (Glyph g)) ∙ is)
    by None is false h = refl
    by None is true h =
        let there = all-at (λ x. (b : List Command) × (m.glyphs x ≡ Some b)) names have g h in
        let never : ◌≡◌ {A = Option (List Command)} None (Some there.0) = sym is ∙ there.1 in
        absurd (cc)

  -- the same glyphs
  alike : (g : List ℕ) → list_any (bytes_eq g) these ≡ list_any (bytes_eq g) ordered
  alike g = these-are g ∙ and_comm (found g) (is_some (m.glyphs g)) ∙ ap (λ b. b && found g) (sym (has-name g)) ∙ sym (has-passing found g names)

  newest-alike : newest_among m these records ≡ newest_among m ordered records
  newest-alike = same-function _ _ (λ g. ap (λ b. option_or (cond b (own m g) None) (recorded_run records g)) (alike g))

  abbrev run : Runs
  run = newest_among m these records

  reported-ordered : (ns : List GlyphMetrics) → glyph_metrics_among run ordered ≡ Ok ns → glyph_metrics_among (newest_among m ordered records) ordered ≡ Ok ns
  reported-ordered ns reported = ap (λ r. glyph_metrics_among r ordered) (sym newest-alike) ∙ reported

  measured-ordered : (ms : List GlyphMetrics) → judged_in (glyph_metrics_among run these) (glyph_metrics_among run ordered) ≡ Ok ms
      → (ns : List GlyphMetrics) × (glyph_metrics_among run ordered ≡ Ok ns)
  measured-ordered ms reported =
      measured-within run these ordered ms (judged-ok (glyph_metrics_among run these) (glyph_metrics_among run ordered) ms reported) (λ g h. alike g ∙ h)

  pub no-fault : (ms : List GlyphMetrics) → judged_in (glyph_metrics_among run these) (glyph_metrics_among run ordered) ≡ Ok ms → source_check new ≡ Ok tt
  no-fault ms reported =
      let its = measured-ordered ms reported in
      is-faultless edits old new records m names e have found reached ordered refl its.0 (reported-ordered its.0 its.1)

  pub first-fault : (refusal : Refusal) → Refuses refusal (judged_in (glyph_metrics_among run these) (glyph_metrics_among run ordered)) → Refuses refusal (source_check new)
  first-fault refusal h =
      is-refused edits old new records m names e have found reached ordered refl refusal
      (subst (λ r. Refuses refusal (glyph_metrics_among r ordered)) newest-alike
      (judged-refused refusal (glyph_metrics_among run these) (glyph_metrics_among run ordered)
      (λ ns reported. measured-within run ordered these ns reported (λ g h. sym (alike g) ∙ h)) h))

  pub renewal-is : (ms : List GlyphMetrics) → judged_in (glyph_metrics_among run these) (glyph_metrics_among run ordered) ≡ Ok ms
      → (runs : List KeptRun) → ((g : List ℕ) → run_of runs g ≡ own_among m these g) → AreTraced runs → (renewal : Renewal)
      → AllByRecursion (IsMeasuredRerun runs ms) renewal.reruns.items
      → ((g : List ℕ) → list_any (bytes_eq g) (rerun_names renewal.reruns.items) ≡ list_any (λ x. bytes_eq g x.name) ms)
      → ((k : Key) (u : List ℕ) → has_pair renewal.leaves.items k u ≡ (found u && is_user k (recorded_run records u)))
      → ((k : Key) (u : List ℕ) → has_pair renewal.joins.items k u ≡ (list_any (bytes_eq u) these && is_user k (run_of runs u)))
      → IsRenewal (map key_of edits) old new renewal
  renewal-is ms reported runs runs-are traced renewal each named leaves joins =
      let its = measured-ordered ms reported in
      let first = judged-ok (glyph_metrics_among run these) (glyph_metrics_among run ordered) ms reported in
      is-renewal edits old new records m names e have found reached ordered refl its.0 (reported-ordered its.0 its.1) runs
      (λ g. runs-are g ∙ ap (λ b. cond b (own m g) None) (alike g)) traced renewal
      (reruns-again run these ordered ms its.0 first its.1 alike runs renewal.reruns.items each)
      (λ g. named g ∙ names-again run these ordered ms its.0 first its.1 alike g)
      leaves
      (λ k u. joins k u ∙ ap (λ b. b && is_user k (run_of runs u)) (alike u))

  -- as many as the stale glyphs
  pub as-many : AreDistinct these → length these ≡ length (stale old (map key_of edits) new)
  as-many distinct =
      found_count names these found (subst AreDistinct (sym e.names) e.distinct) distinct (λ g. alike g ∙ has-passing found g names)
      ∙ ap length (stale-names edits old new records m names e have found reached ordered refl)
