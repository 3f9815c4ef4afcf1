-- What a judged edit answers.
use Rattle.std.proofs.Common.{◌≡◌, ℕ, Bool, true, false, cond, length, List, [], ◌∷◌, map, filter, refl, sym, ◌∙◌, ap, subst, arith, Option, Some, None, is_some}
use Rattle.std.specs.Prelude.{Result, Ok, Err, ◌||◌, ◌&&◌, All, IsSome}
use Rattle.std.specs.Borrow.{Bor}
use Rattle.std.specs.List.{AllByRecursion, list_any}
use Rattle.std.specs.Str.{bytes_eq}
use Rattle.std.proofs.lemmas.List.Elements.{All-cons, All-head, All-nil, All-tail}
use Rattle.t1_frac.specs.declared.fault.Refusal.{Refusal}
use Rattle.t1_frac.specs.declared.fault.Refusal.TheVariants as refusals
use Rattle.t1_frac.specs.Outcome.{Refuses}
use Rattle.t1_code.specs.declared.command.Command.{Command}
use Rattle.t1_parts.specs.SourceParts.{SourceParts}
use Rattle.t1_run.specs.Run.{FontBodies, Key, Glyph}
use Rattle.t1_run.specs.Touched.{is_user, AreStale}
use Rattle.t1_font.specs.declared.glyph_metrics.GlyphMetrics.{GlyphMetrics}
use Rattle.t1_font.specs.Bodies.{bodies}
use Rattle.t1_font.specs.Glyphs.{glyph_names}
use Rattle.t1_font.specs.MetricsByRuns.{glyph_metrics_among}
use Rattle.t1_font.specs.Runs.{NamedRun as KeptRun, run_kept, drawing_in as run_of, own_among, AreTraced, Counts, IsNumberedAfter}
use Rattle.t1_font.specs.RunCounts.{counted}
use Rattle.t1_font.specs.SourceChecks.{source_check}
use Rattle.t1_font.specs.declared.owned_key.OwnedKey.{OwnedKey}
use Rattle.t1_cache.specs.declared.records.Records.{Records}
use Rattle.t1_cache.specs.declared.records.Rerun.{Rerun}
use Rattle.t1_cache.specs.Edited.{stale}
use Rattle.t1_cache.specs.Renewal.{kept_by}
use Rattle.t1_cache.specs.Recorded.{IsFromScratch}
use Rattle.t1_cache.specs.Renewed.{recorded_run}
use Rattle.t1_cache.specs.Users.{is_name_among, has_pair}
use Rattle.t1_font.specs.OwnedKeys.{key_of}
use Rattle.t1_rerun.specs.declared.changing.Renewal.{Renewal}
use Rattle.t1_rerun.specs.Newest.{newest_among}
use Rattle.t1_rerun.specs.Renewals.{rerun_names, IsLater, IsRenewal, IsMeasuredRerun}
use Rattle.t1_rerun.specs.Right.{IsEdit}
use Rattle.t1_rerun.proofs.Meeting.{recorded-own, stale-is}
use Rattle.t1_rerun.proofs.Gathering.{faultless, joins-are, names-gathered, refused, scratch-reruns}

-- ---- lists

pub all-some : (f : List ℕ → Option (List Command)) (names : List (Bor (List ℕ))) → All (λ name. IsSome (f name.now)) names
    → AllByRecursion (λ g. (b : List Command) × (f g ≡ Some b)) (map (λ name. name.now) names)
all-some f [] h = tt
all-some f (x ∷ names) h =
    (body (f x.now) refl (All-head (λ name. IsSome (f name.now)) x names h), all-some f names (All-tail (λ name. IsSome (f name.now)) x names h))
  where
    body : (o : Option (List Command)) → f x.now ≡ o → IsSome (f x.now) → (b : List Command) × (f x.now ≡ Some b)
    body None e h = let never : false ≡ true = ap is_some (sym e) ∙ h in absurd (cc)
    body (Some b) e h = (b, e)

pub some-all : (f : List ℕ → Option (List Command)) (names : List (Bor (List ℕ))) → AllByRecursion (λ g. (b : List Command) × (f g ≡ Some b)) (map (λ name. name.now) names)
    → All (λ name. IsSome (f name.now)) names
some-all f [] h = All-nil (λ name. IsSome (f name.now))
some-all f (x ∷ names) h = All-cons (λ name. IsSome (f name.now)) x names (ap is_some h.0.1) (some-all f names h.1)

-- of names that all have bodies, those that pass have them
pub all-passing : (P : List ℕ → Type 0) (p : List ℕ → Bool) (xs : List (List ℕ)) → AllByRecursion P xs → AllByRecursion P (filter p xs)
all-passing P p [] h = tt
all-passing P p (x ∷ xs) h = one (p x) (all-passing P p xs h.1) where
  one : (b : Bool) → AllByRecursion P (filter p xs) → AllByRecursion P (cond b (x ∷ filter p xs) (filter p xs))
  one true rest = (h.0, rest)
  one false rest = rest

all-map : {X Y : Type 0} (P : Y → Type 0) (f : X → Y) (xs : List X) → AllByRecursion (λ x. P (f x)) xs → AllByRecursion P (map f xs)
all-map P f [] h = tt
all-map P f (x ∷ xs) h = (h.0, all-map P f xs h.1)

pub length-map : {X Y : Type 0} (f : X → Y) (xs : List X) → length (map f xs) ≡ length xs
length-map f [] = refl
length-map f (x ∷ xs) = ap suc_of (length-map f xs) where
  suc_of : ℕ → ℕ
  suc_of n = Rattle.std.specs.Prelude.suc n

pub has-names : (names : List (Bor (List ℕ))) (g : List ℕ) → is_name_among (λ name. name.now) names g ≡ list_any (bytes_eq g) (map (λ name. name.now) names)
has-names [] g = refl
has-names (x ∷ names) g = ap (λ b. bytes_eq g x.now || b) (has-names names g)

-- ---- counts

pub counts-none : {T : Type 0} (runs old : ℕ) (r : Result T Refusal) (e : Refusal) → r ≡ Err e → e ≡ refusals.Memory → Counts runs old old r
counts-none runs old r e is memory = rw (is, memory) (0, omega arith, refl)

pub counts-all : {T : Type 0} (runs runs' old new : ℕ) (r : Result T Refusal) (e : Refusal) → r ≡ Err e → e ≡ refusals.Memory → new ≡ counted old runs → runs ≡ runs'
    → Counts runs' old new r
counts-all runs runs' old new r e is memory count same = rw (is, memory) (runs, omega (arith, same), count)

pub counts-same : {T U : Type 0} (runs runs' old new : ℕ) (r : Result T Refusal) (s : Result U Refusal) (e f : Refusal) → r ≡ Err e → s ≡ Err f → f ≡ e → runs ≡ runs'
    → Counts runs old new r → Counts runs' old new s
counts-same {T} {U} runs runs' old new r s e f is is' same equal h =
    subst (λ x. Counts runs' old new x) (sym is') (subst (λ x. Counts {T = U} runs' old new (Err x)) (sym same) (subst (λ n. Counts {T = U} n old new (Err e)) equal (go e (subst (λ x. Counts runs old new x) is h)))) where
      go : (e : Refusal) → Counts {T = T} runs old new (Err e) → Counts {T = U} runs old new (Err e)
      go refusals.Memory h = h
      go (refusals.Fault fault) h = h

-- ---- later runs

pub all-later : (count : ℕ) (runs : List KeptRun) (metrics : List GlyphMetrics) → ((g : List ℕ) → IsNumberedAfter count (run_kept runs g))
    → (rs : List Rerun) → AllByRecursion (IsMeasuredRerun runs metrics) rs → AllByRecursion (IsLater count) rs
all-later count runs metrics after [] h = tt
all-later count runs metrics after (r ∷ rs) h = (subst (IsNumberedAfter count) h.0.run (after r.name.items), all-later count runs metrics after rs h.1)

-- ---- an edit

module _ (edits : List OwnedKey) (old new : SourceParts) (records : Records) (m : FontBodies) (names : List (List ℕ)) (e : IsEdit edits old new records m names)
    (have : AllByRecursion (λ g. (b : List Command) × (m.glyphs g ≡ Some b)) names)
    (found : List ℕ → Bool) (reached : AreStale (bodies old.items) (map key_of edits) found) (some : List (List ℕ)) (some-are : some ≡ filter found names) where
  there : AllByRecursion (λ g. (b : List Command) × ((bodies new.items).glyphs g ≡ Some b)) (glyph_names new.items)
  there = subst (AllByRecursion (λ g. (b : List Command) × ((bodies new.items).glyphs g ≡ Some b))) e.names (go names have) where
    go : (xs : List (List ℕ)) → AllByRecursion (λ g. (b : List Command) × (m.glyphs g ≡ Some b)) xs → AllByRecursion (λ g. (b : List Command) × ((bodies new.items).glyphs g ≡ Some b)) xs
    go [] h = tt
    go (x ∷ xs) h = ((h.0.0, sym (e.bodies (Glyph x)) ∙ h.0.1), go xs h.1)

  is-stale : filter found (glyph_names new.items) ≡ stale old (map key_of edits) new
  is-stale = stale-is (map key_of edits) old new e.right.kept.glyphs e.edited e.right.kept.faultless found reached there

  -- the names that were judged are the stale ones
  pub stale-names : some ≡ stale old (map key_of edits) new
  stale-names = some-are ∙ ap (filter found) e.names ∙ is-stale

  stale-there : AllByRecursion (λ g. (b : List Command) × ((bodies new.items).glyphs g ≡ Some b)) (stale old (map key_of edits) new)
  stale-there =
      subst (AllByRecursion (λ g. (b : List Command) × ((bodies new.items).glyphs g ≡ Some b))) is-stale
      (all-passing (λ g. (b : List Command) × ((bodies new.items).glyphs g ≡ Some b)) found (glyph_names new.items) there)

  reported-stale : (metrics : List GlyphMetrics) → glyph_metrics_among (newest_among m some records) some ≡ Ok metrics
      → glyph_metrics_among (newest_among m (stale old (map key_of edits) new) records) (stale old (map key_of edits) new) ≡ Ok metrics
  reported-stale metrics reported = subst (λ l. glyph_metrics_among (newest_among m l records) l ≡ Ok metrics) stale-names reported

  pub is-faultless : (metrics : List GlyphMetrics) → glyph_metrics_among (newest_among m some records) some ≡ Ok metrics → source_check new ≡ Ok tt
  is-faultless metrics reported =
      faultless (map key_of edits) old new e.right.kept.glyphs e.edited e.right.kept.faultless records e.right.kept.from_scratch m e.bodies stale-there e.file metrics (reported-stale metrics reported)

  pub is-refused : (refusal : Refusal) → Refuses refusal (glyph_metrics_among (newest_among m some records) some) → Refuses refusal (source_check new)
  is-refused refusal h =
      refused (map key_of edits) old new e.right.kept.glyphs e.edited e.right.kept.faultless records e.right.kept.from_scratch m e.bodies stale-there e.file refusal
      (subst (λ l. Refuses refusal (glyph_metrics_among (newest_among m l records) l)) stale-names h)

  pub is-renewal : (metrics : List GlyphMetrics) → glyph_metrics_among (newest_among m some records) some ≡ Ok metrics
      → (runs : List KeptRun) → ((g : List ℕ) → run_of runs g ≡ own_among m some g) → AreTraced runs → (renewal : Renewal)
      → AllByRecursion (IsMeasuredRerun runs metrics) renewal.reruns.items
      → ((g : List ℕ) → list_any (bytes_eq g) (rerun_names renewal.reruns.items) ≡ list_any (λ x. bytes_eq g x.name) metrics)
      → ((k : Key) (u : List ℕ) → has_pair renewal.leaves.items k u ≡ (found u && is_user k (recorded_run records u)))
      → ((k : Key) (u : List ℕ) → has_pair renewal.joins.items k u ≡ (list_any (bytes_eq u) some && is_user k (run_of runs u)))
      → IsRenewal (map key_of edits) old new renewal
  is-renewal metrics reported runs runs-are traced renewal each named leaves joins = record {
    found = found;
    reached = reached;
    scratch = all-map (IsFromScratch (bodies new.items)) kept_by renewal.reruns.items
        (scratch-reruns (map key_of edits) old new e.right.kept.glyphs e.edited e.right.kept.faultless records e.right.kept.from_scratch m e.bodies stale-there runs runs-stale traced metrics (reported-stale metrics reported) renewal.reruns.items each);
    names = names-gathered (map key_of edits) old new e.right.kept.glyphs e.edited e.right.kept.faultless records e.right.kept.from_scratch m e.bodies stale-there runs runs-stale traced metrics (reported-stale metrics reported) renewal.reruns.items named;
    leaves = λ k u. leaves k u ∙ ap (λ r. found u && is_user k r) (recorded-own (map key_of edits) old new e.right.kept.glyphs e.edited e.right.kept.faultless records e.right.kept.from_scratch u);
    joins = λ k u. joins k u ∙ ap (λ r. list_any (bytes_eq u) some && is_user k r) (runs-are u)
        ∙ ap (λ l. list_any (bytes_eq u) l && is_user k (own_among m l u)) stale-names
        ∙ joins-are (map key_of edits) old new e.right.kept.glyphs e.edited e.right.kept.faultless records e.right.kept.from_scratch m e.bodies stale-there found is-stale k u;
  } where
    runs-stale : (g : List ℕ) → run_of runs g ≡ own_among m (stale old (map key_of edits) new) g
    runs-stale g = runs-are g ∙ ap (λ l. own_among m l g) stale-names
