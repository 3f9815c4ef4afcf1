-- Runs that are taken out, one after another.
use Rattle.std.proofs.Common.{◌≡◌, ◌<◌, ◌+◌, ℕ, zero, suc, Bool, true, false, cond, List, [], ◌∷◌, ◌++◌, length, take, get_or, refl, sym, ◌∙◌, ap, inl, inr, arith, Option, Some, None}
use Rattle.std.specs.Prelude.{Result, Ok, Err, ◌||◌}
use Rattle.std.specs.List.{AllByRecursion, list_any}
use Rattle.std.specs.Str.{bytes_eq}
use Rattle.std.proofs.Math.Bool.{or-false, or_assoc}
use Rattle.std.proofs.lemmas.List.Folds.{list_any_more}
use Rattle.std.proofs.lemmas.Slice.Eq.{bytes_eq-Decides}
use Rattle.t1_frac.specs.declared.fault.Code.{Code}
use Rattle.t1_extent.specs.Kept.{TracedRun}
use Rattle.t1_font.specs.declared.glyph_metrics.GlyphMetrics.{GlyphMetrics}
use Rattle.t1_font.specs.Runs.{NamedRun, run_kept}
use Rattle.t1_cache.specs.declared.records.Rerun.{Rerun}
use Rattle.t1_cache.proofs.Lists.{all-last}
use Rattle.t1_rerun.specs.Renewals.{rerun_names, run_in, HasBox, HasRun, IsMeasuredRerun}

pub has-box : (ms : List GlyphMetrics) (i : ℕ) (m : GlyphMetrics) → i < length ms → m ≡ get_or ms i m → HasBox ms m.name m.bbox
has-box [] i m h e = absurd (omega (arith, h))
has-box (x ∷ ms) zero m h e = inl (ap (λ y. y.name) (sym e), ap (λ y. y.bbox) (sym e))
has-box (x ∷ ms) (suc i) m h e = inr (has-box ms i m (omega (arith, h)) e)

pub has-run : (runs : List NamedRun) (ms : List GlyphMetrics) (i : ℕ) (m : GlyphMetrics) → AllByRecursion (HasRun runs) ms → i < length ms → m ≡ get_or ms i m → HasRun runs m
has-run runs [] i m all h e = absurd (omega (arith, h))
has-run runs (x ∷ ms) zero m all h e = let same : x ≡ m = sym e in (all.0.0, ap (λ y. run_kept runs y.name) e ∙ all.0.1)
has-run runs (x ∷ ms) (suc i) m all h e = has-run runs ms i m all.1 (omega (arith, h)) e

names-more : (rs : List Rerun) (r : Rerun) (g : List ℕ) → list_any (bytes_eq g) (rerun_names (rs ++ r ∷ [])) ≡ (list_any (bytes_eq g) (rerun_names rs) || bytes_eq g r.name.items)
names-more [] r g = or-false (bytes_eq g r.name.items)
names-more (x ∷ rs) r g = ap (λ b. bytes_eq g x.name.items || b) (names-more rs r g) ∙ sym (or_assoc (bytes_eq g x.name.items) (list_any (bytes_eq g) (rerun_names rs)) (bytes_eq g r.name.items))

-- what holds of the reruns so far
pub record AreTaken (runs now : List NamedRun) (metrics : List GlyphMetrics) (at : ℕ) (rs : List Rerun) : Type 0 where
  pub each : AllByRecursion (IsMeasuredRerun runs metrics) rs
  pub names : (g : List ℕ) → list_any (bytes_eq g) (rerun_names rs) ≡ list_any (λ m. bytes_eq g m.name) (take at metrics)
  pub left : (g : List ℕ) → run_kept now g ≡ cond (list_any (bytes_eq g) (rerun_names rs)) None (run_kept runs g)

module _ (runs now new : List NamedRun) (metrics : List GlyphMetrics) (at : ℕ) (rs : List Rerun) (m : GlyphMetrics)
    (far : at < length metrics) (is : m ≡ get_or metrics at m) (had : HasRun runs m) (before : AreTaken runs now metrics at rs)
    (others : (g : List ℕ) → run_kept new g ≡ cond (bytes_eq m.name g) None (run_kept now g)) where
  same_name : (g : List ℕ) → bytes_eq g m.name ≡ true → g ≡ m.name
  same_name g h = (bytes_eq-Decides g m.name).0 h

  turned : (g : List ℕ) (b : Bool) → bytes_eq g m.name ≡ b → bytes_eq m.name g ≡ b
  turned g true h = ap (bytes_eq m.name) (same_name g h) ∙ (bytes_eq-Decides m.name m.name).1 refl
  turned g false h = apart (bytes_eq m.name g) refl where
    apart : (b : Bool) → bytes_eq m.name g ≡ b → bytes_eq m.name g ≡ false
    apart true e =
        let back : bytes_eq g m.name ≡ true = ap (λ x. bytes_eq x m.name) (sym ((bytes_eq-Decides m.name g).0 e)) ∙ (bytes_eq-Decides m.name m.name).1 refl in
        let never : true ≡ false = sym back ∙ h in
        absurd (cc)
    apart false e = e

  more-names : (g : List ℕ) → list_any (λ x. bytes_eq g x.name) (take (at + 1) metrics) ≡ (list_any (λ x. bytes_eq g x.name) (take at metrics) || bytes_eq g m.name)
  more-names g = list_any_more (λ x. bytes_eq g x.name) metrics at m far ∙ ap (λ x. list_any (λ x. bytes_eq g x.name) (take at metrics) || bytes_eq g x.name) (sym is)

  -- a glyph whose run was there, and was taken
  pub taken-more : (r : Rerun) → r.name.items ≡ m.name → r.bbox ≡ m.bbox → Some r.run ≡ run_in (run_kept now m.name) → AreTaken runs new metrics (at + 1) (rs ++ r ∷ [])
  taken-more r name box run = record {
    each = all-last (IsMeasuredRerun runs metrics) rs r before.each (record {
      run = ap (run_kept runs) name ∙ sym (was (list_any (bytes_eq m.name) (rerun_names rs)) refl);
      box = rw (name, box) (has-box metrics at m far is);
    });
    names = λ g. names-more rs r g ∙ ap (λ b. b || bytes_eq g r.name.items) (before.names g) ∙ ap (λ n. list_any (λ x. bytes_eq g x.name) (take at metrics) || bytes_eq g n) name
        ∙ sym (more-names g);
    left = λ g. others g ∙ ap (cond (bytes_eq m.name g) None) (before.left g) ∙ by g (bytes_eq g m.name) refl;
  } where
    inside : (kept : Option (Result TracedRun Code)) → Some r.run ≡ run_in kept → Some (Ok r.run) ≡ kept
    inside None e = absurd (cc)
    inside (Some (Err code)) e = absurd (cc)
    inside (Some (Ok x)) e = let same : r.run ≡ x = cc in ap (λ y. Some (Ok y)) same

    was : (b : Bool) → list_any (bytes_eq m.name) (rerun_names rs) ≡ b → Some (Ok r.run) ≡ run_kept runs m.name
    was true h =
        let gone : run_kept now m.name ≡ None = before.left m.name ∙ ap (λ b. cond b None (run_kept runs m.name)) h in
        let never : ◌≡◌ {A = Option TracedRun} (Some r.run) None = run ∙ ap run_in gone in
        absurd (cc)
    was false h = inside (run_kept now m.name) run ∙ before.left m.name ∙ ap (λ b. cond b None (run_kept runs m.name)) h

    by : (g : List ℕ) (b : Bool) → bytes_eq g m.name ≡ b
        → cond (bytes_eq m.name g) None (cond (list_any (bytes_eq g) (rerun_names rs)) None (run_kept runs g))
        ≡ cond (list_any (bytes_eq g) (rerun_names (rs ++ r ∷ []))) None (run_kept runs g)
    by g b e =
        ap (λ t. cond t None (cond (list_any (bytes_eq g) (rerun_names rs)) None (run_kept runs g))) (turned g b e)
        ∙ both b (list_any (bytes_eq g) (rerun_names rs))
        ∙ ap (λ t. cond t None (run_kept runs g)) (ap (λ t. list_any (bytes_eq g) (rerun_names rs) || t) (sym (ap (bytes_eq g) name ∙ e)) ∙ sym (names-more rs r g))
      where
        both : (b c : Bool) → cond b None (cond c None (run_kept runs g)) ≡ cond (c || b) None (run_kept runs g)
        both true true = refl
        both true false = refl
        both false true = refl
        both false false = refl

  -- a glyph whose run was taken before
  pub taken-again : None ≡ run_in (run_kept now m.name) → AreTaken runs new metrics (at + 1) rs
  taken-again none = record {
    each = before.each;
    names = λ g. before.names g ∙ sym (or-there g (bytes_eq g m.name) refl) ∙ sym (more-names g);
    left = λ g. others g ∙ ap (cond (bytes_eq m.name g) None) (before.left g) ∙ by g (bytes_eq g m.name) refl;
  } where
    there : (b : Bool) → list_any (bytes_eq m.name) (rerun_names rs) ≡ b → list_any (bytes_eq m.name) (rerun_names rs) ≡ true
    there true h = h
    there false h =
        let is_there : run_kept now m.name ≡ Some (Ok had.0) = before.left m.name ∙ ap (λ b. cond b None (run_kept runs m.name)) h ∙ had.1 in
        let never : ◌≡◌ {A = Option TracedRun} None (Some had.0) = none ∙ ap run_in is_there in
        absurd (cc)

    or-there : (g : List ℕ) (b : Bool) → bytes_eq g m.name ≡ b
        → (list_any (λ x. bytes_eq g x.name) (take at metrics) || bytes_eq g m.name) ≡ list_any (λ x. bytes_eq g x.name) (take at metrics)
    or-there g true e =
        let here = sym (before.names g) ∙ ap (λ x. list_any (bytes_eq x) (rerun_names rs)) (same_name g e) ∙ there (list_any (bytes_eq m.name) (rerun_names rs)) refl in
        ap (λ b. b || bytes_eq g m.name) here ∙ sym here
    or-there g false e = ap (λ b. list_any (λ x. bytes_eq g x.name) (take at metrics) || b) e ∙ or-false (list_any (λ x. bytes_eq g x.name) (take at metrics))

    by : (g : List ℕ) (b : Bool) → bytes_eq g m.name ≡ b
        → cond (bytes_eq m.name g) None (cond (list_any (bytes_eq g) (rerun_names rs)) None (run_kept runs g))
        ≡ cond (list_any (bytes_eq g) (rerun_names rs)) None (run_kept runs g)
    by g true e =
        ap (λ t. cond t None (cond (list_any (bytes_eq g) (rerun_names rs)) None (run_kept runs g))) (turned g true e)
        ∙ sym (ap (λ t. cond t None (run_kept runs g)) (ap (λ x. list_any (bytes_eq x) (rerun_names rs)) (same_name g e) ∙ there (list_any (bytes_eq m.name) (rerun_names rs)) refl))
    by g false e = ap (λ t. cond t None (cond (list_any (bytes_eq g) (rerun_names rs)) None (run_kept runs g))) (turned g false e)
