-- Look-ups among what is kept by name.
use Rattle.std.proofs.Common.{◌≡◌, ℕ, ◌+◌, ◌<◌, length, get_or, drop, drop-cons, add-one, Bool, true, false, cond, List, [], ◌∷◌, refl, sym, ap, subst, arith, ◌∙◌, Option, Some, None, inl, inr, map}
use Rattle.std.specs.Prelude.{Result, Ok, Err, ◌||◌, ◌≤◌, zero, suc}
use Rattle.std.specs.List.{list_any}
use Rattle.std.specs.Option.{option_map, option_copied}
use Rattle.std.specs.Borrow.{Bor}
use Rattle.std.specs.Map.{lookup}
use Rattle.std.specs.Str.{bytes_eq}
use Rattle.std.proofs.lemmas.Bool.{cases_Bool}
use Rattle.t1_frac.specs.declared.fault.Code.{Code}
use Rattle.t1_run.specs.Run.{FontBodies, own}
use Rattle.t1_run.proofs.Asked.{bytes_same}
use Rattle.t1_extent.specs.Kept.{TracedRun}
use Rattle.t1_font.specs.Runs.{NamedRun, drawing_kept, drawing_in, run_kept, own_among, AreTraced, CountsSome, IsNumberedAfter, IsTracedAs}
use Rattle.t1_font.specs.RunCounts.{counted}

-- what is found, through a borrow
pub copied-map : {X Y : Type 0} (view : X → Y) (r : Option (Bor X)) → option_map (λ x. view x.now) r ≡ option_map view (option_copied r)
copied-map view None = refl
copied-map view (Some x) = refl

pub map-cond : {X Y : Type 0} (view : X → Y) (b : Bool) (x : X) (r : Option X) → option_map view (cond b (Some x) r) ≡ cond b (Some (view x)) (option_map view r)
map-cond view true x r = refl
map-cond view false x r = refl

-- a look-up among names is that among the keys that have them
pub lookup-names : {K X L : Type 0} (name : K → L) (test : L → Bool) (es : List (K × X))
    → lookup test (map (λ e. (name e.0, e.1)) es) ≡ lookup (λ k. test (name k)) es
lookup-names name test [] = refl
lookup-names name test (e ∷ es) = ap (cond (test (name e.0)) (Some e.1)) (lookup-names name test es)

-- ---- a name that is taken out

key-found : {K X : Type 0} (name : K → List ℕ) (g : List ℕ) (es : List (K × X)) (x : X) → lookup (λ k. bytes_eq g (name k)) es ≡ Some x → (k : K) × (name k ≡ g)
key-found name g [] x h = absurd (cc)
key-found name g (e ∷ es) x h =
    elim (cases_Bool (bytes_eq g (name e.0))) [
      | inl same ↦ (e.0, sym (bytes_same g (name e.0) same))
      | inr other ↦ key-found name g es x (rw other at h)
    ]

-- a name that was taken out has nothing, and each other name what it had
pub lookup-taken : {K X : Type 0} (name : K → List ℕ) (old new : List (K × X)) (n : List ℕ)
    → ((q : K) → lookup (λ k. bytes_eq (name q) (name k)) new ≡ cond (bytes_eq n (name q)) None (lookup (λ k. bytes_eq (name q) (name k)) old))
    → (g : List ℕ) → lookup (λ k. bytes_eq g (name k)) new ≡ cond (bytes_eq n g) None (lookup (λ k. bytes_eq g (name k)) old)
lookup-taken {K} {X} name old new n at g = by (lookup (λ k. bytes_eq g (name k)) new) (lookup (λ k. bytes_eq g (name k)) old) refl refl where
  reported : (k : K) → name k ≡ g → lookup (λ k. bytes_eq g (name k)) new ≡ cond (bytes_eq n g) None (lookup (λ k. bytes_eq g (name k)) old)
  reported k e = rw (← e) (at k)

  none : (b : Bool) → ◌≡◌ {A = Option X} None (cond b None None)
  none true = refl
  none false = refl

  by : (a b : Option X) → lookup (λ k. bytes_eq g (name k)) new ≡ a → lookup (λ k. bytes_eq g (name k)) old ≡ b
      → lookup (λ k. bytes_eq g (name k)) new ≡ cond (bytes_eq n g) None (lookup (λ k. bytes_eq g (name k)) old)
  by (Some x) b e f = let w = key-found name g new x e in reported w.0 w.1
  by None (Some y) e f = let w = key-found name g old y f in reported w.0 w.1
  by None None e f = e ∙ none (bytes_eq n g) ∙ sym (ap (cond (bytes_eq n g) None) f)

-- ---- the runs of some glyphs, one after another

-- what is kept so far, with the runs of the glyphs that are left, is what is kept of all
abbrev pub RunsInFront : FontBodies → List (List ℕ) → List NamedRun → List (List ℕ) → Type 0
RunsInFront m rest runs names = (q : List ℕ) → cond (list_any (bytes_eq q) rest) (own m q) (drawing_in runs q) ≡ own_among m names q

or-cond : {X : Type 0} (a b : Bool) (all one r : X) → (b ≡ true → all ≡ one) → cond a all (cond b one r) ≡ cond (b || a) all r
or-cond true true all one r h = refl
or-cond true false all one r h = refl
or-cond false true all one r h = sym (h refl)
or-cond false false all one r h = refl

pub one-more : (m : FontBodies) (rest : List (List ℕ)) (old new : List NamedRun) (names : List (List ℕ)) (name : List ℕ) (kept : Result TracedRun Code)
    → Some (drawing_kept kept) ≡ own m name → ((q : List ℕ) → run_kept new q ≡ cond (bytes_eq q name) (Some kept) (run_kept old q))
    → RunsInFront m (name ∷ rest) old names → RunsInFront m rest new names
one-more m rest old new names name kept is put h q =
    ap (λ r. cond (list_any (bytes_eq q) rest) (own m q) (option_map drawing_kept r)) (put q)
    ∙ ap (cond (list_any (bytes_eq q) rest) (own m q)) (map-cond drawing_kept (bytes_eq q name) kept (run_kept old q))
    ∙ or-cond (list_any (bytes_eq q) rest) (bytes_eq q name) (own m q) (Some (drawing_kept kept)) (drawing_in old q)
    (λ same. rw (bytes_same q name same) (sym is))
    ∙ h q

-- the names that are left begin with this one
pub name-first : (names : List (Bor (List ℕ))) (i : ℕ) (d : Bor (List ℕ)) → i < length names → drop i names ≡ get_or names i d ∷ drop (i + 1) names
name-first names i d h = rw (add-one, drop-cons names i d) refl

-- ---- runs whose traces are kept

traced-cond : (g : List ℕ) (b : Bool) (x r : Option (Result TracedRun Code)) → (b ≡ true → IsTracedAs g x) → IsTracedAs g r → IsTracedAs g (cond b x r)
traced-cond g true x r h k = h refl
traced-cond g false x r h k = k

-- a run that is put in keeps its trace, as those do that were there
pub one-traced : (old new : List NamedRun) (name : List ℕ) (kept : Result TracedRun Code)
    → ((q : List ℕ) → run_kept new q ≡ cond (bytes_eq q name) (Some kept) (run_kept old q)) → IsTracedAs name (Some kept) → AreTraced old → AreTraced new
one-traced old new name kept put h others q =
    subst (IsTracedAs q) (sym (put q))
    (traced-cond q (bytes_eq q name) (Some kept) (run_kept old q) (λ same. subst (λ g. IsTracedAs g (Some kept)) (sym (bytes_same q name same)) h) (others q))

-- those that are left where one was taken out keep theirs
pub rest-traced : (old new : List NamedRun) (name : List ℕ) → ((q : List ℕ) → run_kept new q ≡ cond (bytes_eq name q) None (run_kept old q))
    → AreTraced old → AreTraced new
rest-traced old new name taken others q =
    subst (IsTracedAs q) (sym (taken q)) (traced-cond q (bytes_eq name q) None (run_kept old q) (λ same. tt) (others q))

-- ---- the numbers of runs

after-cond : (count : ℕ) (b : Bool) (x r : Option (Result TracedRun Code)) → IsNumberedAfter count x → IsNumberedAfter count r → IsNumberedAfter count (cond b x r)
after-cond count true x r h k = h
after-cond count false x r h k = k

-- a run that is put in is later than the count, as those are that were there
pub one-after : (count : ℕ) (old new : List NamedRun) (name : List ℕ) (kept : Result TracedRun Code)
    → ((q : List ℕ) → run_kept new q ≡ cond (bytes_eq q name) (Some kept) (run_kept old q))
    → IsNumberedAfter count (Some kept) → ((q : List ℕ) → IsNumberedAfter count (run_kept old q)) → (q : List ℕ) → IsNumberedAfter count (run_kept new q)
one-after count old new name kept put h others q =
    subst (IsNumberedAfter count) (sym (put q)) (after-cond count (bytes_eq q name) (Some kept) (run_kept old q) h (others q))

counted-up : (count n : ℕ) → counted count 1 ≤ counted (counted count n) 1
counted-up count zero = omega arith
counted-up count (suc n) = omega (arith, counted-up count n)

-- what is after a later count is after an earlier one
pub after-earlier : (count n : ℕ) (kept : Result TracedRun Code) → IsNumberedAfter (counted count n) (Some kept) → IsNumberedAfter count (Some kept)
after-earlier count n (Err code) h = tt
after-earlier count n (Ok run) h = omega (arith, counted-up count n, h)

-- one run more than these was counted
pub counts-one-more : (runs old made count new : ℕ) → made < runs → count ≡ counted old made → new ≡ counted count 1 → CountsSome runs old new
counts-one-more runs old made count new h same step = (suc made, omega (arith, h), step ∙ ap (λ n. counted n 1) same)
