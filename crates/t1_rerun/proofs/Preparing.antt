-- Changes with all that they take.
use Rattle.std.proofs.Common.{◌≡◌, ◌≤◌, ◌+◌, arith, ℕ, Bool, true, false, cond, List, [], ◌∷◌, ◌++◌, length, map, refl, sym, ◌∙◌, ap, subst, Option, Some, None, ◌⊎◌, inl, inr}
use Rattle.std.specs.Prelude.{◌||◌, Result, Ok, Err, IfOk}
use Rattle.std.specs.List.{list_any}
use Rattle.std.specs.Option.{option_map, option_or}
use Rattle.std.specs.Map.{lookup}
use Rattle.std.specs.Str.{bytes_eq}
use Rattle.std.specs.declared.alloc.Global.{Global}
use Rattle.std.specs.declared.vec.Vec.{Vec}
use Rattle.std.proofs.lemmas.List.Folds.{find-append}
use Rattle.t1_code.specs.declared.command.Command.{Command}
use Rattle.t1_parts.specs.SourceParts.{SourceParts}
use Rattle.t1_font.specs.Bodies.{bodies}
use Rattle.t1_font.specs.KeptBodies.{SameBodies}
use Rattle.t1_run.specs.Run.{Key, Subr, Glyph}
use Rattle.t1_run.specs.RunKeys.{body_at, key_eq}
use Rattle.t1_extent.specs.Kept.{TracedRun}
use Rattle.t1_afm.specs.declared.bbox.BBox.{BBox}
use Rattle.t1_font.specs.declared.owned_key.OwnedKey.{OwnedKey}
use Rattle.t1_font.specs.declared.owned_key.OwnedKey.TheVariants as named
use Rattle.t1_cache.specs.declared.records.NewRun.{NewRun}
use Rattle.t1_cache.specs.declared.records.Records.{Records}
use Rattle.t1_cache.specs.declared.records.Rerun.{Rerun}
use Rattle.t1_cache.specs.Bodies.{glyph_body, record_bodies, subr_body}
use Rattle.t1_cache.specs.Changed.{AreSameRecords}
use Rattle.t1_cache.specs.Kept.{KeepsAll}
use Rattle.t1_cache.specs.Renewed.{rerun_of, reruns_by_name}
use Rattle.t1_cache.specs.Recorded.{kept_of}
use Rattle.t1_cache.specs.Users.{among, glyph_users, subr_users, users_at}
use Rattle.t1_font.specs.OwnedKeys.{key_of}
use Rattle.t1_rerun.specs.declared.entry_change.EntryChange.{EntryChange}
use Rattle.t1_rerun.specs.declared.settling.RecordChange.{RecordChange}
use Rattle.t1_rerun.specs.declared.settling.RecordChange.TheVariants as steps
use Rattle.t1_rerun.specs.declared.changing.Renewal.{Renewal}
use Rattle.t1_rerun.specs.Settled.{changed_keys, AreAsBefore, AreDistinctKeys, IsJudged}
use Rattle.t1_rerun.specs.Steps.{entry_change, inserts, is_last, new_run, new_run_of, some_inserts, AreStepsOf, IsStepOf, LacksRun}
use Rattle.t1_rerun.proofs.Stepping.{inserted-named, inserts-last}
use Rattle.t1_font.proofs.Keys.{at-same, same-at}
use Rattle.t1_rerun.proofs.Steps.{same-twice}

-- ---- new runs by name

abbrev pair : Rerun → TracedRun × Option BBox
pair r = (r.run, r.bbox)

-- a run by name is what is found under it
pub found-by-name : (es : List (Vec ℕ Global × NewRun)) (g : List ℕ) → new_run (reruns_by_name es) g ≡ new_run_of (lookup (λ k. bytes_eq g k.items) es)
found-by-name [] g = refl
found-by-name (e ∷ es) g = by (bytes_eq g e.0.items) (found-by-name es g) where
  by : (b : Bool) → new_run (reruns_by_name es) g ≡ new_run_of (lookup (λ k. bytes_eq g k.items) es)
      → option_map pair (cond b (Some (record { name = e.0; run = e.1.run; bbox = e.1.bbox })) (rerun_of (reruns_by_name es) g))
      ≡ new_run_of (cond b (Some e.1) (lookup (λ k. bytes_eq g k.items) es))
  by true rest = refl
  by false rest = rest

run-cond : (b : Bool) (r : NewRun) (rest : Option NewRun) → new_run_of (cond b (Some r) rest) ≡ cond b (Some (r.run, r.bbox)) (new_run_of rest)
run-cond true r rest = refl
run-cond false r rest = refl

none-cond : (b : Bool) (rest : Option NewRun) → new_run_of (cond b None rest) ≡ cond b None (new_run_of rest)
none-cond true rest = refl
none-cond false rest = refl

-- the last rerun counts where no other one is of the name
pub run-last : (reruns : List Rerun) (r : Rerun) (g : List ℕ)
    → new_run (reruns ++ r ∷ []) g ≡ option_or (new_run reruns g) (cond (bytes_eq g r.name.items) (Some (r.run, r.bbox)) None)
run-last reruns r g =
    ap (option_map pair) (find-append (λ x. bytes_eq g x.name.items) reruns (r ∷ []))
    ∙ by (rerun_of reruns g) (bytes_eq g r.name.items)
  where
    by : (o : Option Rerun) (b : Bool) → option_map pair (option_or o (cond b (Some r) None))
        ≡ option_or (option_map pair o) (cond b (Some (r.run, r.bbox)) None)
    by None true = refl
    by None false = refl
    by (Some x) b = refl

-- a rerun more by name, and one fewer left
pub run-moved : (rest : List Rerun) (r : Rerun) (old new : List (Vec ℕ Global × NewRun)) (g : List ℕ)
    → lookup (λ k. bytes_eq g k.items) new ≡ cond (bytes_eq g r.name.items) (Some (record { run = r.run; bbox = r.bbox })) (lookup (λ k. bytes_eq g k.items) old)
    → option_or (new_run rest g) (new_run (reruns_by_name new) g) ≡ option_or (new_run (rest ++ r ∷ []) g) (new_run (reruns_by_name old) g)
run-moved rest r old new g put =
    ap (option_or (new_run rest g))
    (found-by-name new g ∙ ap new_run_of put ∙ run-cond (bytes_eq g r.name.items) (record { run = r.run; bbox = r.bbox }) (lookup (λ k. bytes_eq g k.items) old)
    ∙ ap (cond (bytes_eq g r.name.items) (Some (r.run, r.bbox))) (sym (found-by-name old g)))
    ∙ by (new_run rest g) (bytes_eq g r.name.items) (new_run (reruns_by_name old) g)
    ∙ ap (λ o. option_or o (new_run (reruns_by_name old) g)) (sym (run-last rest r g))
  where
    by : (a : Option (TracedRun × Option BBox)) (b : Bool) (c : Option (TracedRun × Option BBox))
        → option_or a (cond b (Some (r.run, r.bbox)) c) ≡ option_or (option_or a (cond b (Some (r.run, r.bbox)) None)) c
    by None true c = refl
    by None false c = refl
    by (Some x) b c = refl

pub run-taken : (name : List ℕ) (old new : List (Vec ℕ Global × NewRun)) (g : List ℕ)
    → lookup (λ k. bytes_eq g k.items) new ≡ cond (bytes_eq name g) None (lookup (λ k. bytes_eq g k.items) old)
    → new_run (reruns_by_name new) g ≡ cond (bytes_eq name g) None (new_run (reruns_by_name old) g)
run-taken name old new g gone =
    found-by-name new g ∙ ap new_run_of gone ∙ none-cond (bytes_eq name g) (lookup (λ k. bytes_eq g k.items) old)
    ∙ ap (cond (bytes_eq name g) None) (sym (found-by-name old g))

-- ---- one step more

-- where the runs of what a change names are the same, its step is
pub step-by : (run run' : List ℕ → Option (TracedRun × Option BBox)) (count : Key → ℕ) (records : Records) (c : EntryChange) (s : RecordChange)
    → ((g : List ℕ) → c.named ≡ named.Glyph g → run g ≡ run' g) → IsStepOf run count records c s → IsStepOf run' count records c s
step-by run run' count records c (steps.Remove d) same is = (is.0, by is.1) where
  lacks : (d : OwnedKey) → c.named ≡ d → LacksRun run d → LacksRun run' d
  lacks (named.Subr n) e h = h
  lacks (named.Glyph g) e h = sym (same g e) ∙ h

  by : (c.body ≡ None) ⊎ ((is_last records c.moved d ≡ true) × LacksRun run d) → (c.body ≡ None) ⊎ ((is_last records c.moved d ≡ true) × LacksRun run' d)
  by (inl none) = inl none
  by (inr h) = inr (h.0, lacks d is.0 h.1)
step-by run run' count records c (steps.Put d body) same is = is
step-by run run' count records c (steps.InsertSubr n r) same is = is
step-by run run' count records c (steps.InsertGlyph name r) same is =
    (is.0, (is.1.0, (is.1.1.0, (is.1.1.1.0, sym (same name.items is.0) ∙ is.1.1.1.1))))

-- the keys after others are others
pub apart-after : (xs : List EntryChange) (c : EntryChange) (done : List EntryChange) → AreDistinctKeys (changed_keys (xs ++ c ∷ done))
    → list_any (key_eq (key_of c.named)) (changed_keys done) ≡ false
apart-after [] c done d = d.0
apart-after (x ∷ xs) c done d = apart-after xs c done d.1

module _ (run : List ℕ → Option (TracedRun × Option BBox)) (count : Key → ℕ) (records : Records) (done : List EntryChange) (made : List RecordChange)
    (are : AreStepsOf run count records done made) where
  not-made : (c : EntryChange) → list_any (key_eq (key_of c.named)) (changed_keys done) ≡ false → (g : List ℕ) → c.named ≡ named.Glyph g → some_inserts made g ≡ false
  not-made c apart g is = by (some_inserts made g) refl where
    by : (b : Bool) → some_inserts made g ≡ b → b ≡ false
    by false e = refl
    by true e =
        let never : true ≡ false =
        sym (inserted-named run count records done made are g e) ∙ ap (λ d. list_any (key_eq (key_of d)) (changed_keys done)) (sym is) ∙ apart in
        absurd (cc)

  -- the step of the next change, by all runs
  pub next-step : (c : EntryChange) (s : RecordChange) (now : List ℕ → Option (TracedRun × Option BBox)) → list_any (key_eq (key_of c.named)) (changed_keys done) ≡ false
      → ((g : List ℕ) → now g ≡ cond (some_inserts made g) None (run g)) → IsStepOf now count records c s → AreStepsOf run count records (c ∷ done) (made ++ s ∷ [])
  next-step c s now apart left is =
      (made, (s, (refl, (step-by now run count records c s (λ g e. left g ∙ ap (λ b. cond b None (run g)) (not-made c apart g e)) is, are))))

pub runs-left : (made : List RecordChange) (s : RecordChange) (run now new : List ℕ → Option (TracedRun × Option BBox)) → ((g : List ℕ) → now g ≡ cond (some_inserts made g) None (run g))
    → ((g : List ℕ) → new g ≡ cond (inserts s g) None (now g)) → (g : List ℕ) → new g ≡ cond (some_inserts (made ++ s ∷ []) g) None (run g)
runs-left made s run now new was is g =
    is g ∙ ap (cond (inserts s g) None) (was g)
    ∙ by (some_inserts made g) (inserts s g) (run g)
    ∙ ap (λ b. cond b None (run g)) (sym (inserts-last made s g))
  where
    by : (a b : Bool) (r : Option (TracedRun × Option BBox)) → cond b None (cond a None r) ≡ cond (a || b) None r
    by true true r = refl
    by true false r = refl
    by false b r = refl

len-last : {X : Type 0} (xs : List X) (x : X) → length (xs ++ x ∷ []) ≡ length xs + 1
len-last [] x = refl
len-last (y ∷ xs) x = let rest = len-last xs x in omega (arith, rest)

pub count-next : (left rest : List EntryChange) (c : EntryChange) (made new : List RecordChange) (s : RecordChange) (n : ℕ) → left ≡ rest ++ c ∷ [] → new ≡ made ++ s ∷ []
    → length left + length made ≡ n → length rest + length new ≡ n
count-next left rest c made new s n e f h =
    let a = ap length e ∙ len-last rest c in
    let b = ap length f ∙ len-last made s in
    omega (arith, a, b, h)

pub fewer-steps : (left rest : List RecordChange) (s : RecordChange) (was now : ℕ) → left ≡ rest ++ s ∷ [] → was ≤ now + 1 → length left ≤ was → length rest ≤ now
fewer-steps left rest s was now e used fits = let a = ap length e ∙ len-last rest s in omega (arith, a, used, fits)

-- ---- outcomes

pub if-ok : {X E : Type 0} (P Q : X → Type 0) (r : Result X E) → IfOk r P → ((x : X) → P x → Q x) → IfOk r Q
if-ok P Q (Ok x) h step = step x h
if-ok P Q (Err e) h step = tt

pub step-of : (c : EntryChange) (d : OwnedKey) (body : List Command) (run : List ℕ → Option (TracedRun × Option BBox)) (count : Key → ℕ) (records : Records) (s : RecordChange)
    → c.named ≡ d → c.body ≡ Some body → IsStepOf run count records (entry_change d (Some body) c.moved) s → IsStepOf run count records c s
step-of c d body run count records s e f is =
    let same : c ≡ entry_change d (Some body) c.moved = (λ j. record { named = e j; body = f j; moved = c.moved }) in
    subst (λ x. IsStepOf run count records x s) (sym same) is

-- ---- records that are as before

pub users-same : (mid new : Records) → AreSameRecords mid new → (k : Key) → users_at new k ≡ users_at mid k
users-same mid new same (Subr n) = ap (λ es. subr_users es n) same.0
users-same mid new same (Glyph g) = ap (λ es. glyph_users es g) same.1

pub as-unchanged : (old mid new : Records) → AreAsBefore old mid → AreSameRecords mid new → AreAsBefore old new
as-unchanged old mid new before same = record {
  bodies = λ k. same-at (record_bodies new) (record_bodies old) k (bodies k ∙ at-same (record_bodies mid) (record_bodies old) k (before.bodies k));
  kept = ap (map kept_of) same.1 ∙ before.kept;
  users = λ k u. ap (λ s. among s u) (users-same mid new same k) ∙ before.users k u;
} where
  bodies : (k : Key) → body_at (record_bodies new) k ≡ body_at (record_bodies mid) k
  bodies (Subr n) = ap (λ es. subr_body es n) same.0
  bodies (Glyph g) = ap (λ es. glyph_body es g) same.1

pub as-self : (old : Records) → AreAsBefore old old
as-self old = record { bodies = λ k. same-at (record_bodies old) (record_bodies old) k refl; kept = refl; users = λ k u. refl }

-- what is judged is so of records that are as before
pub judged-again : (changes : List EntryChange) (old new : SourceParts) (before mid : Records) (renewal : Renewal) → AreAsBefore before mid
    → IsJudged changes old new before renewal → IsJudged changes old new mid renewal
judged-again changes old new before mid renewal same j = record {
  right = record {
    compiled = same-twice (record_bodies mid) (record_bodies before) (bodies old.items) same.bodies j.right.compiled;
    kept = subst (KeepsAll old) (sym same.kept) j.right.kept;
    users = λ k g. same.users k g ∙ j.right.users k g;
  };
  edited = j.edited;
  keys = j.keys;
  bodies = j.bodies;
  faultless = j.faultless;
  distinct = j.distinct;
  order = j.order;
  last = j.last;
  renewed = j.renewed;
}

pub same-glyphs : (mid new : Records) → new.subrs.entries ≡ mid.subrs.entries
    → ((g : List ℕ) → glyph_body new.glyphs.entries g ≡ glyph_body mid.glyphs.entries g) → SameBodies (record_bodies new) (record_bodies mid)
same-glyphs mid new subrs glyphs (Subr n) = ap (λ es. subr_body es n) subrs
same-glyphs mid new subrs glyphs (Glyph g) = glyphs g

pub same-users : (mid new : Records) → new.subrs.entries ≡ mid.subrs.entries
    → ((g : List ℕ) → glyph_users new.glyphs.entries g ≡ glyph_users mid.glyphs.entries g) → (k : Key) → users_at new k ≡ users_at mid k
same-users mid new subrs glyphs (Subr n) = ap (λ es. subr_users es n) subrs
same-users mid new subrs glyphs (Glyph g) = glyphs g
