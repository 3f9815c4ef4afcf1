-- Records that are built of bodies, runs and boxes.
use Rattle.std.proofs.Common.{◌≡◌, ◌<◌, ◌+◌, ℕ, zero, suc, Bool, true, false, cond, List, [], ◌∷◌, ◌++◌, map, length, take, get_or, refl, sym, ◌∙◌, ap, subst, arith, Option, Some, None, is_some, not}
use Rattle.std.specs.Prelude.{Result, Ok, Err, ◌||◌, ◌&&◌, nat_eq}
use Rattle.std.specs.Borrow.{Bor}
use Rattle.std.specs.List.{AllByRecursion, list_any}
use Rattle.std.specs.Option.{option_or}
use Rattle.std.specs.Str.{bytes_eq}
use Rattle.std.specs.declared.alloc.Global.{Global}
use Rattle.std.specs.declared.vec.Vec.{Vec}
use Rattle.std.proofs.lemmas.Bool.{or_left, or_right}
use Rattle.std.proofs.lemmas.List.{map-append, take_more}
use Rattle.std.proofs.lemmas.List.Folds.{list_any_more}
use Rattle.t1_frac.specs.declared.fault.Code.{Code}
use Rattle.t1_code.specs.declared.command.Command.{Command}
use Rattle.t1_run.specs.Run.{FontBodies, Key, Subr, Glyph}
use Rattle.t1_run.specs.RunKeys.{body_at}
use Rattle.t1_extent.specs.Kept.{TracedRun}
use Rattle.t1_run.specs.Touched.{is_user}
use Rattle.t1_font.specs.declared.glyph_metrics.GlyphMetrics.{GlyphMetrics}
use Rattle.t1_font.specs.KeptBodies.{subr_body_kept, glyph_body_kept, SameBodies}
use Rattle.t1_font.specs.Runs.{NamedRun as KeptRun, run_kept, drawing_in as run_of}
use Rattle.t1_cache.specs.declared.records.Records.{Records}
use Rattle.t1_cache.specs.Bodies.{glyph_body, record_bodies}
use Rattle.t1_cache.specs.Changed.{SetsBody}
use Rattle.t1_cache.specs.Joins.{AreLeaves}
use Rattle.t1_cache.specs.Laws.{AreDistinct}
use Rattle.t1_cache.specs.Renewed.{kept}
use Rattle.t1_cache.specs.Recorded.{kept_of}
use Rattle.t1_cache.specs.Room.{MayJoin}
use Rattle.t1_cache.specs.Tables.{AreTables}
use Rattle.t1_cache.specs.Users.{is_name_among, has_pair, lists, rest_of, users_at, pairs_of_key, HasUserRoom, Pairs}
use Rattle.t1_cache.proofs.Changing.{rest_same}
use Rattle.t1_cache.proofs.Joining.{tables_first}
use Rattle.t1_cache.proofs.Names.{bytes_equiv}
use Rattle.t1_font.proofs.Lookups.{bytes_tell, numbers_tell}
use Rattle.t1_cache.proofs.Rooming.{room_for_joins}
use Rattle.t1_cache.proofs.EditedRecords.{names-last}
use Rattle.t1_cache.proofs.Lists.{all-last}
use Rattle.t1_rerun.specs.Opened.{measured_names, AreMeasured, IsRecorded}
use Rattle.t1_rerun.specs.Renewals.{run_in, HasRun}
use Rattle.t1_rerun.proofs.Reaching.{has-names}
use Rattle.t1_rerun.proofs.Taking.{has-box, has-run}
use Rattle.t1_rerun.proofs.Steps.{same-twice}

abbrev Body : Type 0
Body = List Command

abbrev Subrs : Type 0
Subrs = List (ℕ × Body)

abbrev Glyphs : Type 0
Glyphs = List (Vec ℕ Global × Body)

-- ---- Subrs

subr-last : (rest : Subrs) (k : ℕ) (b : Body) (n : ℕ) → subr_body_kept (rest ++ (k, b) ∷ []) n ≡ option_or (subr_body_kept rest n) (cond (nat_eq n k) (Some b) None)
subr-last [] k b n = refl
subr-last (e ∷ rest) k b n = by (nat_eq n e.0) (subr-last rest k b n) where
  by : (t : Bool) → subr_body_kept (rest ++ (k, b) ∷ []) n ≡ option_or (subr_body_kept rest n) (cond (nat_eq n k) (Some b) None)
      → cond t (Some e.1) (subr_body_kept (rest ++ (k, b) ∷ []) n) ≡ option_or (cond t (Some e.1) (subr_body_kept rest n)) (cond (nat_eq n k) (Some b) None)
  by true others = refl
  by false others = others

-- the bodies that are left, in front of those that have a record, are all
pub record AreInserted (was : Records) (all left : Subrs) (now : Records) : Type 0 where
  pub subrs : (n : ℕ) → option_or (subr_body_kept left n) (body_at (record_bodies now) (Subr n)) ≡ subr_body_kept all n
  pub apart : (n : ℕ) → is_some (subr_body_kept left n) ≡ true → body_at (record_bodies now) (Subr n) ≡ None
  pub glyphs : (g : List ℕ) → body_at (record_bodies now) (Glyph g) ≡ body_at (record_bodies was) (Glyph g)
  pub users : (k : Key) (u : List ℕ) → lists now k u ≡ lists was k u
  pub kept : map kept_of now.glyphs.entries ≡ map kept_of was.glyphs.entries

module _ (was : Records) (all left rest : Subrs) (now : Records) (k : ℕ) (b : Body) (is : left ≡ rest ++ (k, b) ∷ []) (before : AreInserted was all left now) where
  was-left : (n : ℕ) → subr_body_kept left n ≡ option_or (subr_body_kept rest n) (cond (nat_eq n k) (Some b) None)
  was-left n = ap (λ l. subr_body_kept l n) is ∙ subr-last rest k b n

  pub subr-apart : body_at (record_bodies now) (Subr k) ≡ None
  subr-apart =
      before.apart k
      (ap is_some (was-left k ∙ ap (λ t. option_or (subr_body_kept rest k) (cond t (Some b) None)) (numbers_tell.itself k)) ∙ or-some (subr_body_kept rest k))
    where
      or-some : (r : Option Body) → is_some (option_or r (Some b)) ≡ true
      or-some None = refl
      or-some (Some c) = refl

  pub subr-inserted : (new : Records) → subr_body_kept rest k ≡ None → SetsBody (Subr k) (Some b) now new
      → ((j : Key) (u : List ℕ) → lists new j u ≡ lists now j u) → map kept_of new.glyphs.entries ≡ map kept_of now.glyphs.entries
      → AreInserted was all rest new
  subr-inserted new gone sets users kept = record {
    subrs = λ n.
        ap (option_or (subr_body_kept rest n)) (sets (Subr n)) ∙ moved (subr_body_kept rest n) (nat_eq n k) (body_at (record_bodies now) (Subr n))
        ∙ ap (λ r. option_or r (body_at (record_bodies now) (Subr n))) (sym (was-left n)) ∙ before.subrs n;
    apart = λ n h. sets (Subr n) ∙ by n h (nat_eq n k) refl;
    glyphs = λ g. sets (Glyph g) ∙ before.glyphs g;
    users = λ j u. users j u ∙ before.users j u;
    kept = kept ∙ before.kept;
  } where
    moved : (r : Option Body) (t : Bool) (old : Option Body) → option_or r (cond t (Some b) old) ≡ option_or (option_or r (cond t (Some b) None)) old
    moved None true old = refl
    moved None false old = refl
    moved (Some c) t old = refl

    more : (r s : Option Body) → is_some r ≡ true → is_some (option_or r s) ≡ true
    more None s h = absurd (cc)
    more (Some c) s h = refl

    by : (n : ℕ) → is_some (subr_body_kept rest n) ≡ true → (t : Bool) → nat_eq n k ≡ t → cond t (Some b) (body_at (record_bodies now) (Subr n)) ≡ None
    by n h true e =
        let never : true ≡ false = sym h ∙ ap (λ x. is_some (subr_body_kept rest x)) (numbers_tell.same n k e) ∙ ap is_some gone in
        absurd (cc)
    by n h false e = before.apart n (ap is_some (was-left n) ∙ more (subr_body_kept rest n) (cond (nat_eq n k) (Some b) None) h)

-- ---- glyphs

-- a glyph is among the first that were measured
abbrev is-done : List GlyphMetrics → ℕ → List ℕ → Bool
is-done ms at g = list_any (λ m. bytes_eq g m.name) (take at ms)

among-names : (g : List ℕ) (ms : List GlyphMetrics) → list_any (bytes_eq g) (measured_names ms) ≡ list_any (λ m. bytes_eq g m.name) ms
among-names g [] = refl
among-names g (m ∷ ms) = ap (λ b. bytes_eq g m.name || b) (among-names g ms)

name-among : (ms : List GlyphMetrics) (at : ℕ) (m : GlyphMetrics) → at < length ms → m ≡ get_or ms at m → list_any (bytes_eq m.name) (measured_names ms) ≡ true
name-among [] at m far is = absurd (omega (arith, far))
name-among (x ∷ ms) zero m far is =
    or_left (bytes_eq m.name x.name) (list_any (bytes_eq m.name) (measured_names ms)) (ap (λ y. bytes_eq m.name y.name) (sym is) ∙ bytes_tell.itself m.name)
name-among (x ∷ ms) (suc at) m far is =
    or_right (bytes_eq m.name x.name) (list_any (bytes_eq m.name) (measured_names ms)) (name-among ms at m (omega (arith, far)) is)

not-done : (ms : List GlyphMetrics) (at : ℕ) (m : GlyphMetrics) → AreDistinct (measured_names ms) → at < length ms → m ≡ get_or ms at m → is-done ms at m.name ≡ false
not-done [] at m distinct far is = absurd (omega (arith, far))
not-done (x ∷ ms) zero m distinct far is = refl
not-done (x ∷ ms) (suc at) m distinct far is = by (bytes_eq m.name x.name) refl (not-done ms at m distinct.1 (omega (arith, far)) is) where
  by : (t : Bool) → bytes_eq m.name x.name ≡ t → is-done ms at m.name ≡ false → (t || is-done ms at m.name) ≡ false
  by true e others =
      let here : list_any (bytes_eq x.name) (measured_names ms) ≡ true =
      ap (λ n. list_any (bytes_eq n) (measured_names ms)) (sym (bytes_tell.same m.name x.name e)) ∙ name-among ms at m (omega (arith, far)) is in
      let never : true ≡ false = sym here ∙ distinct.0 in
      absurd (cc)
  by false e others = others

names-more : (ms : List GlyphMetrics) (at : ℕ) (m : GlyphMetrics) → at < length ms → m ≡ get_or ms at m → measured_names (take (at + 1) ms) ≡ measured_names (take at ms) ++ m.name ∷ []
names-more ms at m far is =
    ap measured_names (take_more ms at m far) ∙ map-append (λ x. x.name) (take at ms) (get_or ms at m ∷ [])
    ∙ ap (λ x. measured_names (take at ms) ++ x.name ∷ []) (sym is)

-- the glyphs that were measured so far have their records, and for the others runs and bodies are left
pub record AreBuilt (was : Records) (bodies left_bodies : Glyphs) (runs left_runs : List KeptRun) (ms : List GlyphMetrics) (at : ℕ) (now : Records) : Type 0 where
  pub runs_left : (g : List ℕ) → run_kept left_runs g ≡ cond (is-done ms at g) None (run_kept runs g)
  pub bodies_left : (g : List ℕ) → glyph_body_kept left_bodies g ≡ cond (is-done ms at g) None (glyph_body_kept bodies g)
  pub glyphs : (g : List ℕ) → body_at (record_bodies now) (Glyph g) ≡ cond (is-done ms at g) (glyph_body_kept bodies g) None
  pub subrs : (n : ℕ) → body_at (record_bodies now) (Subr n) ≡ body_at (record_bodies was) (Subr n)
  pub users : (k : Key) (u : List ℕ) → lists now k u ≡ lists was k u
  pub order : map (λ k. k.name) (map kept_of now.glyphs.entries) ≡ measured_names (take at ms)
  pub each : AllByRecursion (IsRecorded runs ms) (map kept_of now.glyphs.entries)

module _ (was : Records) (bodies left_bodies : Glyphs) (runs left_runs : List KeptRun) (ms : List GlyphMetrics) (at : ℕ) (now : Records)
    (distinct : AreDistinct (measured_names ms)) (before : AreBuilt was bodies left_bodies runs left_runs ms at now)
    (m : GlyphMetrics) (far : at < length ms) (is : m ≡ get_or ms at m) where
  done-more : (g : List ℕ) → is-done ms (at + 1) g ≡ (is-done ms at g || bytes_eq g m.name)
  done-more g = list_any_more (λ x. bytes_eq g x.name) ms at m far ∙ ap (λ x. is-done ms at g || bytes_eq g x.name) (sym is)

  here : is-done ms at m.name ≡ false
  here = not-done ms at m distinct far is

  -- its body is still there
  pub body-here : glyph_body_kept left_bodies m.name ≡ glyph_body_kept bodies m.name
  body-here = before.bodies_left m.name ∙ ap (λ t. cond t None (glyph_body_kept bodies m.name)) here

  -- and its run
  pub run-here : run_kept left_runs m.name ≡ run_kept runs m.name
  run-here = before.runs_left m.name ∙ ap (λ t. cond t None (run_kept runs m.name)) here

  -- and it has no record
  pub glyph-apart : body_at (record_bodies now) (Glyph m.name) ≡ None
  glyph-apart = before.glyphs m.name ∙ ap (λ t. cond t (glyph_body_kept bodies m.name) None) here

  left-more : {X : Type 0} (old left left' : List ℕ → Option X) → ((g : List ℕ) → left g ≡ cond (is-done ms at g) None (old g))
      → ((g : List ℕ) → left' g ≡ cond (bytes_eq m.name g) None (left g)) → (g : List ℕ) → left' g ≡ cond (is-done ms (at + 1) g) None (old g)
  left-more old left left' had took g =
      took g ∙ ap (cond (bytes_eq m.name g) None) (had g) ∙ ap (λ t. cond t None (cond (is-done ms at g) None (old g))) (bytes_equiv.symm m.name g)
      ∙ both (bytes_eq g m.name) (is-done ms at g) ∙ ap (λ t. cond t None (old g)) (sym (done-more g))
    where
      both : (b c : Bool) → cond b None (cond c None (old g)) ≡ cond (c || b) None (old g)
      both true true = refl
      both true false = refl
      both false true = refl
      both false false = refl

  pub glyph-built : (body : Body) → Some body ≡ glyph_body_kept left_bodies m.name → (run : TracedRun) → Some run ≡ run_in (run_kept left_runs m.name)
      → (left_bodies' : Glyphs) → ((g : List ℕ) → glyph_body_kept left_bodies' g ≡ cond (bytes_eq m.name g) None (glyph_body_kept left_bodies g))
      → (left_runs' : List KeptRun) → ((g : List ℕ) → run_kept left_runs' g ≡ cond (bytes_eq m.name g) None (run_kept left_runs g))
      → (new : Records) → SetsBody (Glyph m.name) (Some body) now new → ((k : Key) (u : List ℕ) → lists new k u ≡ lists now k u)
      → map kept_of new.glyphs.entries ≡ map kept_of now.glyphs.entries ++ kept m.name run m.bbox ∷ []
      → AreBuilt was bodies left_bodies' runs left_runs' ms (at + 1) new
  glyph-built body body_is run run_is left_bodies' bodies_took left_runs' runs_took new sets users kept_is = record {
    runs_left = left-more (run_kept runs) (run_kept left_runs) (run_kept left_runs') before.runs_left runs_took;
    bodies_left = left-more (glyph_body_kept bodies) (glyph_body_kept left_bodies) (glyph_body_kept left_bodies') before.bodies_left bodies_took;
    glyphs = λ g. sets (Glyph g) ∙ ap (cond (bytes_eq g m.name) (Some body)) (before.glyphs g) ∙ by g (bytes_eq g m.name) refl (is-done ms at g)
        ∙ ap (λ t. cond t (glyph_body_kept bodies g) None) (sym (done-more g));
    subrs = λ n. sets (Subr n) ∙ before.subrs n;
    users = λ k u. users k u ∙ before.users k u;
    order = ap (map (λ k. k.name)) kept_is ∙ names-last (map kept_of now.glyphs.entries) (kept m.name run m.bbox) ∙ ap (λ l. l ++ m.name ∷ []) before.order
        ∙ sym (names-more ms at m far is);
    each = subst (AllByRecursion (IsRecorded runs ms)) (sym kept_is)
        (all-last (IsRecorded runs ms) (map kept_of now.glyphs.entries) (kept m.name run m.bbox) before.each
        (record { run = sym run-here ∙ sym (inside (run_kept left_runs m.name) run_is); box = has-box ms at m far is }));
  } where
    inside : (r : Option (Result TracedRun Code)) → Some run ≡ run_in r → Some (Ok run) ≡ r
    inside None e = absurd (cc)
    inside (Some (Err code)) e = absurd (cc)
    inside (Some (Ok x)) e = let same : run ≡ x = cc in ap (λ y. Some (Ok y)) same

    by : (g : List ℕ) (t : Bool) → bytes_eq g m.name ≡ t → (d : Bool) → cond t (Some body) (cond d (glyph_body_kept bodies g) None) ≡ cond (d || t) (glyph_body_kept bodies g) None
    by g false e true = refl
    by g false e false = refl
    by g true e d =
        let its : Some body ≡ glyph_body_kept bodies g = body_is ∙ body-here ∙ ap (glyph_body_kept bodies) (sym (bytes_tell.same g m.name e)) in
        its ∙ either d
      where
        either : (d : Bool) → glyph_body_kept bodies g ≡ cond (d || true) (glyph_body_kept bodies g) None
        either true = refl
        either false = refl

-- ---- the first glyph, and glyphs that have neither body nor run

no-entries : {X Y : Type 0} (f : X → Y) (xs : List X) → map f xs ≡ [] → xs ≡ []
no-entries f [] e = refl
no-entries f (x ∷ xs) e = absurd (cc)

pub none-built : (was : Records) (bodies : Glyphs) (runs : List KeptRun) (ms : List GlyphMetrics) → map kept_of was.glyphs.entries ≡ []
    → AreBuilt was bodies bodies runs runs ms 0 was
none-built was bodies runs ms none = record {
  runs_left = λ g. refl;
  bodies_left = λ g. refl;
  glyphs = λ g. ap (λ es. glyph_body es g) (no-entries kept_of was.glyphs.entries none);
  subrs = λ n. refl;
  users = λ k u. refl;
  order = ap (map (λ k. k.name)) none;
  each = subst (AllByRecursion (IsRecorded runs ms)) (sym none) tt;
}

module _ (was : Records) (bodies left_bodies : Glyphs) (runs left_runs : List KeptRun) (ms : List GlyphMetrics) (at : ℕ) (now : Records)
    (distinct : AreDistinct (measured_names ms)) (before : AreBuilt was bodies left_bodies runs left_runs ms at now)
    (m : GlyphMetrics) (far : at < length ms) (is : m ≡ get_or ms at m) where
  pub body-there : ((g : List ℕ) → is_some (glyph_body_kept bodies g) ≡ list_any (bytes_eq g) (measured_names ms)) → None ≡ glyph_body_kept left_bodies m.name → ⊥
  body-there have none =
      let gone : None ≡ glyph_body_kept bodies m.name = none ∙ body-here was bodies left_bodies runs left_runs ms at now distinct before m far is in
      let never : false ≡ true = ap is_some gone ∙ have m.name ∙ name-among ms at m far is in
      absurd (cc)

  pub run-there : AllByRecursion (HasRun runs) ms → None ≡ run_in (run_kept left_runs m.name) → ⊥
  run-there have none =
      let its = has-run runs ms at m have far is in
      let never : ◌≡◌ {A = Option TracedRun} None (Some its.0) =
      none ∙ ap run_in (run-here was bodies left_bodies runs left_runs ms at now distinct before m far is ∙ its.1) in
      absurd (cc)

-- once all were measured, each body has its record
pub all-built : (was : Records) (bodies left_bodies : Glyphs) (runs left_runs : List KeptRun) (ms : List GlyphMetrics) (at : ℕ) (now : Records)
    → ((g : List ℕ) → is_some (glyph_body_kept bodies g) ≡ list_any (bytes_eq g) (measured_names ms)) → take at ms ≡ ms
    → AreBuilt was bodies left_bodies runs left_runs ms at now
    → ((g : List ℕ) → body_at (record_bodies now) (Glyph g) ≡ glyph_body_kept bodies g) × (map (λ k. k.name) (map kept_of now.glyphs.entries) ≡ measured_names ms)
all-built was bodies left_bodies runs left_runs ms at now have all built =
    (λ g. built.glyphs g ∙ by g (glyph_body_kept bodies g) refl (is-done ms at g) refl, built.order ∙ ap measured_names all)
  where
    by : (g : List ℕ) (b : Option Body) → glyph_body_kept bodies g ≡ b → (t : Bool) → is-done ms at g ≡ t → cond t (glyph_body_kept bodies g) None ≡ glyph_body_kept bodies g
    by g b e true f = refl
    by g None e false f = sym e
    by g (Some b) e false f =
        let there : true ≡ is-done ms at g =
        sym (ap is_some e) ∙ have g ∙ among-names g ms ∙ ap (list_any (λ m. bytes_eq g m.name)) (sym all) in
        let never : true ≡ false = there ∙ f in
        absurd (cc)

-- ---- the users of Subrs and glyphs

module _ (m : FontBodies) (names : List (Bor (List ℕ))) (runs : List KeptRun) (metrics : List GlyphMetrics) (are : AreMeasured m runs metrics)
    (named : map (λ name. name.now) names ≡ measured_names metrics) (joins : Pairs)
    (joined : (k : Key) (u : List ℕ) → has_pair joins k u ≡ (is_name_among (λ name. name.now) names u && is_user k (run_of runs u))) where
  are-joins : AreLeaves m (is_name_among (λ name. name.now) names) joins
  are-joins k u = joined k u ∙ ap (λ r. is_name_among (λ name. name.now) names u && is_user k r) (are.draw u)

  is-named : (g : List ℕ) (body : Body) → m.glyphs g ≡ Some body → is_name_among (λ name. name.now) names g ≡ true
  is-named g body e = has-names names g ∙ ap (list_any (bytes_eq g)) named ∙ sym (are.bodies g) ∙ ap is_some e

  pub room-there : (records roomy : Records) → SameBodies (record_bodies records) m → rest_of roomy ≡ rest_of records
      → ((k : Key) → MayJoin (pairs_of_key joins k) (users_at roomy k)) → (k : Key) → HasUserRoom (pairs_of_key joins k) (users_at roomy k)
  room-there records roomy compiled rest may =
      room_for_joins m (is_name_among (λ name. name.now) names) joins are-joins roomy (same-twice (record_bodies roomy) (record_bodies records) m (rest_same records roomy rest).0 compiled) may

  pub tables-built : (old new : Records) (leaves : Pairs) → ((k : Key) (u : List ℕ) → lists old k u ≡ false)
      → ((k : Key) (u : List ℕ) → lists new k u ≡ ((lists old k u && not (has_pair leaves k u)) || has_pair joins k u)) → AreTables m new
  tables-built old new leaves empty after = tables_first m (is_name_among (λ name. name.now) names) is-named old new leaves joins empty are-joins after
