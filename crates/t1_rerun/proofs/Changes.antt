-- The records after all steps, the moves of users and the new runs are those of the edited source.
use Rattle.std.proofs.Common.{◌≡◌, ℕ, Bool, true, false, cond, List, [], ◌∷◌, ◌++◌, map, filter, not, refl, sym, ◌∙◌, ap, subst, Option, Some, None, ◌⊎◌, inl, inr, is_some, is_none}
use Rattle.std.specs.Prelude.{◌||◌, ◌&&◌}
use Rattle.std.specs.List.{AllByRecursion, list_any}
use Rattle.std.specs.Option.{option_map}
use Rattle.std.specs.Str.{bytes_eq}
use Rattle.std.proofs.Math.Bool.{or-true}
use Rattle.std.proofs.lemmas.Bool.{or_parts, or_right, true_from_ne_false}
use Rattle.t1_code.specs.declared.command.Command.{Command}
use Rattle.t1_parts.specs.SourceParts.{SourceParts}
use Rattle.t1_run.specs.Footprint.{Includes}
use Rattle.t1_run.specs.Run.{FontBodies, Key, Glyph, own}
use Rattle.t1_run.specs.RunKeys.{body_at, key_eq}
use Rattle.t1_extent.specs.Kept.{TracedRun}
use Rattle.t1_run.specs.Touched.{is_key_of, is_met, is_named, is_touched, is_user}
use Rattle.t1_afm.specs.declared.bbox.BBox.{BBox}
use Rattle.t1_font.specs.Bodies.{bodies}
use Rattle.t1_font.specs.KeptBodies.{SameBodies}
use Rattle.t1_font.specs.Glyphs.{glyph_names}
use Rattle.t1_font.specs.declared.owned_key.OwnedKey.{OwnedKey}
use Rattle.t1_font.specs.declared.owned_key.OwnedKey.TheVariants as named
use Rattle.t1_cache.specs.declared.records.Records.{Records}
use Rattle.t1_cache.specs.declared.records.Rerun.{Rerun}
use Rattle.t1_cache.specs.Bodies.{record_bodies}
use Rattle.t1_cache.specs.Renewal.{kept_by}
use Rattle.t1_cache.specs.Recorded.{IsOneOf, RecordedGlyph, kept_of}
use Rattle.t1_cache.specs.Renewed.{kept, rerun_of, reruns_by_name, with_rerun, with_reruns}
use Rattle.t1_cache.specs.Room.{MayJoin}
use Rattle.t1_cache.specs.Users.{among, has_pair, lists, rest_of, users_at, pairs_of_key, HasUserRoom}
use Rattle.t1_font.specs.OwnedKeys.{key_of}
use Rattle.t1_font.proofs.Keys.{key-itself, key-same, at-same, same-at}
use Rattle.t1_cache.proofs.Changing.{rest_same}
use Rattle.t1_cache.proofs.Judging.{unnamed}
use Rattle.t1_font.proofs.Lookups.{bytes_tell}
use Rattle.t1_cache.proofs.Rooming.{room_for_joins}
use Rattle.t1_cache.proofs.Filtering.{filter-as}
use Rattle.t1_rerun.specs.declared.changing.Renewal.{Renewal}
use Rattle.t1_rerun.specs.declared.entry_change.EntryChange.{EntryChange}
use Rattle.t1_rerun.specs.declared.settling.Ready.{Ready}
use Rattle.t1_rerun.specs.declared.settling.RecordChange.{RecordChange}
use Rattle.t1_rerun.specs.Right.{has_glyph, IsRight}
use Rattle.t1_rerun.specs.Settled.{changed_keys, last_glyphs, was_moved, HasBody, IsJudged, IsReady, IsRenewedBy}
use Rattle.t1_rerun.specs.Steps.{after_all, is_last, new_run, seen, some_inserts, LacksRun, Seen}
use Rattle.t1_cache.proofs.Rerunning.{names-stay, all-named}
use Rattle.t1_cache.proofs.Lists.{all-weaken}
use Rattle.t1_rerun.proofs.Settled.{has-body, is_moved, kept-names, moved-at, renewed-one, ready, rerun-stale, rerun-there, settled, reported-of}
use Rattle.t1_rerun.proofs.Stepping.{bodies-stepped, inserted-named, kept-stepped, leaves, leaves-as, may-join-stepped, named-key, names-stepped, users-stepped, IsServed}

-- ---- keys

not-included : (ks : List Key) (k : Key) → list_any (key_eq k) ks ≡ false → Includes ks k → ⊥
not-included [] k off i = i
not-included (j ∷ ks) k off (inl e) =
    let never : true ≡ false = ap (λ b. b || list_any (key_eq k) ks) (sym (key-itself k) ∙ ap (key_eq k) (sym e)) ∙ off in absurd (cc)
not-included (j ∷ ks) k off (inr i) = not-included ks k (or_parts (key_eq k j) (list_any (key_eq k) ks) off).1 i

-- a glyph that is named is stale
named-stale : (m : FontBodies) (keys : List Key) (g : List ℕ) → is_named keys g ≡ true → is_touched m keys g ≡ true
named-stale m keys g on =
    true_from_ne_false (is_touched m keys g) (λ off. let never : true ≡ false = sym on ∙ unnamed m keys g off in absurd (cc))

all-of : (kept xs : List RecordedGlyph) → ((k : RecordedGlyph) → IsOneOf xs k → IsOneOf kept k) → AllByRecursion (IsOneOf kept) xs
all-of kept [] more = tt
all-of kept (x ∷ xs) more = (more x (inl refl), all-of kept xs (λ k i. more k (inr i)))

all-two : (P Q R : RecordedGlyph → Type 0) → ((k : RecordedGlyph) → P k → Q k → R k) → (xs : List RecordedGlyph) → AllByRecursion P xs → AllByRecursion Q xs → AllByRecursion R xs
all-two P Q R step [] ps qs = tt
all-two P Q R step (x ∷ xs) ps qs = (step x ps.0 qs.0, all-two P Q R step xs ps.1 qs.1)

all-mapped : (P : RecordedGlyph → Type 0) (f : RecordedGlyph → RecordedGlyph) (xs : List RecordedGlyph) → AllByRecursion (λ k. P (f k)) xs → AllByRecursion P (map f xs)
all-mapped P f [] h = tt
all-mapped P f (x ∷ xs) h = (h.0, all-mapped P f xs h.1)

-- ---- a record with a new run

abbrev with-pair : Option (TracedRun × Option BBox) → RecordedGlyph → RecordedGlyph
with-pair None k = k
with-pair (Some r) k = record { name = k.name; run = r.0; box = r.1 }

abbrev pair : Rerun → TracedRun × Option BBox
pair r = (r.run, r.bbox)

as-pair : (r : Option Rerun) (k : RecordedGlyph) → with_rerun r k ≡ with-pair (option_map pair r) k
as-pair None k = refl
as-pair (Some r) k = refl

run-none : (r : Option Rerun) → option_map pair r ≡ None → is_some r ≡ false
run-none None e = refl
run-none (Some r) e = absurd (cc)

run-there : (reruns : List Rerun) (name : List ℕ) (r : TracedRun) (box : Option BBox) → new_run reruns name ≡ Some (r, box)
    → IsOneOf (map kept_by reruns) (kept name r box)
run-there [] name r box e = absurd (cc)
run-there (x ∷ reruns) name r box e = by (bytes_eq name x.name.items) refl e (run-there reruns name r box) where
  by : (b : Bool) → bytes_eq name x.name.items ≡ b → option_map pair (cond b (Some x) (rerun_of reruns name)) ≡ Some (r, box)
      → (new_run reruns name ≡ Some (r, box) → IsOneOf (map kept_by reruns) (kept name r box))
      → IsOneOf (map kept_by (x ∷ reruns)) (kept name r box)
  by true on h rest =
      let both : (pair x) ≡ (r, box) = cc in
      inl (λ j. record { name = sym (bytes_tell.same name x.name.items on) j; run = (ap (λ p. p.0) both) j; box = (ap (λ p. p.1) both) j })
  by false off h rest = inr (rest h)

-- ---- an edit that was judged, and the steps of its changes

module _ (changes : List EntryChange) (old new : SourceParts) (before : Records) (renewal : Renewal) (done : Ready)
    (is : IsReady changes renewal before done) (j : IsJudged changes old new before renewal) where
  abbrev m : FontBodies
  m = bodies old.items

  abbrev n : FontBodies
  n = bodies new.items

  abbrev keys : List Key
  keys = changed_keys changes

  abbrev reruns : List Rerun
  reruns = renewal.reruns.items

  abbrev run : List ℕ → Option (TracedRun × Option BBox)
  run = new_run reruns

  abbrev count : Key → ℕ
  count = pairs_of_key renewal.joins.items

  abbrev steps : List RecordChange
  steps = done.steps.items

  abbrev kept-before : List RecordedGlyph
  kept-before = map kept_of before.glyphs.entries

  abbrev last : Seen
  last = after_all steps (seen before)

  old-has : (g : List ℕ) → has_glyph old g ≡ is_some (m.glyphs g)
  old-has = has-body old j.right.kept.glyphs j.right.kept.faultless

  new-has : (g : List ℕ) → has_glyph new g ≡ is_some (n.glyphs g)
  new-has = has-body new (reported-of new j.faultless).0 (reported-of new j.faultless).1

  old-body : (k : Key) → body_at (record_bodies before) k ≡ body_at m k
  old-body k = at-same (record_bodies before) m k (j.right.compiled k)

  same-else : (k : Key) → list_any (key_eq k) keys ≡ false → body_at m k ≡ body_at n k
  same-else k off = at-same m n k (j.edited.bodies.same k (not-included keys k off))

  -- ---- each glyph that is put in has its run

  unserved : (g : List ℕ) → list_any (key_eq (Glyph g)) keys ≡ true → new_run reruns g ≡ None → (b : Option (List Command)) → n.glyphs g ≡ b → b ≡ None
  unserved g on none None e = refl
  unserved g on none (Some body) e =
      let there : has_glyph new g ≡ true = new-has g ∙ ap is_some e in
      let never : true ≡ false =
      sym (named-stale m keys g (named-key keys g ∙ on))
      ∙ sym (rerun-stale keys old new before renewal j.edited j.right j.faultless j.renewed g there)
      ∙ rerun-there g reruns ∙ run-none (rerun_of reruns g) none in
      absurd (cc)

  served-one : (c : EntryChange) → HasBody new c → list_any (key_eq (key_of c.named)) keys ≡ true → IsServed run count before c
  served-one c has on last lacks = by c.named refl has on last lacks where
    by : (d : OwnedKey) → c.named ≡ d → body_at n (key_of d) ≡ c.body → list_any (key_eq (key_of d)) keys ≡ true → is_last before c.moved d ≡ true
        → LacksRun run d → c.body ≡ None
    by (named.Subr x) e has on last lacks = absurd lacks
    by (named.Glyph g) e has on last lacks = sym has ∙ unserved g on lacks (n.glyphs g) refl

  served-all : (cs : List EntryChange) → AllByRecursion (HasBody new) cs → ((k : Key) → list_any (key_eq k) (changed_keys cs) ≡ true → list_any (key_eq k) keys ≡ true)
      → AllByRecursion (IsServed run count before) cs
  served-all [] has within = tt
  served-all (c ∷ cs) has within = (
    served-one c has.0 (within (key_of c.named) (ap (λ b. b || list_any (key_eq (key_of c.named)) (changed_keys cs)) (key-itself (key_of c.named)))),
    served-all cs has.1 (λ k on. within k (or_right (key_eq k (key_of c.named)) (list_any (key_eq k) (changed_keys cs)) on)),
  )

  served : AllByRecursion (IsServed run count before) changes
  served = served-all changes j.bodies (λ k on. on)

  -- ---- bodies and users

  pub stepped-body : (k : Key) → last.bodies k ≡ body_at n k
  stepped-body k =
      bodies-stepped run count before (body_at n) changes steps is.steps j.keys served j.bodies (seen before) k refl
      (λ off. old-body k ∙ same-else k off)

  module _ (mid : Records) (seen-mid : seen mid ≡ last) where
    mid-bodies : SameBodies (record_bodies mid) n
    mid-bodies k = same-at (record_bodies mid) n k (ap (λ x. x.bodies k) seen-mid ∙ stepped-body k)

    pub room-mid : (k : Key) → HasUserRoom (pairs_of_key done.joins.items k) (users_at mid k)
    room-mid k =
        subst (λ l. HasUserRoom (pairs_of_key l k) (users_at mid k)) (sym is.joins)
        (room_for_joins n j.renewed.found renewal.joins.items j.renewed.joins mid mid-bodies
        (λ q. subst (λ x. MayJoin (count q) (x.users q)) (sym seen-mid) (may-join-stepped run count before changes steps is.steps (seen before) q (is.users q))) k)

    -- users of what is named leave it
    left-named : (k : Key) (u : List ℕ) → list_any (key_eq k) keys ≡ true → lists before k u ≡ true → has_pair renewal.leaves.items k u ≡ true
    left-named k u on uses =
        let used : is_user k (own m u) ≡ true = sym (j.right.users k u) ∙ uses in
        j.renewed.leaves k u
        ∙ ap (λ b. b && is_user k (own m u)) (j.renewed.reached.closed.seeds u (met keys on used))
        ∙ used
      where
        met : (ks : List Key) → list_any (key_eq k) ks ≡ true → is_user k (own m u) ≡ true → list_any (is_met m u) ks ≡ true
        met [] h used = absurd (cc)
        met (x ∷ ks) h used = by (key_eq k x) refl h (λ later. met ks later used) where
          by : (b : Bool) → key_eq k x ≡ b → (b || list_any (key_eq k) ks) ≡ true → (list_any (key_eq k) ks ≡ true → list_any (is_met m u) ks ≡ true)
              → (is_met m u x || list_any (is_met m u) ks) ≡ true
          by true e h rest =
              let same : k ≡ x = key-same k x e in
              ap (λ q. (is_key_of u x || is_user q (own m u)) || list_any (is_met m u) ks) (sym same)
              ∙ ap (λ b. (is_key_of u x || b) || list_any (is_met m u) ks) used
              ∙ ap (λ b. b || list_any (is_met m u) ks) (or-true (is_key_of u x))
          by false e h rest = or_right (is_met m u x) (list_any (is_met m u) ks) (rest h)

    moved-mid : (k : Key) (u : List ℕ)
        → ((lists mid k u && not (has_pair done.leaves.items k u)) || has_pair done.joins.items k u) ≡ is_moved renewal before k u
    moved-mid k u =
        ap (λ l. (lists mid k u && not (has_pair l k u)) || has_pair done.joins.items k u) is.leaves
        ∙ ap (λ l. (lists mid k u && not (has_pair renewal.leaves.items k u)) || has_pair l k u) is.joins
        ∙ ap (λ b. b || has_pair renewal.joins.items k u) (by (users-stepped run count before changes steps is.steps (seen before) k))
      where
        gone : (a b : Bool) → (a ≡ true → b ≡ true) → false ≡ (a && not b)
        gone false b h = refl
        gone true b h = ap not (sym (h refl))

        by : (last.users k ≡ users_at before k) ⊎ ((list_any (key_eq k) keys ≡ true) × ((u : List ℕ) → among (last.users k) u ≡ false))
            → (lists mid k u && not (has_pair renewal.leaves.items k u)) ≡ (lists before k u && not (has_pair renewal.leaves.items k u))
        by (inl same) = ap (λ s. among s u && not (has_pair renewal.leaves.items k u)) (ap (λ x. x.users k) seen-mid ∙ same)
        by (inr none) =
            ap (λ b. b && not (has_pair renewal.leaves.items k u)) (ap (λ x. among (x.users k) u) seen-mid ∙ none.1 u)
            ∙ gone (lists before k u) (has_pair renewal.leaves.items k u) (left-named k u none.0)

    -- ---- the glyphs

    there-none : (g : List ℕ) → is_none (body_at (record_bodies before) (Glyph g)) ≡ not (has_glyph old g)
    there-none g = by (m.glyphs g) (ap is_none (old-body (Glyph g))) (old-has g) where
      by : (b : Option (List Command)) → is_none (body_at (record_bodies before) (Glyph g)) ≡ is_none b → has_glyph old g ≡ is_some b
          → is_none (body_at (record_bodies before) (Glyph g)) ≡ not (has_glyph old g)
      by None e f = e ∙ ap not (sym f)
      by (Some b) e f = e ∙ ap not (sym f)

    -- a glyph that was there keeps its place where it still is and wasn't moved
    stays : (g : List ℕ) → has_glyph old g ≡ true → not (leaves run count before changes g) ≡ (has_glyph new g && not (was_moved changes g))
    stays g was =
        ap not (leaves-as run count before old there-none new (body_at n) new-has changes j.bodies g was)
        ∙ by (list_any (is_key_of g) keys) refl (has_glyph new g) refl
      where
        out : (h w : Bool) → not ((true && not h) || w) ≡ (h && not w)
        out true w = refl
        out false w = refl

        by : (b : Bool) → list_any (is_key_of g) keys ≡ b → (h : Bool) → has_glyph new g ≡ h
            → not ((list_any (is_key_of g) keys && not (has_glyph new g)) || was_moved changes g) ≡ (has_glyph new g && not (was_moved changes g))
        by true e h f = ap (λ b. not ((b && not (has_glyph new g)) || was_moved changes g)) e ∙ out (has_glyph new g) (was_moved changes g)
        by false e h f =
            ap (λ b. not ((b && not (has_glyph new g)) || was_moved changes g)) e
            ∙ ap (λ b. b && not (was_moved changes g))
            (sym (new-has g ∙ ap is_some (sym (same-else (Glyph g) (sym (named-key keys g) ∙ e))) ∙ sym (old-has g) ∙ was))

    names-last : map (λ k. k.name) last.kept ≡ glyph_names new.items
    names-last =
        names-stepped run count before old there-none changes steps is.steps j.keys served (seen before)
        ∙ ap (λ l. filter (λ g. not (leaves run count before changes g)) l ++ last_glyphs old changes)
        (kept-names keys old new before renewal j.edited j.right j.faultless j.renewed)
        ∙ ap (λ l. l ++ last_glyphs old changes)
        (filter-as (λ g. not (leaves run count before changes g)) (λ g. has_glyph new g && not (was_moved changes g)) (glyph_names old.items) stays)
        ∙ ap (λ l. filter (λ g. has_glyph new g && not (was_moved changes g)) (glyph_names old.items) ++ l) (sym j.last)
        ∙ sym j.order

    -- a record that was put in is a rerun's, and each other one was kept
    record IsSet (k : RecordedGlyph) : Type 0 where
      pub put : some_inserts steps k.name ≡ true → IsOneOf (map kept_by reruns) k
      pub stayed : some_inserts steps k.name ≡ false → IsOneOf kept-before k

    sets : AllByRecursion IsSet last.kept
    sets =
        kept-stepped run count before IsSet changes steps is.steps
        (λ name r box on there. record {
          put = λ on'. run-there reruns name r box there;
          stayed = λ off. let never : true ≡ false = sym on ∙ off in absurd (cc);
        })
        (seen before)
        (all-weaken (IsOneOf kept-before) (λ k. some_inserts steps k.name ≡ false → IsSet k)
        (λ k one off. record {
          put = λ on. let never : true ≡ false = sym on ∙ off in absurd (cc);
          stayed = λ off'. one;
        })
        kept-before (all-of kept-before kept-before (λ k i. i)))

    abbrev left : List Rerun
    left = reruns_by_name done.runs.entries

    renewed-one-by : (k : RecordedGlyph) → IsSet k → has_glyph new k.name ≡ true → IsRenewedBy keys old reruns kept-before (with_rerun (rerun_of left k.name) k)
    renewed-one-by k set there =
        subst (IsRenewedBy keys old reruns kept-before) (sym (as-pair (rerun_of left k.name) k ∙ ap (λ r. with-pair r k) (is.runs k.name)))
        (by (some_inserts steps k.name) refl)
      where
        by : (b : Bool) → some_inserts steps k.name ≡ b → IsRenewedBy keys old reruns kept-before (with-pair (cond b None (new_run reruns k.name)) k)
        by true on = record {
          stale = λ on'. set.put on;
          fresh = λ off.
              let never : true ≡ false = sym (named-stale m keys k.name (named-key keys k.name ∙ inserted-named run count before changes steps is.steps k.name on)) ∙ off in
              absurd (cc);
        }
        by false off =
            subst (IsRenewedBy keys old reruns kept-before) (as-pair (rerun_of reruns k.name) k)
            (renewed-one keys old reruns reruns kept-before (λ x i. i) k
            (ready keys old new before renewal j.edited j.right j.faultless j.renewed reruns k refl there (set.stayed off)))

    renewed-last : AllByRecursion (IsRenewedBy keys old reruns kept-before) (with_reruns left last.kept)
    renewed-last =
        all-mapped (IsRenewedBy keys old reruns kept-before) (λ k. with_rerun (rerun_of left k.name) k) last.kept
        (all-two IsSet (λ k. has_glyph new k.name ≡ true) (λ k. IsRenewedBy keys old reruns kept-before (with_rerun (rerun_of left k.name) k)) renewed-one-by last.kept sets
        (all-named (λ k. has_glyph new k.name ≡ true) last.kept (λ k among. ap (list_any (bytes_eq k.name)) (sym names-last) ∙ among)))

    -- ---- the records at last

    pub settled-by : (moved after : Records) → rest_of moved ≡ rest_of mid
        → ((k : Key) (u : List ℕ) → lists moved k u ≡ ((lists mid k u && not (has_pair done.leaves.items k u)) || has_pair done.joins.items k u))
        → SameBodies (record_bodies after) (record_bodies moved) → ((k : Key) → users_at after k ≡ users_at moved k)
        → map kept_of after.glyphs.entries ≡ with_reruns left (map kept_of moved.glyphs.entries)
        → IsRight new after × AllByRecursion (IsRenewedBy keys old reruns kept-before) (map kept_of after.glyphs.entries)
    settled-by moved after rest users same stay renews =
        settled keys old new before renewal j.edited j.right j.faultless j.renewed after (with_reruns left last.kept)
        (λ k. same-at (record_bodies after) n k
        (at-same (record_bodies after) (record_bodies moved) k (same k)
        ∙ at-same (record_bodies moved) (record_bodies mid) k ((rest_same mid moved rest).0 k)
        ∙ ap (λ x. x.bodies k) seen-mid ∙ stepped-body k))
        (λ k u. ap (λ s. among s u) (stay k) ∙ users k u ∙ moved-mid k u
        ∙ moved-at keys old new before renewal j.edited j.right j.faultless j.renewed k u)
        (renews ∙ ap (with_reruns left) ((rest_same mid moved rest).1 ∙ ap (λ x. x.kept) seen-mid))
        (names-stay left last.kept ∙ names-last)
        renewed-last
