-- The steps of changes bring records to those of the edited source.
use Rattle.std.proofs.Common.{◌≡◌, ℕ, Bool, true, false, cond, List, [], ◌∷◌, ◌++◌, map, filter, not, refl, sym, ◌∙◌, ap, subst, Option, Some, None, ◌⊎◌, inl, inr, is_some, is_none}
use Rattle.std.specs.Prelude.{◌||◌, ◌&&◌, IsSome}
use Rattle.std.specs.List.{AllByRecursion, list_any}
use Rattle.std.specs.Option.{option_map}
use Rattle.std.specs.Str.{bytes_eq}
use Rattle.std.proofs.Math.Bool.{and-false, and-true, or-false}
use Rattle.std.proofs.lemmas.Bool.{not-true, or_left, or_parts, or_right}
use Rattle.std.proofs.lemmas.List.{append-nil, append_assoc}
use Rattle.std.proofs.lemmas.List.Folds.{list_any-append}
use Rattle.std.proofs.lemmas.List.Elements.{filter-append}
use Rattle.t1_code.specs.declared.command.Command.{Command}
use Rattle.t1_parts.specs.SourceParts.{SourceParts}
use Rattle.t1_run.specs.Run.{Key, Subr, Glyph}
use Rattle.t1_run.specs.RunKeys.{body_at, key_eq}
use Rattle.t1_extent.specs.Kept.{TracedRun}
use Rattle.t1_run.specs.Touched.{is_key_of}
use Rattle.t1_afm.specs.declared.bbox.BBox.{BBox}
use Rattle.t1_font.specs.declared.owned_key.OwnedKey.{OwnedKey}
use Rattle.t1_font.specs.declared.owned_key.OwnedKey.TheVariants as named
use Rattle.t1_cache.specs.declared.records.Records.{Records}
use Rattle.t1_cache.specs.Bodies.{record_bodies}
use Rattle.t1_cache.specs.Renewed.{kept}
use Rattle.t1_cache.specs.Recorded.{RecordedGlyph}
use Rattle.t1_cache.specs.Room.{MayJoin}
use Rattle.t1_cache.specs.Users.{among, is_name_among, users_of, UserSet}
use Rattle.t1_font.specs.OwnedKeys.{key_of}
use Rattle.t1_font.proofs.Keys.{key-same, glyph-key}
use Rattle.t1_cache.proofs.Lists.{all-weaken, all-last}
use Rattle.t1_cache.proofs.Filtering.{filter-all, filter-both}
use Rattle.t1_font.proofs.Lookups.{bytes_tell, bytes-turned}
use Rattle.t1_rerun.specs.declared.entry_change.EntryChange.{EntryChange}
use Rattle.t1_rerun.specs.declared.settling.RecordChange.{RecordChange}
use Rattle.t1_rerun.specs.declared.settling.RecordChange.TheVariants as steps
use Rattle.t1_rerun.specs.Right.{has_glyph}
use Rattle.t1_rerun.specs.Settled.{changed_keys, last_glyph, last_glyphs, was_moved, AreDistinctKeys}
use Rattle.t1_rerun.specs.Steps.{seen_after, after_all, inserts, is_last, some_inserts, step_body, step_key, step_kept, step_users, AreStepsOf, IsStepOf, LacksRun, Seen}

-- ---- the last step comes first

pub after-last : (steps : List RecordChange) (step : RecordChange) (x : Seen) → after_all (steps ++ step ∷ []) x ≡ after_all steps (seen_after step x)
after-last [] step x = refl
after-last (s ∷ steps) step x = ap (seen_after s) (after-last steps step x)

pub inserts-last : (steps : List RecordChange) (step : RecordChange) (g : List ℕ) → some_inserts (steps ++ step ∷ []) g ≡ (some_inserts steps g || inserts step g)
inserts-last steps step g =
    list_any-append (λ s. inserts s g) steps (step ∷ [])
    ∙ ap (λ b. some_inserts steps g || b) (or-false (inserts step g))

-- ---- glyphs and keys

pub named-key : (ks : List Key) (g : List ℕ) → list_any (is_key_of g) ks ≡ list_any (key_eq (Glyph g)) ks
named-key [] g = refl
named-key (k ∷ ks) g = ap (λ b. b || list_any (is_key_of g) ks) (glyph-key g k) ∙ ap (λ b. key_eq (Glyph g) k || b) (named-key ks g)

abbrev names : List RecordedGlyph → List (List ℕ)
names ks = map (λ k. k.name) ks

names-append : (xs ys : List RecordedGlyph) → names (xs ++ ys) ≡ names xs ++ names ys
names-append [] ys = refl
names-append (x ∷ xs) ys = ap (λ l. x.name ∷ l) (names-append xs ys)

names-filtered : (p : List ℕ → Bool) (xs : List RecordedGlyph) → names (filter (λ k. p k.name) xs) ≡ filter p (names xs)
names-filtered p [] = refl
names-filtered p (k ∷ xs) = by (p k.name) (names-filtered p xs) where
  by : (b : Bool) → names (filter (λ k. p k.name) xs) ≡ filter p (names xs)
      → names (cond b (k ∷ filter (λ k. p k.name) xs) (filter (λ k. p k.name) xs)) ≡ cond b (k.name ∷ filter p (names xs)) (filter p (names xs))
  by true rest = ap (λ l. k.name ∷ l) rest
  by false rest = rest

all-passing : (P Q : RecordedGlyph → Type 0) (p : RecordedGlyph → Bool) → ((k : RecordedGlyph) → p k ≡ true → P k → Q k) → (xs : List RecordedGlyph) → AllByRecursion P xs → AllByRecursion Q (filter p xs)
all-passing P Q p step [] all = tt
all-passing P Q p step (x ∷ xs) all = by (p x) refl (all-passing P Q p step xs all.1) where
  by : (b : Bool) → p x ≡ b → AllByRecursion Q (filter p xs) → AllByRecursion Q (cond b (x ∷ filter p xs) (filter p xs))
  by true on rest = (step x on all.0, rest)
  by false off rest = rest

pub kept-but-subr : (n : ℕ) (d : OwnedKey) (xs : List RecordedGlyph) → d ≡ named.Subr n → xs ≡ filter (λ k. not (is_key_of k.name (key_of d))) xs
kept-but-subr n d xs e = sym (all xs) ∙ ap (λ x. filter (λ k. not (is_key_of k.name (key_of x))) xs) (sym e) where
  all : (ks : List RecordedGlyph) → filter (λ k. true) ks ≡ ks
  all [] = refl
  all (k ∷ ks) = ap (λ l. k ∷ l) (all ks)

-- ---- the steps of changes

module _ (run : List ℕ → Option (TracedRun × Option BBox)) (count : Key → ℕ) (records : Records) where
  abbrev Are : List EntryChange → List RecordChange → Type 0
  Are = AreStepsOf run count records

  abbrev Is : EntryChange → RecordChange → Type 0
  Is = IsStepOf run count records

  -- a change of a glyph that is put in has a new run
  abbrev pub IsServed : EntryChange → Type 0
  IsServed c = is_last records c.moved c.named ≡ true → LacksRun run c.named → c.body ≡ None

  pub key-step : (c : EntryChange) (s : RecordChange) → Is c s → step_key s ≡ key_of c.named
  key-step c (steps.Remove named) h = ap key_of (sym h.0)
  key-step c (steps.Put named body) h = ap key_of (sym h.0)
  key-step c (steps.InsertSubr n r) h = ap key_of (sym h.0)
  key-step c (steps.InsertGlyph name r) h = ap key_of (sym h.0)

  gone : (c : EntryChange) (named : OwnedKey) → IsServed c → c.named ≡ named → (c.body ≡ None) ⊎ ((is_last records c.moved named ≡ true) × LacksRun run named) → c.body ≡ None
  gone c named served is (inl none) = none
  gone c named served is (inr lacks) =
      served (ap (is_last records c.moved) is ∙ lacks.0) (subst (LacksRun run) (sym is) lacks.1)

  -- ---- bodies

  apart-bodies : (cs : List EntryChange) (ss : List RecordChange) → Are cs ss → (x : Seen) (k : Key) → list_any (key_eq k) (changed_keys cs) ≡ false
      → (after_all ss x).bodies k ≡ x.bodies k
  apart-bodies [] ss h x k off = ap (λ l. (after_all l x).bodies k) h
  apart-bodies (c ∷ cs) ss h x k off =
      let front = h.0 in
      let s = h.1.0 in
      let both = or_parts (key_eq k (key_of c.named)) (list_any (key_eq k) (changed_keys cs)) off in
      ap (λ l. (after_all l x).bodies k) h.1.1.0
      ∙ ap (λ y. y.bodies k) (after-last front s x)
      ∙ apart-bodies cs front h.1.1.1.1 (seen_after s x) k both.1
      ∙ ap (λ b. cond b (step_body s (x.bodies k)) (x.bodies k)) (ap (key_eq k) (key-step c s h.1.1.1.0) ∙ both.0)

  put-some : (was : Option (List Command)) (body : List Command) → IsSome was → option_map (λ old. body) was ≡ Some body
  put-some None body there = absurd (cc)
  put-some (Some old) body there = refl

  body-step : (c : EntryChange) (s : RecordChange) → Is c s → IsServed c → (was : Option (List Command)) → was ≡ body_at (record_bodies records) (key_of c.named)
      → step_body s was ≡ c.body
  body-step c (steps.Remove named) h served was e = sym (gone c named served h.0 h.1)
  body-step c (steps.Put named body) h served was e =
      put-some was body (subst (λ b. IsSome b) (sym (e ∙ ap (λ d. body_at (record_bodies records) (key_of d)) h.0)) h.1.1.1)
      ∙ sym h.1.0
  body-step c (steps.InsertSubr n r) h served was e = sym h.1.0
  body-step c (steps.InsertGlyph name r) h served was e = sym h.1.0

  -- each key has what the edited source has
  pub bodies-stepped : (b : Key → Option (List Command)) (cs : List EntryChange) (ss : List RecordChange) → Are cs ss → AreDistinctKeys (changed_keys cs)
      → AllByRecursion IsServed cs → AllByRecursion (λ c. b (key_of c.named) ≡ c.body) cs → (x : Seen) (k : Key) → x.bodies k ≡ body_at (record_bodies records) k
      → (list_any (key_eq k) (changed_keys cs) ≡ false → body_at (record_bodies records) k ≡ b k) → (after_all ss x).bodies k ≡ b k
  bodies-stepped b [] ss h d served is_name_among x k was other = ap (λ l. (after_all l x).bodies k) h ∙ was ∙ other refl
  bodies-stepped b (c ∷ cs) ss h d served is_name_among x k was other =
      ap (λ l. (after_all l x).bodies k) h.1.1.0 ∙ ap (λ y. y.bodies k) (after-last h.0 h.1.0 x)
      ∙ by (key_eq k (key_of c.named)) refl
      (λ e. bodies-stepped b cs h.0 h.1.1.1.1 d.1 served.1 is_name_among.1 (seen_after h.1.0 x) k (at-step false e ∙ was)
      (λ off. other (ap (λ t. t || list_any (key_eq k) (changed_keys cs)) e ∙ off)))
    where
      at-step : (on : Bool) → key_eq k (key_of c.named) ≡ on → (seen_after h.1.0 x).bodies k ≡ cond on (step_body h.1.0 (x.bodies k)) (x.bodies k)
      at-step on e = ap (λ t. cond t (step_body h.1.0 (x.bodies k)) (x.bodies k)) (ap (key_eq k) (key-step c h.1.0 h.1.1.1.0) ∙ e)

      by : (on : Bool) → key_eq k (key_of c.named) ≡ on → (key_eq k (key_of c.named) ≡ false → (after_all h.0 (seen_after h.1.0 x)).bodies k ≡ b k)
          → (after_all h.0 (seen_after h.1.0 x)).bodies k ≡ b k
      by true e rest =
          let is = key-same k (key_of c.named) e in
          apart-bodies cs h.0 h.1.1.1.1 (seen_after h.1.0 x) k (ap (λ j. list_any (key_eq j) (changed_keys cs)) is ∙ d.0)
          ∙ at-step true e
          ∙ body-step c h.1.0 h.1.1.1.0 served.0 (x.bodies k) (was ∙ ap (body_at (record_bodies records)) is)
          ∙ sym is_name_among.0 ∙ ap b (sym is)
      by false e rest = rest e

  -- ---- users

  may-join-step : (c : EntryChange) (s : RecordChange) → Is c s → (k : Key) (was : Option UserSet) → MayJoin (count k) was → (on : Bool) → key_eq k (step_key s) ≡ on
      → MayJoin (count k) (cond on (step_users s was) was)
  may-join-step c s h k was had false e = had
  may-join-step c (steps.Remove named) h k was had true e = tt
  may-join-step c (steps.Put named body) h k was had true e = had
  may-join-step c (steps.InsertSubr n r) h k was had true e = subst (λ j. MayJoin (count j) (Some (users_of r.users))) (sym (key-same k (Subr n) e)) h.1.1.1
  may-join-step c (steps.InsertGlyph name r) h k was had true e =
      subst (λ j. MayJoin (count j) (Some (users_of r.users))) (sym (key-same k (Glyph name.items) e)) h.1.1.1.0.1

  -- there is room for those that join
  pub may-join-stepped : (cs : List EntryChange) (ss : List RecordChange) → Are cs ss → (x : Seen) (k : Key) → MayJoin (count k) (x.users k) → MayJoin (count k) ((after_all ss x).users k)
  may-join-stepped [] ss h x k had = subst (λ l. MayJoin (count k) ((after_all l x).users k)) (sym h) had
  may-join-stepped (c ∷ cs) ss h x k had =
      subst (λ y. MayJoin (count k) (y.users k)) (sym (ap (λ l. after_all l x) h.1.1.0 ∙ after-last h.0 h.1.0 x))
      (may-join-stepped cs h.0 h.1.1.1.1 (seen_after h.1.0 x) k (may-join-step c h.1.0 h.1.1.1.0 k (x.users k) had (key_eq k (step_key h.1.0)) refl))

  -- the users at a key are as they were, or a change names the key and it has none
  abbrev pub StayOrGo : List EntryChange → Key → Option UserSet → Option UserSet → Type 0
  StayOrGo cs k was now = (now ≡ was) ⊎ ((list_any (key_eq k) (changed_keys cs) ≡ true) × ((u : List ℕ) → among now u ≡ false))

  users-step : (c : EntryChange) (s : RecordChange) → Is c s → (k : Key) (was : Option UserSet) → (on : Bool) → key_eq k (step_key s) ≡ on
      → (cond on (step_users s was) was ≡ was) ⊎ ((u : List ℕ) → among (cond on (step_users s was) was) u ≡ false)
  users-step c s h k was false e = inl refl
  users-step c (steps.Remove named) h k was true e = inr (λ u. refl)
  users-step c (steps.Put named body) h k was true e = inl refl
  users-step c (steps.InsertSubr n r) h k was true e = inr (λ u. ap (λ l. is_name_among (λ name. name.items) l u) h.1.1.0)
  users-step c (steps.InsertGlyph name r) h k was true e = inr (λ u. ap (λ l. is_name_among (λ name. name.items) l u) h.1.1.1.0.0)

  pub users-stepped : (cs : List EntryChange) (ss : List RecordChange) → Are cs ss → (x : Seen) (k : Key) → StayOrGo cs k (x.users k) ((after_all ss x).users k)
  users-stepped [] ss h x k = inl (ap (λ l. (after_all l x).users k) h)
  users-stepped (c ∷ cs) ss h x k =
      subst (λ y. StayOrGo (c ∷ cs) k (x.users k) (y.users k)) (sym (ap (λ l. after_all l x) h.1.1.0 ∙ after-last h.0 h.1.0 x))
      (by (users-stepped cs h.0 h.1.1.1.1 (seen_after h.1.0 x) k) (key_eq k (step_key h.1.0)) refl)
    where
      now : Option UserSet
      now = (after_all h.0 (seen_after h.1.0 x)).users k

      first : (on : Bool) → key_eq k (step_key h.1.0) ≡ on → now ≡ (seen_after h.1.0 x).users k
          → (cond on (step_users h.1.0 (x.users k)) (x.users k) ≡ x.users k) ⊎ ((u : List ℕ) → among (cond on (step_users h.1.0 (x.users k)) (x.users k)) u ≡ false)
          → StayOrGo (c ∷ cs) k (x.users k) now
      first on e same (inl stays) = inl (same ∙ ap (λ t. cond t (step_users h.1.0 (x.users k)) (x.users k)) e ∙ stays)
      first true e same (inr none) = inr (
        or_left (key_eq k (key_of c.named)) (list_any (key_eq k) (changed_keys cs)) (ap (key_eq k) (sym (key-step c h.1.0 h.1.1.1.0)) ∙ e),
        λ u. ap (λ v. among v u) (same ∙ ap (λ t. cond t (step_users h.1.0 (x.users k)) (x.users k)) e) ∙ none u,
      )
      first false e same (inr none) = inl (same ∙ ap (λ t. cond t (step_users h.1.0 (x.users k)) (x.users k)) e)

      by : StayOrGo cs k ((seen_after h.1.0 x).users k) now → (on : Bool) → key_eq k (step_key h.1.0) ≡ on → StayOrGo (c ∷ cs) k (x.users k) now
      by (inl same) on e = first on e same (users-step c h.1.0 h.1.1.1.0 k (x.users k) on e)
      by (inr none) on e = inr (or_right (key_eq k (key_of c.named)) (list_any (key_eq k) (changed_keys cs)) none.0, none.1)

  -- ---- glyphs

  -- a glyph leaves its place: it is removed, or put in again
  abbrev pub leaves_at : EntryChange → List ℕ → Bool
  leaves_at c g = is_key_of g (key_of c.named) && (is_none c.body || is_last records c.moved c.named)

  abbrev pub leaves : List EntryChange → List ℕ → Bool
  leaves cs g = list_any (λ c. leaves_at c g) cs

  leaves-apart : (cs : List EntryChange) (g : List ℕ) → list_any (key_eq (Glyph g)) (changed_keys cs) ≡ false → leaves cs g ≡ false
  leaves-apart [] g off = refl
  leaves-apart (c ∷ cs) g off =
      let both = or_parts (key_eq (Glyph g) (key_of c.named)) (list_any (key_eq (Glyph g)) (changed_keys cs)) off in
      ap (λ b. (b && (is_none c.body || is_last records c.moved c.named)) || leaves cs g) (glyph-key g (key_of c.named) ∙ both.0)
      ∙ leaves-apart cs g both.1

  module _ (old : SourceParts) (there : (g : List ℕ) → is_none (body_at (record_bodies records) (Glyph g)) ≡ not (has_glyph old g)) where
    abbrev last_of : EntryChange → List (List ℕ)
    last_of c = last_glyph old c.moved c.body c.named

    last-is : (moved : Bool) (body : List Command) (d : OwnedKey) → is_last records moved d ≡ false → last_glyph old moved (Some body) d ≡ []
    last-is moved body (named.Subr n) e = refl
    last-is moved body (named.Glyph g) e = ap (λ b. cond b (g ∷ []) []) (ap (λ b. moved || b) (sym (there g)) ∙ e)

    -- names with one step made
    names-step : (c : EntryChange) (s : RecordChange) → Is c s → IsServed c → (ks : List RecordedGlyph)
        → names (step_kept s ks) ≡ filter (λ g. not (leaves_at c g)) (names ks) ++ last_of c
    names-step c (steps.Remove d) h served ks =
        let none = gone c d served h.0 h.1 in
        names-filtered (λ g. not (is_key_of g (key_of d))) ks
        ∙ ap (λ p. filter p (names ks)) (λ j. λ g. not (at g j))
        ∙ sym (append-nil (filter (λ g. not (leaves_at c g)) (names ks)))
        ∙ ap (λ b. filter (λ g. not (leaves_at c g)) (names ks) ++ last_glyph old c.moved b c.named) (sym none)
      where
        at : (g : List ℕ) → is_key_of g (key_of d) ≡ leaves_at c g
        at g =
            ap (λ e. is_key_of g (key_of e)) (sym h.0)
            ∙ sym (and-true (is_key_of g (key_of c.named)))
            ∙ ap (λ b. is_key_of g (key_of c.named) && (is_none b || is_last records c.moved c.named)) (sym (gone c d served h.0 h.1))
    names-step c (steps.Put d body) h served ks =
        sym (filter-all (names ks))
        ∙ ap (λ p. filter p (names ks)) (λ j. λ g. not (at g j))
        ∙ sym (append-nil (filter (λ g. not (leaves_at c g)) (names ks)))
        ∙ ap (λ l. filter (λ g. not (leaves_at c g)) (names ks) ++ l)
        (sym (ap (λ b. last_glyph old c.moved b c.named) h.1.0 ∙ last-is c.moved body c.named (ap (is_last records c.moved) h.0 ∙ h.1.1.0)))
      where
        at : (g : List ℕ) → false ≡ leaves_at c g
        at g =
            sym (ap (λ b. is_key_of g (key_of c.named) && (is_none b || is_last records c.moved c.named)) h.1.0
            ∙ ap (λ b. is_key_of g (key_of c.named) && b) (ap (is_last records c.moved) h.0 ∙ h.1.1.0)
            ∙ and-false (is_key_of g (key_of c.named)))
    names-step c (steps.InsertSubr n r) h served ks =
        sym (filter-all (names ks))
        ∙ ap (λ p. filter p (names ks)) (λ j. λ g. not (at g j))
        ∙ sym (append-nil (filter (λ g. not (leaves_at c g)) (names ks)))
        ∙ ap (λ l. filter (λ g. not (leaves_at c g)) (names ks) ++ l)
        (sym (ap (λ b. last_glyph old c.moved b c.named) h.1.0 ∙ ap (last_glyph old c.moved (Some r.body)) h.0))
      where
        at : (g : List ℕ) → false ≡ leaves_at c g
        at g = sym (ap (λ d. is_key_of g (key_of d) && (is_none c.body || is_last records c.moved c.named)) h.0)
    names-step c (steps.InsertGlyph name r) h served ks =
        names-append (filter (λ k. not (bytes_eq name.items k.name)) ks) (kept name.items r.run r.bbox ∷ [])
        ∙ ap (λ l. l ++ name.items ∷ []) (names-filtered (λ g. not (bytes_eq name.items g)) ks ∙ ap (λ p. filter p (names ks)) (λ j. λ g. not (at g j)))
        ∙ ap (λ l. filter (λ g. not (leaves_at c g)) (names ks) ++ l)
        (sym (ap (λ b. last_glyph old c.moved b c.named) h.1.0
        ∙ ap (last_glyph old c.moved (Some r.body)) h.0
        ∙ ap (λ b. cond b (name.items ∷ []) []) (ap (λ b. c.moved || b) (sym (there name.items)) ∙ ap (is_last records c.moved) (sym h.0) ∙ h.1.1.0)))
      where
        at : (g : List ℕ) → bytes_eq name.items g ≡ leaves_at c g
        at g =
            bytes-turned name.items g
            ∙ sym (and-true (bytes_eq g name.items))
            ∙ sym (ap (λ d. is_key_of g (key_of d) && (is_none c.body || is_last records c.moved d)) h.0
            ∙ ap (λ b. bytes_eq g name.items && (is_none b || is_last records c.moved (named.Glyph name.items))) h.1.0
            ∙ ap (λ b. bytes_eq g name.items && b) (ap (is_last records c.moved) (sym h.0) ∙ h.1.1.0))

    -- a glyph that stands last stays there, where no other change names it
    last-stays : (moved : Bool) (body : Option (List Command)) (d : OwnedKey) (cs : List EntryChange) → list_any (key_eq (key_of d)) (changed_keys cs) ≡ false
        → filter (λ g. not (leaves cs g)) (last_glyph old moved body d) ≡ last_glyph old moved body d
    last-stays moved None d cs off = refl
    last-stays moved (Some body) (named.Subr n) cs off = refl
    last-stays moved (Some body) (named.Glyph g) cs off = by (moved || not (has_glyph old g)) where
      by : (b : Bool) → filter (λ g. not (leaves cs g)) (cond b (g ∷ []) []) ≡ cond b (g ∷ []) []
      by true = ap (λ b. cond (not b) (g ∷ []) []) (leaves-apart cs g off)
      by false = refl

    -- the names after all steps: those that keep their places, then the last ones
    pub names-stepped : (cs : List EntryChange) (ss : List RecordChange) → Are cs ss → AreDistinctKeys (changed_keys cs) → AllByRecursion IsServed cs → (x : Seen)
        → names (after_all ss x).kept ≡ filter (λ g. not (leaves cs g)) (names x.kept) ++ last_glyphs old cs
    names-stepped [] ss h d served x =
        ap (λ l. names (after_all l x).kept) h ∙ sym (filter-all (names x.kept)) ∙ sym (append-nil (filter (λ g. true) (names x.kept)))
    names-stepped (c ∷ cs) ss h d served x =
        let p : List ℕ → Bool = λ g. not (leaves cs g) in
        let q : List ℕ → Bool = λ g. not (leaves_at c g) in
        ap (λ l. names (after_all l x).kept) h.1.1.0
        ∙ ap (λ y. names y.kept) (after-last h.0 h.1.0 x)
        ∙ names-stepped cs h.0 h.1.1.1.1 d.1 served.1 (seen_after h.1.0 x)
        ∙ ap (λ l. filter p l ++ last_glyphs old cs) (names-step c h.1.0 h.1.1.1.0 served.0 x.kept)
        ∙ ap (λ l. l ++ last_glyphs old cs) (filter-append p (filter q (names x.kept)) (last_of c))
        ∙ ap (λ l. (filter p (filter q (names x.kept)) ++ l) ++ last_glyphs old cs) (last-stays c.moved c.body c.named cs d.0)
        ∙ ap (λ l. (l ++ last_of c) ++ last_glyphs old cs)
        (filter-both q p (names x.kept) ∙ ap (λ t. filter t (names x.kept)) (λ j. λ g. both (leaves_at c g) (leaves cs g) j))
        ∙ append_assoc (filter (λ g. not (leaves (c ∷ cs) g)) (names x.kept)) (last_of c) (last_glyphs old cs)
      where
        both : (a b : Bool) → (not a && not b) ≡ not (a || b)
        both true b = refl
        both false b = refl

    -- of the glyphs that were there, those leave their places that aren't there or that were moved
    pub leaves-as : (new : SourceParts) (n : Key → Option (List Command)) → ((g : List ℕ) → has_glyph new g ≡ is_some (n (Glyph g)))
        → (cs : List EntryChange) → AllByRecursion (λ c. n (key_of c.named) ≡ c.body) cs → (g : List ℕ) → has_glyph old g ≡ true
        → leaves cs g ≡ ((list_any (is_key_of g) (changed_keys cs) && not (has_glyph new g)) || was_moved cs g)
    leaves-as new n is_name_among [] bodies g was = refl
    leaves-as new n is_name_among (c ∷ cs) bodies g was =
        ap (λ b. leaves_at c g || b) (leaves-as new n is_name_among cs bodies.1 g was)
        ∙ ap (λ b. b || ((list_any (is_key_of g) (changed_keys cs) && not (has_glyph new g)) || was_moved cs g)) (one c.named refl (is_key_of g (key_of c.named)) refl)
        ∙ mix (is_key_of g (key_of c.named)) (not (has_glyph new g)) c.moved (list_any (is_key_of g) (changed_keys cs)) (was_moved cs g)
      where
        mix : (a n m b w : Bool) → ((a && (n || m)) || ((b && n) || w)) ≡ (((a || b) && n) || ((m && a) || w))
        mix false n true b w = refl
        mix false n false b w = refl
        mix true true m b w = refl
        mix true false true b w = refl
        mix true false false true w = refl
        mix true false false false w = refl

        none-some : (o : Option (List Command)) → is_none o ≡ not (is_some o)
        none-some None = refl
        none-some (Some body) = refl

        one : (d : OwnedKey) → c.named ≡ d → (b : Bool) → is_key_of g (key_of c.named) ≡ b
            → leaves_at c g ≡ (is_key_of g (key_of c.named) && (not (has_glyph new g) || c.moved))
        one d is false e =
            ap (λ t. t && (is_none c.body || is_last records c.moved c.named)) e
            ∙ sym (ap (λ t. t && (not (has_glyph new g) || c.moved)) e)
        one (named.Subr m) is true e = let never : false ≡ true = ap (λ d. is_key_of g (key_of d)) (sym is) ∙ e in absurd (cc)
        one (named.Glyph h) is true e =
            let same : g ≡ h = bytes_tell.same g h (ap (λ d. is_key_of g (key_of d)) (sym is) ∙ e) in
            ap (λ t. is_key_of g (key_of c.named) && (t || is_last records c.moved c.named))
            (ap is_none (sym bodies.0 ∙ ap (λ d. n (key_of d)) is ∙ ap (λ x. n (Glyph x)) (sym same)) ∙ none-some (n (Glyph g)) ∙ ap not (sym (is_name_among g)))
            ∙ ap (λ t. is_key_of g (key_of c.named) && (not (has_glyph new g) || t))
            (ap (is_last records c.moved) is ∙ ap (λ t. c.moved || t) (there h ∙ ap (λ x. not (has_glyph old x)) (sym same) ∙ ap not was) ∙ or-false c.moved)

  -- ---- what is kept

  -- what holds of each new record, and of each record that none takes the place of, holds of all
  pub kept-stepped : (Q : RecordedGlyph → Type 0) (cs : List EntryChange) (ss : List RecordChange) → Are cs ss
      → ((name : List ℕ) (r : TracedRun) (box : Option BBox) → some_inserts ss name ≡ true → run name ≡ Some (r, box) → Q (kept name r box))
      → (x : Seen) → AllByRecursion (λ k. some_inserts ss k.name ≡ false → Q k) x.kept → AllByRecursion Q (after_all ss x).kept
  kept-stepped Q [] ss h each x all =
      subst (λ l. AllByRecursion Q (after_all l x).kept) (sym h)
      (all-weaken (λ k. some_inserts ss k.name ≡ false → Q k) Q (λ k q. q (ap (λ l. some_inserts l k.name) h)) x.kept all)
  kept-stepped Q (c ∷ cs) ss h each x all =
      subst (λ y. AllByRecursion Q y.kept) (sym (ap (λ l. after_all l x) h.1.1.0 ∙ after-last h.0 h.1.0 x))
      (kept-stepped Q cs h.0 h.1.1.1.1
      (λ name r box on. each name r box (ap (λ l. some_inserts l name) h.1.1.0 ∙ inserts-last h.0 h.1.0 name ∙ or_left (some_inserts h.0 name) (inserts h.1.0 name) on))
      (seen_after h.1.0 x) (by h.1.0 refl))
    where
      -- of the steps that are left none puts in this glyph
      P : RecordedGlyph → Type 0
      P k = some_inserts h.0 k.name ≡ false → Q k

      earlier : (s : RecordChange) → h.1.0 ≡ s → (k : RecordedGlyph) → inserts s k.name ≡ false → (some_inserts ss k.name ≡ false → Q k) → P k
      earlier s is k apart q off =
          q (ap (λ l. some_inserts l k.name) h.1.1.0 ∙ inserts-last h.0 h.1.0 k.name
          ∙ ap (λ b. b || inserts h.1.0 k.name) off ∙ ap (λ t. inserts t k.name) is ∙ apart)

      by : (s : RecordChange) → h.1.0 ≡ s → AllByRecursion P (step_kept s x.kept)
      by (steps.Remove d) is =
          all-passing (λ k. some_inserts ss k.name ≡ false → Q k) P (λ k. not (is_key_of k.name (key_of d))) (λ k on q. earlier (steps.Remove d) is k refl q) x.kept all
      by (steps.Put d body) is = all-weaken (λ k. some_inserts ss k.name ≡ false → Q k) P (λ k q. earlier (steps.Put d body) is k refl q) x.kept all
      by (steps.InsertSubr n r) is = all-weaken (λ k. some_inserts ss k.name ≡ false → Q k) P (λ k q. earlier (steps.InsertSubr n r) is k refl q) x.kept all
      by (steps.InsertGlyph name r) is =
          all-last P (filter (λ k. not (bytes_eq name.items k.name)) x.kept) (kept name.items r.run r.bbox)
          (all-passing (λ k. some_inserts ss k.name ≡ false → Q k) P (λ k. not (bytes_eq name.items k.name))
          (λ k on q. earlier (steps.InsertGlyph name r) is k (not-true (bytes_eq name.items k.name) on) q) x.kept all)
          (λ off. each name.items r.run r.bbox
          (ap (λ l. some_inserts l name.items) h.1.1.0 ∙ inserts-last h.0 h.1.0 name.items
          ∙ or_right (some_inserts h.0 name.items) (inserts h.1.0 name.items) (ap (λ t. inserts t name.items) is ∙ bytes_tell.itself name.items))
          (run-of (subst (Is c) is h.1.1.1.0)))
        where
          run-of : Is c (steps.InsertGlyph name r) → run name.items ≡ Some (r.run, r.bbox)
          run-of g = g.1.1.1.1

  -- a glyph that is put in is named
  pub inserted-named : (cs : List EntryChange) (ss : List RecordChange) → Are cs ss → (g : List ℕ) → some_inserts ss g ≡ true → list_any (key_eq (Glyph g)) (changed_keys cs) ≡ true
  inserted-named [] ss h g on = let never : false ≡ true = ap (λ l. some_inserts l g) (sym h) ∙ on in absurd (cc)
  inserted-named (c ∷ cs) ss h g on =
      by (some_inserts h.0 g) refl h.1.0 h.1.1.1.0 (sym (ap (λ l. some_inserts l g) h.1.1.0 ∙ inserts-last h.0 h.1.0 g) ∙ on)
      (inserted-named cs h.0 h.1.1.1.1 g)
    where
      by : (b : Bool) → some_inserts h.0 g ≡ b → (s : RecordChange) → Is c s → (some_inserts h.0 g || inserts s g) ≡ true
          → (some_inserts h.0 g ≡ true → list_any (key_eq (Glyph g)) (changed_keys cs) ≡ true)
          → (key_eq (Glyph g) (key_of c.named) || list_any (key_eq (Glyph g)) (changed_keys cs)) ≡ true
      by true e s is both rest = or_right (key_eq (Glyph g) (key_of c.named)) (list_any (key_eq (Glyph g)) (changed_keys cs)) (rest e)
      by false e (steps.Remove d) is both rest = let never : false ≡ true = ap (λ b. b || false) (sym e) ∙ both in absurd (cc)
      by false e (steps.Put d body) is both rest = let never : false ≡ true = ap (λ b. b || false) (sym e) ∙ both in absurd (cc)
      by false e (steps.InsertSubr n r) is both rest = let never : false ≡ true = ap (λ b. b || false) (sym e) ∙ both in absurd (cc)
      by false e (steps.InsertGlyph name r) is both rest =
          or_left (key_eq (Glyph g) (key_of c.named)) (list_any (key_eq (Glyph g)) (changed_keys cs))
          (ap (λ d. key_eq (Glyph g) (key_of d)) is.0 ∙ bytes-turned g name.items ∙ ap (λ b. b || bytes_eq name.items g) (sym e) ∙ both)
