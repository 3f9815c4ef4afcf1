-- Records of glyphs that are taken out before the steps that take them out.
use Rattle.std.proofs.Common.{Vec, Global, ◌≡◌, ◌<◌, ◌++◌, ℕ, zero, suc, Bool, true, false, cond, length, get_or, List, [], ◌∷◌, filter, map, not, refl, sym, subst, ◌∙◌, ap, arith, None}
use Rattle.std.specs.Prelude.{◌&&◌, ◌||◌}
use Rattle.std.specs.List.{list_any}
use Rattle.std.specs.Str.{bytes_eq}
use Rattle.std.proofs.Math.Bool.{and-true, and_self}
use Rattle.std.proofs.lemmas.Bool.{or_right}
use Rattle.std.proofs.lemmas.List.Elements.{filter-append}
use Rattle.t1_run.specs.Run.{Key, Subr, Glyph}
use Rattle.t1_run.specs.RunKeys.{body_at, key_eq}
use Rattle.t1_run.specs.Touched.{is_key_of}
use Rattle.t1_cache.specs.declared.records.Records.{Records}
use Rattle.t1_cache.specs.Bodies.{record_bodies}
use Rattle.t1_cache.specs.Renewed.{kept}
use Rattle.t1_cache.specs.Recorded.{RecordedGlyph, kept_of}
use Rattle.t1_cache.specs.Users.{is_name_among, is_key_among, users_at}
use Rattle.t1_font.specs.OwnedKeys.{key_of}
use Rattle.t1_cache.proofs.Filtering.{filter-all, filter-both, filter-same}
use Rattle.t1_font.proofs.Lookups.{bytes_tell, bytes-turned}
use Rattle.t1_font.proofs.Keys.{glyph-key}
use Rattle.t1_rerun.specs.declared.settling.RecordChange.{RecordChange}
use Rattle.t1_rerun.specs.declared.settling.RecordChange.TheVariants as steps
use Rattle.t1_rerun.specs.Steps.{seen_after, after_all, seen, step_body, step_kept, step_key, step_users, takes_out, AreTakenOut, Seen}

-- ---- seen alike but for some glyphs

-- the glyph of a key is one of these
abbrev of-key : (List ℕ → Bool) → Key → Bool
of-key p (Subr n) = false
of-key p (Glyph g) = p g

-- the same but for these glyphs
record Alike (p : List ℕ → Bool) (x y : Seen) : Type 0 where
  pub bodies : (k : Key) → of-key p k ≡ false → y.bodies k ≡ x.bodies k
  pub users : (k : Key) → of-key p k ≡ false → y.users k ≡ x.users k
  pub kept : filter (λ k. not (p k.name)) y.kept ≡ filter (λ k. not (p k.name)) x.kept

-- of some glyphs, without those that a step takes out
abbrev still : (List ℕ → Bool) → RecordChange → List ℕ → Bool
still p step g = p g && not (takes_out step g)

-- glyphs that are still there aren't those of another key
was-off : (p : List ℕ → Bool) (step : RecordChange) (k : Key) → key_eq k (step_key step) ≡ false → of-key (still p step) k ≡ false → of-key p k ≡ false
was-off p step (Subr n) other off = refl
was-off p (steps.Remove named) (Glyph g) other off = sym (and-true (p g)) ∙ ap (λ b. p g && not b) (sym other) ∙ off
was-off p (steps.Put named body) (Glyph g) other off = sym (and-true (p g)) ∙ off
was-off p (steps.InsertSubr n r) (Glyph g) other off = sym (and-true (p g)) ∙ off
was-off p (steps.InsertGlyph name r) (Glyph g) other off = sym (and-true (p g)) ∙ ap (λ b. p g && not b) (sym other) ∙ off

gone-later : (a b : Bool) → (not b && not (a && not b)) ≡ (not a && not b)
gone-later true true = refl
gone-later true false = refl
gone-later false true = refl
gone-later false false = refl

-- those that are taken out are gone either way
taken-kept : (p r : List ℕ → Bool) (xs ys : List RecordedGlyph) → filter (λ k. not (p k.name)) ys ≡ filter (λ k. not (p k.name)) xs
    → filter (λ k. not (p k.name && not (r k.name))) (filter (λ k. not (r k.name)) ys)
    ≡ filter (λ k. not (p k.name && not (r k.name))) (filter (λ k. not (r k.name)) xs)
taken-kept p r xs ys same = all ys ∙ ap (filter (λ k. not (r k.name))) same ∙ sym (all xs) where
  all : (ks : List RecordedGlyph) → filter (λ k. not (p k.name && not (r k.name))) (filter (λ k. not (r k.name)) ks) ≡ filter (λ k. not (r k.name)) (filter (λ k. not (p k.name)) ks)
  all ks =
      filter-both (λ k. not (r k.name)) (λ k. not (p k.name && not (r k.name))) ks
      ∙ filter-same (λ k. not (r k.name) && not (p k.name && not (r k.name))) (λ k. not (p k.name) && not (r k.name)) ks (λ k. gone-later (p k.name) (r k.name))
      ∙ sym (filter-both (λ k. not (p k.name)) (λ k. not (r k.name)) ks)

kept-after : (p : List ℕ → Bool) (step : RecordChange) (xs ys : List RecordedGlyph) → filter (λ k. not (p k.name)) ys ≡ filter (λ k. not (p k.name)) xs
    → filter (λ k. not (still p step k.name)) (step_kept step ys) ≡ filter (λ k. not (still p step k.name)) (step_kept step xs)
kept-after p (steps.Remove named) xs ys same = each ys ∙ taken-kept p (λ g. key_eq (Glyph g) (key_of named)) xs ys same ∙ sym (each xs) where
  each : (ks : List RecordedGlyph) → filter (λ k. not (still p (steps.Remove named) k.name)) (filter (λ k. not (is_key_of k.name (key_of named))) ks)
      ≡ filter (λ k. not (still p (steps.Remove named) k.name)) (filter (λ k. not (key_eq (Glyph k.name) (key_of named))) ks)
  each ks =
      ap (filter (λ k. not (still p (steps.Remove named) k.name)))
      (filter-same (λ k. not (is_key_of k.name (key_of named))) (λ k. not (key_eq (Glyph k.name) (key_of named))) ks (λ k. ap not (glyph-key k.name (key_of named))))
kept-after p (steps.Put named body) xs ys same = each ys ∙ same ∙ sym (each xs) where
  each : (ks : List RecordedGlyph) → filter (λ k. not (p k.name && true)) ks ≡ filter (λ k. not (p k.name)) ks
  each ks = filter-same (λ k. not (p k.name && true)) (λ k. not (p k.name)) ks (λ k. ap not (and-true (p k.name)))
kept-after p (steps.InsertSubr n r) xs ys same = each ys ∙ same ∙ sym (each xs) where
  each : (ks : List RecordedGlyph) → filter (λ k. not (p k.name && true)) ks ≡ filter (λ k. not (p k.name)) ks
  each ks = filter-same (λ k. not (p k.name && true)) (λ k. not (p k.name)) ks (λ k. ap not (and-true (p k.name)))
kept-after p (steps.InsertGlyph name r) xs ys same = each ys ∙ ap (λ l. l ++ filter left (new ∷ [])) (taken-kept p (λ g. bytes_eq g name.items) xs ys same) ∙ sym (each xs) where
  left : RecordedGlyph → Bool
  left k = not (still p (steps.InsertGlyph name r) k.name)

  new : RecordedGlyph
  new = kept name.items r.run r.bbox

  each : (ks : List RecordedGlyph) → filter left (filter (λ k. not (bytes_eq name.items k.name)) ks ++ new ∷ []) ≡ filter left (filter (λ k. not (bytes_eq k.name name.items)) ks) ++ filter left (new ∷ [])
  each ks =
      filter-append left (filter (λ k. not (bytes_eq name.items k.name)) ks) (new ∷ [])
      ∙ ap (λ l. filter left l ++ filter left (new ∷ []))
      (filter-same (λ k. not (bytes_eq name.items k.name)) (λ k. not (bytes_eq k.name name.items)) ks (λ k. ap not (bytes-turned name.items k.name)))

-- after a step they are alike but for those that it doesn't take out
alike-after : (p : List ℕ → Bool) (step : RecordChange) (x y : Seen) → Alike p x y → Alike (still p step) (seen_after step x) (seen_after step y)
alike-after p step x y a = record {
  bodies = λ k off. body k off (key_eq k (step_key step)) refl;
  users = λ k off. user k off (key_eq k (step_key step)) refl;
  kept = kept-after p step x.kept y.kept a.kept;
} where
  put-body : (step : RecordChange) (k : Key) → of-key (still p step) k ≡ false → step_body step (y.bodies k) ≡ step_body step (x.bodies k)
  put-body (steps.Remove named) k off = refl
  put-body (steps.Put named body) (Subr n) off = ap (step_body (steps.Put named body)) (a.bodies (Subr n) refl)
  put-body (steps.Put named body) (Glyph g) off = ap (step_body (steps.Put named body)) (a.bodies (Glyph g) (sym (and-true (p g)) ∙ off))
  put-body (steps.InsertSubr n r) k off = refl
  put-body (steps.InsertGlyph name r) k off = refl

  put-users : (step : RecordChange) (k : Key) → of-key (still p step) k ≡ false → step_users step (y.users k) ≡ step_users step (x.users k)
  put-users (steps.Remove named) k off = refl
  put-users (steps.Put named body) (Subr n) off = a.users (Subr n) refl
  put-users (steps.Put named body) (Glyph g) off = a.users (Glyph g) (sym (and-true (p g)) ∙ off)
  put-users (steps.InsertSubr n r) k off = refl
  put-users (steps.InsertGlyph name r) k off = refl

  body : (k : Key) → of-key (still p step) k ≡ false → (b : Bool) → key_eq k (step_key step) ≡ b
      → cond b (step_body step (y.bodies k)) (y.bodies k) ≡ cond b (step_body step (x.bodies k)) (x.bodies k)
  body k off true e = put-body step k off
  body k off false e = a.bodies k (was-off p step k e off)

  user : (k : Key) → of-key (still p step) k ≡ false → (b : Bool) → key_eq k (step_key step) ≡ b
      → cond b (step_users step (y.users k)) (y.users k) ≡ cond b (step_users step (x.users k)) (x.users k)
  user k off true e = put-users step k off
  user k off false e = a.users k (was-off p step k e off)

-- ---- all steps

-- some of the steps take the glyph out
abbrev some-take : List RecordChange → List ℕ → Bool
some-take steps g = list_any (λ step. takes_out step g) steps

as-alike : (p q : List ℕ → Bool) → ((g : List ℕ) → p g ≡ q g) → (x y : Seen) → Alike p x y → Alike q x y
as-alike p q same x y a = subst (λ (f : List ℕ → Bool). Alike f x y) (λ j. λ g. same g j) a

alike-after-all : (steps : List RecordChange) (p : List ℕ → Bool) (x y : Seen) → Alike p x y → Alike (λ g. p g && not (some-take steps g)) (after_all steps x) (after_all steps y)
alike-after-all [] p x y a = as-alike p (λ g. p g && true) (λ g. sym (and-true (p g))) x y a
alike-after-all (step ∷ steps) p x y a =
    as-alike (still (λ g. p g && not (some-take steps g)) step) (λ g. p g && not (some-take (step ∷ steps) g))
    (λ g. both (p g) (some-take steps g) (takes_out step g)) (after_all (step ∷ steps) x) (after_all (step ∷ steps) y)
    (alike-after (λ g. p g && not (some-take steps g)) step (after_all steps x) (after_all steps y) (alike-after-all steps p x y a))
  where
    both : (a b c : Bool) → ((a && not b) && not c) ≡ (a && not (c || b))
    both true true true = refl
    both true true false = refl
    both true false true = refl
    both true false false = refl
    both false b c = refl

-- alike but for nothing
all-alike : (x y : Seen) → Alike (λ g. false) x y → y ≡ x
all-alike x y a = λ j. record { bodies = λ k. a.bodies k (off k) j; users = λ k. a.users k (off k) j; kept = (sym (filter-all y.kept) ∙ a.kept ∙ filter-all x.kept) j } where
  off : (k : Key) → of-key (λ g. false) k ≡ false
  off (Subr n) = refl
  off (Glyph g) = refl

none-left : (a b : Bool) → (a ≡ true → b ≡ true) → false ≡ (a && not b)
none-left true b h = ap not (sym (h refl))
none-left false b h = refl

-- glyphs that steps take out may be taken out before them
pub taken-first : (steps : List RecordChange) (names : List (Vec ℕ Global)) → AreTakenOut names steps → (old new : Records)
    → ((k : Key) → body_at (record_bodies new) k ≡ cond (is_key_among names k) None (body_at (record_bodies old) k))
    → ((k : Key) → users_at new k ≡ cond (is_key_among names k) None (users_at old k))
    → map kept_of new.glyphs.entries ≡ filter (λ k. not (is_name_among (λ name. name.items) names k.name)) (map kept_of old.glyphs.entries)
    → after_all steps (seen new) ≡ after_all steps (seen old)
taken-first steps names taken old new bodies users kepts =
    all-alike (after_all steps (seen old)) (after_all steps (seen new))
    (as-alike (λ g. p g && not (some-take steps g)) (λ g. false) (λ g. sym (none-left (p g) (some-take steps g) (taken g))) (after_all steps (seen old)) (after_all steps (seen new))
    (alike-after-all steps p (seen old) (seen new)
    (record { bodies = λ k off. bodies k ∙ ap (λ b. cond b None (body_at (record_bodies old) k)) (as-key k ∙ off); users = λ k off. users k ∙ ap (λ b. cond b None (users_at old k)) (as-key k ∙ off); kept = once })))
  where
    p : List ℕ → Bool
    p g = is_name_among (λ name. name.items) names g

    as-key : (k : Key) → is_key_among names k ≡ of-key p k
    as-key (Subr n) = refl
    as-key (Glyph g) = refl

    once : filter (λ k. not (p k.name)) (map kept_of new.glyphs.entries) ≡ filter (λ k. not (p k.name)) (map kept_of old.glyphs.entries)
    once =
        ap (filter (λ k. not (p k.name))) kepts
        ∙ filter-both (λ k. not (p k.name)) (λ k. not (p k.name)) (map kept_of old.glyphs.entries)
        ∙ filter-same (λ k. not (p k.name) && not (p k.name)) (λ k. not (p k.name)) (map kept_of old.glyphs.entries) (λ k. and_self (not (p k.name)))

-- ---- one of the steps

-- what a step takes out the steps take out
pub taken-at : (steps : List RecordChange) (at : ℕ) (step : RecordChange) (g : List ℕ) → at < length steps → step ≡ get_or steps at step → takes_out step g ≡ true
    → list_any (λ s. takes_out s g) steps ≡ true
taken-at [] at step g far is on = absurd (omega (arith, far))
taken-at (s ∷ steps) zero step g far is on = ap (λ b. b || some-take steps g) (ap (λ s. takes_out s g) (sym is) ∙ on)
taken-at (s ∷ steps) (suc at) step g far is on = or_right (takes_out s g) (some-take steps g) (taken-at steps at step g (omega (arith, far)) is on)

-- one name more
pub taken-more : (steps : List RecordChange) (names new : List (Vec ℕ Global)) (key : Vec ℕ Global) (at : ℕ) (step : RecordChange) → AreTakenOut names steps
    → ((g : List ℕ) → is_name_among (λ name. name.items) new g ≡ (is_name_among (λ name. name.items) names g || bytes_eq g key.items))
    → at < length steps → step ≡ get_or steps at step → takes_out step key.items ≡ true → AreTakenOut new steps
taken-more steps names new key at step taken more far is on = λ g h. by g (is_name_among (λ name. name.items) names g) refl (bytes_eq g key.items) refl (sym (more g) ∙ h) where
  by : (g : List ℕ) (a : Bool) → is_name_among (λ name. name.items) names g ≡ a → (b : Bool) → bytes_eq g key.items ≡ b → (a || b) ≡ true → list_any (λ s. takes_out s g) steps ≡ true
  by g true old b e h = taken g old
  by g false old true e h = taken-at steps at step g far is (ap (takes_out step) (bytes_tell.same g key.items e) ∙ on)
  by g false old false e h = absurd (cc)
