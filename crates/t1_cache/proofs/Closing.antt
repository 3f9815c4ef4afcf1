-- Names that are closed one after another.
use Rattle.std.proofs.Common.{◌≡◌, ◌≤◌, ◌<◌, ◌+◌, ℕ, Bool, true, false, cond, Some, [], ◌∷◌, List, ◌++◌, length, take, get_or, refl, sym, ap, ◌∙◌, ◌⊎◌, inl, inr, arith}
use Rattle.std.specs.Prelude.{◌||◌}
use Rattle.std.specs.List.{IsDistinct, flat_map}
use Rattle.std.specs.Map.{lookup}
use Rattle.std.specs.Option.{option_map}
use Rattle.std.specs.Str.{bytes_eq}
use Rattle.std.specs.declared.alloc.Global.{Global}
use Rattle.std.specs.declared.vec.Vec.{Vec}
use Rattle.std.proofs.lemmas.Bool.{or_cases, or_left, or_right}
use Rattle.std.proofs.lemmas.List.{take-append-le}
use Rattle.std.proofs.lemmas.List.Folds.{list_any_at, list_any_more, list_any-append}
use Rattle.std.proofs.lemmas.Slice.Eq.{bytes_eq-Decides}
use Rattle.t1_cache.specs.declared.records.GlyphRecord.{GlyphRecord}
use Rattle.t1_cache.specs.Found.{Reached, Seed, User}
use Rattle.t1_cache.specs.Users.{among, glyph_users, is_name_among, users_of}
use Rattle.t1_cache.proofs.Names.{no-more-names}

-- the users of the first names are there
pub record IsClosing {K : Type 0} (name : K → List ℕ) (seed : List ℕ → Bool) (uses : List ℕ → List ℕ → Bool) (ks : List K) (at : ℕ) : Type 0 where
  pub seeds : (g : List ℕ) → seed g ≡ true → is_name_among name ks g ≡ true
  pub users : (p u : List ℕ) → is_name_among name (take at ks) p ≡ true → uses p u ≡ true → is_name_among name ks u ≡ true
  pub reached : (g : List ℕ) → is_name_among name ks g ≡ true → Reached seed uses g

pub closing-first : {K : Type 0} (name : K → List ℕ) (uses : List ℕ → List ℕ → Bool) (ks : List K) → IsClosing name (is_name_among name ks) uses ks 0
closing-first name uses ks = record { seeds = λ g h. h; users = λ p u h. absurd (cc); reached = λ g h. Seed g h }

-- the users of one more name are put in
pub closing-more : {K : Type 0} (name : K → List ℕ) (seed : List ℕ → Bool) (uses : List ℕ → List ℕ → Bool) (ks new more : List K) (at : ℕ) (d : K) (n : List ℕ)
    → IsClosing name seed uses ks at → at < length ks → n ≡ name (get_or ks at d) → new ≡ ks ++ more
    → ((g : List ℕ) → is_name_among name new g ≡ (is_name_among name ks g || uses n g)) → IsClosing name seed uses new (at + 1)
closing-more name seed uses ks new more at d n was h is following names = record {
  seeds = λ g s. kept g (was.seeds g s);
  users = λ p u there used.
      let before : take (at + 1) new ≡ take (at + 1) ks = ap (take (at + 1)) following ∙ take-append-le (at + 1) ks more (omega (arith, h)) in
      let first : (is_name_among name (take at ks) p || bytes_eq p n) ≡ true =
      sym (list_any_more (λ k. bytes_eq p (name k)) ks at d h ∙ ap (λ m. is_name_among name (take at ks) p || bytes_eq p m) (sym is))
      ∙ sym (ap (λ l. is_name_among name l p) before) ∙ there in
      elim (or_cases (is_name_among name (take at ks) p) (bytes_eq p n) first) [
        | inl earlier ↦ kept u (was.users p u earlier used)
        | inr here ↦ added u (sym (ap (λ q. uses q u) ((bytes_eq-Decides p n).0 here)) ∙ used)
      ];
  reached = λ g there.
      elim (or_cases (is_name_among name ks g) (uses n g) (sym (names g) ∙ there)) [
        | inl old ↦ was.reached g old
        | inr new ↦ User n g (was.reached n itself) new
      ];
} where
  kept : (g : List ℕ) → is_name_among name ks g ≡ true → is_name_among name new g ≡ true
  kept g e = names g ∙ or_left (is_name_among name ks g) (uses n g) e

  added : (g : List ℕ) → uses n g ≡ true → is_name_among name new g ≡ true
  added g e = names g ∙ or_right (is_name_among name ks g) (uses n g) e

  itself : is_name_among name ks n ≡ true
  itself = list_any_at (λ x. bytes_eq n (name x)) ks at d h (ap (λ m. bytes_eq n m) (sym is) ∙ (bytes_eq-Decides n n).1 refl)

-- all users of glyphs
abbrev pub all_users : List (Vec ℕ Global × GlyphRecord) → List (Vec ℕ Global)
all_users entries = flat_map (λ e. e.1.users.keys) entries

listed : (entries : List (Vec ℕ Global × GlyphRecord)) (p u : List ℕ) → among (glyph_users entries p) u ≡ true → is_name_among (λ k. k.items) (all_users entries) u ≡ true
listed [] p u h = absurd (cc)
listed (e ∷ es) p u h =
    list_any-append (λ k. bytes_eq u k.items) e.1.users.keys (all_users es)
    ∙ by (bytes_eq p e.0.items) h (listed es p u)
  where
    by : (b : Bool) → among (option_map (λ r. users_of r.users) (cond b (Some e.1) (lookup (λ key. bytes_eq p key.items) es))) u ≡ true
        → (among (glyph_users es p) u ≡ true → is_name_among (λ k. k.items) (all_users es) u ≡ true)
        → (is_name_among (λ k. k.items) e.1.users.keys u || is_name_among (λ k. k.items) (all_users es) u) ≡ true
    by true here later = or_left (is_name_among (λ k. k.items) e.1.users.keys u) (is_name_among (λ k. k.items) (all_users es) u) here
    by false there later = or_right (is_name_among (λ k. k.items) e.1.users.keys u) (is_name_among (λ k. k.items) (all_users es) u) (later there)

-- each name is a seed or a user
known : (seed : List ℕ → Bool) (entries : List (Vec ℕ Global × GlyphRecord)) → (g : List ℕ) → Reached seed (λ p. among (glyph_users entries p)) g
    → (seed g ≡ true) ⊎ (is_name_among (λ k. k.items) (all_users entries) g ≡ true)
known seed entries g (Seed _ h) = inl h
known seed entries g (User p _ r h) = inr (listed entries p g h)

pub closing-bound : {K : Type 0} (name : K → List ℕ) (old : List K) (entries : List (Vec ℕ Global × GlyphRecord)) (ks : List K) (at : ℕ)
    → IsClosing name (is_name_among name old) (λ p. among (glyph_users entries p)) ks at → IsDistinct (λ x y. bytes_eq (name x) (name y)) ks
    → length ks ≤ length old + length (all_users entries)
closing-bound name old entries ks at was distinct =
    no-more-names name name (λ k. k.items) ks old (all_users entries) distinct (λ g h. known (is_name_among name old) entries g (was.reached g h))
