-- Names that are put into sets.
use Rattle.std.proofs.Common.{◌≡◌, ◌≤◌, ◌<◌, ◌+◌, ℕ, Bool, true, false, cond, List, [], ◌∷◌, ◌++◌, map, length, take, get_or, refl, sym, ap, subst, ◌∙◌, ◌⊎◌, inl, inr}
use Rattle.std.specs.Prelude.{◌||◌, ◌&&◌, not}
use Rattle.std.specs.Cmp.{IsEquivalence}
use Rattle.std.specs.List.{list_any, AllByRecursion, IsDistinct}
use Rattle.std.specs.Map.{keys_of}
use Rattle.std.specs.Str.{bytes_eq}
use Rattle.std.specs.declared.alloc.Global.{Global}
use Rattle.std.specs.declared.vec.Vec.{Vec}
use Rattle.std.proofs.lemmas.Bool.{cases_Bool, or_cases, or_left, or_right}
use Rattle.std.proofs.lemmas.Cmp.{nat_list_eq_equiv}
use Rattle.std.proofs.lemmas.List.{append-nil, length-append, length-map}
use Rattle.std.proofs.lemmas.List.Folds.{list_any_more, list_any-append}
use Rattle.std.proofs.lemmas.Slice.Eq.{bytes_eq-Decides}
use Rattle.std.proofs.lemmas.Map.Made.{length-le_from_is_member}
use Rattle.indexmap.specs.IndexSet.{insert_key}
use Rattle.t1_cache.specs.declared.records.GlyphRecord.{GlyphRecord}
use Rattle.t1_cache.specs.Laws.{AreDistinct}
use Rattle.t1_cache.specs.Renewed.{names_of}
use Rattle.t1_cache.specs.Users.{is_name_among}

-- keys are put in after the others
pub inserted-after : {K : Type 0} (eq : K → K → Bool) (ks : List K) (k : K) → (more : List K) × (insert_key eq ks k ≡ ks ++ more)
inserted-after eq ks k =
    elim (cases_Bool (list_any (eq k) ks)) [
      | inl there ↦ ([], rw there (sym (append-nil ks)))
      | inr absent ↦ (k ∷ [], rw absent refl)
    ]

-- one more of the names
pub one-more : {K : Type 0} (name : K → List ℕ) (g : List ℕ) (xs : List K) (i : ℕ) (x : K) → i < length xs → x ≡ get_or xs i x
    → is_name_among name (take (i + 1) xs) g ≡ (is_name_among name (take i xs) g || bytes_eq g (name x))
one-more name g xs i x h e =
    list_any_more (λ k. bytes_eq g (name k)) xs i x h ∙ ap (λ y. is_name_among name (take i xs) g || bytes_eq g (name y)) (sym e)

-- ---- sets have no more names than others that have them all

has-map : {K : Type 0} (name : K → List ℕ) (ks : List K) (g : List ℕ) → list_any (bytes_eq g) (map name ks) ≡ is_name_among name ks g
has-map name [] g = refl
has-map name (k ∷ ks) g = ap (λ b. bytes_eq g (name k) || b) (has-map name ks g)

all-map : {K : Type 0} (name : K → List ℕ) (x : K) (ks : List K)
    → AllByRecursion (λ y. bytes_eq (name x) (name y) ≡ false) ks → AllByRecursion (λ y. bytes_eq (name x) y ≡ false) (map name ks)
all-map name x [] h = tt
all-map name x (k ∷ ks) h = (h.0, all-map name x ks h.1)

pub distinct-map : {K : Type 0} (name : K → List ℕ) (ks : List K) → IsDistinct (λ x y. bytes_eq (name x) (name y)) ks → IsDistinct bytes_eq (map name ks)
unfolding IsDistinct
distinct-map name [] h = tt
distinct-map name (k ∷ ks) h = (all-map name k ks h.0, distinct-map name ks h.1)

pub bytes_equiv : IsEquivalence bytes_eq
bytes_equiv = nat_list_eq_equiv

pub no-more-names : {K L M : Type 0} (name : K → List ℕ) (name' : L → List ℕ) (name'' : M → List ℕ) (ks : List K) (ls : List L) (ms : List M)
    → IsDistinct (λ x y. bytes_eq (name x) (name y)) ks → ((g : List ℕ) → is_name_among name ks g ≡ true → (is_name_among name' ls g ≡ true) ⊎ (is_name_among name'' ms g ≡ true))
    → length ks ≤ length ls + length ms
no-more-names name name' name'' ks ls ms distinct among =
    let bound : length (map name ks) ≤ length (map name' ls ++ map name'' ms) =
    length-le_from_is_member bytes_equiv (map name ks) (map name' ls ++ map name'' ms) (distinct-map name ks distinct) all in
    rw (length-append, length-map, length-map, length-map) at bound
  where
    all : (g : List ℕ) → list_any (bytes_eq g) (map name ks) ≡ true → list_any (bytes_eq g) (map name' ls ++ map name'' ms) ≡ true
    all g h =
        list_any-append (bytes_eq g) (map name' ls) (map name'' ms)
        ∙ elim (among g (sym (has-map name ks g) ∙ h)) [
          | inl l ↦ or_left (list_any (bytes_eq g) (map name' ls)) (list_any (bytes_eq g) (map name'' ms)) (has-map name' ls g ∙ l)
          | inr r ↦ or_right (list_any (bytes_eq g) (map name' ls)) (list_any (bytes_eq g) (map name'' ms)) (has-map name'' ms g ∙ r)
        ]

-- ---- a name that is taken out

pub witness : {K : Type 0} (name : K → List ℕ) (ks : List K) (g : List ℕ) → is_name_among name ks g ≡ true → (k : K) × (name k ≡ g)
witness name [] g h = absurd (cc)
witness name (k ∷ ks) g h =
    elim (or_cases (bytes_eq g (name k)) (is_name_among name ks g) h) [
      | inl e ↦ (k, sym ((bytes_eq-Decides g (name k)).0 e))
      | inr r ↦ witness name ks g r
    ]

but-one : (n u : List ℕ) (was : Bool) → cond (bytes_eq n u) false was ≡ (was && not (bytes_eq u n))
but-one n u was = ap (λ b. cond b false was) (bytes_equiv.symm n u) ∙ turn (bytes_eq u n) was where
  turn : (b was : Bool) → cond b false was ≡ (was && not b)
  turn true true = refl
  turn true false = refl
  turn false true = refl
  turn false false = refl

pub taken-out : {K : Type 0} (name : K → List ℕ) (old new : List K) (n : List ℕ)
    → ((q : K) → is_name_among name new (name q) ≡ cond (bytes_eq n (name q)) false (is_name_among name old (name q)))
    → (u : List ℕ) → is_name_among name new u ≡ (is_name_among name old u && not (bytes_eq u n))
taken-out name old new n at u = by (is_name_among name new u) (is_name_among name old u) refl refl where
  reported : (k : _) → name k ≡ u → is_name_among name new u ≡ (is_name_among name old u && not (bytes_eq u n))
  reported k e = sym (ap (is_name_among name new) e) ∙ at k ∙ ap (λ v. cond (bytes_eq n v) false (is_name_among name old v)) e ∙ but-one n u (is_name_among name old u)

  by : (a b : Bool) → is_name_among name new u ≡ a → is_name_among name old u ≡ b → is_name_among name new u ≡ (is_name_among name old u && not (bytes_eq u n))
  by true b e f = let w = witness name new u e in reported w.0 w.1
  by false true e f = let w = witness name old u f in reported w.0 w.1
  by false false e f = e ∙ sym (ap (λ b. b && not (bytes_eq u n)) f)

-- ---- names that a set or a map has once each

all-absent : (g : List ℕ) (names : List (List ℕ)) → AllByRecursion (λ y. bytes_eq g y ≡ false) names → list_any (bytes_eq g) names ≡ false
all-absent g [] h = refl
all-absent g (n ∷ names) h = ap (λ b. b || list_any (bytes_eq g) names) h.0 ∙ all-absent g names h.1

are-distinct : (names : List (List ℕ)) → IsDistinct bytes_eq names → AreDistinct names
unfolding IsDistinct
are-distinct [] h = tt
are-distinct (n ∷ names) h = (all-absent n names h.0, are-distinct names h.1)

-- the names of keys that are distinct by their names
pub names-once : {K : Type 0} (name : K → List ℕ) (ks : List K) → IsDistinct (λ x y. bytes_eq (name x) (name y)) ks → AreDistinct (map name ks)
names-once name ks h = are-distinct (map name ks) (distinct-map name ks h)

names-keys : (entries : List (Vec ℕ Global × GlyphRecord)) → map (λ k. k.items) (keys_of entries) ≡ names_of entries
names-keys [] = refl
names-keys (e ∷ entries) = ap (λ names. e.0.items ∷ names) (names-keys entries)

pub entries-once : (entries : List (Vec ℕ Global × GlyphRecord)) → IsDistinct (λ x y. bytes_eq x.items y.items) (keys_of entries) → AreDistinct (names_of entries)
entries-once entries h = subst AreDistinct (names-keys entries) (names-once (λ k. k.items) (keys_of entries) h)
