-- Sums over keys that stand once each: they go by membership alone.
use Rattle.std.proofs.Common.{◌≡◌, ◌+◌, ◌-◌, ◌^◌, ◌≤◌, min, ℕ, Bool, true, false, cond, List, [], ◌∷◌, ◌++◌, map, length, take, refl, sym, ap, subst, ◌∙◌, arith}
use Rattle.std.specs.Prelude.{◌||◌, sum_by}
use Rattle.std.specs.List.{list_any, AllByRecursion, IsDistinct}
use Rattle.std.specs.Map.{keys_of}
use Rattle.std.proofs.lemmas.Bool.{or_left, or_parts, or_right}
use Rattle.std.proofs.lemmas.List.Folds.{list_any-append}
use Rattle.std.proofs.lemmas.List.{take_all}
use Rattle.std.proofs.lemmas.List.Sums.{sum_by-append, sum_by-cons}
use Rattle.t1_run.specs.Run.{Key}
use Rattle.t1_run.specs.RunKeys.{key_eq}
use Rattle.t1_font.proofs.Keys.{key-itself, key-same}
use Rattle.t1_font.proofs.Lookups.{Distinguishes}
use Rattle.t1_charstrings.specs.Batch.{AreOnce}
use Rattle.t1_charstrings.proofs.Adding.{turned}

keys_tell : Distinguishes key_eq
keys_tell = record { same = key-same; itself = key-itself }

-- ---- keys that stand once

-- at a key that isn't among these there is nothing
abbrev pub Covers : (Key → ℕ) → List Key → Type 0
Covers f ks = (k : Key) → list_any (key_eq k) ks ≡ false → f k ≡ 0

pub once-both : (a b : List Key) → AreOnce a → AreOnce b → ((k : Key) → list_any (key_eq k) a ≡ true → list_any (key_eq k) b ≡ false) → AreOnce (a ++ b)
once-both [] b here there apart = there
once-both (k ∷ a) b here there apart = (
  list_any-append (key_eq k) a b
      ∙ ap (λ x. x || list_any (key_eq k) b) here.0
      ∙ apart k (or_left (key_eq k k) (list_any (key_eq k) a) (key-itself k)),
  once-both a b here.1 there (λ j among. apart j (or_right (key_eq j k) (list_any (key_eq j) a) among)),
)

none-later : {K X : Type 0} (eq : K → K → Bool) (key : K → Key) → ((x y : K) → key_eq (key x) (key y) ≡ eq x y) → (k : K) (es : List (K × X))
    → AllByRecursion (λ y. eq k y ≡ false) (keys_of es) → list_any (key_eq (key k)) (map (λ e. key e.0) es) ≡ false
none-later eq key same k [] h = refl
none-later eq key same k (e ∷ es) h =
    ap (λ b. b || list_any (key_eq (key k)) (map (λ e. key e.0) es)) (same k e.0 ∙ h.0) ∙ none-later eq key same k es h.1

-- the keys of a map
pub once-kept : {K X : Type 0} (eq : K → K → Bool) (key : K → Key) → ((x y : K) → key_eq (key x) (key y) ≡ eq x y) → (es : List (K × X)) → IsDistinct eq (keys_of es)
    → AreOnce (map (λ e. key e.0) es)
unfolding IsDistinct
once-kept eq key same [] h = tt
once-kept eq key same (e ∷ es) h = (none-later eq key same e.0 es h.0, once-kept eq key same es h.1)

-- ---- all but one key

abbrev but : (Key → ℕ) → Key → Key → ℕ
but f d k = cond (key_eq d k) 0 (f k)

nothing : (b : Bool) (n : ℕ) → n ≡ 0 → cond b 0 n ≡ 0
nothing true n none = refl
nothing false n none = none

still-covers : (f : Key → ℕ) (d : Key) (ks : List Key) → Covers f ks → Covers (but f d) ks
still-covers f d ks covers k off = nothing (key_eq d k) (f k) (covers k off)

-- without its first key
less-covers : (f : Key → ℕ) (d : Key) (ks : List Key) → Covers f (d ∷ ks) → Covers (but f d) ks
less-covers f d ks covers k off = by (key_eq d k) refl where
  by : (b : Bool) → key_eq d k ≡ b → cond b 0 (f k) ≡ 0
  by true on = refl
  by false apart = covers k (ap (λ b. b || list_any (key_eq k) ks) (turned key_eq keys_tell d k apart) ∙ off)

absent : (f : Key → ℕ) (d : Key) (ks : List Key) → list_any (key_eq d) ks ≡ false → sum_by (but f d) ks ≡ sum_by f ks
absent f d [] off = refl
absent f d (k ∷ ks) off =
    let parts = or_parts (key_eq d k) (list_any (key_eq d) ks) off in
    let first : but f d k ≡ f k = ap (λ b. cond b 0 (f k)) parts.0 in
    omega (arith, first, absent f d ks parts.1, sum_by-cons (but f d) k ks, sum_by-cons f k ks)

-- one key's part of the sum
single : (f : Key → ℕ) (d : Key) (ks : List Key) → AreOnce ks → (list_any (key_eq d) ks ≡ false → f d ≡ 0) → sum_by f ks ≡ f d + sum_by (but f d) ks
single f d [] once none = omega (arith, none refl)
single f d (k ∷ ks) once none = by (key_eq d k) refl (single f d ks once.1) where
  by : (b : Bool) → key_eq d k ≡ b → ((list_any (key_eq d) ks ≡ false → f d ≡ 0) → sum_by f ks ≡ f d + sum_by (but f d) ks)
      → sum_by f (k ∷ ks) ≡ f d + sum_by (but f d) (k ∷ ks)
  by true on rest =
      let same : d ≡ k = key-same d k on in
      let first : but f d k ≡ 0 = ap (λ b. cond b 0 (f k)) on in
      let others = absent f d ks (ap (λ j. list_any (key_eq j) ks) same ∙ once.0) in
      omega (arith, ap f same, first, others, sum_by-cons f k ks, sum_by-cons (but f d) k ks)
  by false off rest =
      let first : but f d k ≡ f k = ap (λ b. cond b 0 (f k)) off in
      let others = rest (λ out. none (ap (λ b. b || list_any (key_eq d) ks) off ∙ out)) in
      omega (arith, first, others, sum_by-cons f k ks, sum_by-cons (but f d) k ks)

-- ---- the sums

nowhere : (f : Key → ℕ) (ks : List Key) → ((k : Key) → f k ≡ 0) → sum_by f ks ≡ 0
nowhere f [] none = refl
nowhere f (k ∷ ks) none = omega (arith, none k, nowhere f ks none, sum_by-cons f k ks)

-- over any keys that have it all the sum is the same
same-sum : (f : Key → ℕ) (ks ls : List Key) → AreOnce ks → AreOnce ls → Covers f ks → Covers f ls → sum_by f ks ≡ sum_by f ls
same-sum f [] ls one two here there = sym (nowhere f ls (λ k. here k refl))
same-sum f (k ∷ ks) ls one two here there =
    let rest = same-sum (but f k) ks ls one.1 two (less-covers f k ks here) (still-covers f k ls there) in
    omega (arith, rest, sum_by-cons f k ks, absent f k ks one.0, single f k ls two (there k))

but-same : (f g : Key → ℕ) (d : Key) (ds : List Key) → ((k : Key) → list_any (key_eq k) (d ∷ ds) ≡ false → f k ≡ g k)
    → (k : Key) → list_any (key_eq k) ds ≡ false → but f d k ≡ but g d k
but-same f g d ds same k off = by (key_eq d k) refl where
  by : (b : Bool) → key_eq d k ≡ b → cond b 0 (f k) ≡ cond b 0 (g k)
  by true on = refl
  by false apart = same k (ap (λ b. b || list_any (key_eq k) ds) (turned key_eq keys_tell d k apart) ∙ off)

-- where two differ at some keys alone, so do their sums
pub exchange : (f g : Key → ℕ) (ds ks ls : List Key) → AreOnce ds → AreOnce ks → AreOnce ls → Covers f ks → Covers g ls
    → ((k : Key) → list_any (key_eq k) ds ≡ false → f k ≡ g k) → sum_by g ls + sum_by f ds ≡ sum_by f ks + sum_by g ds
exchange f g [] ks ls once one two here there same =
    let whole : f ≡ g = (λ j. λ k. same k refl j) in
    let sums = same-sum f ks ls one two here (subst (λ h. Covers h ls) (sym whole) there) in
    omega (arith, sums, ap (λ h. sum_by h ls) whole)
exchange f g (d ∷ ds) ks ls once one two here there same =
    let rest = exchange (but f d) (but g d) ds ks ls once.1 one two (still-covers f d ks here) (still-covers g d ls there) (but-same f g d ds same) in
    omega (
      arith,
      rest,
      single f d ks one (here d),
      single g d ls two (there d),
      absent f d ds once.0,
      absent g d ds once.0,
      sum_by-cons f d ds,
      sum_by-cons g d ds,
    )

-- some keys have no more than all
pub within-all : (f : Key → ℕ) (ds ks : List Key) → AreOnce ds → AreOnce ks → Covers f ks → sum_by f ds ≤ sum_by f ks
within-all f [] ks once one here = omega arith
within-all f (d ∷ ds) ks once one here =
    let rest = within-all (but f d) ds ks once.1 one (still-covers f d ks here) in
    omega (arith, rest, single f d ks one (here d), absent f d ds once.0, sum_by-cons f d ds)

-- sums of what is the same at each of the keys
pub each-same : (f g : Key → ℕ) (ks : List Key) → ((k : Key) → list_any (key_eq k) ks ≡ true → f k ≡ g k) → sum_by f ks ≡ sum_by g ks
each-same f g [] same = refl
each-same f g (k ∷ ks) same =
    let first = same k (or_left (key_eq k k) (list_any (key_eq k) ks) (key-itself k)) in
    let rest = each-same f g ks (λ j among. same j (or_right (key_eq j k) (list_any (key_eq j) ks) among)) in
    omega (arith, first, rest, sum_by-cons f k ks, sum_by-cons g k ks)

-- ---- sums along lists of which these are the keys, up to 2^64 - 1

sum-keys : {X : Type 0} (f : Key → ℕ) (key : X → Key) (xs : List X) → sum_by f (map key xs) ≡ sum_by (λ x. f (key x)) xs
sum-keys f key [] = refl
sum-keys f key (x ∷ xs) = omega (arith, sum-keys f key xs, sum_by-cons f (key x) (map key xs), sum_by-cons (λ x. f (key x)) x xs)

pub all_lines : {X : Type 0} (f : Key → ℕ) (key : X → Key) (xs : List X) (at total : ℕ) → length xs ≤ at
    → total ≡ min (sum_by (λ x. f (key x)) (take at xs)) (2 ^ 64 - 1) → total ≡ min (sum_by f (map key xs)) (2 ^ 64 - 1)
all_lines f key xs at total past is =
    let all = ap (sum_by (λ x. f (key x))) (take_all at xs past) in
    omega (arith, is, all, sum-keys f key xs)

pub sum_parts : (f : Key → ℕ) (a b c : List Key) → sum_by f ((a ++ b) ++ c) ≡ sum_by f a + sum_by f b + sum_by f c
sum_parts f a b c = omega (arith, sum_by-append f (a ++ b) c, sum_by-append f a b)
