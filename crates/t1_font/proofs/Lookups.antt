-- Look-ups by name in maps into which a value is put, or from which one is taken out.
use Rattle.std.proofs.Common.{◌≡◌, ◌<◌, ℕ, zero, suc, Bool, true, false, cond, not, List, [], ◌∷◌, filter, refl, sym, ap, ◌∙◌, Option, Some, None, arith}
use Rattle.std.specs.Prelude.{nat_eq, IsSome}
use Rattle.std.specs.Map.{lookup}
use Rattle.std.specs.Str.{bytes_eq}
use Rattle.std.proofs.lemmas.Bool.{eqb-true}
use Rattle.std.proofs.lemmas.Bool.Decides.{nat_tests}
use Rattle.std.proofs.lemmas.Slice.Eq.{bytes_eq-Decides}
use Rattle.indexmap.specs.IndexMap.{insert_entry}

-- a test that says whether two names are the same
pub record Distinguishes {Q : Type 0} (eq : Q → Q → Bool) : Type 0 where
  pub same : (a b : Q) → eq a b ≡ true → a ≡ b
  pub itself : (a : Q) → eq a a ≡ true

pub bytes_tell : Distinguishes bytes_eq
bytes_tell = record { same = λ a b e. (bytes_eq-Decides a b).0 e; itself = λ a. (bytes_eq-Decides a a).1 refl }

nat-itself : (a : ℕ) → nat_eq a a ≡ true
nat-itself a = grind (arith, nat_tests)

pub numbers_tell : Distinguishes nat_eq
numbers_tell = record { same = eqb-true; itself = nat-itself }

pub bytes-turned : (a b : List ℕ) → bytes_eq a b ≡ bytes_eq b a
bytes-turned a b = by (bytes_eq a b) refl (bytes_eq b a) refl where
  by : (x : Bool) → bytes_eq a b ≡ x → (y : Bool) → bytes_eq b a ≡ y → x ≡ y
  by true on true also = refl
  by false off false also = refl
  by true on false off = let never : true ≡ false = sym (bytes_tell.itself b) ∙ ap (bytes_eq b) (sym (bytes_tell.same a b on)) ∙ off in absurd (cc)
  by false off true on = let never : true ≡ false = sym (bytes_tell.itself a) ∙ ap (bytes_eq a) (sym (bytes_tell.same b a on)) ∙ off in absurd (cc)

-- where something is found unless there are none, and nothing is, there are none
pub none-found : {X : Type 0} (o : Option X) (n : ℕ) → o ≡ None → (0 < n → IsSome o) → n ≡ 0
none-found o zero e h = refl
none-found None (suc n) e h = let never : false ≡ true = h (omega arith) in absurd (cc)
none-found (Some x) (suc n) e h = absurd (cc)

-- ---- a value that is put in

pub again : {Y : Type 0} (b : Bool) (x y r : Y) → cond b x r ≡ cond b x (cond b y r)
again true x y r = refl
again false x y r = refl

swap : {Y : Type 0} (a b : Bool) (x y r : Y) → (a ≡ true → b ≡ true → x ≡ y) → cond a x (cond b y r) ≡ cond b y (cond a x r)
swap true true x y r h = h refl refl
swap true false x y r h = refl
swap false true x y r h = refl
swap false false x y r h = refl

-- a value that is put in at a name is found there, and nothing else changes
pub inserted-at : {Q K X : Type 0} (eq : Q → Q → Bool) → Distinguishes eq → (name : K → Q) (p : Q) (k : K) (v : X) (es : List (K × X))
    → lookup (λ x. eq p (name x)) (insert_entry (λ x y. eq (name x) (name y)) es k v) ≡ cond (eq p (name k)) (Some v) (lookup (λ x. eq p (name x)) es)
inserted-at eq t name p k v [] = refl
inserted-at eq t name p k v (e ∷ es) = by (eq (name k) (name e.0)) refl (inserted-at eq t name p k v es) where
  by : (b : Bool) → eq (name k) (name e.0) ≡ b
      → lookup (λ x. eq p (name x)) (insert_entry (λ x y. eq (name x) (name y)) es k v) ≡ cond (eq p (name k)) (Some v) (lookup (λ x. eq p (name x)) es)
      → lookup (λ x. eq p (name x)) (cond b ((e.0, v) ∷ es) (e ∷ insert_entry (λ x y. eq (name x) (name y)) es k v))
      ≡ cond (eq p (name k)) (Some v) (cond (eq p (name e.0)) (Some e.1) (lookup (λ x. eq p (name x)) es))
  by true on rest =
      again (eq p (name e.0)) (Some v) (Some e.1) (lookup (λ x. eq p (name x)) es)
      ∙ ap (λ n. cond (eq p n) (Some v) (cond (eq p (name e.0)) (Some e.1) (lookup (λ x. eq p (name x)) es))) (sym (t.same (name k) (name e.0) on))
  by false off rest =
      ap (cond (eq p (name e.0)) (Some e.1)) rest
      ∙ swap (eq p (name e.0)) (eq p (name k)) (Some e.1) (Some v) (lookup (λ x. eq p (name x)) es) (λ there here.
      let both : eq (name k) (name e.0) ≡ true = ap (λ n. eq n (name e.0)) (sym (t.same p (name k) here)) ∙ there in
      let never : false ≡ true = sym off ∙ both in
      absurd (cc))

-- ---- a value that is taken out

pub lookup-but : {Q K R : Type 0} (eq : Q → Q → Bool) → Distinguishes eq → (name : K → Q) (p q : Q) (es : List (K × R))
    → lookup (λ x. eq q (name x)) (filter (λ e. not (eq p (name e.0))) es) ≡ cond (eq q p) None (lookup (λ x. eq q (name x)) es)
lookup-but {R} eq t name p q [] = none (eq q p) where
  none : (b : Bool) → None ≡ cond {A = Option R} b None None
  none true = refl
  none false = refl
lookup-but eq t name p q (e ∷ es) = by (eq p (name e.0)) refl (eq q (name e.0)) refl (lookup-but eq t name p q es) where
  by : (b : Bool) → eq p (name e.0) ≡ b → (c : Bool) → eq q (name e.0) ≡ c
      → lookup (λ x. eq q (name x)) (filter (λ e. not (eq p (name e.0))) es) ≡ cond (eq q p) None (lookup (λ x. eq q (name x)) es)
      → lookup (λ x. eq q (name x)) (cond (not b) (e ∷ filter (λ e. not (eq p (name e.0))) es) (filter (λ e. not (eq p (name e.0))) es))
      ≡ cond (eq q p) None (cond c (Some e.1) (lookup (λ x. eq q (name x)) es))
  by true on true here rest =
      let same : eq q p ≡ true = ap (eq q) (t.same p (name e.0) on) ∙ here in
      rest ∙ ap (λ b. cond b None (lookup (λ x. eq q (name x)) es)) same
      ∙ ap (λ b. cond b None (Some e.1)) (sym same)
  by true on false off rest = rest
  by false off true here rest =
      let apart : eq q p ≡ false = other (eq q p) refl in
      ap (λ b. cond b (Some e.1) (lookup (λ x. eq q (name x)) (filter (λ e. not (eq p (name e.0))) es))) here
      ∙ ap (λ b. cond b None (Some e.1)) (sym apart)
    where
      other : (b : Bool) → eq q p ≡ b → b ≡ false
      other true same =
          let both : eq p (name e.0) ≡ true = ap (λ n. eq n (name e.0)) (sym (t.same q p same)) ∙ here in
          let never : false ≡ true = sym off ∙ both in
          absurd (cc)
      other false same = refl
  by false off false there rest = ap (λ b. cond b (Some e.1) (lookup (λ x. eq q (name x)) (filter (λ e. not (eq p (name e.0))) es))) there ∙ rest
