-- Lists of which those that pass a test are left.
use Rattle.std.proofs.Common.{◌≡◌, ℕ, Bool, true, false, cond, List, [], ◌∷◌, filter, refl, sym, ◌∙◌, ap}
use Rattle.std.specs.Prelude.{◌&&◌, ◌||◌}
use Rattle.std.specs.List.{AllByRecursion, list_any}
use Rattle.std.specs.Str.{bytes_eq}
use Rattle.std.proofs.lemmas.Bool.{and_parts}
use Rattle.std.proofs.Math.Bool.{and-false}
use Rattle.t1_font.proofs.Lookups.{bytes_tell}

-- ---- tests

pub filter-all : {X : Type 0} (xs : List X) → filter (λ x. true) xs ≡ xs
filter-all [] = refl
filter-all (x ∷ xs) = ap (λ l. x ∷ l) (filter-all xs)

pub filter-none : {X : Type 0} (xs : List X) → filter (λ x. false) xs ≡ []
filter-none [] = refl
filter-none (x ∷ xs) = filter-none xs

-- one test after another
pub filter-both : {X : Type 0} (p q : X → Bool) (xs : List X) → filter q (filter p xs) ≡ filter (λ x. p x && q x) xs
filter-both p q [] = refl
filter-both p q (x ∷ xs) = one (p x) (filter-both p q xs) where
  one : (b : Bool) → filter q (filter p xs) ≡ filter (λ x. p x && q x) xs
      → filter q (cond b (x ∷ filter p xs) (filter p xs)) ≡ cond (b && q x) (x ∷ filter (λ x. p x && q x) xs) (filter (λ x. p x && q x) xs)
  one true e = ap (λ l. cond (q x) (x ∷ l) l) e
  one false e = e

-- tests that agree on a list pass the same of it
pub filter-agreed : {X : Type 0} (p q : X → Bool) (xs : List X) → AllByRecursion (λ x. p x ≡ q x) xs → filter p xs ≡ filter q xs
filter-agreed p q [] h = refl
filter-agreed p q (x ∷ xs) h = ap (λ b. cond b (x ∷ filter p xs) (filter p xs)) h.0 ∙ ap (λ l. cond (q x) (x ∷ l) l) (filter-agreed p q xs h.1)

pub filter-same : {X : Type 0} (p q : X → Bool) (xs : List X) → ((x : X) → p x ≡ q x) → filter p xs ≡ filter q xs
filter-same p q [] same = refl
filter-same p q (x ∷ xs) same = ap (λ b. cond b (x ∷ filter p xs) (filter p xs)) (same x) ∙ ap (λ l. cond (q x) (x ∷ l) l) (filter-same p q xs same)

-- ---- names

-- tests that agree on each name of a list
pub filter-as : (p q : List ℕ → Bool) (xs : List (List ℕ)) → ((g : List ℕ) → list_any (bytes_eq g) xs ≡ true → p g ≡ q g) → filter p xs ≡ filter q xs
filter-as p q [] same = refl
filter-as p q (x ∷ xs) same =
    ap (λ b. cond b (x ∷ filter p xs) (filter p xs)) (same x (ap (λ b. b || list_any (bytes_eq x) xs) (bytes_tell.itself x)))
    ∙ ap (λ l. cond (q x) (x ∷ l) l) (filter-as p q xs (λ g there. same g (later g (bytes_eq g x) there)))
  where
    later : (g : List ℕ) (b : Bool) → list_any (bytes_eq g) xs ≡ true → (b || list_any (bytes_eq g) xs) ≡ true
    later g true there = refl
    later g false there = there

-- a name is among those that pass where it is among all and passes
pub has-passing : (q : List ℕ → Bool) (g : List ℕ) (ys : List (List ℕ)) → list_any (bytes_eq g) (filter q ys) ≡ (list_any (bytes_eq g) ys && q g)
has-passing q g [] = refl
has-passing q g (y ∷ ys) = by (q y) refl (bytes_eq g y) refl (has-passing q g ys) where
  in-all : Bool
  in-all = list_any (bytes_eq g) ys

  same : bytes_eq g y ≡ true → q g ≡ q y
  same on = ap q (bytes_tell.same g y on)

  by : (b : Bool) → q y ≡ b → (t : Bool) → bytes_eq g y ≡ t → list_any (bytes_eq g) (filter q ys) ≡ (in-all && q g)
      → list_any (bytes_eq g) (cond b (y ∷ filter q ys) (filter q ys)) ≡ ((t || in-all) && q g)
  by true passes true on e = ap (λ t. t || list_any (bytes_eq g) (filter q ys)) on ∙ sym (same on ∙ passes)
  by true passes false off e = ap (λ t. t || list_any (bytes_eq g) (filter q ys)) off ∙ e
  by false fails true on e = e ∙ ap (λ t. in-all && t) (same on ∙ fails) ∙ and-false in-all ∙ sym (same on ∙ fails)
  by false fails false off e = e

pub among-passing : (p : List ℕ → Bool) (g : List ℕ) (xs : List (List ℕ)) → list_any (bytes_eq g) xs ≡ true → p g ≡ true → list_any (bytes_eq g) (filter p xs) ≡ true
among-passing p g xs there passes = has-passing p g xs ∙ ap (λ b. b && p g) there ∙ passes

pub among-off : (p : List ℕ → Bool) (g : List ℕ) (xs : List (List ℕ)) → p g ≡ false → list_any (bytes_eq g) (filter p xs) ≡ false
among-off p g xs fails = has-passing p g xs ∙ ap (λ b. list_any (bytes_eq g) xs && b) fails ∙ and-false (list_any (bytes_eq g) xs)

pub passed : (p : List ℕ → Bool) (g : List ℕ) (xs : List (List ℕ)) → list_any (bytes_eq g) (filter p xs) ≡ true → list_any (bytes_eq g) xs ≡ true
passed p g xs h = (and_parts (list_any (bytes_eq g) xs) (p g) (sym (has-passing p g xs) ∙ h)).0
