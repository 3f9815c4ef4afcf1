-- Names that are kept beside glyphs.
use Rattle.std.specs.Prelude.{filter_map}
use Rattle.std.proofs.Common.{◌≡◌, ℕ, ◌+◌, ◌<◌, suc, length, get_or, drop, drop-cons, add-one, append_assoc, Option, Some, None, List, [], ◌∷◌, ◌++◌, refl, sym, ap, ◌∙◌, inl, inr, ◌||◌}
use Rattle.std.specs.List.{list_any}
use Rattle.std.specs.Str.{bytes_eq}
use Rattle.std.proofs.lemmas.Bool.{cases_Bool}
use Rattle.std.proofs.lemmas.List.Folds.{list_any-append}
use Rattle.std.proofs.Math.Bool.{or-false}
use Rattle.indexmap.specs.IndexSet.{insert_key}
use Rattle.t1_run.proofs.Asked.{bytes_same}

-- a name that is put in is among the names
pub name-inserted : {K : Type 0} (name : K → List ℕ) (g : List ℕ) (k : K) (ks : List K)
    → list_any (λ x. bytes_eq g (name x)) (insert_key (λ x y. bytes_eq (name x) (name y)) ks k) ≡ (list_any (λ x. bytes_eq g (name x)) ks || bytes_eq g (name k))
name-inserted name g k ks =
    elim (cases_Bool (list_any (λ x. bytes_eq (name k) (name x)) ks)) [
      | inl there ↦
          rw there
          (elim (cases_Bool (bytes_eq g (name k))) [
            | inl same ↦ rw (same, bytes_same g (name k) same, there) refl
            | inr other ↦ rw other (sym (or-false (list_any (λ x. bytes_eq g (name x)) ks)))
          ])
      | inr absent ↦
          rw absent (
          list_any-append (λ x. bytes_eq g (name x)) ks (k ∷ [])
          ∙ ap (λ b. list_any (λ x. bytes_eq g (name x)) ks || b) (or-false (bytes_eq g (name k))))
    ]

-- ---- what a list gives, one after another

first-of : {X : Type 0} (xs : List X) (i : ℕ) (x : X) → i < length xs → x ≡ get_or xs i x → drop i xs ≡ x ∷ drop (i + 1) xs
first-of xs i x h e = rw (add-one, drop-cons xs i x) (ap (λ y. y ∷ drop (suc i) xs) (sym e))

pub gives-none : {X Y : Type 0} (f : X → Option Y) (front : List Y) (xs : List X) (i : ℕ) (x : X) → i < length xs → x ≡ get_or xs i x → None ≡ f x
    → front ++ filter_map f (drop (i + 1) xs) ≡ front ++ filter_map f (drop i xs)
gives-none f front xs i x h e none = rw (first-of xs i x h e, ← none) refl

pub gives-one : {X Y : Type 0} (f : X → Option Y) (front : List Y) (xs : List X) (i : ℕ) (x : X) (y : Y) → i < length xs → x ≡ get_or xs i x → Some y ≡ f x
    → (front ++ y ∷ []) ++ filter_map f (drop (i + 1) xs) ≡ front ++ filter_map f (drop i xs)
gives-one f front xs i x y h e one = rw (first-of xs i x h e, ← one) (append_assoc front (y ∷ []) (filter_map f (drop (i + 1) xs)))
