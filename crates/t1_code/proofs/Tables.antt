-- Tables of words that hold the same rows in another order.
use Rattle.std.proofs.Common.{◌≡◌, ℕ, List, [], ◌∷◌, Option, None, Some, refl, sym, ap, ◌∙◌, inl, inr}
use Rattle.std.proofs.lemmas.Bool.{cases_Bool}
use Rattle.std.proofs.lemmas.Slice.Eq.{bytes_eq-Decides}
use Rattle.std.specs.List.{AllByRecursion}
use Rattle.std.specs.Map.{lookup}
use Rattle.std.specs.Str.{bytes_eq}

module _ {X : Type 0} where
  -- each row of one table is what its word finds in the other
  abbrev pub StandIn : List (List ℕ × X) → List (List ℕ × X) → Type 0
  StandIn rows table = AllByRecursion (λ row. lookup (bytes_eq row.0) table ≡ Some row.1) rows

  found_in : (word : List ℕ) (rows table : List (List ℕ × X)) (value : X) → StandIn rows table → lookup (bytes_eq word) rows ≡ Some value → lookup (bytes_eq word) table ≡ Some value
  found_in word [] table value all h = absurd (cc)
  found_in word (row ∷ rows) table value all h = elim (cases_Bool (bytes_eq word row.0)) [
    | inl e ↦ (let found : ◌≡◌ {A = Option X} (Some row.1) (Some value) = rw e at h in
        ap (λ w. lookup (bytes_eq w) table) ((bytes_eq-Decides word row.0).0 e) ∙ all.0 ∙ found)
    | inr e ↦ found_in word rows table value all.1 (rw e at h)
  ]

  found_alike : (word : List ℕ) (rows table : List (List ℕ × X)) (one other : Option X) → StandIn rows table → StandIn table rows
      → lookup (bytes_eq word) rows ≡ one → lookup (bytes_eq word) table ≡ other → one ≡ other
  found_alike word rows table (Some value) other here there p q = sym (found_in word rows table value here p) ∙ q
  found_alike word rows table None (Some value) here there p q = sym p ∙ found_in word table rows value there q
  found_alike word rows table None None here there p q = refl

  -- a word finds the same in both
  pub same_found : (word : List ℕ) (rows table : List (List ℕ × X)) → StandIn rows table → StandIn table rows → lookup (bytes_eq word) rows ≡ lookup (bytes_eq word) table
  same_found word rows table here there = found_alike word rows table (lookup (bytes_eq word) rows) (lookup (bytes_eq word) table) here there refl refl
