-- Keeping the lines of a tail, one by one.
use Rattle.std.proofs.Common.{◌≡◌, ℕ, Bool, true, false, if◌then◌else◌, Some, None, List, [], ◌∷◌, codes, filter_map, refl, ap, inl, inr}
use Rattle.std.specs.List.{list_any}
use Rattle.std.proofs.lemmas.Bool.{cases_Bool}
use Rattle.t1_parts.specs.Parts.{is_zeros, holds, tail_of}

-- the lines that aren't lines of zeros
abbrev pub kept : List (List ℕ) → List (List ℕ)
kept ls = filter_map (λ l. if is_zeros l then None else Some l) ls

kept_again : (ls : List (List ℕ)) → kept (kept ls) ≡ kept ls
kept_again [] = refl
kept_again (l ∷ ls) =
    elim (cases_Bool (is_zeros l)) [
      | inl zeros ↦ rw zeros (kept_again ls)
      | inr other ↦ rw other (rw other (ap (λ t. l ∷ t) (kept_again ls)))
    ]

delimiter_again : (ls : List (List ℕ)) (b : Bool) → list_any (holds (codes "cleartomark")) (kept ls) ≡ b → tail_of (if b then kept ls else codes "cleartomark" ∷ kept ls) ≡ (if b then kept ls else codes "cleartomark" ∷ kept ls)
unfolding tail_of
delimiter_again ls true h = rw (kept_again ls, h) refl
delimiter_again ls false h = ap (λ t. codes "cleartomark" ∷ t) (kept_again ls)

-- a tail that is kept is kept as it is
pub tail_again : (ls : List (List ℕ)) → tail_of (tail_of ls) ≡ tail_of ls
unfolding tail_of
tail_again ls = delimiter_again ls (list_any (holds (codes "cleartomark")) (kept ls)) refl
