-- How many words a text can have.
use Rattle.std.proofs.Common.{ℕ, ◌≤◌, ◌+◌, List, [], ◌∷◌, length, inl, inr, arith}
use Rattle.std.specs.List.{onto_first}
use Rattle.std.proofs.lemmas.Bool.{cases_Bool}
use Rattle.t1_frac.specs.Words.{is_blank, words, word_goes_on}

onto_first_within : (c : ℕ) (ws : List (List ℕ)) → length (onto_first c ws) ≤ length ws + 1
onto_first_within c [] = omega arith
onto_first_within c (w ∷ ws) = omega arith

-- a text has at most a word a byte
pub words_within : (text : List ℕ) → length (words text) ≤ length text
words_within [] = omega arith
words_within (c ∷ rest) =
    let h = words_within rest in
    elim (cases_Bool (is_blank c)) [
      | inl blank ↦ rw blank (omega arith)
      | inr other ↦ rw other (elim (cases_Bool (word_goes_on rest)) [
        | inl on ↦ rw on (let k = onto_first_within c (words rest) in omega arith)
        | inr off ↦ rw off (omega arith)
      ])
    ]
