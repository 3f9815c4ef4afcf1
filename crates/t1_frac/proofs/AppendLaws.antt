-- Words on both sides of a blank.
use Rattle.std.proofs.Common.{◌≡◌, ℕ, true, false, List, [], ◌∷◌, ◌++◌, refl, sym, ◌∙◌, ap, inl, inr}
use Rattle.std.specs.List.{onto_first}
use Rattle.std.proofs.lemmas.Bool.{cases_Bool}
use Rattle.t1_frac.specs.Words.{is_blank}
use Rattle.t1_frac.specs.Words.{words}
use Rattle.t1_frac.proofs.WordLaws.{word_first, word_run}

-- a byte before a word
longer : (c d : ℕ) (rest : List ℕ) → is_blank c ≡ false → is_blank d ≡ false → words (c ∷ d ∷ rest) ≡ onto_first c (words (d ∷ rest))
longer c d rest h k = rw (h, k) refl

-- any blank does
pub words_apart : (a : List ℕ) (e : ℕ) (b : List ℕ) → is_blank e ≡ true → words (a ++ e ∷ b) ≡ words a ++ words b
words_apart [] e b h = rw h refl
words_apart (c ∷ []) e b h =
    elim (cases_Bool (is_blank c)) [
      | inl blank ↦ rw (blank, h) refl
      | inr other ↦ rw (other, h) refl
    ]
words_apart (c ∷ d ∷ a) e b h =
    elim (cases_Bool (is_blank c)) [
      | inl blank ↦ rw blank (words_apart (d ∷ a) e b h)
      | inr other ↦ elim (cases_Bool (is_blank d)) [
        | inl between ↦
            let more = words_apart (d ∷ a) e b h in
            rw (other, between) (ap (λ t. (c ∷ []) ∷ t) (rw between at more))
        | inr on ↦
            let first = word_first d a on ∙ word_run d a in
            longer c d (a ++ e ∷ b) other on ∙ ap (onto_first c) (words_apart (d ∷ a) e b h) ∙ ap (λ t. onto_first c (t ++ words b)) first
            ∙ sym (ap (λ t. onto_first c t ++ words b) first) ∙ sym (ap (λ t. t ++ words b) (longer c d a other on))
      ]
    ]

pub words_append : (a b : List ℕ) → words (a ++ 32 ∷ b) ≡ words a ++ words b
words_append a b = words_apart a 32 b refl
