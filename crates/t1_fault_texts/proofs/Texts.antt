-- Texts that are added one after another.
use Rattle.std.proofs.Common.{◌≡◌, ◌∙◌, ◌++◌, ◌+◌, ◌<◌, ℕ, List, [], ◌∷◌, ap, sym, append_assoc, append-nil, flat_map, get_or, length, take}
use Rattle.std.proofs.lemmas.Grind.{flat_map-append}
use Rattle.std.proofs.lemmas.List.{take_more}

-- the text of one element more
pub one_more : {X : Type 0} (f : X → List ℕ) (xs : List X) (i : ℕ) (d item : X) (old text new : List ℕ) → i < length xs → item ≡ get_or xs i d
    → text ≡ old ++ flat_map f (take i xs) → new ≡ text ++ f item → new ≡ old ++ flat_map f (take (i + 1) xs)
one_more f xs i d item old text new inside is before added =
    let piece : f item ≡ flat_map f (get_or xs i d ∷ []) = ap f is ∙ sym (append-nil (f (get_or xs i d))) in
    added ∙ ap (λ t. t ++ f item) before ∙ append_assoc old (flat_map f (take i xs)) (f item)
    ∙ ap (λ t. old ++ t) (ap (λ t. flat_map f (take i xs) ++ t) piece ∙ sym (flat_map-append f (take i xs) (get_or xs i d ∷ [])) ∙ ap (λ l. flat_map f l) (sym (take_more xs i d inside)))
