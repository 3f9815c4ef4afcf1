-- The lines of a text by their numbers.
use Rattle.std.proofs.Common.{◌≡◌, ◌∙◌, ℕ, ◌+◌, List, ◌∷◌, drop, drop-drop, sym, ap}
use Rattle.t1_text.specs.Lines.{lines}

-- what is left of the lines after one more
pub after_one : (n : ℕ) (rest text line after : List ℕ) → lines rest ≡ drop n (lines text) → lines rest ≡ line ∷ lines after → lines after ≡ drop (n + 1) (lines text)
after_one n rest text line after h is = ap (λ ls. drop 1 ls) (sym is ∙ h) ∙ drop-drop 1 n (lines text)
