-- Texts that are added to one another in turn.
use Rattle.std.proofs.Common.{◌≡◌, ◌∙◌, ◌++◌, ℕ, List, ap, append_assoc, Result, Ok, Err, is_ok, if◌then◌else◌}
use Rattle.std.specs.Prelude.{OnOk}

-- the last call of several that add a text, which is what they answer
pub added : {T E : Type 0} (r : Result T E) (before after more whole : List ℕ) → after ≡ (if is_ok r then before ++ more else before) → before ++ more ≡ whole → OnOk r (after ≡ whole)
added (Ok x) before after more whole h e = h ∙ e
added (Err x) before after more whole h e = tt

-- four texts that are added in turn
pub four : (a b c d s t u v : List ℕ) → b ≡ a ++ s → c ≡ b ++ t → d ≡ c ++ u → d ++ v ≡ a ++ (s ++ (t ++ (u ++ v)))
four a b c d s t u v first second third = ap (λ x. x ++ v) (third ∙ ap (λ x. x ++ u) (second ∙ ap (λ x. x ++ t) first)) ∙ simp append_assoc
