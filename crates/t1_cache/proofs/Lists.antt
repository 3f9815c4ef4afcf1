-- What holds of each element of a list.
use Rattle.std.proofs.Common.{◌≡◌, ℕ, Bool, true, false, List, [], ◌∷◌, ◌++◌, refl, sym, subst}
use Rattle.std.specs.Prelude.{◌||◌}
use Rattle.std.specs.List.{AllByRecursion, list_any}
use Rattle.std.specs.Str.{bytes_eq}
use Rattle.t1_font.proofs.Lookups.{bytes_tell}

-- what is weaker holds of each as well
pub all-weaken : {X : Type 0} (P Q : X → Type 0) → ((x : X) → P x → Q x) → (xs : List X) → AllByRecursion P xs → AllByRecursion Q xs
all-weaken P Q step [] h = tt
all-weaken P Q step (x ∷ xs) h = (step x h.0, all-weaken P Q step xs h.1)

pub all-last : {X : Type 0} (P : X → Type 0) (xs : List X) (x : X) → AllByRecursion P xs → P x → AllByRecursion P (xs ++ x ∷ [])
all-last P [] x h p = (p, tt)
all-last P (y ∷ xs) x h p = (h.0, all-last P xs x h.1 p)

-- what holds of each name holds of a name among them
pub all-at : (P : List ℕ → Type 0) (names : List (List ℕ)) → AllByRecursion P names → (g : List ℕ) → list_any (bytes_eq g) names ≡ true → P g
all-at P [] h g e = absurd (cc)
all-at P (x ∷ names) h g e = by (bytes_eq g x) refl e (all-at P names h.1 g) where
  by : (b : Bool) → bytes_eq g x ≡ b → (b || list_any (bytes_eq g) names) ≡ true → (list_any (bytes_eq g) names ≡ true → P g) → P g
  by true same e others = subst P (sym (bytes_tell.same g x same)) h.0
  by false other e others = others e
