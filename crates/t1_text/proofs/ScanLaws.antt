-- The answer of a search for bytes, as the length of what stands before the first of them.
use Rattle.std.proofs.Common.{◌≡◌, ℕ, Bool, true, false, not, Option, Some, None, List, length, refl, sym, arith}
use Rattle.std.specs.Option.{unwrap_or}
use Rattle.std.specs.List.{position_or_len}
use Rattle.std.proofs.lemmas.List.Sums.{prefix_len_is}
use Rattle.memchr.specs.Find.{IsFirstByte}

pub fails : (b : Bool) → ¬ (b ≡ true) → not b ≡ true
fails true h = absurd (h refl)
fails false h = refl

passes : (b : Bool) → b ≡ true → not b ≡ false
passes b e = rw e refl

found_at : (test : ℕ → Bool) (l : List ℕ) (k : ℕ) → IsFirstByte test l (Some k) → position_or_len test l ≡ k
found_at test l k h = prefix_len_is (λ c. not (test c)) l k 0 (omega (arith, h.0.high)) (λ j small. fails _ (h.0.before j (omega arith) small)) (λ small. passes _ h.1)

found_nowhere : (test : ℕ → Bool) (l : List ℕ) → IsFirstByte test l None → position_or_len test l ≡ length l
found_nowhere test l h = prefix_len_is (λ c. not (test c)) l (length l) 0 (omega arith) (λ j small. fails _ (h j (omega arith) small)) (λ small. absurd (omega (arith, small)))

-- the first place of such a byte, or the length
pub first_place : (test : ℕ → Bool) (l : List ℕ) (r : Option ℕ) → IsFirstByte test l r → unwrap_or r (length l) ≡ position_or_len test l
first_place test l None h = sym (found_nowhere test l h)
first_place test l (Some k) h = sym (found_at test l k h)
