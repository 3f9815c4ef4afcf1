-- What entries are summed by.
use Rattle.std.specs.Prelude.{◌≡◌, ◌+◌, ◌-◌, ◌^◌, ℕ, zero, suc, min, max, refl}
use Rattle.std.proofs.Common.{ap, arith, ◌∙◌}
use Rattle.t1_test_tree.specs.declared.entry.Totals.{Totals}

-- profile: a sum that stops at the highest number
abbrev pub capped : ℕ → ℕ → ℕ
capped a b = min (a + b) (2 ^ 64 - 1)

-- profile: the first of two kinds that isn't 0
abbrev pub first_kind : ℕ → ℕ → ℕ
first_kind zero b = b
first_kind (suc a) b = suc a

abbrev pub of_parts : ℕ → ℕ → ℕ → ℕ → Totals
of_parts count bytes highest kind = record { count = count; bytes = bytes; highest = highest; kind = kind }

-- profile: the totals of no entries
abbrev pub none : Totals
none = of_parts 0 0 0 0

-- profile: the totals of some entries and of others behind them
abbrev pub both : Totals → Totals → Totals
both a b = of_parts (capped a.count b.count) (capped a.bytes b.bytes) (max a.highest b.highest) (first_kind a.kind b.kind)

same_parts : (c d e f c' d' e' f' : ℕ) → c ≡ c' → d ≡ d' → e ≡ e' → f ≡ f' → of_parts c d e f ≡ of_parts c' d' e' f'
same_parts c d e f c' d' e' f' p q r s =
    ap (λ n. of_parts n d e f) p ∙ ap (λ n. of_parts c' n e f) q ∙ ap (λ n. of_parts c' d' n f) r ∙ ap (λ n. of_parts c' d' e' n) s

pub same : (a b : Totals) → a.count ≡ b.count → a.bytes ≡ b.bytes → a.highest ≡ b.highest → a.kind ≡ b.kind → a ≡ b
same a b c d e f = same_parts a.count a.bytes a.highest a.kind b.count b.bytes b.highest b.kind c d e f

kinds_group : (a b c : ℕ) → first_kind (first_kind a b) c ≡ first_kind a (first_kind b c)
kinds_group zero b c = refl
kinds_group (suc a) b c = refl

kind_after : (a b : ℕ) → first_kind (first_kind a b) 0 ≡ first_kind a b
kind_after zero zero = refl
kind_after zero (suc b) = refl
kind_after (suc a) b = refl

pub grouping : (a b c : Totals) → both (both a b) c ≡ both a (both b c)
grouping a b c = same_parts _ _ _ _ _ _ _ _ (omega arith) (omega arith) (omega arith) (kinds_group a.kind b.kind c.kind)

pub none_after : (a b : Totals) → both (both a b) none ≡ both a b
none_after a b = same_parts _ _ _ _ _ _ _ _ (omega arith) (omega arith) (omega arith) (kind_after a.kind b.kind)
