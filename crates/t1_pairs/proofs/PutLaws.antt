-- Pairs put into their order.
use Rattle.std.proofs.Common.{◌≡◌, ℤ, Bool, true, List, [], ◌∷◌, ◌++◌, refl, ◌∙◌, ap}
use Rattle.std.specs.List.{list_all}
use Rattle.std.specs.Ordering.{nat_cmp, is_lt, match_ordering, ordering_reverse}
use Rattle.std.specs.Cmp.{IsTotalOrder, then_total}
use Rattle.std.specs.Cmp.Lexicographic.{slice_cmp, nat_list_cmp_total}
use Rattle.std.specs.declared.cmp.Ordering.{Ordering}
use Rattle.std.specs.declared.cmp.Ordering.TheVariants.{Less, Equal, Greater}
use Rattle.std.proofs.lemmas.Bool.{and_parts, and_from}
use Rattle.t1_pairs.specs.declared.pairs.Pair.{Pair}
use Rattle.t1_pairs.specs.Kerning.{pair_cmp, put_pair, precedes, are_ordered}

left_total : IsTotalOrder {K = Pair} (λ p q. slice_cmp nat_cmp p.left q.left)
left_total = record {
  antisymm = λ p q. nat_list_cmp_total.antisymm p.left q.left;
  trans = λ p q r. nat_list_cmp_total.trans p.left q.left r.left;
  congr = λ p q r. nat_list_cmp_total.congr p.left q.left r.left;
}

right_total : IsTotalOrder {K = Pair} (λ p q. slice_cmp nat_cmp p.right q.right)
right_total = record {
  antisymm = λ p q. nat_list_cmp_total.antisymm p.right q.right;
  trans = λ p q r. nat_list_cmp_total.trans p.right q.right r.right;
  congr = λ p q r. nat_list_cmp_total.congr p.right q.right r.right;
}

pub pair_total : IsTotalOrder pair_cmp
pair_total = then_total left_total right_total

pub less : (o : Ordering) → is_lt o ≡ true → o ≡ Less
less Less h = refl
less Equal h = cc
less Greater h = cc

-- a pair that stands before another has it after it
pub turned : (p q : Pair) → precedes q p ≡ true → pair_cmp p q ≡ Greater
turned p q h = pair_total.antisymm p q ∙ ap ordering_reverse (less (pair_cmp q p) h)

-- a pair after all others is put last
pub put_last : (p : Pair) (qs : List Pair) → list_all (λ q. precedes q p) qs ≡ true → put_pair p qs ≡ qs ++ p ∷ []
put_last p [] h = refl
put_last p (q ∷ qs) h =
    let parts = and_parts _ _ h in
    rw (turned p q parts.0) (ap (λ t. q ∷ t) (put_last p qs parts.1))

-- the pair q with another value
abbrev pub valued : Pair → ℤ → Pair
valued q v = record { left = q.left; right = q.right; value = v }

-- what one step of putting gives, by the order found
keeps_step : (test : Pair → Bool) (p q : Pair) (qs more : List Pair) (o : Ordering) → test p ≡ true → test (valued q p.value) ≡ true → test q ≡ true → list_all test qs ≡ true → list_all test more ≡ true
    → list_all test (match_ordering o (p ∷ q ∷ qs) (valued q p.value ∷ qs) (q ∷ more)) ≡ true
keeps_step test p q qs more Less a b c d e = and_from _ _ a (and_from _ _ c d)
keeps_step test p q qs more Equal a b c d e = and_from _ _ b d
keeps_step test p q qs more Greater a b c d e = and_from _ _ c e

-- a test of the pair and of all others holds of them with the pair
pub put_keeps : (test : Pair → Bool) (p : Pair) → test p ≡ true → ((q : Pair) → test q ≡ true → test (valued q p.value) ≡ true) → (qs : List Pair) → list_all test qs ≡ true
    → list_all test (put_pair p qs) ≡ true
put_keeps test p a b [] h = and_from (test p) true a refl
put_keeps test p a b (q ∷ qs) h =
    let parts = and_parts _ _ h in
    keeps_step test p q qs (put_pair p qs) (pair_cmp p q) a (b q parts.0) parts.0 parts.1 (put_keeps test p a b qs parts.1)

-- what stands after a pair stands after one before it
all_after : (p q : Pair) → pair_cmp p q ≡ Less → (rs : List Pair) → list_all (precedes q) rs ≡ true → list_all (precedes p) rs ≡ true
all_after p q h [] k = refl
all_after p q h (r ∷ rs) k =
    let parts = and_parts _ _ k in
    and_from _ _ (ap is_lt (pair_total.trans p q r h (less (pair_cmp q r) parts.0))) (all_after p q h rs parts.1)

following : (p q : Pair) → pair_cmp p q ≡ Greater → precedes q p ≡ true
following p q h = ap is_lt (pair_total.antisymm q p ∙ ap ordering_reverse h)

ordered_step : (p q : Pair) (qs : List Pair) (o : Ordering) → pair_cmp p q ≡ o → list_all (precedes q) qs ≡ true → are_ordered qs ≡ true → are_ordered (put_pair p qs) ≡ true
    → are_ordered (match_ordering o (p ∷ q ∷ qs) (valued q p.value ∷ qs) (q ∷ put_pair p qs)) ≡ true
ordered_step p q qs Less e a b c = and_from _ _ (and_from _ _ (ap is_lt e) (all_after p q e qs a)) (and_from _ _ a b)
ordered_step p q qs Equal e a b c = and_from _ _ a b
ordered_step p q qs Greater e a b c = and_from _ _ (put_keeps (precedes q) p (following p q e) (λ r h. h) qs a) c

-- ordered pairs stay so
pub put_ordered : (p : Pair) (qs : List Pair) → are_ordered qs ≡ true → are_ordered (put_pair p qs) ≡ true
put_ordered p [] h = refl
put_ordered p (q ∷ qs) h =
    let parts = and_parts _ _ h in
    ordered_step p q qs (pair_cmp p q) refl parts.0 parts.1 (put_ordered p qs parts.1)
