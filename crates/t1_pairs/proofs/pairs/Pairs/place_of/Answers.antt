use Rattle.std.proofs.Common.{ℤ, pos, rules}
use Rattle.std.specs.List.Sorted.{IsBinarySearchResult}
use Rattle.std.proofs.lemmas.Fn.{always_returns_same}
use Rattle.t1_pairs.specs.declared.pairs.Pair.{Pair}
use Rattle.t1_pairs.specs.Kerning.{pair_cmp}
use Rattle.t1_pairs.proofs.SearchLaws.{search_put, search_found}
use Rattle.t1_pairs.proofs.pairs.Pairs.place_of.Goals as goal

-- the closure compares names, and the buckets are the list of the pairs
pub returns : goal.returns
returns c =
    let facts = c.binary_search_by.ensures in
    let list = c.buckets.result.now in
    let r = c.binary_search_by.result in
    let pair : ℤ → Pair = λ v. record { left = c.args.left.now; right = c.args.right.now; value = v } in
    let searched : (v : ℤ) → IsBinarySearchResult (λ q. pair_cmp q (pair v)) list r = λ v. facts.position (λ q. pair_cmp q (pair (pos 0))) (always_returns_same _ _ _ (λ a r f called. search rules)) in
    rw (← c.buckets.ensures.value) (record {
      within = facts.bound;
      found = search_found (pair (pos 0)) list c.buckets.ensures.kept r facts.bound (searched (pos 0));
      put = λ v. search_put (pair v) list c.buckets.ensures.kept r facts.bound (searched v);
    })
