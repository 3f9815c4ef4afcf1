-- Steps of reading pairs.
use Rattle.std.proofs.Common.{◌≡◌, ℕ, ◌+◌, List, [], ◌∷◌, ◌++◌, Result, Ok, Err, refl, ◌∙◌, ap}
use Rattle.std.specs.Ordering.{match_ordering, ordering_then, nat_cmp}
use Rattle.std.specs.Cmp.Lexicographic.{slice_cmp}
use Rattle.t1_frac.specs.declared.fault.Fault.{Fault}
use Rattle.t1_pairs.specs.declared.pairs.Pair.{Pair}
use Rattle.t1_frac.specs.Words.{words}
use Rattle.t1_frac.specs.Outcome.{◌>>=◌, reported_at}
use Rattle.t1_pairs.specs.Kerning.{line_pairs, pairs_from, pairs_with, put_pair, put_all_pairs}
use Rattle.std.specs.Prelude.{ℤ}
use Rattle.std.specs.BTreeMap.{insert_entry}
use Rattle.std.specs.declared.vec.Vec.{Vec}
use Rattle.std.specs.declared.cmp.Ordering.{Ordering}
use Rattle.std.specs.declared.cmp.Ordering.TheVariants.{Less, Equal, Greater}
use Rattle.t1_pairs.specs.Sorted.{pairs_of_entries}
use Rattle.t1_frac.specs.declared.fault.Place.TheVariants.{Line}

after_pair : (qs : List Pair) (p : Pair) (more : Result (List Pair) Fault)
    → ((more >>= λ ps. Ok ((p ∷ []) ++ ps)) >>= λ ps. Ok (put_all_pairs qs ps)) ≡ (more >>= λ ps. Ok (put_all_pairs (put_pair p qs) ps))
after_pair qs p (Ok ps) = refl
after_pair qs p (Err f) = refl

after_none : (qs : List Pair) (more : Result (List Pair) Fault)
    → ((more >>= λ ps. Ok ([] ++ ps)) >>= λ ps. Ok (put_all_pairs qs ps)) ≡ (more >>= λ ps. Ok (put_all_pairs qs ps))
after_none qs (Ok ps) = refl
after_none qs (Err f) = refl

-- a line that says a pair
pub pair_step : (qs : List Pair) (n : ℕ) (l : List ℕ) (ls : List (List ℕ)) (p : Pair) → reported_at (Line n) (line_pairs (words l)) ≡ Ok (p ∷ []) → pairs_with qs n (l ∷ ls) ≡ pairs_with (put_pair p qs) (n + 1) ls
pair_step qs n l ls p e = rw e (after_pair qs p (pairs_from (n + 1) ls))

-- a line that says nothing
pub none_step : (qs : List Pair) (n : ℕ) (l : List ℕ) (ls : List (List ℕ)) → reported_at (Line n) (line_pairs (words l)) ≡ Ok [] → pairs_with qs n (l ∷ ls) ≡ pairs_with qs (n + 1) ls
none_step qs n l ls e = rw e (after_none qs (pairs_from (n + 1) ls))

-- the first faulty line decides
pub pairs_fault : (qs : List Pair) (n : ℕ) (l : List ℕ) (ls : List (List ℕ)) (f : Fault) → reported_at (Line n) (line_pairs (words l)) ≡ Err f → pairs_with qs n (l ∷ ls) ≡ Err f
pairs_fault qs n l ls f e = rw e refl

abbrev pub pair_of_entry : {A B : Type 0} → (Vec ℕ A × Vec ℕ B) × ℤ → Pair
pair_of_entry e = record { left = e.0.0.items; right = e.0.1.items; value = e.1 }

-- the order of the keys
abbrev pub key_cmp : {A B : Type 0} → (Vec ℕ A × Vec ℕ B) → (Vec ℕ A × Vec ℕ B) → Ordering
key_cmp x y = ordering_then (slice_cmp nat_cmp x.0.items y.0.items) (slice_cmp nat_cmp x.1.items y.1.items)

put_by : {A B : Type 0} (o : Ordering) (k : Vec ℕ A × Vec ℕ B) (v : ℤ) (e : (Vec ℕ A × Vec ℕ B) × ℤ) (es more : List ((Vec ℕ A × Vec ℕ B) × ℤ)) (rest : List Pair) → pairs_of_entries more ≡ rest
    → pairs_of_entries (match_ordering o ((k, v) ∷ e ∷ es) ((e.0, v) ∷ es) (e ∷ more))
    ≡ match_ordering o (pair_of_entry (k, v) ∷ pair_of_entry e ∷ pairs_of_entries es) (pair_of_entry (e.0, v) ∷ pairs_of_entries es) (pair_of_entry e ∷ rest)
put_by Less k v e es more rest h = refl
put_by Equal k v e es more rest h = refl
put_by Greater k v e es more rest h = ap (λ t. pair_of_entry e ∷ t) h

-- a pair put into the map
put_entry : {A B : Type 0} (k : Vec ℕ A × Vec ℕ B) (v : ℤ) (es : List ((Vec ℕ A × Vec ℕ B) × ℤ)) → pairs_of_entries (insert_entry key_cmp es k v) ≡ put_pair (pair_of_entry (k, v)) (pairs_of_entries es)
put_entry k v [] = refl
put_entry k v (e ∷ es) = put_by (key_cmp k e.0) k v e es (insert_entry key_cmp es k v) (put_pair (pair_of_entry (k, v)) (pairs_of_entries es)) (put_entry k v es)

pub put_new : {A B : Type 0} (k : Vec ℕ A × Vec ℕ B) (v : ℤ) (es new : List ((Vec ℕ A × Vec ℕ B) × ℤ)) (p : Pair) (s : List Pair) → new ≡ insert_entry key_cmp es k v → k.0.items ≡ p.left → k.1.items ≡ p.right → v ≡ p.value
    → pairs_of_entries es ≡ s → pairs_of_entries new ≡ put_pair p s
put_new k v es new p s entries left right value old =
    let same : pair_of_entry (k, v) ≡ p =
    ap (λ (x : List ℕ). record { left = x; right = k.1.items; value = v }) left
    ∙ ap (λ (x : List ℕ). record { left = p.left; right = x; value = v }) right
    ∙ ap (λ (x : ℤ). record { left = p.left; right = p.right; value = x }) value in
    ap pairs_of_entries entries ∙ put_entry k v es ∙ ap (λ q. put_pair q (pairs_of_entries es)) same ∙ ap (put_pair p) old
