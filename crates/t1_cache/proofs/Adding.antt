-- Users that leave or join one after another.
use Rattle.std.proofs.Common.{◌≡◌, ◌≤◌, ◌+◌, ℕ, Bool, true, false, cond, not, List, [], ◌∷◌, ◌++◌, refl, sym, ap, ◌∙◌, Option, Some, None, arith}
use Rattle.std.specs.Prelude.{◌||◌, ◌&&◌}
use Rattle.std.specs.Str.{bytes_eq}
use Rattle.std.specs.declared.alloc.Global.{Global}
use Rattle.std.specs.declared.vec.Vec.{Vec}
use Rattle.std.proofs.lemmas.List.Folds.{list_any-append}
use Rattle.std.proofs.lemmas.List.Sums.{sum_by-append}
use Rattle.t1_run.specs.Run.{Key}
use Rattle.t1_run.specs.RunKeys.{key_eq}
use Rattle.t1_font.specs.declared.owned_key.OwnedKey.{OwnedKey}
use Rattle.t1_cache.specs.Users.{Pairs, UserSet, HasUserRoom, pairs_of_key, has_pair}
use Rattle.t1_font.specs.OwnedKeys.{key_of}

pub less-room : (a b : ℕ) (r : Option UserSet) → a ≤ b → HasUserRoom b r → HasUserRoom a r
less-room a b None h had = omega (arith, h, had)
less-room a b (Some r) h had = omega (arith, h, had)

pub wanted-last : (pairs : Pairs) (p : OwnedKey × Vec ℕ Global) (k : Key)
    → pairs_of_key (pairs ++ p ∷ []) k ≡ cond (key_eq k (key_of p.0)) (pairs_of_key pairs k + 1) (pairs_of_key pairs k)
wanted-last pairs p k =
    sum_by-append (λ x. cond (key_eq k (key_of x.0)) 1 0) pairs (p ∷ []) ∙ by (key_eq k (key_of p.0)) (pairs_of_key pairs k)
  where
    by : (b : Bool) (n : ℕ) → n + (0 + cond b 1 0) ≡ cond b (n + 1) n
    by true n = omega arith
    by false n = omega arith

pub joined-last : (pairs : Pairs) (p : OwnedKey × Vec ℕ Global) (k : Key) (u : List ℕ) (had : Bool)
    → ((had || (key_eq k (key_of p.0) && bytes_eq u p.1.items)) || has_pair pairs k u) ≡ (had || has_pair (pairs ++ p ∷ []) k u)
joined-last pairs p k u had =
    turn had (key_eq k (key_of p.0) && bytes_eq u p.1.items) (has_pair pairs k u)
    ∙ ap (λ b. had || b) (sym (list_any-append (λ p. key_eq k (key_of p.0) && bytes_eq u p.1.items) pairs (p ∷ [])))
  where
    turn : (a b c : Bool) → ((a || b) || c) ≡ (a || (c || (b || false)))
    turn true b c = refl
    turn false true true = refl
    turn false true false = refl
    turn false false true = refl
    turn false false false = refl

pub left-last : (pairs : Pairs) (p : OwnedKey × Vec ℕ Global) (k : Key) (u : List ℕ) (had : Bool)
    → ((had && not (key_eq k (key_of p.0) && bytes_eq u p.1.items)) && not (has_pair pairs k u)) ≡ (had && not (has_pair (pairs ++ p ∷ []) k u))
left-last pairs p k u had =
    turn had (key_eq k (key_of p.0) && bytes_eq u p.1.items) (has_pair pairs k u)
    ∙ ap (λ b. had && not b) (sym (list_any-append (λ p. key_eq k (key_of p.0) && bytes_eq u p.1.items) pairs (p ∷ [])))
  where
    turn : (a b c : Bool) → ((a && not b) && not c) ≡ (a && not (c || (b || false)))
    turn false b c = refl
    turn true true true = refl
    turn true true false = refl
    turn true false true = refl
    turn true false false = refl
