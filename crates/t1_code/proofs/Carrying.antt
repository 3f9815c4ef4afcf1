-- A text that goes out changed, part by part, by what went before.
use Rattle.std.proofs.Common.{◌≡◌, ℕ, ◌+◌, ◌<◌, List, [], ◌++◌, length, get_or, drop, refl, sym, ◌∙◌, append-nil, Option}
use Rattle.std.specs.List.{flat_map}
use Rattle.t1_code.specs.declared.outlet.Outlet.{Outlet}
use Rattle.t1_code.specs.Writing.{Passes, Stops}
use Rattle.t1_code.proofs.Encrypting.{flat_map-drop}
use Rattle.t1_code.proofs.Writing.{passing, Written, Written-none, Written-step, Written-fails, Written-all}

-- The laws of a change: what a text becomes from a state, and the state after it.
pub record IsChange {S : Type 0} (changed : S → List ℕ → List ℕ) (after : S → List ℕ → S) : Type 0 where
  pub join : (s : S) (xs ys : List ℕ) → changed s (xs ++ ys) ≡ changed s xs ++ changed (after s xs) ys
  pub twice : (s : S) (xs ys : List ℕ) → after s (xs ++ ys) ≡ after (after s xs) ys

module _ {W S : Type 0} (contents : W → Option (List ℕ)) {changed : S → List ℕ → List ℕ} {after : S → List ℕ → S} (laws : IsChange changed after) where
  -- a beginning of the text went out changed, and the rest is left from the present state
  pub record Carried (start now : Outlet W) (first state : S) (text rest : List ℕ) : Type 0 where
    pub written : Written (passing contents) start now (changed first text) (changed state rest)
    pub last : after state rest ≡ after first text

  pub Carried-none : (start : Outlet W) (first : S) (text : List ℕ) → Carried start start first first text text
  Carried-none start first text = record { written = Written-none (passing contents) start (changed first text); last = refl }

  pub Carried-step : (start old new : Outlet W) (first state next : S) (text front rest : List ℕ) → Carried start old first state text (front ++ rest)
      → Passes contents old new (changed state front) → next ≡ after state front → Carried start new first next text rest
  Carried-step start old new first state next text front rest p q e = record {
    written = rw e (Written-step (passing contents) start old new (changed first text) (changed state front) (changed (after state front) rest) (rw (laws.join state front rest) at p.written) q);
    last = rw e (sym (laws.twice state front rest) ∙ p.last);
  }

  pub Carried-fails : (start old new : Outlet W) (first state : S) (text front rest : List ℕ) → Carried start old first state text (front ++ rest)
      → Stops contents old new (changed state front) → Stops contents start new (changed first text)
  Carried-fails start old new first state text front rest p q =
      Written-fails (passing contents) start old new (changed first text) (changed state front) (changed (after state front) rest) (rw (laws.join state front rest) at p.written) q

  -- a call fails within the rest
  pub Carried-breaks : (start old new : Outlet W) (first state : S) (text rest : List ℕ) → Carried start old first state text rest
      → Stops contents old new (changed state rest) → Stops contents start new (changed first text)
  Carried-breaks start old new first state text rest p q =
      Written-fails (passing contents) start old new (changed first text) (changed state rest) [] (rw append-nil p.written) q

  -- nothing is left
  pub Carried-all : (start now : Outlet W) (first state : S) (text rest : List ℕ) → Carried start now first state text rest → changed state rest ≡ [] → Passes contents start now (changed first text)
  Carried-all start now first state text rest p e = Written-all (passing contents) start now (changed first text) (rw e at p.written)

  pub Carried-end : (start now : Outlet W) (first state : S) (text rest : List ℕ) → Carried start now first state text rest → after state rest ≡ state → state ≡ after first text
  Carried-end start now first state text rest p e = sym e ∙ p.last

module _ {W S X : Type 0} (contents : W → Option (List ℕ)) {changed : S → List ℕ → List ℕ} {after : S → List ℕ → S} (laws : IsChange changed after) (f : X → List ℕ) (xs : List X) (i : ℕ) (x d : X) (inside : i < length xs) (is : x ≡ get_or xs i d) where
  pub Carried-turn : (start old new : Outlet W) (first state next : S) (text : List ℕ) → Carried contents laws start old first state text (flat_map f (drop i xs))
      → Passes contents old new (changed state (f x)) → next ≡ after state (f x) → Carried contents laws start new first next text (flat_map f (drop (i + 1) xs))
  Carried-turn start old new first state next text p q e =
      Carried-step contents laws start old new first state next text (f x) (flat_map f (drop (i + 1) xs)) (rw (flat_map-drop f xs i x d inside is) at p) q e

  pub Carried-turn-fails : (start old new : Outlet W) (first state : S) (text : List ℕ) → Carried contents laws start old first state text (flat_map f (drop i xs))
      → Stops contents old new (changed state (f x)) → Stops contents start new (changed first text)
  Carried-turn-fails start old new first state text p q =
      Carried-fails contents laws start old new first state text (f x) (flat_map f (drop (i + 1) xs)) (rw (flat_map-drop f xs i x d inside is) at p) q
