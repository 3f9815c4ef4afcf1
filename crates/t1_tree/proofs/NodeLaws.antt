-- What is known of a tree by its node.
use Rattle.std.proofs.Common.{◌≤◌, Option, Some, None, IfSome, take, drop, ◌≡◌, ◌<◌, ℕ, ◌⊎◌, inl, inr, Result, Ok, Err, IfOk, OnErr, OnOk, IsOk, List, length, ◌++◌, Vec, Global, refl, sym, subst, ◌∙◌, ap, arith}
use Rattle.std.specs.List.{insert, remove, slice_set}
use Rattle.t1_tree.specs.Sums.{sum_all}
use Rattle.t1_tree.specs.Trees.{elements, trees_joined, AreBelow, AreFilled, AreHalves, HasHeight, HasParts, IsBoth, IsLike, IsNoHigher}
use Rattle.t1_tree.specs.declared.node.Node.{Node}
use Rattle.t1_tree.specs.declared.node.Node.TheVariants.{Inner, Leaf}
use Rattle.std.proofs.lemmas.Option.{same_Some}
use Rattle.std.proofs.lemmas.List.{length-append, length-drop, length-set, length-take-le}
use Rattle.t1_tree.proofs.HeightLaws.{below_append, below_drop, below_take, filled_append, filled_drop, filled_take, parts_some}
use Rattle.t1_tree.proofs.TreeLaws.{in_two, joined_append, length-insert, length-remove, take-drop}

-- where memory ran out
pub at_err : {T E P : Type 0} (r : Result T E) (x : E) → r ≡ Err x → OnErr r P → P
at_err (Ok t) x e h = absurd (cc)
at_err (Err y) x e h = h

-- where it didn't
pub at_ok : {T E P : Type 0} (r : Result T E) (x : T) → r ≡ Ok x → OnOk r P → P
at_ok (Ok t) x e h = h
at_ok (Err y) x e h = absurd (cc)

pub is_ok_at : {T E : Type 0} (r : Result T E) (x : T) → r ≡ Ok x → IsOk r
is_ok_at (Ok t) x e = refl
is_ok_at (Err y) x e = absurd (cc)

-- where there is one
pub some_at : {X : Type 0} (P : X → Type 0) (o : Option X) (x : X) → o ≡ Some x → IfSome o P → P x
some_at P None x e h = absurd (cc)
some_at P (Some y) x e h = subst P (same_Some y x e) h

module _ {T S : Type 0} where
  pub leaf_halves : (node : Node T S) (items front back : Vec T Global) (half : ℕ) → node ≡ Leaf items → 0 < half → half < length items.items → front.items ≡ take half items.items → back.items ≡ drop half items.items
      → AreHalves node (Leaf front) (Leaf back)
  leaf_halves node items front back half is some many f b =
      let size = length-take-le half items.items (omega (arith, many)) in
      let left = length-drop half items.items in (
        ap (λ xs. xs ++ back.items) f ∙ ap (λ xs. take half items.items ++ xs) b ∙ take-drop half items.items ∙ ap elements (sym is),
        λ height has. let same = ap length f in omega (arith, size, same, some),
        λ height has. let same = ap length b in omega (arith, left, same, many),
      )

  pub inner_halves : (node : Node T S) (trees front back : Vec (List T × ℕ) Global) (half : ℕ) → node ≡ Inner trees → 0 < half → half < length trees.items → front.items ≡ take half trees.items → back.items ≡ drop half trees.items
      → AreHalves node (Inner front) (Inner back)
  inner_halves node trees front back half is some many f b =
      let size = length-take-le half trees.items (omega (arith, many)) in
      let left = length-drop half trees.items in (
        ap (λ ts. trees_joined ts ++ trees_joined back.items) f ∙ ap (λ ts. trees_joined (take half trees.items) ++ trees_joined ts) b ∙ in_two half trees.items ∙ ap elements (sym is),
        λ height has.
            let below = subst (HasHeight height) is has in
            let same = ap length f in
            ((omega (arith, size, same, some), subst AreFilled (sym f) (filled_take half trees.items below.0.1)), subst (AreBelow height) (sym f) (below_take height half trees.items below.1)),
        λ height has.
            let below = subst (HasHeight height) is has in
            let same = ap length b in
            ((omega (arith, left, same, many), subst AreFilled (sym b) (filled_drop half trees.items below.0.1)), subst (AreBelow height) (sym b) (below_drop height half trees.items below.1)),
      )

  pub leaf_both : (node next : Node T S) (front back both : Vec T Global) → node ≡ Leaf front → next ≡ Leaf back → both.items ≡ front.items ++ back.items → IsBoth node next (Leaf both)
  leaf_both node next front back both f b is = (
    is ∙ ap (λ n. elements n ++ back.items) (sym f) ∙ ap (λ n. elements node ++ elements n) (sym b),
    λ height some more.
        let here = subst (HasHeight height) f some in
        let size = ap length is in
        let all = length-append front.items back.items in
        omega (arith, here, size, all),
  )

  pub inner_both : (node next : Node T S) (front back both : Vec (List T × ℕ) Global) → node ≡ Inner front → next ≡ Inner back → both.items ≡ front.items ++ back.items → IsBoth node next (Inner both)
  inner_both node next front back both f b is = (
    ap trees_joined is ∙ joined_append front.items back.items ∙ ap (λ n. elements n ++ trees_joined back.items) (sym f) ∙ ap (λ n. elements node ++ elements n) (sym b),
    λ height some more.
        let here = subst (HasHeight height) f some in
        let there = subst (HasHeight height) b more in
        let size = ap length is in
        let all = length-append front.items back.items in
        ((omega (arith, here.0.0, size, all), subst AreFilled (sym is) (filled_append front.items back.items here.0.1 there.0.1)), subst (AreBelow height) (sym is) (below_append height front.items back.items here.1 there.1)),
  )

  -- no node is empty
  pub has_some : (height : ℕ) (node : Node T S) → HasHeight height node → 0 < length (elements node)
  has_some height (Leaf items) has = has
  has_some height (Inner trees) has = parts_some trees.items has.0

  -- what is written, or a clone of it
  pub like_either : (new old : Node T S) → (new ≡ old) ⊎ IsLike old new → IsLike old new
  like_either new old h = elim h [ inl e ↦ (ap elements e, λ height below. subst (HasHeight height) (sym e) below) | inr like ↦ like ]

  pub like_then : (a b c : Node T S) → IsLike a b → elements c ≡ elements b → IsNoHigher b c → IsLike a c
  like_then a b c like same low = (same ∙ like.0, λ height below. low height (like.1 height below))

  pub like_is : (a b c : Node T S) → IsLike a b → c ≡ b → IsLike a c
  like_is a b c like is = (ap elements is ∙ like.0, λ height below. subst (HasHeight height) (sym is) (like.1 height below))

  -- what a tree keeps stays true of another node of the same elements
  pub kept : (none : S) (plus : S → S → S) (one : T → S) (len height : ℕ) (sum : S) (old new : Node T S) → (len ≡ length (elements old)) × HasHeight height old × (sum ≡ sum_all none plus one (elements old)) → IsLike old new
      → (len ≡ length (elements new)) × HasHeight height new × (sum ≡ sum_all none plus one (elements new))
  kept none plus one len height sum old new inv like = (
    inv.0 ∙ sym (ap length like.0),
    like.1 height inv.1,
    inv.2 ∙ sym (ap (λ xs. sum_all none plus one xs) like.0),
  )

  pub has_parts : (height : ℕ) (node : Node T S) → HasHeight height node → HasParts node
  has_parts height (Leaf items) has = has
  has_parts height (Inner trees) has = has.0

-- the result of an edit leaves some elements
pub some_set : {T R E : Type 0} (r : Result R E) (at : ℕ) (x : T) (old new : List T) → OnOk r (new ≡ slice_set old at x) → OnErr r (new ≡ old) → 0 < length old → 0 < length new
some_set (Ok _) at x old new ok err some = let same = ap length ok in let size = length-set old at x in omega (arith, same, size, some)
some_set (Err _) at x old new ok err some = let same = ap length err in omega (arith, same, some)

pub some_inserted : {T R E : Type 0} (r : Result R E) (at : ℕ) (x : T) (old new : List T) → OnOk r (new ≡ insert old at x) → OnErr r (new ≡ old) → at ≤ length old → 0 < length old → 0 < length new
some_inserted (Ok _) at x old new ok err within some = let same = ap length ok in let size = length-insert at old x within in omega (arith, same, size, some)
some_inserted (Err _) at x old new ok err within some = let same = ap length err in omega (arith, same, some)

pub some_removed : {T R E : Type 0} (r : Result R E) (at : ℕ) (old new : List T) → OnOk r (new ≡ remove old at) → OnErr r (new ≡ old) → at < length old → 1 < length old → 0 < length new
some_removed (Ok _) at old new ok err within many = let same = ap length ok in let size = length-remove at old within in omega (arith, same, size, many)
some_removed (Err _) at old new ok err within many = let same = ap length err in omega (arith, same, many)

-- a fact of what a call answers, where it answers
pub if_ok_then : {R E : Type 0} (P Q : R → Type 0) (r : Result R E) → ((x : R) → P x → Q x) → IfOk r P → IfOk r Q
if_ok_then P Q (Ok x) then h = then x h
if_ok_then P Q (Err e) then h = tt
