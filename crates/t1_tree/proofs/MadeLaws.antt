-- Trees made of elements, and of lower trees.
use Rattle.std.proofs.Common.{◌≡◌, ◌<◌, ◌≤◌, ◌+◌, ◌*◌, ℕ, Result, Ok, Err, IfOk, Vec, Global, List, [], ◌∷◌, ◌++◌, length, refl, sym, subst, ◌∙◌, ap, arith}
use Rattle.std.proofs.lemmas.List.{append_assoc, append-nil, length-append}
use Rattle.t1_tree.specs.Trees.{trees_joined, AreBelow, AreFilled}
use Rattle.t1_tree.proofs.HeightLaws.{below_append, filled_append, parts_some}
use Rattle.t1_tree.proofs.TreeLaws.{joined_append}

-- one that waits
pub taken_first : {X : Type 0} (some rest after more : List X) (x : X) → rest ≡ x ∷ after → more ≡ some ++ x ∷ [] → more ++ after ≡ some ++ rest
taken_first some rest after more x first made = ap (λ l. l ++ after) made ∙ append_assoc some (x ∷ []) after ∙ ap (λ l. some ++ l) (sym first)

module _ {T : Type 0} where
  -- leaves, and elements that wait to be put into others, are all elements
  abbrev pub IsLeaves : List T → List (List T × ℕ) → List T → Type 0
  IsLeaves all leaves waiting = (trees_joined leaves ++ waiting ≡ all) × AreFilled leaves × AreBelow 1 leaves

  -- trees of a level, and lower trees that wait to be put below others, have all elements; the level has fewer trees
  abbrev pub IsLevel : List (List T × ℕ) → ℕ → List (List T × ℕ) → List (List T × ℕ) → Type 0
  IsLevel all height level waiting =
      (trees_joined level ++ trees_joined waiting ≡ trees_joined all)
      × AreFilled level
      × AreBelow (height + 1) level
      × AreFilled waiting
      × AreBelow height waiting
      × (length level * 2 + length waiting ≤ length all)

  -- a leaf more, of what waited in front
  pub leaf_made : (all : List T) (leaves new : List (List T × ℕ)) (leaf rest : List T) → IsLeaves all leaves (leaf ++ rest) → 0 < length leaf → new ≡ leaves ++ (leaf, 0) ∷ [] → IsLeaves all new rest
  leaf_made all leaves new leaf rest are some made =
      let joined : trees_joined new ≡ trees_joined leaves ++ leaf = ap trees_joined made ∙ joined_append leaves ((leaf, 0) ∷ []) ∙ ap (λ l. trees_joined leaves ++ l) (append-nil leaf) in (
        ap (λ l. l ++ rest) joined ∙ append_assoc (trees_joined leaves) leaf rest ∙ are.0,
        subst AreFilled (sym made) (filled_append leaves ((leaf, 0) ∷ []) are.1 (some, tt)),
        subst (AreBelow 1) (sym made) (below_append 1 leaves ((leaf, 0) ∷ []) are.2 (omega arith, tt)),
      )

  -- all elements in leaves
  abbrev pub AreWhole : List T → List (List T × ℕ) → Type 0
  AreWhole all new = (trees_joined new ≡ all) × AreFilled new × AreBelow 1 new

  leaves_none : (all : List T) (leaves new : List (List T × ℕ)) → IsLeaves all leaves [] → new ≡ leaves → AreWhole all new
  leaves_none all leaves new are made = (
    ap trees_joined made ∙ sym (append-nil (trees_joined leaves)) ∙ are.0,
    subst AreFilled (sym made) are.1,
    subst (AreBelow 1) (sym made) are.2,
  )

  leaves_some : (all : List T) (leaves new : List (List T × ℕ)) (leaf : List T) → IsLeaves all leaves leaf → 0 < length leaf → new ≡ leaves ++ (leaf, 0) ∷ [] → AreWhole all new
  leaves_some all leaves new leaf are some made =
      leaves_none all new new (leaf_made all leaves new leaf [] (subst (IsLeaves all leaves) (sym (append-nil leaf)) are) some made) refl

  -- what is left over stands in a last leaf, where there is any
  pub leaves_ended : {E : Type 0} (r : Result (Vec (List T × ℕ) Global) E) (all : List T) (leaves : List (List T × ℕ)) (leaf rest : List T) → IsLeaves all leaves (leaf ++ rest) → rest ≡ []
      → (length leaf ≡ 0 → IfOk r (λ new. new.items ≡ leaves)) → (0 < length leaf → IfOk r (λ new. new.items ≡ leaves ++ (leaf, 0) ∷ [])) → IfOk r (λ new. AreWhole all new.items)
  leaves_ended (Err e) all leaves leaf rest are end none some = tt
  leaves_ended (Ok new) all leaves [] rest are end none some = leaves_none all leaves new.items (subst (IsLeaves all leaves) end are) (none refl)
  leaves_ended (Ok new) all leaves (x ∷ leaf) rest are end none some =
      leaves_some all leaves new.items (x ∷ leaf) (subst (IsLeaves all leaves) (ap (λ l. (x ∷ leaf) ++ l) end ∙ append-nil (x ∷ leaf)) are) (omega arith) (some (omega arith))

  filled_front : (ts us : List (List T × ℕ)) → AreFilled (ts ++ us) → AreFilled ts
  filled_front [] us filled = tt
  filled_front (t ∷ ts) us filled = (filled.0, filled_front ts us filled.1)

  filled_back : (ts us : List (List T × ℕ)) → AreFilled (ts ++ us) → AreFilled us
  filled_back [] us filled = filled
  filled_back (t ∷ ts) us filled = filled_back ts us filled.1

  below_front : (height : ℕ) (ts us : List (List T × ℕ)) → AreBelow height (ts ++ us) → AreBelow height ts
  below_front height [] us below = tt
  below_front height (t ∷ ts) us below = (below.0, below_front height ts us below.1)

  below_back : (height : ℕ) (ts us : List (List T × ℕ)) → AreBelow height (ts ++ us) → AreBelow height us
  below_back height [] us below = below
  below_back height (t ∷ ts) us below = below_back height ts us below.1

  -- what waits in front can be a node
  pub waits_below : (all : List (List T × ℕ)) (height : ℕ) (level below rest : List (List T × ℕ)) → IsLevel all height level (below ++ rest) → AreFilled below × AreBelow height below
  waits_below all height level below rest is = (filled_front below rest is.3, below_front height below rest is.4)

  -- a tree more, above what waited in front
  pub level_made : (all : List (List T × ℕ)) (height : ℕ) (level new below rest : List (List T × ℕ)) → IsLevel all height level (below ++ rest) → 1 < length below → new ≡ level ++ (trees_joined below, height) ∷ [] → IsLevel all height new rest
  level_made all height level new below rest is many made =
      let some = parts_some below (omega (arith, many), filled_front below rest is.3) in
      let joined : trees_joined new ≡ trees_joined level ++ trees_joined below = ap trees_joined made ∙ joined_append level ((trees_joined below, height) ∷ []) ∙ ap (λ l. trees_joined level ++ l) (append-nil (trees_joined below)) in
      let size = ap length made in
      let one = length-append level ((trees_joined below, height) ∷ []) in
      let wait = length-append below rest in (
        ap (λ l. l ++ trees_joined rest) joined ∙ append_assoc (trees_joined level) (trees_joined below) (trees_joined rest) ∙ ap (λ l. trees_joined level ++ l) (sym (joined_append below rest)) ∙ is.0,
        subst AreFilled (sym made) (filled_append level ((trees_joined below, height) ∷ []) is.1 (some, tt)),
        subst (AreBelow (height + 1)) (sym made) (below_append (height + 1) level ((trees_joined below, height) ∷ []) is.2 (omega arith, tt)),
        filled_back below rest is.3,
        below_back height below rest is.4,
        omega (arith, size, one, wait, many, is.5),
      )

  -- a whole level
  abbrev pub IsWhole : List (List T × ℕ) → ℕ → List (List T × ℕ) → Type 0
  IsWhole all height new = (trees_joined new ≡ trees_joined all) × AreFilled new × AreBelow (height + 1) new × (length new < length all)

  level_none : (all : List (List T × ℕ)) (height : ℕ) (level new : List (List T × ℕ)) → IsLevel all height level [] → 1 < length all → new ≡ level → IsWhole all height new
  level_none all height level new is many made =
      let size = ap length made in (
        ap trees_joined made ∙ sym (append-nil (trees_joined level)) ∙ is.0,
        subst AreFilled (sym made) is.1,
        subst (AreBelow (height + 1)) (sym made) is.2,
        omega (arith, size, is.5, many),
      )

  level_some : (all : List (List T × ℕ)) (height : ℕ) (level new below : List (List T × ℕ)) → IsLevel all height level below → 1 < length all → 0 < length below → new ≡ level ++ (trees_joined below, height) ∷ [] → IsWhole all height new
  level_some all height level new below is many any made =
      let some = parts_some below (any, is.3) in
      let size = ap length made in
      let one = length-append level ((trees_joined below, height) ∷ []) in (
        ap trees_joined made ∙ joined_append level ((trees_joined below, height) ∷ []) ∙ ap (λ l. trees_joined level ++ l) (append-nil (trees_joined below)) ∙ is.0,
        subst AreFilled (sym made) (filled_append level ((trees_joined below, height) ∷ []) is.1 (some, tt)),
        subst (AreBelow (height + 1)) (sym made) (below_append (height + 1) level ((trees_joined below, height) ∷ []) is.2 (omega arith, tt)),
        omega (arith, size, one, any, many, is.5),
      )

  -- what is left over stands below a last tree, where there is any
  pub level_ended : {E : Type 0} (r : Result (Vec (List T × ℕ) Global) E) (all : List (List T × ℕ)) (height : ℕ) (level below rest : List (List T × ℕ)) → IsLevel all height level (below ++ rest) → rest ≡ [] → 1 < length all
      → (length below ≡ 0 → IfOk r (λ new. new.items ≡ level)) → (0 < length below → IfOk r (λ new. new.items ≡ level ++ (trees_joined below, height) ∷ [])) → IfOk r (λ new. IsWhole all height new.items)
  level_ended (Err e) all height level below rest is end many none some = tt
  level_ended (Ok new) all height level [] rest is end many none some = level_none all height level new.items (subst (λ w. IsLevel all height level w) end is) many (none refl)
  level_ended (Ok new) all height level (t ∷ below) rest is end many none some =
      level_some all height level new.items (t ∷ below) (subst (λ w. IsLevel all height level w) (ap (λ l. (t ∷ below) ++ l) end ∙ append-nil (t ∷ below)) is) many (omega arith) (some (omega arith))
