-- Elements that stand in a tree.
use Rattle.std.specs.Prelude.{◌≡◌, ℕ, ◌<◌, Option, Some, None, List, [], ◌∷◌, map, length, ◌++◌}
use Rattle.t1_tree.specs.Joins.{joined}
use Rattle.t1_tree.specs.declared.node.Node.{Node}
use Rattle.t1_tree.specs.declared.node.Node.TheVariants.{Leaf, Inner}

module _ {T : Type 0} where
  -- profile: the elements of each of some trees, which are seen as their elements and their heights
  abbrev pub lists_of : List (List T × ℕ) → List (List T)
  lists_of trees = map (λ tree. tree.0) trees

  -- profile: the elements of some trees
  abbrev pub trees_joined : List (List T × ℕ) → List T
  trees_joined trees = joined (lists_of trees)

  -- profile: the elements of a list's root, which an empty list doesn't have
  abbrev pub root_elements : Option (List T × ℕ) → List T
  root_elements None = []
  root_elements (Some tree) = tree.0

  -- word: each of some trees is lower than this
  abbrev pub AreBelow : ℕ → List (List T × ℕ) → Type 0
  AreBelow height [] = Unit {0}
  AreBelow height (tree ∷ trees) = (tree.1 < height) × AreBelow height trees

  -- word: each of some trees has elements
  abbrev pub AreFilled : List (List T × ℕ) → Type 0
  AreFilled [] = Unit {0}
  AreFilled (tree ∷ trees) = (0 < length tree.0) × AreFilled trees

  -- word: there are some trees, and each has elements
  abbrev pub AreParts : List (List T × ℕ) → Type 0
  AreParts trees = (0 < length trees) × AreFilled trees

  -- word: whatever is above some trees is above others, and these are parts of a tree where those are
  abbrev pub AreNoHigher : List (List T × ℕ) → List (List T × ℕ) → Type 0
  AreNoHigher trees others = ((height : ℕ) → AreBelow height trees → AreBelow height others) × (AreParts trees → AreParts others)

module _ {T S : Type 0} where
  -- profile: the elements of a node
  abbrev pub elements : Node T S → List T
  elements (Leaf items) = items.items
  elements (Inner trees) = trees_joined trees.items

  -- word: a node isn't empty, and no tree below it is
  abbrev pub HasParts : Node T S → Type 0
  HasParts (Leaf items) = 0 < length items.items
  HasParts (Inner trees) = AreParts trees.items

  -- word: nor is any as high as this
  abbrev pub HasHeight : ℕ → Node T S → Type 0
  HasHeight height (Leaf items) = 0 < length items.items
  HasHeight height (Inner trees) = AreParts trees.items × AreBelow height trees.items

  -- word: whatever is above a node is above another
  abbrev pub IsNoHigher : Node T S → Node T S → Type 0
  IsNoHigher node other = (height : ℕ) → HasHeight height node → HasHeight height other

  -- word: the elements of a node are those of another, which is no higher
  abbrev pub IsLike : Node T S → Node T S → Type 0
  IsLike node other = (elements other ≡ elements node) × IsNoHigher node other

  -- word: two nodes have the elements of another, and are no higher
  abbrev pub AreHalves : Node T S → Node T S → Node T S → Type 0
  AreHalves node front back = (elements front ++ elements back ≡ elements node) × IsNoHigher node front × IsNoHigher node back

  -- word: a node has the elements of two others, and whatever is above both is above it
  abbrev pub IsBoth : Node T S → Node T S → Node T S → Type 0
  IsBoth front back both =
      (elements both ≡ elements front ++ elements back)
      × ((height : ℕ) → HasHeight height front → HasHeight height back → HasHeight height both)
