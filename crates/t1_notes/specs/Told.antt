-- What is told of the elements of a list by those before them.
use Rattle.std.specs.Prelude.{List, [], ◌∷◌, ◌++◌}

-- profile, notes: what is told of each element by those before it, the nearest first
abbrev pub told : {X Y : Type 0} → (List X → X → List Y) → List X → List X → List Y
told tell before [] = []
told tell before (x ∷ xs) = tell before x ++ told tell (x ∷ before) xs
