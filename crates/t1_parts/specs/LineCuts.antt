-- Lines that are cut at one that passes a test, and bytes that are cut off before a line.
use Rattle.std.specs.Prelude.{◌≡◌, ℕ, Bool, true, false, ◌+◌, ◌-◌, ◌≤◌, List, ◌∷◌, ◌++◌, length, take}
use Rattle.std.specs.List.{list_any}
use Rattle.t1_text.specs.Lines.{lines, before_rest}

-- word, parts: lines cut at the first one that passes a test: those before it, the line, and those after it
abbrev pub IsCut : (List ℕ → Bool) → List (List ℕ) → List (List ℕ) → List ℕ → List (List ℕ) → Type 0
IsCut test ls before line after = (ls ≡ before ++ line ∷ after) × (list_any test before ≡ false) × (test line ≡ true)

-- word, parts: the lines of more of the bytes are those before the rest, and those of the rest's front
abbrev pub AreCutAfter : List ℕ → List ℕ → Type 0
AreCutAfter bytes rest = (j : ℕ) → lines (take (length bytes - length rest + j) bytes) ≡ lines (before_rest bytes rest) ++ lines (take j rest)

-- word, parts: the rest of some bytes, cut off before a line, where no line before it passes a test
abbrev pub NoneGone : (List ℕ → Bool) → List ℕ → List ℕ → Type 0
NoneGone test bytes rest = (length rest ≤ length bytes) × AreCutAfter bytes rest × (list_any test (lines (before_rest bytes rest)) ≡ false)
