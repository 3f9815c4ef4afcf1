-- Bytes as they are shown.
use Rattle.std.specs.Prelude.{ℕ, ◌||◌, ◌==◌, if◌then◌else◌, List, [], ◌∷◌, ◌++◌, codes, flat_map}
use Rattle.std.specs.Char.{is_ascii_graphic}
use Rattle.hex.specs.Hex.{encode_lower}
use Rattle.t1_frac.specs.Ascii.{space}

-- profile: a byte as it is shown: a space and what is printed as they are, any other byte by its value
abbrev pub shown_byte : ℕ → List ℕ
shown_byte c = if c == space || is_ascii_graphic c then c ∷ [] else codes "\\x" ++ encode_lower (c ∷ [])

-- profile: bytes as they are shown
abbrev pub shown : List ℕ → List ℕ
shown bytes = flat_map shown_byte bytes
