-- Words that are known by the byte that they begin with.
use Rattle.std.specs.Prelude.{◌≡◌, ◌+◌, ℕ, Bool, if◌then◌else◌, List, [], ◌∷◌, ◌++◌, take, Ok}
use Rattle.t1_frac.specs.Ascii.{space, tab}
use Rattle.t1_disassemble.specs.WordsOnto.{put_first}

-- word, printing: a byte, the word that it is by itself, with the end of its line where it isn't a number word, and whether it is one
pub record KnownText : Type 0 where
  pub first : ℕ
  pub text : List ℕ
  pub is_number : Bool

-- word, printing: all bytes that begin with this one begin with this word
abbrev pub IsKnown : KnownText → Type 0
IsKnown known =
    (text rest : List ℕ) (is_open : Bool)
    → put_first text is_open known.first rest ≡ Ok (text ++ (if is_open then space else tab) ∷ known.text, known.is_number, rest)

-- word, printing: the blank before the next word stands after so many bytes
abbrev pub HasBlank : ℕ → Bool → List ℕ → Type 0
HasBlank len is_open bytes = take (len + 1) bytes ≡ take len bytes ++ (if is_open then space else tab) ∷ []
