-- Parts of the texts of answers, as the code writes them.
use Rattle.std.specs.Prelude.{ℕ, List, [], ◌∷◌, ◌++◌, Result, Ok, codes, decimal}
use Rattle.t1_frac.specs.Ascii.{line_feed}
use Rattle.t1_frac.specs.declared.fault.Fault.{Fault}
use Rattle.t1_frac.specs.Outcome.{◌>>=◌}
use Rattle.t1_frac.specs.declared.fault.Place.{Place}
use Rattle.t1_frac.specs.declared.fault.Place.TheVariants.{Nowhere, Line, Subr, Glyph}
use Rattle.t1_commands.specs.AnswerTexts.{data_text}

-- word, answers: the number that stands in a place
abbrev pub place_number : Place → ℕ
place_number Nowhere = 0
place_number (Line n) = n
place_number (Subr n) = n
place_number (Glyph name) = 0

-- word, answers: the line that says how many bytes follow
abbrev pub data_head : ℕ → List ℕ
data_head len = codes "data " ++ decimal len ++ line_feed ∷ []

-- word, answers: a file as data
abbrev pub data_of : Result (List ℕ) Fault → Result (List ℕ) Fault
data_of file = file >>= λ bytes. Ok (data_text bytes)
