-- What is said of a fault beside its title and its word.
use Rattle.std.specs.Prelude.{ℕ, ◌==◌, if◌then◌else◌, Option, None, Some, List, [], ◌++◌, codes, decimal}
use Rattle.std.specs.Fmt.{signed_decimal}
use Rattle.t1_frac.specs.Fraction.{Fraction}
use Rattle.t1_frac.specs.declared.fault.Code.{Code}
use Rattle.t1_frac.specs.declared.fault.Code.TheVariants.{F20, F32, F42, F44}
use Rattle.t1_chain.specs.declared.failure.Detail.{Detail}
use Rattle.t1_chain.specs.declared.failure.Detail.TheVariants as details
use Rattle.t1_faults.specs.Hints.{hint_of}
use Rattle.t1_faults.specs.declared.found.FoundFault.{FoundFault}

-- profile, faults: so many of a kind: `1 value`, `2 values`
abbrev pub count_text : ℕ → List ℕ → List ℕ
count_text n kind = decimal n ++ (kind ++ (if n == 1 then [] else codes "s"))

-- profile, faults: a value: a whole number, or a numerator and a denominator
abbrev pub value_text : Fraction → List ℕ
value_text value = signed_decimal value.num ++ (if value.den == 1 then [] else codes "/" ++ decimal value.den)

-- profile, faults: how many values there are, and how many are wanted
abbrev pub wanted_text : ℕ → ℕ → List ℕ
wanted_text there wanted = count_text there (codes " value") ++ (codes ", " ++ (decimal wanted ++ codes " wanted"))

-- profile, faults: how many points a flex has recorded
abbrev pub points_text : ℕ → List ℕ
points_text n = count_text n (codes " point") ++ codes " recorded"

-- profile, faults: what the value is that has a fault
abbrev pub value_front : Code → List ℕ
value_front F32 = codes "no Subr "
value_front F42 = codes "othersubr "
value_front F44 = codes "code "
value_front code = []

-- profile, faults: what the detail of a fault says
abbrev pub detail_text : Code → Detail → List ℕ
detail_text code details.Nothing = []
detail_text code (details.Number value) = value_front code ++ value_text value
detail_text code (details.Quotient num den) = value_text (record { num = num; den = den })
detail_text code (details.Glyph name) = codes "no glyph " ++ name
detail_text code (details.Values there wanted) = wanted_text there wanted
detail_text code (details.Points n) = points_text n
detail_text code (details.Line n) = codes "first on line " ++ decimal n

-- profile, faults: the command that a word most likely means, as a question
abbrev pub question : Option (List ℕ) → List ℕ
question None = []
question (Some command) = command ++ codes "?"

-- profile, faults: what the word of a fault most likely means, where it has one
abbrev pub likely_meaning : Option (List ℕ) → List ℕ
likely_meaning None = []
likely_meaning (Some word) = question (hint_of word)

-- profile, faults: the same, where the word is unknown
abbrev pub meant : Code → Option (List ℕ) → List ℕ
meant F20 word = likely_meaning word
meant code word = []

-- profile, faults: what is said of a fault beside its title and its word; nothing where there is nothing to say
abbrev pub hint : FoundFault → List ℕ
hint fault = meant fault.code fault.word ++ detail_text fault.code fault.detail
