-- What commands are answered.
use Rattle.std.specs.Prelude.{ℕ, List, [], ◌∷◌, ◌++◌, codes, decimal, length}
use Rattle.t1_frac.specs.Ascii.{line_feed}
use Rattle.t1_frac.specs.declared.fault.Code.{Code}
use Rattle.t1_frac.specs.declared.fault.Code.TheVariants.{F1, F2, F3, F4, F5, F6, F7, F8, F9, F10, F11, F12, F13, F20, F21, F22, F23, F30, F31, F32, F33, F34, F35, F36, F37, F38, F39, F40, F41, F42, F43, F44, F45, F46, F47, F48}
use Rattle.t1_frac.specs.declared.fault.Fault.{Fault}
use Rattle.t1_frac.specs.declared.fault.Place.{Place}
use Rattle.t1_frac.specs.declared.fault.Place.TheVariants.{Nowhere, Line, Subr, Glyph}
use Rattle.t1_source.specs.declared.edit.Rule.{Rule}
use Rattle.t1_source.specs.declared.edit.Rule.TheVariants.{E1, E2, E3, E4, E5, E6, E7, E8, E9, E10, E11, E12}
use Rattle.t1_commands.specs.declared.answer.Answer.{Answer}
use Rattle.t1_commands.specs.declared.answer.Answer.TheVariants.{Accepted, Broken, Faulty, OutOfMemory, Data}

-- profile, answers: the code of an edit rule
abbrev pub rule_name : Rule → List ℕ
rule_name E1 = codes "E1"
rule_name E2 = codes "E2"
rule_name E3 = codes "E3"
rule_name E4 = codes "E4"
rule_name E5 = codes "E5"
rule_name E6 = codes "E6"
rule_name E7 = codes "E7"
rule_name E8 = codes "E8"
rule_name E9 = codes "E9"
rule_name E10 = codes "E10"
rule_name E11 = codes "E11"
rule_name E12 = codes "E12"

-- profile, answers: the code of a fault
abbrev pub code_name : Code → List ℕ
code_name F1 = codes "F1"
code_name F2 = codes "F2"
code_name F3 = codes "F3"
code_name F4 = codes "F4"
code_name F5 = codes "F5"
code_name F6 = codes "F6"
code_name F7 = codes "F7"
code_name F8 = codes "F8"
code_name F9 = codes "F9"
code_name F10 = codes "F10"
code_name F11 = codes "F11"
code_name F12 = codes "F12"
code_name F13 = codes "F13"
code_name F20 = codes "F20"
code_name F21 = codes "F21"
code_name F22 = codes "F22"
code_name F23 = codes "F23"
code_name F30 = codes "F30"
code_name F31 = codes "F31"
code_name F32 = codes "F32"
code_name F33 = codes "F33"
code_name F34 = codes "F34"
code_name F35 = codes "F35"
code_name F36 = codes "F36"
code_name F37 = codes "F37"
code_name F38 = codes "F38"
code_name F39 = codes "F39"
code_name F40 = codes "F40"
code_name F41 = codes "F41"
code_name F42 = codes "F42"
code_name F43 = codes "F43"
code_name F44 = codes "F44"
code_name F45 = codes "F45"
code_name F46 = codes "F46"
code_name F47 = codes "F47"
code_name F48 = codes "F48"

-- profile, answers: where a fault stands, after its code
abbrev pub place_text : Place → List ℕ
place_text Nowhere = []
place_text (Line n) = codes " line " ++ decimal n
place_text (Subr n) = codes " subr " ++ decimal n
place_text (Glyph name) = codes " glyph " ++ name

-- profile, answers: a fault by its code and place
unfoldable pub fault_text : Fault → List ℕ
fault_text fault = code_name fault.code ++ place_text fault.place

-- profile, answers: what a print or a query shows, after its length
abbrev pub data_text : List ℕ → List ℕ
data_text bytes = codes "data " ++ decimal (length bytes) ++ line_feed ∷ bytes ++ line_feed ∷ []

-- profile, answers: the bytes of an answer
unfoldable pub answer_text : Answer → List ℕ
answer_text Accepted = codes "ok" ++ line_feed ∷ []
answer_text (Broken rule) = codes "refused " ++ rule_name rule ++ line_feed ∷ []
answer_text (Faulty fault) = codes "refused " ++ fault_text fault ++ line_feed ∷ []
answer_text OutOfMemory = codes "refused memory" ++ line_feed ∷ []
answer_text (Data bytes) = data_text bytes
