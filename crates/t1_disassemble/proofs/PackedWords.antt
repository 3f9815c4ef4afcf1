-- The words of a charstring, printed by themselves and behind a text.
use Rattle.std.proofs.Common.{◌≡◌, ℕ, false, List, [], ◌++◌, Result, Ok, Err, refl, ap, subst}
use Rattle.std.specs.Result.{MatchResult}
use Rattle.t1_disassemble.specs.declared.fault.FontCode.{FontCode}
use Rattle.t1_disassemble.specs.declared.fault.FontFault.{FontFault}
use Rattle.t1_disassemble.specs.declared.fault.FontPlace.TheVariants.{Nowhere}
use Rattle.t1_disassemble.specs.declared.fault.FontRefusal.{FontRefusal}
use Rattle.t1_disassemble.specs.declared.fault.FontRefusal.TheVariants as refusals
use Rattle.t1_disassemble.specs.Outcome.{RefusesFont, font_reported_at}
use Rattle.t1_disassemble.specs.SoundWords.{code_lines}
use Rattle.t1_disassemble.specs.Words.{words_of, printed_words}
use Rattle.t1_disassemble.specs.WordsOnto.{words_onto}
use Rattle.t1_disassemble.proofs.SoundWordLaws.{sound_all}

abbrev alone : Result (List (List ℕ)) FontCode → Result (List ℕ) FontFault
alone words = font_reported_at Nowhere (words_onto [] false words)

abbrev onto : List ℕ → Result (List (List ℕ)) FontCode → Result (List ℕ) FontFault
onto text words = font_reported_at Nowhere (words_onto text false words)

abbrev Behind : List ℕ → Result (List (List ℕ)) FontCode → Result (List ℕ) FontFault → Type 0
Behind text words lone = MatchResult lone (λ l. onto text words ≡ Ok (text ++ l)) (λ fault. onto text words ≡ Err fault)

behind : (text : List ℕ) (words : Result (List (List ℕ)) FontCode) → Behind text words (alone words)
behind text (Ok ws) = refl
behind text (Err code) = refl

-- words by themselves, and behind a text
pub words_behind : (text : List ℕ) (words : Result (List (List ℕ)) FontCode) (l : List ℕ) → font_reported_at Nowhere (words_onto [] false words) ≡ Ok l → font_reported_at Nowhere (words_onto text false words) ≡ Ok (text ++ l)
words_behind text words l h = subst (Behind text words) h (behind text words)

fault_behind : (text : List ℕ) (words : Result (List (List ℕ)) FontCode) (fault : FontFault) → alone words ≡ Err fault → onto text words ≡ Err fault
fault_behind text words fault h = subst (Behind text words) h (behind text words)

-- so is a refusal
pub refused_words : (text : List ℕ) (words : Result (List (List ℕ)) FontCode) (refused : FontRefusal) → RefusesFont refused (font_reported_at Nowhere (words_onto [] false words)) → RefusesFont refused (font_reported_at Nowhere (words_onto text false words))
refused_words text words refusals.Memory h = tt
refused_words text words (refusals.Fault fault) h = fault_behind text words fault h

-- where all bytes are words, their lines are those of the words
abbrev Lined : List ℕ → Result (List ℕ) FontFault → Type 0
Lined code lone = MatchResult lone (λ l. code_lines code ≡ l) (λ fault. Unit {0})

lined : (code : List ℕ) (words : Result (List (List ℕ)) FontCode) → words_of code ≡ words → Lined code (alone words)
lined code (Ok ws) e = ap (printed_words false) (sound_all code ws e)
lined code (Err code_of) e = tt

pub lines_are : (code l : List ℕ) → font_reported_at Nowhere (words_onto [] false (words_of code)) ≡ Ok l → code_lines code ≡ l
lines_are code l h = subst (Lined code) h (lined code (words_of code) refl)
