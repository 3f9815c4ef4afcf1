-- A kerning file has the word of its fault at the line and column that are told.
use Rattle.std.proofs.Common.{◌≡◌, ℕ, ◌+◌, ◌≤◌, List, [], ◌∷◌, ◌++◌, length, Ok, Err, subst, arith}
use Rattle.t1_frac.specs.Outcome.{reported_at, ◌>>=◌}
use Rattle.t1_frac.specs.Words.{words}
use Rattle.t1_frac.specs.declared.fault.Fault.{Fault}
use Rattle.t1_frac.specs.declared.fault.Place.TheVariants.{Line}
use Rattle.t1_text.specs.Lines.{lines}
use Rattle.t1_pairs.specs.Kerning.{line_pairs, pairs, pairs_from, put_all_pairs}
use Rattle.t1_pairs.specs.declared.pairs.Pair.{Pair}
use Rattle.t1_faults.specs.Reading.{reading_fault}
use Rattle.t1_faults.specs.Telling.{TellsWord}
use Rattle.t1_faults.proofs.LineLaws.{FaultsIn, line_in, placed_tells, then_in}

lines_in : (low high n : ℕ) (ls : List (List ℕ)) → low ≤ n → n + length ls ≤ high → FaultsIn low high (pairs_from n ls)
lines_in low high n [] below above = tt
lines_in low high n (l ∷ ls) below above =
    then_in {B = List Pair} low high (reported_at (Line n) (line_pairs (words l))) (λ ps. pairs_from (n + 1) ls >>= λ more. Ok (ps ++ more)) (line_in low high n below (omega (arith, above)) (line_pairs (words l)))
    (λ ps. λ e. then_in {B = List Pair} low high (pairs_from (n + 1) ls) (λ more. Ok (ps ++ more)) (lines_in low high (n + 1) ls (omega (arith, below)) (omega (arith, above))) (λ more. λ f. tt))

-- a fault of reading pairs is on one of their lines
pairs_in : (bytes : List ℕ) → FaultsIn 1 (1 + length (lines bytes)) (pairs bytes)
unfolding pairs
pairs_in bytes =
    then_in {B = List Pair} 1 (1 + length (lines bytes)) (pairs_from 1 (lines bytes)) (λ ps. Ok (put_all_pairs [] ps))
    (lines_in 1 (1 + length (lines bytes)) 1 (lines bytes) (omega arith) (omega arith)) (λ ps. λ e. tt)

pub words_there : (bytes : List ℕ) (fault : Fault) → pairs bytes ≡ Err fault → TellsWord (lines bytes) (reading_fault (lines bytes) fault)
words_there bytes fault e = placed_tells (lines bytes) fault.code fault.place (subst (FaultsIn 1 (1 + length (lines bytes))) e (pairs_in bytes))
