-- Several files, checked in turn.
use Rattle.std.proofs.Common.{◌≡◌, ℕ, max, List, [], ◌∷◌, ◌++◌, refl, subst, Option, Result, arith}
use Rattle.std.specs.Borrow.{Bor}
use Rattle.t1_code.specs.Counted.{Tally}
use Rattle.t1edit.specs.Several.{AreAnswers, AreWritten, ChecksAll, answer_lines, lines_of_answers, status_of_answer, worst_status}
use Rattle.t1edit.specs.declared.file_error.FileError.{FileError}

-- lines, and then others
pub are_written : {W : Type 0} (contents : W → Option (List ℕ)) (a b c : Tally W) (lines others : List (List ℕ)) → AreWritten contents a b lines → AreWritten contents b c others → AreWritten contents a c (lines ++ others)
are_written contents a b c [] others same h = subst (λ from. AreWritten contents from c others) same h
are_written contents a b c (line ∷ lines) others w h = (w.0, w.1, are_written contents w.0 b c lines others w.2 h)

-- the answers so far, for whatever those of the files that are left are
abbrev pub Left : {W : Type 0} → (List ℕ → Result (Unit {0}) FileError → Type 0) → (W → Option (List ℕ)) → List (Bor (List ℕ)) → List (Bor (List ℕ)) → Tally W → Tally W → ℕ → Type 0
Left becomes contents paths rest start now worst =
    (answers : List (Result (Unit {0}) FileError)) → AreAnswers becomes rest answers → (end : Tally _) → AreWritten contents now end (lines_of_answers rest answers)
    → ChecksAll becomes contents paths start end (max worst (worst_status answers))

module _ {W : Type 0} (becomes : List ℕ → Result (Unit {0}) FileError → Type 0) (contents : W → Option (List ℕ)) (paths : List (Bor (List ℕ))) where
  pub left_all : (start : Tally W) → Left becomes contents paths paths start start 0
  left_all start = λ answers each end lines. record {
    answers = answers;
    each = each;
    lines = lines;
    worst = omega arith;
  }

  -- one more file, of which it is told
  pub left_after : (start now next : Tally W) (worst : ℕ) (path : Bor (List ℕ)) (rest : List (Bor (List ℕ))) (answer : Result (Unit {0}) FileError)
      → Left becomes contents paths (path ∷ rest) start now worst → becomes path.now answer → AreWritten contents now next (answer_lines path.now answer)
      → Left becomes contents paths rest start next (max (status_of_answer answer) worst)
  left_after start now next worst path rest answer left is told = λ answers each end lines.
      let same : max worst (max (status_of_answer answer) (worst_status answers)) ≡ max (max (status_of_answer answer) worst) (worst_status answers) = omega arith in
      subst (ChecksAll becomes contents paths start end) same
      (left (answer ∷ answers) (is, each) end (are_written contents now next end (answer_lines path.now answer) (lines_of_answers rest answers) told lines))

  -- no file is left
  pub left_none : (start now : Tally W) (worst : ℕ) → Left becomes contents paths [] start now worst → ChecksAll becomes contents paths start now worst
  left_none start now worst left =
      let same : max worst 0 ≡ worst = omega arith in
      subst (ChecksAll becomes contents paths start now) same (left [] tt now refl)
