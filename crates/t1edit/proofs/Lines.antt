-- Lines on standard error.
use Rattle.std.proofs.Common.{◌≡◌, ◌∙◌, ◌++◌, ℕ, List, inl, inr, refl, sym, ap, subst, codes, append_assoc}
use Rattle.std.specs.Prelude.{Option, Result, Ok, Err}
use Rattle.t1_code.specs.Counted.{Tally, WritesAll, WritesFront}
use Rattle.t1_code.specs.Writing.{Writes}
use Rattle.t1_code.proofs.Writing.{WritesAll-append, WritesFront-append, WritesFront-longer}
use Rattle.t1edit.specs.FileErrors.{file_error_text}
use Rattle.t1edit.specs.Several.{AreWritten, answer_lines, front_of}
use Rattle.t1edit.specs.Status.{IsWritten, line_with}
use Rattle.t1edit.specs.declared.file_error.FileError.{FileError}

-- a line that a call wrote went out, or a beginning of it
pub is_written : {W T E : Type 0} (contents : W → Option (List ℕ)) (old new : Tally W) (line : List ℕ) (r : Result T E) → Writes contents old new line r → IsWritten contents old new line
is_written contents old new line (Ok done) h = inl h
is_written contents old new line (Err e) h = inr h

-- a line that begins with a file's name, in two parts
in_two : (path text : List ℕ) → path ++ line_with (codes ": ") text ≡ line_with (front_of path) text
in_two path text =
    sym (append_assoc path (codes ": " ++ text) (codes "\n")) ∙ ap (λ l. l ++ codes "\n") (sym (append_assoc path (codes ": ") text))

module _ {W : Type 0} (contents : W → Option (List ℕ)) where
  -- the name of a file isn't written whole
  pub name_fails : (old new : Tally W) (path text : List ℕ) → WritesFront contents old new path → WritesFront contents old new (line_with (front_of path) text)
  name_fails old new path text h =
      subst (WritesFront contents old new) (in_two path text) (WritesFront-longer contents old new path (line_with (codes ": ") text) h)

  -- the name of a file is written, and then the rest of its line
  pub after_name : {T E : Type 0} (old between new : Tally W) (path text : List ℕ) (r : Result T E) → WritesAll contents old between path → Writes contents between new (line_with (codes ": ") text) r
      → Writes contents old new (line_with (front_of path) text) r
  after_name old between new path text (Ok done) name rest =
      subst (WritesAll contents old new) (in_two path text) (WritesAll-append contents old between new path (line_with (codes ": ") text) name rest)
  after_name old between new path text (Err e) name rest =
      subst (WritesFront contents old new) (in_two path text) (WritesFront-append contents old between new path (line_with (codes ": ") text) name rest)

  -- the line of a file that is refused is the one that tells of it
  pub refused_line : {T E : Type 0} (old new : Tally W) (path : List ℕ) (answer : Result (Unit {0}) FileError) (error : FileError) (r : Result T E) → answer ≡ Err error
      → Writes contents old new (line_with (front_of path) (file_error_text error)) r → AreWritten contents old new (answer_lines path answer)
  refused_line old new path (Ok done) error r same h = absurd (cc)
  refused_line old new path (Err e) error r same h = let equal : e ≡ error = cc in rw equal (new, is_written contents old new _ r h, refl)
