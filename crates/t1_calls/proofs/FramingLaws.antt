-- The texts of a call are the lines of one command, whatever input comes after.
use Rattle.std.proofs.Common.{◌≡◌, ℕ, Bool, true, false, not, ◌==◌, List, [], ◌∷◌, ◌++◌, length, refl, sym, ◌∙◌, ap, append_assoc}
use Rattle.std.specs.Prelude.{Some, None, codes}
use Rattle.std.specs.List.{list_all}
use Rattle.std.proofs.lemmas.Bool.{and_from, and_parts, not-true}
use Rattle.std.proofs.lemmas.List.{append-nil}
use Rattle.t1_frac.specs.Words.{words}
use Rattle.t1_text.specs.Lines.{is_line, joined, lines, unified}
use Rattle.t1_text.proofs.LineLaws.{not_ended}
use Rattle.t1_source.proofs.WellFormedSourceLaws.{lines_are_lines}
use Rattle.t1_commands.specs.Lines.{finished_lines}
use Rattle.t1_commands.specs.Commands.{alone, body_command, commands_of, ends_body, input_commands, takes_body}
use Rattle.t1_session.specs.Conversation.{is_unbroken}
use Rattle.t1_session.proofs.LineLaws.{finished_lines-line}
use Rattle.t1_calls.specs.Framing.{call_commands, framed, is_body, is_call}

-- what has no line end stays as it is where line ends become LF
line_unified : (l rest : List ℕ) → is_line l ≡ true → unified (l ++ 10 ∷ rest) ≡ l ++ 10 ∷ unified rest
line_unified [] rest h = refl
line_unified (c ∷ l) rest h =
    let parts = and_parts _ _ h in
    let off = not_ended c parts.0 in
    rw off.1 (ap (λ t. c ∷ t) (line_unified l rest parts.1))

-- nor has it an LF
unbroken : (l : List ℕ) → is_line l ≡ true → is_unbroken l ≡ true
unbroken [] h = refl
unbroken (c ∷ l) h =
    let parts = and_parts _ _ h in
    let off = not_ended c parts.0 in
    and_from (not (c == 10)) (is_unbroken l) (rw off.0 refl) (unbroken l parts.1)

-- a line and its LF before other bytes
line_before : (ended : Bool) (l rest : List ℕ) → is_line l ≡ true → finished_lines ended (unified (l ++ 10 ∷ rest)) ≡ l ∷ finished_lines ended (unified rest)
line_before ended l rest h = ap (finished_lines ended) (line_unified l rest h) ∙ finished_lines-line ended l (unified rest) (unbroken l h)

-- lines with their LF before other bytes
joined_before : (ended : Bool) (ls : List (List ℕ)) (rest : List ℕ) → list_all is_line ls ≡ true → finished_lines ended (unified (joined ls ++ rest)) ≡ ls ++ finished_lines ended (unified rest)
joined_before ended [] rest h = refl
joined_before ended (l ∷ ls) rest h =
    let parts = and_parts _ _ h in
    ap (λ t. finished_lines ended (unified t)) (append_assoc (l ++ 10 ∷ []) (joined ls) rest ∙ append_assoc l (10 ∷ []) (joined ls ++ rest))
    ∙ line_before ended l (joined ls ++ rest) parts.0 ∙ ap (λ t. l ∷ t) (joined_before ended ls rest parts.1)

-- a line more in front of others
line_onto : (body l others : List ℕ) → ((body ++ l) ++ 10 ∷ []) ++ others ≡ body ++ ((l ++ 10 ∷ []) ++ others)
line_onto body l others =
    append_assoc (body ++ l) (10 ∷ []) others ∙ append_assoc body l (10 ∷ others) ∙ ap (λ t. body ++ t) (sym (append_assoc l (10 ∷ []) others))

-- the lines of a body go into it
body_read : (ended : Bool) (heading body : List ℕ) (ls rest : List (List ℕ)) → list_all (λ l. not (ends_body l)) ls ≡ true
    → commands_of ended (Some (record { heading = heading; body = body })) (ls ++ rest)
    ≡ commands_of ended (Some (record { heading = heading; body = body ++ joined ls })) rest
body_read ended heading body [] rest h = ap (λ b. commands_of ended (Some (record { heading = heading; body = b })) rest) (sym (append-nil body))
body_read ended heading body (l ∷ ls) rest h =
    let parts = and_parts (not (ends_body l)) (list_all (λ k. not (ends_body k)) ls) h in
    rw (not-true (ends_body l) parts.0) (body_read ended heading ((body ++ l) ++ 10 ∷ []) ls rest parts.1
    ∙ ap (λ b. commands_of ended (Some (record { heading = heading; body = b })) rest) (line_onto body l (joined ls)))

-- a dot alone ends a body
dot_ends : ends_body (codes ".") ≡ true
unfolding ends_body
dot_ends = refl

-- a line, and a body that it takes
opened : (ended : Bool) (line : List ℕ) (ls more : List (List ℕ)) → takes_body (words line) ≡ true → list_all (λ l. not (ends_body l)) ls ≡ true
    → commands_of ended None (line ∷ (ls ++ codes "." ∷ more)) ≡ body_command (words line) (joined ls) ∷ commands_of ended None more
opened ended line ls more takes h = rw takes (body_read ended line [] ls (codes "." ∷ more) h ∙ (rw dot_ends refl))

-- what comes after a body's dot
regrouped : (line body rest : List ℕ) → (line ++ 10 ∷ (body ++ (codes "." ++ 10 ∷ []))) ++ rest ≡ line ++ 10 ∷ (body ++ (codes "." ++ 10 ∷ rest))
regrouped line body rest =
    append_assoc line (10 ∷ (body ++ (codes "." ++ 10 ∷ []))) rest ∙ ap (λ t. line ++ 10 ∷ t) (append_assoc body (codes "." ++ 10 ∷ []) rest)

body_spelled : (ended : Bool) (line body rest : List ℕ) → takes_body (words line) ≡ true → is_line line ≡ true → is_body body ≡ true
    → input_commands ended ((line ++ 10 ∷ (joined (lines body) ++ (codes "." ++ 10 ∷ []))) ++ rest) ≡ body_command (words line) (joined (lines body)) ∷ input_commands ended rest
body_spelled ended line body rest takes is h =
    ap (input_commands ended) (regrouped line (joined (lines body)) rest)
    ∙ ap (commands_of ended None) (line_before ended line (joined (lines body) ++ (codes "." ++ 10 ∷ rest)) is
    ∙ ap (λ t. line ∷ t) (joined_before ended (lines body) (codes "." ++ 10 ∷ rest) (lines_are_lines body)
    ∙ ap (λ t. lines body ++ t) (line_before ended (codes ".") rest refl)))
    ∙ opened ended line (lines body) (finished_lines ended (unified rest)) takes h

line_spelled : (ended : Bool) (line rest : List ℕ) → takes_body (words line) ≡ false → is_line line ≡ true
    → input_commands ended ((line ++ 10 ∷ []) ++ rest) ≡ alone (words line) ++ input_commands ended rest
line_spelled ended line rest takes is =
    ap (input_commands ended) (append_assoc line (10 ∷ []) rest) ∙ ap (commands_of ended None) (line_before ended line rest is) ∙ (rw takes refl)

-- the line of a call, and its body
with_body : (line body : List ℕ) → takes_body (words line) ≡ true → is_call line body ≡ true → (is_line line ≡ true) × (is_body body ≡ true)
with_body line body takes call = and_parts (is_line line) (is_body body) (rw takes at call)

without_body : (line body : List ℕ) → takes_body (words line) ≡ false → is_call line body ≡ true → is_line line ≡ true
without_body line body takes call = (and_parts (is_line line) (length body == 0) (rw takes at call)).0

-- the texts of a call as input are its command, before those of the input that comes after
pub of_call : (ended : Bool) (line body rest : List ℕ) → is_call line body ≡ true → input_commands ended (framed line body ++ rest) ≡ call_commands line body ++ input_commands ended rest
of_call ended line body rest call = by (takes_body (words line)) refl where
  by : (t : Bool) → takes_body (words line) ≡ t → input_commands ended (framed line body ++ rest) ≡ call_commands line body ++ input_commands ended rest
  by true takes = let parts = with_body line body takes call in rw takes (body_spelled ended line body rest takes parts.0 parts.1)
  by false takes = rw takes (line_spelled ended line rest takes (without_body line body takes call))
