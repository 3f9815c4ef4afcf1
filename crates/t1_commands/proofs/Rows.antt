-- Worked rows of a session's input and answers, computed by the definitions.
use Rattle.std.proofs.Common.{◌≡◌, pos, true, false, [], ◌∷◌, ◌++◌, None, refl, ◌-◌, ◌^◌}
use Rattle.std.specs.Prelude.{codes}
use Rattle.t1_frac.specs.declared.fault.Code.TheVariants.{F20, F23}
use Rattle.t1_frac.specs.declared.fault.Place.TheVariants.{Nowhere, Glyph}
use Rattle.t1_frac.specs.Outcome.{fault_at}
use Rattle.t1_frac.specs.Numbers.{is_number_word, number_word}
use Rattle.t1_text.specs.Lines.{unified}
use Rattle.t1_source.specs.declared.edit.Edit.TheVariants as edits
use Rattle.t1_source.specs.declared.edit.Rule.TheVariants.{E7, E8}
use Rattle.t1_commands.specs.declared.print.Print.TheVariants as prints
use Rattle.t1_commands.specs.declared.show.Show.TheVariants as shows
use Rattle.t1_commands.specs.declared.command.SessionCommand.TheVariants as commands
use Rattle.t1_commands.specs.declared.answer.Answer.TheVariants.{Accepted, Broken, Faulty, OutOfMemory}
use Rattle.t1_commands.specs.Lines.{finished_lines}
use Rattle.t1_commands.specs.Commands.{commands_of, input_commands, line_command, other_command, removal, setting, whole_print, blocks_print, whole_show, entry_show, body_command, bodied_edit, open_command, takes_body, ends_body, number_of}
use Rattle.t1_commands.specs.AnswerTexts.{answer_text, fault_text}
use Rattle.t1_commands.specs.Answers.{Machine, session_answers}

-- CR LF ends one line; an unfinished line counts once the input has ended
lines_at_end : finished_lines true (unified (codes "a" ++ 13 ∷ 10 ∷ 13 ∷ codes "b")) ≡ codes "a" ∷ [] ∷ codes "b" ∷ []
lines_at_end = refl

lines_before_end : finished_lines false (unified (codes "a" ++ 13 ∷ 10 ∷ 13 ∷ codes "b")) ≡ codes "a" ∷ [] ∷ []
lines_before_end = refl

-- a command without a body, a line without words, a print
removes : commands_of false None (codes " remove  glyph A" ∷ codes " " ∷ codes "print pfb" ∷ []) ≡ commands.Edit (edits.RemoveGlyph (codes "A")) ∷ commands.Print prints.Pfb ∷ []
unfolding takes_body line_command other_command removal whole_print
removes = refl

-- a body up to a line that is a dot
replaces : commands_of false None (codes "replace glyph A" ∷ codes "endchar" ∷ codes ". ." ∷ codes " ." ∷ []) ≡ commands.Edit (edits.ReplaceGlyph (codes "A") (codes "endchar" ++ 10 ∷ codes ". ." ++ 10 ∷ [])) ∷ []
unfolding takes_body ends_body body_command bodied_edit
replaces = refl

-- an open body is no command before the input ends; then it breaks E7, and E8 where a word is too many
open_before_end : commands_of false None (codes "add glyph A" ∷ codes "endchar" ∷ []) ≡ []
unfolding takes_body ends_body
open_before_end = refl

open_at_end : commands_of true None (codes "add glyph A;B" ∷ codes "endchar" ∷ []) ≡ commands.Broken E7 ∷ []
unfolding takes_body ends_body open_command
open_at_end = refl

unknown_at_end : commands_of true None (codes "add glyph A B" ∷ codes "endchar" ∷ []) ≡ commands.Broken E8 ∷ []
unfolding takes_body ends_body open_command
unknown_at_end = refl

unknown_print : line_command (codes "print" ∷ codes "otf" ∷ []) ≡ commands.Broken E8
unfolding line_command other_command whole_print blocks_print
unknown_print = refl

-- prints of blocks, and lenIV
blocks_40 : line_command (codes "print" ∷ codes "pfb" ∷ codes "040" ∷ []) ≡ commands.Print (prints.Blocks (pos 40))
unfolding line_command other_command blocks_print number_of number_word is_number_word
blocks_40 = refl

blocks_of_a_pfa : line_command (codes "print" ∷ codes "pfa" ∷ codes "40" ∷ []) ≡ commands.Broken E8
unfolding line_command other_command blocks_print
blocks_of_a_pfa = refl

blocks_of_two : line_command (codes "print" ∷ codes "pfb" ∷ codes "40" ∷ codes "40" ∷ []) ≡ commands.Broken E8
unfolding line_command other_command blocks_print
blocks_of_two = refl

lead_set : line_command (codes "set" ∷ codes "leniv" ∷ codes "0" ∷ []) ≡ commands.Edit (edits.LenIv (pos 0))
unfolding line_command setting number_of number_word is_number_word
lead_set = refl

lead_of_nothing : line_command (codes "set" ∷ codes "leniv" ∷ []) ≡ commands.Broken E8
unfolding line_command setting
lead_of_nothing = refl

-- queries
glyph_shown : line_command (codes "show" ∷ codes "glyph" ∷ codes "A" ∷ []) ≡ commands.Show (shows.Glyph (codes "A"))
unfolding line_command entry_show
glyph_shown = refl

subr_shown : line_command (codes "show" ∷ codes "subr" ∷ codes "04" ∷ []) ≡ commands.Show (shows.Subr (pos 4))
unfolding line_command entry_show number_of number_word is_number_word
subr_shown = refl

encoding_shown : line_command (codes "show" ∷ codes "encoding" ∷ []) ≡ commands.Show shows.Encoding
unfolding line_command whole_show
encoding_shown = refl

refusal_shown : line_command (codes "show" ∷ codes "refusal" ∷ []) ≡ commands.Show shows.Refusal
unfolding line_command whole_show
refusal_shown = refl

refusal_of_a_glyph : line_command (codes "show" ∷ codes "refusal" ∷ codes "A" ∷ []) ≡ commands.Broken E8
unfolding line_command entry_show
refusal_of_a_glyph = refl

outline_shown : line_command (codes "show" ∷ codes "outline" ∷ codes "A" ∷ []) ≡ commands.Show (shows.Outline (codes "A"))
unfolding line_command entry_show
outline_shown = refl

metrics_of_all : line_command (codes "show" ∷ codes "metrics" ∷ []) ≡ commands.Broken E8
unfolding line_command whole_show
metrics_of_all = refl

encoding_of_a_glyph : line_command (codes "show" ∷ codes "encoding" ∷ codes "A" ∷ []) ≡ commands.Broken E8
unfolding line_command entry_show
encoding_of_a_glyph = refl

-- a command of one word, and the same with a further one
begins : line_command (codes "begin" ∷ []) ≡ commands.Begin
unfolding line_command other_command
begins = refl

begins_with_more : line_command (codes "begin" ∷ codes "x" ∷ []) ≡ commands.Broken E8
unfolding line_command other_command
begins_with_more = refl

-- a word that is no number word stands for a number past every range
no_number : number_of (codes "-9.5") ≡ pos (2 ^ 63 - 1)
unfolding number_of number_word is_number_word
no_number = refl

-- the commands of an input that goes on, and of a whole one
commands_before_end : input_commands false (codes "print kern" ++ 13 ∷ codes "print pfb") ≡ commands.Print prints.Kern ∷ []
unfolding takes_body line_command other_command whole_print
commands_before_end = refl

commands_at_end : input_commands true (codes "print kern" ++ 13 ∷ codes "print pfb") ≡ commands.Print prints.Kern ∷ commands.Print prints.Pfb ∷ []
unfolding takes_body line_command other_command whole_print
commands_at_end = refl

-- a machine that takes every command, and the answers to two of them, of which the first ran out of memory
abbrev agreeing : Machine (Unit {0})
agreeing = record { perform = λ s command. record { answer = Accepted; next = tt }; may_want_memory = λ s command. true; after_want = λ s command. tt }

answers_of_two : session_answers agreeing tt (codes "unencode 65" ++ 10 ∷ codes "unencode 66" ++ 10 ∷ []) false (true ∷ []) ≡ codes "refused memory" ++ 10 ∷ codes "ok" ++ 10 ∷ []
unfolding takes_body line_command number_of answer_text
answers_of_two = refl

-- answers
accepted : answer_text Accepted ≡ codes "ok" ++ 10 ∷ []
unfolding answer_text
accepted = refl

refused_by_rule : answer_text (Broken E8) ≡ codes "refused E8" ++ 10 ∷ []
unfolding answer_text
refused_by_rule = refl

refused_by_fault : answer_text (Faulty (fault_at (Glyph (codes "space")) F20)) ≡ codes "refused F20 glyph space" ++ 10 ∷ []
unfolding answer_text fault_text
refused_by_fault = refl

refused_without_place : answer_text (Faulty (fault_at Nowhere F23)) ≡ codes "refused F23" ++ 10 ∷ []
unfolding answer_text fault_text
refused_without_place = refl

refused_for_memory : answer_text OutOfMemory ≡ codes "refused memory" ++ 10 ∷ []
unfolding answer_text
refused_for_memory = refl
