-- What is told of what was refused.
use Rattle.std.specs.Prelude.{ℕ, List, [], ◌∷◌, ◌++◌, Option, Some, None, Result, Ok, Err}
use Rattle.t1_frac.specs.Ascii.{line_feed}
use Rattle.t1_parts.specs.SourceParts.{SourceParts}
use Rattle.t1_pairs.specs.declared.pairs.Pair.{Pair}
use Rattle.t1_source.specs.declared.edit.Rule.{Rule}
use Rattle.t1_source.specs.Editing.{edited}
use Rattle.t1_commands.specs.AnswerTexts.{rule_name}
use Rattle.t1_refusal.specs.Telling.{refusal_text}
use Rattle.t1_session.specs.declared.refused.Refused.{Refused}
use Rattle.t1_session.specs.declared.refused.Refused.TheVariants as kinds

-- profile, refusals: the line of a rule
abbrev pub rule_line : Rule → List ℕ
rule_line rule = rule_name rule ++ line_feed ∷ []

-- profile, refusals: the lines of an edit that was refused: of the rule that it breaks, else of the first fault of the edited source
abbrev pub edited_lines : Result (SourceParts × List Pair) Rule → List ℕ
edited_lines (Ok made) = refusal_text made.0
edited_lines (Err rule) = rule_line rule

-- profile, refusals: what is told of what was refused, by the source and the pairs that it was refused on; nothing where nothing was
unfoldable pub refused_text : SourceParts → List Pair → Option Refused → List ℕ
refused_text source pairs None = []
refused_text source pairs (Some (kinds.Rule rule)) = rule_line rule
refused_text source pairs (Some (kinds.Edit edit)) = edited_lines (edited source pairs edit)
refused_text source pairs (Some (kinds.Batch made)) = refusal_text made
