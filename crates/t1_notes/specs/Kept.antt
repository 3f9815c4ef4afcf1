-- What a loop over the tokens of bodies keeps of those before.
use Rattle.std.specs.Prelude.{ℕ, Bool, false, ◌+◌, ◌||◌, ◌&&◌, nat_lt, min, if◌then◌else◌, Option, Some, None, List, [], ◌∷◌, ◌++◌, fold, length}
use Rattle.std.specs.List.{list_any}
use Rattle.t1_frac.specs.Numbers.{is_number_word}
use Rattle.t1_text.specs.Tokens.{places_from}
use Rattle.t1_code.specs.Words.{operator_named}
use Rattle.t1_code.specs.declared.command.Command.{Command}
use Rattle.t1_run.specs.Operands.{takes}
use Rattle.t1_run.specs.Words.{draws}
use Rattle.t1_notes.specs.declared.line.Line.{Line}
use Rattle.t1_notes.specs.declared.note.Note.{Note}
use Rattle.t1_notes.specs.declared.note.NoteKind.TheVariants.{ValuesLeft, WideCoordinate, NegativeWidth, OpenPath}
use Rattle.t1_notes.specs.declared.kept.TokensBefore.{TokensBefore}
use Rattle.t1_notes.specs.BodyWords.{is_below_zero, is_brace_token, is_open, is_past, nearest_is_below_zero, note_at, note_where, numbers_before}
use Rattle.t1_notes.specs.CommandWords.{clears, is_hsbw, wants_closed, ends_path, passes}
use Rattle.t1_notes.specs.PlacedTokens.{PlacedToken}

-- word, notes: what is kept of some tokens, the last one first; seven numbers are more than a command takes
abbrev pub kept_of_tokens : List PlacedToken → TokensBefore
kept_of_tokens before =
    record {
      numbers = min 7 (length (numbers_before before));
      has_wide = list_any (is_past 16000) (numbers_before before);
      is_negative = nearest_is_below_zero (numbers_before before);
      is_open = is_open before;
    }

-- word, notes: one number more
abbrev pub one_number_more : ℕ → ℕ
one_number_more numbers = if nat_lt numbers 7 then numbers + 1 else 7

-- word, notes: whether a path is open after a token
abbrev pub open_after : Bool → List ℕ → Option Command → Bool
open_after path token command = if is_brace_token token || passes ends_path command then false else passes draws command || path

-- word, notes: what is kept after a token
abbrev pub kept_after_token : TokensBefore → List ℕ → Option Command → TokensBefore
kept_after_token kept token command =
    record {
      numbers = if is_number_word token then one_number_more kept.numbers else 0;
      has_wide = is_number_word token && (is_past 16000 token || kept.has_wide);
      is_negative = is_number_word token && is_below_zero token;
      is_open = open_after kept.is_open token command;
    }

-- word, notes: the notes on a command at a place, by what is kept
abbrev pub kept_notes : ℕ → ℕ → TokensBefore → Option Command → List Note
kept_notes line column kept None = []
kept_notes line column kept (Some c) =
    note_where (clears c && nat_lt (takes c) kept.numbers) (note_at line column ValuesLeft)
    ++ (note_where (clears c && kept.has_wide) (note_at line column WideCoordinate)
    ++ (note_where (is_hsbw c && kept.is_negative) (note_at line column NegativeWidth)
    ++ note_where (wants_closed c && kept.is_open) (note_at line column OpenPath)))

-- word, notes: what is kept after the token at a place
abbrev pub kept_past : TokensBefore → ℕ × List ℕ → TokensBefore
kept_past kept found = kept_after_token kept found.1 (operator_named found.1)

-- word, notes: what is kept after some tokens
abbrev pub kept_through : TokensBefore → List (ℕ × List ℕ) → TokensBefore
kept_through kept found = fold kept_past kept found

-- word, notes: the notes on the tokens of the line of this number, by what is kept of those before
abbrev pub notes_by_place : ℕ → TokensBefore → List (ℕ × List ℕ) → List Note
notes_by_place number kept [] = []
notes_by_place number kept (p ∷ ps) =
    kept_notes number (p.0 + 1) kept (operator_named p.1) ++ notes_by_place number (kept_past kept p) ps

-- word, notes: the notes on the tokens of some lines, by what is kept of those before
abbrev pub notes_by_line : TokensBefore → List Line → List Note
notes_by_line kept [] = []
notes_by_line kept (l ∷ ls) = notes_by_place l.number kept (places_from 0 l.text) ++ notes_by_line (kept_through kept (places_from 0 l.text)) ls
