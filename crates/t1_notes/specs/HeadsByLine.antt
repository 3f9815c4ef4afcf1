-- The heads of a section, as a loop over its lines finds them.
use Rattle.std.specs.Prelude.{ℕ, Bool, if◌then◌else◌, List, [], ◌∷◌, ◌++◌}
use Rattle.t1_parts.specs.Entries.{has_brace}
use Rattle.t1_notes.specs.declared.line.Line.{Line}
use Rattle.t1_notes.specs.declared.sections.Section.{Section}
use Rattle.t1_notes.specs.Heads.{leaves_entry_open, head_line_of}

-- word, notes: whether an entry is open after a line
abbrev pub entry_open_after : Section → Bool → List ℕ → Bool
entry_open_after section in_entry l = if has_brace l then leaves_entry_open section l else in_entry

-- word, notes: the same lines, by whether an entry is open before them
abbrev pub heads_by_line : Section → Bool → List Line → List Line
heads_by_line section in_entry [] = []
heads_by_line section in_entry (l ∷ ls) = head_line_of in_entry l ++ heads_by_line section (entry_open_after section in_entry l.text) ls
