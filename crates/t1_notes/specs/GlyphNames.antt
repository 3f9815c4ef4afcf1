-- The names of the glyphs that lines open.
use Rattle.std.specs.Prelude.{ℕ, Bool, Option, Some, None, List}
use Rattle.std.specs.List.{list_any}
use Rattle.t1_parts.specs.Entries.{opens_glyph}
use Rattle.t1_text.specs.Names.{name_of_token}
use Rattle.t1_text.specs.Tokens.{is_token, tokens}
use Rattle.t1_notes.specs.declared.line.Line.{Line}

-- profile, notes: the name of a token, where there is one
abbrev pub name_of : Option (List ℕ) → Option (List ℕ)
name_of None = None
name_of (Some t) = name_of_token t

-- profile, notes: the name of the glyph that a line opens
abbrev pub opened_name : List ℕ → Option (List ℕ)
opened_name l = name_of (opens_glyph (tokens l))

-- profile, notes: whether one of the lines opens the glyph of this name
abbrev pub has_line_of_glyph : List Line → List ℕ → Bool
has_line_of_glyph heads glyph = list_any (λ l. is_token glyph (opened_name l.text)) heads
