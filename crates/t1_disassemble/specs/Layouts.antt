-- Lines that a source has in another layout than the font.
use Rattle.std.specs.Prelude.{ℕ, Bool, ◌&&◌, ◌||◌, not, List, ◌∷◌, ◌++◌, codes}
use Rattle.t1_frac.specs.Ascii.{space}
use Rattle.t1_text.specs.Lines.{trimmed}
use Rattle.t1_parts.specs.Parts.{ends_in, is_closefile}
use Rattle.t1_disassemble.specs.Settings.{heads_section}

-- profile, layouts: a border of the private text: a section line, or the line that closes the encrypted part
abbrev pub is_border : List ℕ → Bool
is_border l = heads_section l || is_closefile l

-- profile, layouts: whether the line that closes the encrypted part may begin on a line and go on with the next: it ends in `mark`, or
-- in `mark currentfile`
abbrev pub begins_closefile : List ℕ → Bool
begins_closefile l = ends_in (codes "mark") l || ends_in (codes "mark currentfile") l

-- profile, layouts: two lines as one
abbrev pub one_line : List ℕ → List ℕ → List ℕ
one_line l m = trimmed l ++ space ∷ trimmed m

-- profile, layouts: two lines of which neither is a border, but which together close the encrypted part
abbrev pub are_one : List ℕ → List ℕ → Bool
are_one l m = not (is_border l) && begins_closefile l && not (is_border m) && is_closefile (one_line l m)
