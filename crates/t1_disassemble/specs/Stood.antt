-- What contracts see of where a source's lines stand.
use Rattle.std.specs.Prelude.{ℕ, Bool, not, ◌&&◌, ◌==◌, if◌then◌else◌, None, Some, List, ◌++◌, codes}
use Rattle.t1_disassemble.specs.declared.standing.Said as said
use Rattle.t1_disassemble.specs.declared.standing.Standing as declared
use Rattle.t1_disassemble.specs.declared.private.EntryRead.{EntryRead}
use Rattle.t1_disassemble.specs.Standing.{Said, Standing, judged}

-- word: the name of a glyph, or of a Subr by its number
abbrev pub prefixed : Bool → List ℕ → List ℕ
prefixed is_subr name = if is_subr then codes "dup " ++ name else name

-- word: what was said of one thing
abbrev pub said_of : said.Said → Said
said_of said = record { is_said = said.is_said; is_other = said.is_other }

-- word: the name of an entry is there where one would be lost
abbrev pub standing_of : declared.Standing → Standing
standing_of s = record { part = s.part; lacks_subrs = s.lacks_subrs; lacks_glyphs = s.lacks_glyphs; reads = said_of s.reads; leads = said_of s.leads; lost = if s.is_lost then Some s.lost.items else None }

-- word: what is made of the pieces after one, where it isn't the last
abbrev pub judged_after : List ℕ → ℕ → EntryRead → Standing → Standing
judged_after operator lead piece s = if piece.is_last then s else judged operator lead piece.rest.now piece.waits s

-- word: a byte with which neither a name begins, nor `dup`, nor a word that begins with this one
abbrev pub is_other_byte : ℕ → ℕ → Bool
is_other_byte first c = not (c == 47) && not (c == 100) && not (c == first)
