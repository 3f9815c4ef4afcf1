-- What contracts see of the head of a section.
use Rattle.std.specs.Prelude.{if◌then◌else◌, codes}
use Rattle.t1_disassemble.specs.declared.heads.Head as declared
use Rattle.t1_disassemble.specs.Heads.{Head}

-- word: a head by the word of its section
abbrev pub head_of : declared.Head → Head
head_of h = record { end = h.end; word = if h.is_subrs then codes "array" else codes "dict"; count = h.count; rest = h.rest.now }
