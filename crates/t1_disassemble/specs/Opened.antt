-- What contracts see of an entry that opens on a line.
use Rattle.std.specs.Prelude.{if◌then◌else◌, ◌++◌, codes}
use Rattle.t1_disassemble.specs.declared.opening.Opening as declared
use Rattle.t1_disassemble.specs.Opening.{Opening}

-- word: an entry's name, after `dup` where it is a Subr's number
abbrev pub opening_of : declared.Opening → Opening
opening_of o = record { at = o.at; name = if o.is_subr then codes "dup " ++ o.name.now else o.name.now; count = o.count; end = o.end }
