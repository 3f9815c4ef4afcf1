use Rattle.std.proofs.Common.{◌≡◌, ◌+◌, ◌≤◌, length, take, drop}
use Rattle.std.specs.Vec.{vec_len, vec_capacity}
use Rattle.t1_code.specs.Charstring.{AllFit}
use Rattle.t1_disassemble.proofs.CommandLaws.{Read}
use Rattle.t1_disassemble.proofs.known_command.push_each.Given as goal

-- the commands so far stand behind the others, and there is room for those that the bytes left may spell
abbrev pub invariant-loop-first : goal.invariant-loop-first
invariant-loop-first l =
    let others = length l.fn.others.items in
    Read l.fn.code (drop others l.others.items) l.rest × AllFit (drop others l.others.items)
    × (take others l.others.items ≡ l.fn.others.items) × (vec_len l.others + length l.rest ≤ vec_capacity l.others)

abbrev pub decreases-loop-first : goal.decreases-loop-first
decreases-loop-first l = length l.rest
