use Rattle.std.proofs.Common.{◌≡◌, ◌-◌, ◌≤◌}
use Rattle.t1_parts.specs.Encoding.{slots}
use Rattle.t1_source.specs.Codes.{lowest_code, slot_name}
use Rattle.t1_source.proofs.CodeLaws.{lowest_from}
use Rattle.t1_source.proofs.codes.array_code.Given as goal

-- no code before this one has the name
abbrev pub invariant-loop-code : goal.invariant-loop-code
invariant-loop-code l = (lowest_from (slot_name (slots l.clear)) l.name l.code ≡ lowest_code (slot_name (slots l.clear)) l.name) × (l.code ≤ 256)

abbrev pub decreases-loop-code : goal.decreases-loop-code
decreases-loop-code l = 256 - l.code
