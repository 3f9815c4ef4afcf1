use Rattle.std.proofs.Common.{drop}
use Rattle.std.specs.List.{flat_map}
use Rattle.t1_code.proofs.Writing.{passing, Written}
use Rattle.t1_afm.proofs.part.put_parts.Given as goal

-- the parts that are left
abbrev pub invariant-loop-part : goal.invariant-loop-part
invariant-loop-part g l =
    Written (passing g.W.Write.contents) l.fn.outlet l.outlet (flat_map g.P.Part.text l.parts) (flat_map g.P.Part.text (drop l.part-index l.parts))
