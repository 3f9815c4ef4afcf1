use Rattle.std.proofs.Common.{◌≡◌, drop}
use Rattle.t1_code.specs.EncodingRows.{named_in}
use Rattle.t1_code.proofs.encoding.find.Given as goal

-- no row so far has the code
abbrev pub invariant-loop-key : goal.invariant-loop-key
invariant-loop-key l = named_in (drop l.key-index l.names) l.code ≡ named_in l.names l.code
