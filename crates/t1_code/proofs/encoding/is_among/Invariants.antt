use Rattle.std.proofs.Common.{◌≡◌, drop}
use Rattle.t1_code.specs.EncodingRows.{has_name}
use Rattle.t1_code.proofs.encoding.is_among.Given as goal

-- no row so far has the name
abbrev pub invariant-loop-known : goal.invariant-loop-known
invariant-loop-known l = has_name (drop l.known-index l.names) l.name ≡ has_name l.names l.name
