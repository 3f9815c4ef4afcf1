use Rattle.std.proofs.Common.{◌≡◌, flat_map}
use Rattle.std.specs.List.{range_with_len}
use Rattle.t1_source.specs.Codes.{name_of_code}
use Rattle.t1_session.specs.Queries.{code_line}
use Rattle.t1_session.proofs.encoding.encoding_text.Given as goal

-- the lines of the codes so far
abbrev pub invariant-loop-code : goal.invariant-loop-code
invariant-loop-code l = l.text.items ≡ flat_map (λ code. code_line code (name_of_code l.source code)) (range_with_len 0 l.code)
