use Rattle.std.proofs.Common.{◌≡◌, ℕ, ◌<◌, ◌≤◌, length, drop}
use Rattle.t1_code.specs.EncodingRows.{named_in}
use Rattle.t1_source.specs.Codes.{name_at}
use Rattle.t1_source.proofs.codes.standard_names.Given as goal

-- the names of the codes of the last rows
abbrev pub invariant-loop-rest : goal.invariant-loop-rest
invariant-loop-rest l = (l.rest ≤ length l.table) × (length l.names ≡ 256) × ((code : ℕ) → code < 256 → name_at l.names code ≡ named_in (drop l.rest l.table) code)

abbrev pub decreases-loop-rest : goal.decreases-loop-rest
decreases-loop-rest l = l.rest
