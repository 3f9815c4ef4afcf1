-- The block lengths of PFB files.
use Rattle.std.specs.Prelude.{ℕ, ℤ, pos, negsuc, ◌&&◌, nat_le, if◌then◌else◌, Option, Some, None}
use Rattle.t1_code.specs.Pfb.{whole_file}

-- profile: a block has 1 to 2147483647 bytes
abbrev pub block_size : ℤ → Option ℕ
block_size (pos n) = if nat_le 1 n && nat_le n whole_file then Some n else None
block_size (negsuc n) = None
