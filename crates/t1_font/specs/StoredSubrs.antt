-- The bodies of Subrs in one vector.
use Rattle.std.specs.Prelude.{◌≤◌, ◌-◌, ℕ, nat_eq, List, take, drop, Option, IfSome}
use Rattle.std.specs.Map.{lookup}
use Rattle.std.specs.Option.{option_map}
use Rattle.t1_code.specs.declared.command.Command.{Command}
use Rattle.t1_font.specs.declared.subr_bodies.BodyRange.{BodyRange}

-- word: the commands of one body among those of all
abbrev pub among_all : List Command → BodyRange → List Command
among_all all range = take (range.end - range.start) (drop range.start all)

-- word: the commands of all bodies, and where each stands among them
pub record StoredSubrs : Type 0 where
  pub all : List Command
  pub ranges : List (ℕ × BodyRange)

-- word: the body that is stored for a number
abbrev pub subr_stored : StoredSubrs → ℕ → Option (List Command)
subr_stored s n = option_map (among_all s.all) (lookup (nat_eq n) s.ranges)

-- word: a range lies within so many commands
abbrev pub IsRangeWithin : ℕ → BodyRange → Type 0
IsRangeWithin len range = (range.start ≤ range.end) × (range.end ≤ len)

-- word: so does each range
abbrev pub AreRangesWithin : ℕ → List (ℕ × BodyRange) → Type 0
AreRangesWithin len ranges = (n : ℕ) → IfSome (lookup (nat_eq n) ranges) (IsRangeWithin len)
