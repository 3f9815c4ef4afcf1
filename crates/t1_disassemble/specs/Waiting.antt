-- Words that wait in some room.
use Rattle.std.specs.Prelude.{ℕ, nat_lt, if◌then◌else◌, List, [], take}

-- word: the words that go out, where there is no room for one more
abbrev pub due : ℕ → List ℕ → List ℕ
due len bytes = if nat_lt 232 len then take len bytes else []

-- word: how many bytes wait then
abbrev pub left_of : ℕ → ℕ
left_of len = if nat_lt 232 len then 0 else len
