-- A part of a PFB file on its way into segments, byte after byte.
use Rattle.std.specs.Prelude.{ℕ, ◌-◌, min, nat_eq, if◌then◌else◌, List, [], ◌∷◌, ◌++◌, fold}
use Rattle.t1_code.specs.Pfb.{segment_head}

-- word: a part that is cut into segments: their type and size, how many bytes the present one still takes, and how many are left of the part
pub record Segmenting : Type 0 where
  pub kind : ℕ
  pub size : ℕ
  pub room : ℕ
  pub left : ℕ

-- Technical Note 5040, 3.3: the head that stands in front of the next byte, where it begins a segment
abbrev pub head_due : Segmenting → List ℕ
head_due s = if nat_eq s.room 0 then segment_head s.kind (min s.size s.left) else []

-- word: the same, at the start of a segment where the present one is full
abbrev pub segment_opened : Segmenting → Segmenting
segment_opened s = if nat_eq s.room 0 then record { kind = s.kind; size = s.size; room = s.size; left = s.left } else s

-- word: the same after so many bytes of the present segment
abbrev pub past : ℕ → Segmenting → Segmenting
past count s = record { kind = s.kind; size = s.size; room = s.room - count; left = s.left - count }

-- Technical Note 5040, 3.3: the bytes, with the heads of the segments that begin among them
abbrev pub in_segments : Segmenting → List ℕ → List ℕ
in_segments s [] = []
in_segments s (byte ∷ bytes) = head_due s ++ byte ∷ in_segments (past 1 (segment_opened s)) bytes

-- word: the same after these bytes
abbrev pub segmenting_after : Segmenting → List ℕ → Segmenting
segmenting_after s bytes = fold (λ s byte. past 1 (segment_opened s)) s bytes
