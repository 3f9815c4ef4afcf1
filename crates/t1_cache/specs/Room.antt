-- Room for the users that join Subrs and glyphs.
use Rattle.std.specs.Prelude.{◌≡◌, ◌≤◌, ℕ, Bool, nat_eq, List, Option, Some, None}
use Rattle.std.specs.Borrow.{Bor}
use Rattle.std.specs.Map.{lookup}
use Rattle.std.specs.Option.{unwrap_or}
use Rattle.std.specs.Str.{bytes_eq}
use Rattle.t1_run.specs.Run.{FontBodies, Key, Subr, Glyph}
use Rattle.t1_font.specs.KeptBodies.{SameBodies}
use Rattle.t1_cache.specs.declared.records.Records.{Records}
use Rattle.t1_cache.specs.declared.room.Counts.{Counts}
use Rattle.t1_cache.specs.Bodies.{record_bodies}
use Rattle.t1_cache.specs.Joins.{AreLeaves}
use Rattle.t1_cache.specs.Users.{HasUserRoom, Pairs, UserSet, users_at, pairs_of_key}

-- word: so many users more may join with no allocation, where there is a record
abbrev pub MayJoin : ℕ → Option UserSet → Type 0
MayJoin count None = Unit {0}
MayJoin count (Some users) = count ≤ users.room

-- word: the same users in the same order, with at least the room that there was
abbrev pub IsRoomier : Option UserSet → Option UserSet → Type 0
IsRoomier None None = Unit {0}
IsRoomier (Some old) (Some new) = (new.names ≡ old.names) × (old.room ≤ new.room)
IsRoomier _ _ = ⊥

-- word: where the records have the bodies of a font, room for those that join by its runs is there for each key:
-- what runs use has a record
abbrev pub RoomLaw : Type 0
RoomLaw =
    (m : FontBodies) (names : List ℕ → Bool) (joins : Pairs) → AreLeaves m names joins → (records : Records) → SameBodies (record_bodies records) m
    → ((k : Key) → MayJoin (pairs_of_key joins k) (users_at records k)) → (k : Key) → HasUserRoom (pairs_of_key joins k) (users_at records k)

-- ---- how many joined so far

-- word: how many joined a Subr
abbrev pub subr_count : List (ℕ × ℕ) → ℕ → ℕ
subr_count counts n = unwrap_or (lookup (nat_eq n) counts) 0

-- word: how many joined a glyph
abbrev pub glyph_count : List (Bor (List ℕ) × ℕ) → List ℕ → ℕ
glyph_count counts g = unwrap_or (lookup (λ name. bytes_eq g name.now) counts) 0

-- word: how many joined a Subr or a glyph
abbrev pub count_at : Counts → Key → ℕ
count_at counts (Subr n) = subr_count counts.subrs.entries n
count_at counts (Glyph g) = glyph_count counts.glyphs.entries g
