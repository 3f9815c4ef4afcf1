-- Records changed at one key.
use Rattle.std.specs.Prelude.{◌≡◌, ◌≤◌, ◌+◌, ℕ, List, [], ◌∷◌, map, Option, if◌then◌else◌}
use Rattle.std.specs.Option.{option_map}
use Rattle.indexmap.specs.IndexMap.{spare}
use Rattle.t1_code.specs.declared.command.Command.{Command}
use Rattle.t1_run.specs.Run.{FontBodies, Key}
use Rattle.t1_run.specs.RunKeys.{body_at, key_eq}
use Rattle.t1_run.specs.Touched.{SameBut}
use Rattle.t1_font.specs.KeptBodies.{SameBodies}
use Rattle.t1_cache.specs.declared.records.Records.{Records}
use Rattle.t1_cache.specs.Bodies.{record_bodies}
use Rattle.t1_cache.specs.Recorded.{kept_of}
use Rattle.t1_cache.specs.Users.{rest_of, users_at, UserSet}

-- word: the records have this body, or none, at the key, and at each other key what they had
abbrev pub SetsBody : Key → Option (List Command) → Records → Records → Type 0
SetsBody key body old new = (k : Key) → body_at (record_bodies new) k ≡ (if key_eq k key then body else body_at (record_bodies old) k)

-- word: the record at the key, where there is one, has this body, and each other record has what it had
abbrev pub PutsBody : Key → List Command → Records → Records → Type 0
PutsBody key body old new =
    (k : Key) → body_at (record_bodies new) k ≡ (if key_eq k key then option_map (λ was. body) (body_at (record_bodies old) k) else body_at (record_bodies old) k)

-- word: the record at the key has these users, or there is none, and at each other key the users are what they were
abbrev pub SetsUsers : Key → Option UserSet → Records → Records → Type 0
SetsUsers key users old new = (k : Key) → users_at new k ≡ (if key_eq k key then users else users_at old k)

-- word: at most so many places of the room for records are used up
abbrev pub UsesUp : ℕ → Records → Records → Type 0
UsesUp count old new = (spare old.subrs ≤ spare new.subrs + count) × (spare old.glyphs ≤ spare new.glyphs + count)

-- word: the same records in the same order
abbrev pub AreSameRecords : Records → Records → Type 0
AreSameRecords old new = (new.subrs.entries ≡ old.subrs.entries) × (new.glyphs.entries ≡ old.glyphs.entries)

-- word: records that have the bodies of a font, and then what another font has at the one key where the two may
-- differ, have the bodies of that font
abbrev pub ChangedBodiesLaw : Type 0
ChangedBodiesLaw =
    (key : Key) (m n : FontBodies) → SameBut (key ∷ []) m n → (old new : Records) → SameBodies (record_bodies old) m
    → SetsBody key (body_at n key) old new → SameBodies (record_bodies new) n

-- word: records that differ in their users alone have the same bodies, runs and boxes
abbrev pub RestLaw : Type 0
RestLaw =
    (old new : Records) → rest_of new ≡ rest_of old
    → SameBodies (record_bodies new) (record_bodies old) × (map kept_of new.glyphs.entries ≡ map kept_of old.glyphs.entries)
