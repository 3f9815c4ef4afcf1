-- The tables of users, and the names that edits make stale.
use Rattle.std.specs.Prelude.{◌≡◌, ◌||◌, ℕ, Bool, List}
use Rattle.t1_run.specs.Run.{FontBodies, Key, own}
use Rattle.t1_run.specs.Touched.{is_key_of, is_user}
use Rattle.t1_font.specs.declared.owned_key.OwnedKey.{OwnedKey}
use Rattle.t1_cache.specs.declared.records.Records.{Records}
use Rattle.t1_cache.specs.Users.{lists}
use Rattle.t1_font.specs.OwnedKeys.{key_of}

-- word: the users of each Subr and glyph, as the records list them, are those of the font
abbrev pub AreTables : FontBodies → Records → Type 0
AreTables m records = (k : Key) (g : List ℕ) → lists records k g ≡ is_user k (own m g)

-- word: by the records, whether edits name the glyph, or it uses what they name
abbrev pub is_seed : Records → List ℕ → OwnedKey → Bool
is_seed records g named = is_key_of g (key_of named) || lists records (key_of named) g
