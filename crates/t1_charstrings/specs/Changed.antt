-- What is kept, changed at one key.
use Rattle.std.specs.Prelude.{◌≡◌, Option, if◌then◌else◌}
use Rattle.t1_run.specs.Run.{Key}
use Rattle.t1_run.specs.RunKeys.{key_eq}
use Rattle.t1_charstrings.specs.declared.entries.Charstrings.{Charstrings}
use Rattle.t1_charstrings.specs.Entries.{KeptCharstring}
use Rattle.t1_charstrings.specs.Kept.{charstring_at}

-- word: this, or nothing, is kept at the key, and at each other key what was kept there
abbrev pub Sets : Key → Option KeptCharstring → Charstrings → Charstrings → Type 0
Sets key entry old new = (k : Key) → charstring_at new k ≡ (if key_eq k key then entry else charstring_at old k)

-- word: the same entries in the same order
abbrev pub AreSameCharstrings : Charstrings → Charstrings → Type 0
AreSameCharstrings old new = (new.subrs.entries ≡ old.subrs.entries) × (new.glyphs.entries ≡ old.glyphs.entries)
