-- The charstrings of the entries that edits name.
use Rattle.std.specs.Prelude.{ℕ, List, [], ◌∷◌, filter, is_none, Option, None, if◌then◌else◌}
use Rattle.std.specs.Option.{option_map, option_or}
use Rattle.t1_run.specs.Run.{Key}
use Rattle.t1_run.specs.RunKeys.{key_eq}
use Rattle.t1_charstrings.specs.Entries.{KeptCharstring, encrypted}
use Rattle.t1_font.specs.OwnedKeys.{key_of}
use Rattle.t1_rerun.specs.declared.entry_change.EntryChange.{EntryChange}
use Rattle.t1_rerun.specs.Settled.{changed_keys}

-- word: the encrypted charstring of a change, at its key
abbrev pub fresh_one : ℕ → EntryChange → Key → Option KeptCharstring
fresh_one lead c k = if key_eq k (key_of c.named) then option_map (encrypted lead k) c.body else None

-- word: the encrypted charstrings of changes, of which a later one wins
abbrev pub fresh_in : ℕ → List EntryChange → Key → Option KeptCharstring
fresh_in lead [] k = None
fresh_in lead (c ∷ changes) k = option_or (fresh_in lead changes k) (fresh_one lead c k)

-- word: the keys of the changed entries that have no body any more
abbrev pub gone_keys : List EntryChange → List Key
gone_keys changes = changed_keys (filter (λ c. is_none c.body) changes)
