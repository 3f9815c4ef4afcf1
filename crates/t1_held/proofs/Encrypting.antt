-- Which entries are encrypted anew.
use Rattle.std.proofs.Common.{◌≡◌, ◌∙◌, ℕ, ap, refl, false, List, [], ◌∷◌, None}
use Rattle.std.proofs.lemmas.Bool.{or_parts}
use Rattle.std.specs.List.{list_any}
use Rattle.std.specs.Option.{option_map, option_or}
use Rattle.std.specs.Prelude.{if◌then◌else◌}
use Rattle.t1_run.specs.Run.{Key}
use Rattle.t1_run.specs.RunKeys.{key_eq}
use Rattle.t1_charstrings.specs.declared.settling.ReadyCharstrings.{ReadyCharstrings}
use Rattle.t1_charstrings.specs.declared.settling.ReadyCharstrings.TheVariants as charstrings
use Rattle.t1_charstrings.specs.Entries.{encrypted}
use Rattle.t1_font.specs.OwnedKeys.{key_of}
use Rattle.t1_rerun.specs.declared.entry_change.EntryChange.{EntryChange}
use Rattle.t1_rerun.specs.Settled.{changed_keys}
use Rattle.t1_held.specs.Entries.{fresh_in, fresh_one}
use Rattle.t1_held.specs.Ready.{EncryptsAt}

-- there is no fresh charstring at a key that no change has
pub none_fresh : (lead : ℕ) (changes : List EntryChange) (k : Key) → list_any (key_eq k) (changed_keys changes) ≡ false → fresh_in lead changes k ≡ None
none_fresh lead [] k off = refl
none_fresh lead (c ∷ changes) k off =
    let apart = or_parts (key_eq k (key_of c.named)) (list_any (key_eq k) (changed_keys changes)) off in
    ap (λ found. option_or found (fresh_one lead c k)) (none_fresh lead changes k apart.1)
    ∙ ap (λ same. if same then option_map (encrypted lead k) c.body else None) apart.0

-- charstrings that were encrypted at these keys alone were so at the same ones in another order
pub encrypts_same : (these ks : List Key) (r : ReadyCharstrings) → ((k : Key) → list_any (key_eq k) these ≡ list_any (key_eq k) ks) → EncryptsAt these r → EncryptsAt ks r
encrypts_same these ks (charstrings.Edited entries) same at = λ k off. at k (same k ∙ off)
encrypts_same these ks (charstrings.All all) same at = at
