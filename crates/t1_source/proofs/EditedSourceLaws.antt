-- The source that a change makes.
use Rattle.std.proofs.Common.{◌≡◌, List, refl, sym, subst}
use Rattle.t1_parts.specs.SourceParts.{SourceParts}
use Rattle.t1_pairs.specs.declared.pairs.Pair.{Pair}
use Rattle.t1_source.specs.declared.editing.Change.{Change}
use Rattle.t1_source.specs.declared.editing.Change.TheVariants as changes
use Rattle.t1_source.specs.Changes.{changed, made_after, IsFor}
use Rattle.t1_source.specs.WellFormed.{IsWellFormed}

-- a change makes the same source, whatever the pairs
pub source_alone : (change : Change) (s : SourceParts) (k : List Pair) → made_after change s ≡ (changed change s k).0
source_alone (changes.PutItem at item) s k = refl
source_alone (changes.InsertItem at item) s k = refl
source_alone (changes.RemoveItem at) s k = refl
source_alone (changes.PutClear lines) s k = refl
source_alone (changes.PutPair at pair) s k = refl
source_alone (changes.InsertPair at pair) s k = refl
source_alone (changes.RemovePair at) s k = refl

pub made_well_formed : (change : Change) (s : SourceParts) → IsFor change s → IsWellFormed (made_after change s)
made_well_formed change s fits = subst IsWellFormed (sym (source_alone change s fits.pairs)) fits.serves.source
