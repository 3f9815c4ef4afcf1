-- Records compared by their bodies and users.
use Rattle.std.proofs.Common.{◌≡◌, ℕ, List, ◌∙◌}
use Rattle.t1_run.specs.Run.{FontBodies, Key}
use Rattle.t1_font.specs.KeptBodies.{SameBodies}
use Rattle.t1_cache.specs.declared.records.Records.{Records}
use Rattle.t1_cache.specs.Users.{lists, rest_of}
use Rattle.t1_cache.proofs.Changing.{rest_same}
use Rattle.t1_font.proofs.Keys.{at-same, same-at}
use Rattle.t1_rerun.specs.Settled.{AreAsBefore}

-- ---- bodies, key by key

pub same-twice : (l m n : FontBodies) → SameBodies l m → SameBodies m n → SameBodies l n
same-twice l m n first second k = same-at l n k (at-same l m k (first k) ∙ at-same m n k (second k))

-- ---- records as they were

pub as-rest : (old new : Records) → rest_of new ≡ rest_of old → ((k : Key) (u : List ℕ) → lists new k u ≡ lists old k u) → AreAsBefore old new
as-rest old new e users = let same = rest_same old new e in record { bodies = same.0; kept = same.1; users = users }
