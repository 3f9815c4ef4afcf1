-- What contracts see of a session.
use Rattle.std.specs.Prelude.{ℕ, List, Option}
use Rattle.t1_parts.specs.SourceParts.{SourceParts}
use Rattle.t1_pairs.specs.declared.pairs.Pair.{Pair}
use Rattle.t1_cache.specs.Recorded.{RecordedGlyph}
use Rattle.t1_held.specs.Batch.{Draft}
use Rattle.t1_session.specs.declared.refused.Refused.{Refused}
use Rattle.t1_session.specs.Users.{UserTable}

-- profile: a source, its kerning pairs, the batch that is open, or none, and what was refused since an edit, a `begin`, a
-- `commit` or an `abort` was accepted, or nothing
pub record SessionState : Type 0 where
  pub source : SourceParts
  pub pairs : List Pair
  pub batch : Option Draft
  pub refused : Option Refused

-- profile: what contracts see of a session: what it holds, what is kept of its glyphs, in source order, who uses each
-- Subr and each glyph, and the count of runs
pub record SessionView : Type 0 where
  pub state : SessionState
  pub kept : List RecordedGlyph
  pub users : UserTable
  pub runs : ℕ
