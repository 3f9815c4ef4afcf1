-- What edits touch is stale.
use Rattle.std.specs.Prelude.{◌≡◌, ℕ, List, Some, Ok}
use Rattle.t1_code.specs.declared.command.Command.{Command}
use Rattle.t1_run.specs.declared.outline.Segment.{Segment}
use Rattle.t1_run.specs.Run.{FontBodies, Key}
use Rattle.t1_run.specs.Composite.{outline}
use Rattle.t1_run.specs.Touched.{is_touched, AreStale}

-- word: of a font whose glyphs all draw, the touched names are the stale ones
abbrev pub TouchedAreStaleLaw : Type 0
TouchedAreStaleLaw =
    (m : FontBodies) (keys : List Key) → ((g : List ℕ) (body : List Command) → m.glyphs g ≡ Some body → (o : List Segment) × (outline m g ≡ Ok o))
    → AreStale m keys (is_touched m keys)
