-- The bodies of an edited font over those of the font before.
use Rattle.std.specs.Prelude.{◌≡◌, ℕ, List, Option, Some, None, Ok}
use Rattle.t1_code.specs.declared.command.Command.{Command}
use Rattle.t1_run.specs.Run.{FontBodies, Key, Subr, Glyph, font}
use Rattle.t1_run.specs.RunKeys.{body_at}
use Rattle.t1_run.specs.Footprint.{Includes}
use Rattle.t1_run.specs.Overlay.{after_change}
use Rattle.t1_run.specs.Touched.{SameBut}
use Rattle.t1_parts.specs.SourceParts.{SourceParts}
use Rattle.t1_source.specs.declared.edit.Edit.{Edit}
use Rattle.t1_pairs.specs.declared.pairs.Pair.{Pair}
use Rattle.t1_source.specs.Editing.{edited}
use Rattle.t1_source.specs.WellFormed.{IsWellFormed}
use Rattle.t1_font.specs.Bodies.{bodies}
use Rattle.t1_font.specs.KeptBodies.{SameBodies}
use Rattle.t1_cache.specs.Edited.{body_after}
use Rattle.t1_cache.specs.EditKeys.{named}

-- word: a font with some bodies set and some taken out
abbrev pub overlaid : (ℕ → Option (Option (List Command))) → (List ℕ → Option (Option (List Command))) → FontBodies → FontBodies
overlaid subrs glyphs m = font (λ n. after_change (subrs n) (m.subrs n)) (λ g. after_change (glyphs g) (m.glyphs g))

-- word: what is changed at a key
abbrev pub change_at : (ℕ → Option (Option (List Command))) → (List ℕ → Option (Option (List Command))) → Key → Option (Option (List Command))
change_at subrs glyphs (Subr n) = subrs n
change_at subrs glyphs (Glyph g) = glyphs g

-- word: a font that differs from another at these keys alone is the other with what it has at each of them
abbrev pub OverlayLaw : Type 0
OverlayLaw =
    (keys : List Key) (m n : FontBodies) → SameBut keys m n → (subrs : ℕ → Option (Option (List Command))) (glyphs : List ℕ → Option (Option (List Command)))
    → ((k : Key) (body : Option (List Command)) → change_at subrs glyphs k ≡ Some body → body ≡ body_at n k)
    → ((k : Key) → change_at subrs glyphs k ≡ None → Includes keys k → ⊥) → SameBodies (overlaid subrs glyphs m) n

-- word: the body at the key that an edit names is that of the edit
abbrev pub BodyLaw : Type 0
BodyLaw =
    (s : SourceParts) (k : List Pair) (edit : Edit) (made : SourceParts) (ps : List Pair) → IsWellFormed s → edited s k edit ≡ Ok (made, ps)
    → (key : Key) → Includes (named edit) key → body_at (bodies made.items) key ≡ body_after edit
