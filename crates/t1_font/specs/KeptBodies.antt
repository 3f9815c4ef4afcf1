-- The bodies of a font, as the code keeps them.
use Rattle.std.specs.Prelude.{ℕ, nat_eq, List, Option}
use Rattle.std.specs.Map.{lookup}
use Rattle.std.specs.Str.{bytes_eq}
use Rattle.std.specs.declared.vec.Vec.{Vec}
use Rattle.t1_code.specs.declared.command.Command.{Command}
use Rattle.t1_run.specs.declared.plain.Plain.{Plain}
use Rattle.t1_run.specs.Run.{FontBodies, Key, font}
use Rattle.t1_run.specs.Footprint.{SameAt}

-- word: the body that is kept for a number
abbrev pub subr_body_kept : List (ℕ × List Command) → ℕ → Option (List Command)
subr_body_kept entries n = lookup (nat_eq n) entries

-- word: the body that is kept for a name
abbrev pub glyph_body_kept : {A : Type 0} → List (Vec ℕ A × List Command) → List ℕ → Option (List Command)
glyph_body_kept entries g = lookup (λ key. bytes_eq g key.items) entries

-- word: the bodies that both maps keep
abbrev pub plain_bodies : Plain → FontBodies
plain_bodies plain = font (subr_body_kept plain.subrs.entries) (glyph_body_kept plain.glyphs.entries)

-- word: both fonts have the same body, or both none, at each key
abbrev pub SameBodies : FontBodies → FontBodies → Type 0
SameBodies m n = (key : Key) → SameAt m n key
