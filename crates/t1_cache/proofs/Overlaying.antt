-- A font with some bodies changed is the edited one.
use Rattle.std.proofs.Common.{◌≡◌, Option, Some, None, refl}
use Rattle.t1_run.specs.Run.{Subr, Glyph}
use Rattle.t1_run.specs.Overlay.{after_change}
use Rattle.t1_cache.specs.Overlay.{OverlayLaw}

one : {X : Type 0} (was now : Option X) (change : Option (Option X)) → ((body : Option X) → change ≡ Some body → body ≡ now) → (change ≡ None → was ≡ now)
    → after_change change was ≡ now
one was now None set same = same refl
one was now (Some body) set same = set body refl

pub overlay_edited : OverlayLaw
overlay_edited keys m n but subrs glyphs set missing (Subr k) =
    one (m.subrs k) (n.subrs k) (subrs k) (λ body e. set (Subr k) body e) (λ e. but.same (Subr k) (missing (Subr k) e))
overlay_edited keys m n but subrs glyphs set missing (Glyph g) =
    one (m.glyphs g) (n.glyphs g) (glyphs g) (λ body e. set (Glyph g) body e) (λ e. but.same (Glyph g) (missing (Glyph g) e))
