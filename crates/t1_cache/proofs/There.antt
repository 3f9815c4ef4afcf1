-- What the run of a glyph uses is there.
use Rattle.std.proofs.Common.{◌≡◌, ℕ, true, List, refl, sym, ◌∙◌, ap, inl, inr, Option, Some, None}
use Rattle.std.specs.Prelude.{Result, Ok, Err}
use Rattle.std.specs.Str.{bytes_eq}
use Rattle.std.proofs.lemmas.Bool.{or_cases}
use Rattle.std.proofs.lemmas.Slice.Eq.{bytes_eq-Decides}
use Rattle.t1_frac.specs.declared.fault.Code.{Code}
use Rattle.t1_code.specs.declared.command.Command.{Command}
use Rattle.t1_run.specs.declared.outline.Composite.{Composite}
use Rattle.t1_run.specs.Footprint.{asks, HasParts}
use Rattle.t1_run.specs.Run.{FontBodies, Key, Subr, Glyph, Drawing, own}
use Rattle.t1_run.specs.RunKeys.{body_at}
use Rattle.t1_run.specs.Touched.{is_user}
use Rattle.t1_run.proofs.Asked.{parts_there, subrs_there}
use Rattle.t1_cache.specs.There.{UsesThereLaw}

part-there : (m : FontBodies) (composite : Option Composite) → HasParts m composite → (entered : List ℕ) (g : List ℕ) → asks composite entered (Glyph g) ≡ true
    → (body : List Command) × (m.glyphs g ≡ Some body)
part-there m None has entered g h = absurd (cc)
part-there m (Some c) has entered g h =
    elim (or_cases (bytes_eq c.base g) (bytes_eq c.accent g) h) [
      | inl same ↦ (has.0.0, ap m.glyphs (sym ((bytes_eq-Decides c.base g).0 same)) ∙ has.0.1)
      | inr same ↦ (has.1.0, ap m.glyphs (sym ((bytes_eq-Decides c.accent g).0 same)) ∙ has.1.1)
    ]

pub uses_there : UsesThereLaw
uses_there m g k h = by (own m g) refl h where
  key-there : (d : Drawing) → own m g ≡ Some (Ok d) → (k : Key) → asks d.composite d.entered k ≡ true → (body : List Command) × (body_at m k ≡ Some body)
  key-there d e (Subr n) asked = subrs_there m g d e n asked
  key-there d e (Glyph p) asked = part-there m d.composite (parts_there m g d e) d.entered p asked

  by : (r : Option (Result Drawing Code)) → own m g ≡ r → is_user k r ≡ true → (body : List Command) × (body_at m k ≡ Some body)
  by None e used = absurd (cc)
  by (Some (Err code)) e used = absurd (cc)
  by (Some (Ok d)) e used = key-there d e k used
