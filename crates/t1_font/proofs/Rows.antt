-- What the definitions give on small sources.
use Rattle.std.proofs.Common.{◌≡◌, ℕ, List, [], ◌∷◌, refl, Option, Some, None, pos}
use Rattle.std.specs.Prelude.{codes, Result, Ok, Err, if◌then◌else◌}
use Rattle.std.specs.Str.{bytes_eq}
use Rattle.t1_frac.specs.Fraction.{whole}
use Rattle.t1_frac.specs.declared.fault.Code.{Code}
use Rattle.t1_frac.specs.declared.fault.Code.TheVariants.{F20, F38}
use Rattle.t1_frac.specs.declared.fault.Place.TheVariants as places
use Rattle.t1_frac.specs.Outcome.{fault_at}
use Rattle.t1_parts.specs.declared.item.Item.{Item}
use Rattle.t1_parts.specs.declared.item.Item.TheVariants.{Plain, Subr, Glyph}
use Rattle.t1_code.specs.declared.command.Command.TheVariants.{Return}
use Rattle.t1_code.specs.Words.{operator_named, operator_words, number_of_word, command_of_word, commands}
use Rattle.t1_frac.specs.Numbers.{is_number_word}
use Rattle.t1_run.specs.Composite.{outline_within}
use Rattle.t1_run.specs.Run.{Drawing}
use Rattle.t1_run.specs.State.{origin}
use Rattle.t1_font.specs.Bodies.{bodies, bodies_check, words_check}
use Rattle.t1_font.specs.Glyphs.{glyph_names, glyphs_by}

-- two Subrs of a number, a glyph without a fault, one whose word is unknown, and another
abbrev items : List Item
items =
    Subr 5 (codes "return" ∷ []) []
    ∷ Plain (codes "line")
    ∷ Subr 5 (codes "pop" ∷ []) []
    ∷ Glyph (codes "A") (codes "endchar" ∷ []) []
    ∷ Glyph (codes "B") (codes "endcha" ∷ []) []
    ∷ Glyph (codes "C") (codes "-" ∷ []) []
    ∷ []

names_in_order : glyph_names items ≡ codes "A" ∷ codes "B" ∷ codes "C" ∷ []
names_in_order = refl

first_subr : (bodies items).subrs 5 ≡ Some (Return ∷ [])
unfolding operator_named operator_words is_number_word number_of_word command_of_word commands
first_subr = refl

no_body : (bodies items).glyphs (codes "B") ≡ None
unfolding operator_named operator_words is_number_word number_of_word command_of_word commands
no_body = refl

first_fault : bodies_check items ≡ Err (fault_at (places.Glyph (codes "B")) F20)
unfolding words_check operator_named operator_words is_number_word number_of_word command_of_word commands
first_fault = refl

-- a composite of A and A, which divides by zero
abbrev composite : Drawing
composite = record {
  width = origin;
  bearing = origin;
  segments = [];
  composite = Some (record { base = codes "A"; accent = codes "A"; asb = whole (pos 0); adx = whole (pos 0); ady = whole (pos 0) });
  entered = [];
  steps = 8;
}

abbrev run : List ℕ → Option (Result Drawing Code)
run name = if bytes_eq name (codes "A") then Some (Err F38) else Some (Ok composite)

-- the composite that stands first reports the fault of its part
fault_of_a_part : glyphs_by run (outline_within run 4) (codes "Aacute" ∷ codes "A" ∷ []) ≡ Err (fault_at (places.Glyph (codes "Aacute")) F38)
fault_of_a_part = refl

fault_of_its_own : glyphs_by run (outline_within run 4) (codes "A" ∷ codes "Aacute" ∷ []) ≡ Err (fault_at (places.Glyph (codes "A")) F38)
fault_of_its_own = refl
