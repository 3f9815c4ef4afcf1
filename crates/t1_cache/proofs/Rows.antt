-- Which glyphs of the demo font edits make stale.
use Rattle.std.proofs.Common.{◌≡◌, [], ◌∷◌, refl}
use Rattle.std.specs.Prelude.{codes}
use Rattle.std.specs.Fmt.{digits}
use Rattle.t1_frac.specs.Fraction.{gcd, lowest}
use Rattle.t1_frac.specs.Limits.{coordinate_sum, coordinate_difference}
use Rattle.t1_parts.specs.SourceParts.{SourceParts}
use Rattle.t1_parts.proofs.DemoRows.{demo_items}
use Rattle.t1_code.specs.Encoding.{standard_name, standard_names}
use Rattle.t1_code.specs.Words.{commands, command_of_word, operator_named, operator_words, number_of_word}
use Rattle.t1_frac.specs.Numbers.{is_number_word}
use Rattle.t1_run.specs.Run.{Subr, Glyph, own, body_stop}
use Rattle.t1_run.specs.Touched.{is_touched}
use Rattle.t1_cache.specs.Edited.{stale}

abbrev demo : SourceParts
demo = record { clear = []; items = demo_items; tail = [] }

-- Aacute stands on acute, which enters Subr 4
subr_4 : stale demo (Subr 4 ∷ []) demo ≡ codes "Aacute" ∷ codes "acute" ∷ []
unfolding is_touched digits own body_stop coordinate_sum coordinate_difference lowest gcd commands command_of_word operator_named operator_words is_number_word number_of_word standard_name standard_names
subr_4 = refl

-- Aacute stands on A
glyph_A : stale demo (Glyph (codes "A") ∷ []) demo ≡ codes "Aacute" ∷ codes "A" ∷ []
unfolding is_touched digits own body_stop coordinate_sum coordinate_difference lowest gcd commands command_of_word operator_named operator_words is_number_word number_of_word standard_name standard_names
glyph_A = refl

-- no glyph enters Subr 3
subr_3 : stale demo (Subr 3 ∷ []) demo ≡ []
unfolding is_touched digits own body_stop coordinate_sum coordinate_difference lowest gcd commands command_of_word operator_named operator_words is_number_word number_of_word standard_name standard_names
subr_3 = refl
