-- The usage table of the demo font.
use Rattle.std.proofs.Common.{◌≡◌, [], ◌∷◌, map, refl, Ok}
use Rattle.std.specs.Prelude.{codes}
use Rattle.std.specs.Fmt.{digits}
use Rattle.t1_frac.specs.Fraction.{gcd, lowest}
use Rattle.t1_frac.specs.Limits.{coordinate_sum, coordinate_difference}
use Rattle.t1_frac.specs.Outcome.{◌>>=◌}
use Rattle.t1_text.specs.Lines.{joined}
use Rattle.t1_parts.proofs.DemoRows.{demo_items}
use Rattle.t1_code.specs.Encoding.{standard_name, standard_names}
use Rattle.t1_code.specs.Words.{commands, command_of_word, operator_named, operator_words, number_of_word}
use Rattle.t1_frac.specs.Numbers.{is_number_word}
use Rattle.t1_run.specs.Composite.{outline, joined_outline}
use Rattle.t1_run.specs.Run.{own, body_stop}
use Rattle.t1_font.specs.Bodies.{bodies}
use Rattle.t1_font.specs.Glyphs.{glyphs, glyph_names}
use Rattle.t1_font.specs.MeasuredGlyphs.{glyph_metrics}
use Rattle.t1_font.specs.Usage.{usage_table}

pub demo_usage : (glyphs (bodies demo_items) (glyph_names demo_items) >>= λ found. Ok (usage_table (map glyph_metrics found))) ≡ Ok (joined (
    codes "U .notdef ;" ∷
    codes "U Aacute ; P A ; P acute ;" ∷
    codes "U A ;" ∷
    codes "U acute ; S 4 ;" ∷
    codes "U V ;" ∷
    codes "U space ;" ∷ []))
unfolding digits own body_stop outline joined_outline coordinate_sum coordinate_difference lowest gcd commands command_of_word operator_named operator_words is_number_word number_of_word standard_name standard_names
demo_usage = refl
