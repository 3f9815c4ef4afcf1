-- Worked rows of composites, computed by the definitions.
use Rattle.std.proofs.Common.{◌≡◌, ℕ, ◌++◌, List, [], ◌∷◌, map, refl, Option, Some, None, ℤ, pos}
use Rattle.std.specs.Prelude.{Result, Ok, Err, codes}
use Rattle.t1_frac.specs.Fraction.{whole, gcd, lowest, nearest_of}
use Rattle.t1_frac.specs.Limits.{coordinate_sum, coordinate_difference, quotient}
use Rattle.t1_frac.specs.declared.fault.Code.{Code}
use Rattle.t1_frac.specs.declared.fault.Code.TheVariants.{F38, F39, F40, F45, F46}
use Rattle.t1_code.specs.Encoding.{standard_name, standard_names}
use Rattle.t1_code.specs.Words.{commands, command_of_word, operator_named, operator_words, number_of_word}
use Rattle.t1_frac.specs.Numbers.{is_number_word}
use Rattle.t1_run.specs.declared.outline.Point.{Point}
use Rattle.t1_run.specs.declared.outline.Segment.{Segment}
use Rattle.t1_run.specs.declared.outline.Segment.TheVariants.{Line}
use Rattle.t1_run.specs.Composite.{accent_move, joined_outline, outline}
use Rattle.t1_run.specs.Footprint.{foot, outline_foot}
use Rattle.t1_run.specs.Run.{FontBodies, Subr, Glyph, own, body_stop}
use Rattle.t1_run.proofs.Rows.{font_of, demo_subrs, pt}

-- the demo font's letter and accent, and a composite of both with this body
abbrev pub with_composite : List ℕ → List ℕ → List ℕ → FontBodies
with_composite letter accent composite =
    font_of demo_subrs (
    (codes "Aacute", composite) ∷
    (codes "A", letter) ∷
    (codes "acute", accent) ∷
    (codes "dieresis", codes "93 333 hsbw 93 50 0 194 194 seac") ∷
    [])

abbrev pub letter : List ℕ
letter = codes "10 600 hsbw 300 hlineto 700 vlineto closepath endchar"

abbrev pub accent : List ℕ
accent = codes "93 333 hsbw 500 vmoveto 4 callsubr closepath endchar"

abbrev pub of_letter : List Segment
of_letter = Line (pt (pos 10) (pos 0)) (pt (pos 310) (pos 0)) ∷ Line (pt (pos 310) (pos 0)) (pt (pos 310) (pos 700)) ∷ []

-- the accent moves by 10 + 170 - 93 and by 214
moves : outline (with_composite letter accent (codes "10 600 hsbw 93 170 214 65 194 seac")) (codes "Aacute")
    ≡ Ok (of_letter ++ Line (pt (pos 180) (pos 714)) (pt (pos 280) (pos 892)) ∷ [])
unfolding own body_stop outline joined_outline coordinate_sum coordinate_difference quotient lowest gcd commands command_of_word operator_named operator_words is_number_word number_of_word standard_name standard_names
moves = refl

-- by a half, from an accent that stands at a quarter; the letter has two other lines
abbrev pub x_of : ℤ → ℕ → ℤ → Point
x_of n d y = record { x = record { num = n; den = d }; y = whole y }

moves_by_half : outline (with_composite
    (codes "10 600 hsbw 50 hlineto 700 vlineto endchar")
    (codes "93 333 hsbw 1 4 div 500 rmoveto 100 178 rlineto endchar")
    (codes "10 600 hsbw 93 341 2 div 214 65 194 seac")) (codes "Aacute")
    ≡ Ok (Line (pt (pos 10) (pos 0)) (pt (pos 60) (pos 0)) ∷ Line (pt (pos 60) (pos 0)) (pt (pos 60) (pos 700))
    ∷ Line (x_of (pos 723) 4 (pos 714)) (x_of (pos 1123) 4 (pos 892)) ∷ [])
unfolding own body_stop outline joined_outline coordinate_sum coordinate_difference quotient lowest gcd commands command_of_word operator_named operator_words is_number_word number_of_word standard_name standard_names
moves_by_half = refl

half_nearest : nearest_of (record { num = pos 175; den = 2 }) ≡ pos 88
half_nearest = refl

-- a composite draws what it drew before its seac, too
draws_itself : outline (with_composite letter accent (codes "10 600 hsbw 5 hlineto 93 170 214 65 194 seac")) (codes "Aacute")
    ≡ Ok (Line (pt (pos 10) (pos 0)) (pt (pos 15) (pos 0)) ∷ (of_letter ++ Line (pt (pos 180) (pos 714)) (pt (pos 280) (pos 892)) ∷ []))
unfolding own body_stop outline joined_outline coordinate_sum coordinate_difference quotient lowest gcd commands command_of_word operator_named operator_words is_number_word number_of_word standard_name standard_names
draws_itself = refl

-- an accent that is a composite itself
accent_on_accent : outline (with_composite letter accent (codes "10 600 hsbw 93 170 214 65 200 seac")) (codes "Aacute")
    ≡ Ok (of_letter ++ Line (pt (pos 180) (pos 714)) (pt (pos 280) (pos 892)) ∷ Line (pt (pos 230) (pos 714)) (pt (pos 330) (pos 892)) ∷ [])
unfolding own body_stop outline joined_outline coordinate_sum coordinate_difference quotient lowest gcd commands command_of_word operator_named operator_words is_number_word number_of_word standard_name standard_names
accent_on_accent = refl

composite_foot : foot (with_composite letter accent (codes "10 600 hsbw 93 170 214 65 200 seac")) (codes "Aacute")
    ≡ Glyph (codes "Aacute") ∷ Glyph (codes "A") ∷ Glyph (codes "dieresis") ∷ []
unfolding own body_stop outline joined_outline coordinate_sum coordinate_difference quotient lowest gcd commands command_of_word operator_named operator_words is_number_word number_of_word standard_name standard_names foot
composite_foot = refl

-- the outline depends on the accent's parts, and on the Subr that they enter
composite_outline_foot : outline_foot (with_composite letter accent (codes "10 600 hsbw 93 170 214 65 200 seac")) (codes "Aacute")
    ≡ Glyph (codes "Aacute") ∷ Glyph (codes "A") ∷ Glyph (codes "dieresis")
    ∷ Glyph (codes "A")
    ∷ Glyph (codes "dieresis") ∷ Glyph (codes "acute") ∷ Glyph (codes "acute")
    ∷ Glyph (codes "acute") ∷ Subr 4 ∷ Glyph (codes "acute") ∷ Subr 4 ∷ []
unfolding own body_stop outline joined_outline coordinate_sum coordinate_difference quotient lowest gcd commands command_of_word operator_named operator_words is_number_word number_of_word standard_name standard_names foot outline_foot
composite_outline_foot = refl

-- ---- faults

abbrev pub fault_of : Result (List Segment) Code → Option Code
fault_of (Ok segments) = None
fault_of (Err code) = Some code

-- the base's fault comes before the accent's, and both before the sums
faults : map (λ m. fault_of (outline m (codes "Aacute"))) (
    with_composite (codes "1 0 div endchar") (codes "0 333 hsbw") (codes "10 600 hsbw 93 170 214 65 194 seac") ∷
    with_composite letter (codes "1 0 div endchar") (codes "10 600 hsbw 93 170 214 65 194 seac") ∷
    with_composite letter accent (codes "1 0 div 93 170 214 65 194 seac") ∷
    with_composite letter accent (codes "10 600 hsbw 93 170 214 65 194 seac") ∷
    with_composite letter accent (codes "10 600 hsbw 93 170 214 65 193 seac") ∷
    with_composite letter accent (codes "10 600 hsbw 0 1 3 div 0 65 194 seac") ∷
    with_composite letter (codes "93 333 hsbw 1 1048573 div hmoveto 1 hlineto endchar") (codes "10 600 hsbw 0 1 3 div 0 65 194 seac") ∷
    with_composite letter (codes "32000 333 hsbw 32000 hmoveto 32000 hmoveto 32000 hmoveto 32000 hmoveto 32000 hmoveto 32000 hmoveto 32000 hmoveto 32000 hmoveto 32000 hmoveto 32000 hmoveto 32000 hmoveto 32000 hmoveto 32000 hmoveto 32000 hmoveto 32000 hmoveto 32000 hmoveto 32000 hmoveto 32000 hmoveto 32000 hmoveto 32000 hmoveto 32000 hmoveto 32000 hmoveto 32000 hmoveto 32000 hmoveto 32000 hmoveto 32000 hmoveto 32000 hmoveto 32000 hmoveto 32000 hmoveto 32000 hmoveto 32000 hmoveto 24576 hlineto endchar") (codes "0 600 hsbw 0 1 0 65 194 seac") ∷
    [])
    ≡ Some F38 ∷ Some F38 ∷ Some F38 ∷ None ∷ Some F45 ∷ None ∷ Some F39 ∷ Some F40 ∷ []
unfolding own body_stop outline joined_outline coordinate_sum coordinate_difference quotient lowest gcd commands command_of_word operator_named operator_words is_number_word number_of_word standard_name standard_names
faults = refl

-- past 1,048,576, and a denominator past it
move_faults : map (λ r. r) (
    accent_move (pt (pos 1048576) (pos 0)) (record { base = []; accent = []; asb = whole (pos 1); adx = whole (pos 1); ady = whole (pos 0) }) ∷
    accent_move (record { x = record { num = pos 1; den = 1048573 }; y = whole (pos 0) })
    (record { base = []; accent = []; asb = whole (pos 0); adx = record { num = pos 1; den = 3 }; ady = whole (pos 0) }) ∷
    [])
    ≡ Err F40 ∷ Err F39 ∷ []
unfolding own body_stop outline joined_outline coordinate_sum coordinate_difference quotient lowest gcd commands command_of_word operator_named operator_words is_number_word number_of_word standard_name standard_names
move_faults = refl

-- ---- levels

-- a on space, b on a, and so on; four composites may nest
abbrev pub tower : List ℕ → FontBodies
tower space = font_of [] (
    (codes "space", space) ∷
    (codes "a", codes "0 100 hsbw 0 0 0 32 32 seac") ∷
    (codes "b", codes "0 100 hsbw 0 0 0 97 32 seac") ∷
    (codes "c", codes "0 100 hsbw 0 0 0 98 32 seac") ∷
    (codes "d", codes "0 100 hsbw 0 0 0 99 32 seac") ∷
    (codes "e", codes "0 100 hsbw 0 0 0 100 32 seac") ∷
    [])

levels : map (λ g. fault_of (outline (tower (codes "0 250 hsbw endchar")) g)) (codes "a" ∷ codes "d" ∷ codes "e" ∷ []) ≡ None ∷ None ∷ Some F46 ∷ []
unfolding own body_stop outline joined_outline coordinate_sum coordinate_difference quotient lowest gcd commands command_of_word operator_named operator_words is_number_word number_of_word standard_name standard_names
levels = refl

-- a glyph that reaches itself
reaches_itself : map (λ g. fault_of (outline (tower (codes "0 250 hsbw 0 0 0 97 97 seac")) g)) (codes "space" ∷ codes "a" ∷ []) ≡ Some F46 ∷ Some F46 ∷ []
unfolding own body_stop outline joined_outline coordinate_sum coordinate_difference quotient lowest gcd commands command_of_word operator_named operator_words is_number_word number_of_word standard_name standard_names
reaches_itself = refl

stands_on_itself : fault_of (outline (tower (codes "0 250 hsbw 0 0 0 32 32 seac")) (codes "space")) ≡ Some F46
unfolding own body_stop outline joined_outline coordinate_sum coordinate_difference quotient lowest gcd commands command_of_word operator_named operator_words is_number_word number_of_word standard_name standard_names
stands_on_itself = refl
