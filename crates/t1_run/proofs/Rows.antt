-- Worked rows of runs, computed by the definitions from the words of the bodies.
use Rattle.std.proofs.Common.{◌≡◌, ℕ, ◌++◌, List, [], ◌∷◌, map, refl, Option, Some, None, ℤ, pos, negsuc}
use Rattle.std.specs.Prelude.{Result, Ok, Err, codes, nat_eq, flat_map, replicate}
use Rattle.std.specs.Map.{lookup}
use Rattle.std.specs.Option.{option_map}
use Rattle.std.specs.Str.{bytes_eq}
use Rattle.t1_frac.specs.Fraction.{whole, gcd, lowest}
use Rattle.t1_frac.specs.Limits.{coordinate_sum, quotient}
use Rattle.t1_frac.specs.Words.{words}
use Rattle.t1_frac.specs.declared.fault.Code.{Code}
use Rattle.t1_frac.specs.declared.fault.Code.TheVariants.{F30, F31, F32, F33, F34, F35, F36, F37, F38, F39, F40, F41, F42, F43, F44, F45, F48}
use Rattle.t1_code.specs.Encoding.{standard_name, standard_names}
use Rattle.t1_code.specs.Words.{commands, command_of_word, operator_named, operator_words, number_of_word}
use Rattle.t1_frac.specs.Numbers.{is_number_word}
use Rattle.t1_code.specs.declared.command.Command.{Command}
use Rattle.t1_run.specs.declared.outline.Point.{Point}
use Rattle.t1_run.specs.declared.outline.Segment.{Segment}
use Rattle.t1_run.specs.declared.outline.Segment.TheVariants.{Line, Curve}
use Rattle.t1_run.specs.Footprint.{foot}
use Rattle.t1_run.specs.Run.{FontBodies, Drawing, Subr, Glyph, own, body_stop}

-- ---- fonts by the texts of their bodies

-- the commands of a text whose words all compile
abbrev pub compiled : Result (List Command) Code → List Command
compiled (Ok cs) = cs
compiled (Err code) = []

abbrev pub body : List ℕ → List Command
body text = compiled (commands (words text))

abbrev pub font_of : List (ℕ × List ℕ) → List (List ℕ × List ℕ) → FontBodies
font_of subrs glyphs = record {
  subrs = λ n. option_map body (lookup (nat_eq n) subrs);
  glyphs = λ g. option_map body (lookup (bytes_eq g) glyphs);
}

-- a font of the glyph space alone
abbrev pub small : List ℕ → FontBodies
small text = font_of [] ((codes "space", text) ∷ [])

-- the Subrs of the demo font: three for flex, one for hint replacement, and a line
abbrev pub demo_subrs : List (ℕ × List ℕ)
demo_subrs =
    (0, codes "3 0 callothersubr pop pop setcurrentpoint return") ∷
    (1, codes "0 1 callothersubr return") ∷
    (2, codes "0 2 callothersubr return") ∷
    (3, codes "return") ∷
    (4, codes "100 178 rlineto return") ∷
    []

abbrev pub demo : List ℕ → FontBodies
demo text = font_of demo_subrs ((codes "V", text) ∷ [])

-- ---- what is looked at

abbrev pub fault_of : Option (Result Drawing Code) → Option Code
fault_of (Some (Err code)) = Some code
fault_of _ = None

abbrev pub segments_of : Option (Result Drawing Code) → List Segment
segments_of (Some (Ok d)) = d.segments
segments_of _ = []

abbrev pub entered_of : Option (Result Drawing Code) → List ℕ
entered_of (Some (Ok d)) = d.entered
entered_of _ = []

abbrev pub pt : ℤ → ℤ → Point
pt x y = record { x = whole x; y = whole y }

-- the fault of the glyph space with this body, if it has one
abbrev pub fault_with : List ℕ → Option Code
fault_with text = fault_of (own (small text) (codes "space"))

-- ---- rows

lines : map (λ text. segments_of (own (small text) (codes "space"))) (
    codes "0 250 hsbw 10 hlineto closepath 5 vlineto endchar" ∷
    codes "0 250 hsbw 5 10 20 rlineto endchar" ∷
    codes "0 250 hsbw 7 1 3 callothersubr pop hlineto endchar" ∷
    [])
    ≡ (Line (pt (pos 0) (pos 0)) (pt (pos 10) (pos 0)) ∷ Line (pt (pos 10) (pos 0)) (pt (pos 10) (pos 5)) ∷ [])
    ∷ (Line (pt (pos 0) (pos 0)) (pt (pos 10) (pos 20)) ∷ [])
    ∷ (Line (pt (pos 0) (pos 0)) (pt (pos 7) (pos 0)) ∷ [])
    ∷ []
unfolding own body_stop coordinate_sum lowest gcd commands command_of_word operator_named operator_words is_number_word number_of_word
lines = refl

-- 2/3 and 1/3 are 1
thirds : segments_of (own (small (codes "0 250 hsbw 4 6 div hmoveto 1 3 div hlineto endchar")) (codes "space"))
    ≡ Line (record { x = record { num = pos 2; den = 3 }; y = whole (pos 0) }) (pt (pos 1) (pos 0)) ∷ []
unfolding own body_stop coordinate_sum quotient lowest gcd commands command_of_word operator_named operator_words is_number_word number_of_word
thirds = refl

-- the width is a fraction, and sbw sets it in both directions
abbrev pub width_of : Option (Result Drawing Code) → Option Point
width_of (Some (Ok d)) = Some d.width
width_of _ = None

widths : map (λ text. width_of (own (small text) (codes "space"))) (codes "0 1001 2 div hsbw endchar" ∷ codes "0 0 500 20 sbw endchar" ∷ [])
    ≡ Some (record { x = record { num = pos 1001; den = 2 }; y = whole (pos 0) }) ∷ Some (pt (pos 500) (pos 20)) ∷ []
unfolding own body_stop coordinate_sum quotient lowest gcd commands command_of_word operator_named operator_words is_number_word number_of_word
widths = refl

-- each code of refusal
refusals : map fault_with (
    codes "endchar" ∷
    codes "0 250 hsbw 0 250 hsbw endchar" ∷
    codes "0 250 hsbw" ∷
    codes "250 hsbw endchar" ∷
    codes "0 250 hsbw return" ∷
    codes "0 250 hsbw 5 callsubr endchar" ∷
    codes "0 250 hsbw pop endchar" ∷
    codes "0 250 hsbw 32001 hmoveto endchar" ∷
    codes "0 250 hsbw 1 0 div hmoveto endchar" ∷
    codes "0 250 hsbw 1 2000000 div hmoveto endchar" ∷
    codes "0 250 hsbw 1 2 div callsubr endchar" ∷
    codes "0 250 hsbw 0 7 callothersubr endchar" ∷
    codes "0 250 hsbw 0 2 callothersubr endchar" ∷
    codes "0 250 hsbw 0 0 0 1 32 seac" ∷
    codes "0 250 hsbw 0 0 0 65 65 seac" ∷
    [])
    ≡ Some F36 ∷ Some F36 ∷ Some F35 ∷ Some F30 ∷ Some F34 ∷ Some F32 ∷ Some F43 ∷ Some F37 ∷ Some F38 ∷ Some F39 ∷ Some F48 ∷ Some F42 ∷ Some F41 ∷ Some F44 ∷ Some F45 ∷ []
unfolding own body_stop coordinate_sum quotient lowest gcd commands command_of_word operator_named operator_words is_number_word number_of_word standard_name standard_names
refusals = refl

-- operands are looked at from the lowest, but callothersubr's number before its count and its count before its arguments
orders : map fault_with (
    codes "1 2 div 32001 0 1 2 div 32001 seac" ∷
    codes "0 250 hsbw 32001 0 0 1 2 div 65 seac" ∷
    codes "0 250 hsbw 0 0 0 1 2 div 32001 seac" ∷
    codes "0 250 hsbw 0 0 0 32001 1 2 div seac" ∷
    codes "0 250 hsbw 1 2 div 32001 callothersubr endchar" ∷
    codes "0 250 hsbw 32001 1 2 div callothersubr endchar" ∷
    codes "0 250 hsbw 23 12 callothersubr endchar" ∷
    codes "0 250 hsbw 22 12 callothersubr endchar" ∷
    codes "0 250 hsbw 32001 0 0 3 0 callothersubr endchar" ∷
    codes "0 250 hsbw 0 1 callothersubr 32001 hlineto endchar" ∷
    codes "0 250 hsbw 0 1 callothersubr 1 hlineto endchar" ∷
    [])
    ≡ Some F36 ∷ Some F37 ∷ Some F48 ∷ Some F37 ∷ Some F37 ∷ Some F48 ∷ Some F42 ∷ Some F30 ∷ Some F37 ∷ Some F37 ∷ Some F41 ∷ []
unfolding own body_stop coordinate_sum quotient lowest gcd commands command_of_word operator_named operator_words is_number_word number_of_word standard_name standard_names
orders = refl

-- so many times the same words
abbrev pub times : ℕ → List ℕ → List ℕ
times n text = flat_map (λ t. t ++ codes " ") (replicate n text)

-- the last value that is taken, and the first that isn't
edges : map fault_with (
    (times 22 (codes "0") ++ codes "0 250 hsbw endchar") ∷
    (times 23 (codes "0") ++ codes "0 250 hsbw endchar") ∷
    (codes "0 250 hsbw " ++ times 32 (codes "32000 hmoveto") ++ codes "24576 hmoveto endchar") ∷
    (codes "0 250 hsbw " ++ times 32 (codes "32000 hmoveto") ++ codes "24577 hmoveto endchar") ∷
    codes "0 250 hsbw 1 1048576 div hmoveto endchar" ∷
    codes "0 250 hsbw 1 1048577 div hmoveto endchar" ∷
    codes "0 250 hsbw -2147483648 1 div 100000 div hmoveto endchar" ∷
    codes "0 250 hsbw 2147483647 1 2 div div hmoveto endchar" ∷
    (codes "0 250 hsbw " ++ times 22 (codes "0") ++ codes "22 12 callothersubr endchar") ∷
    [])
    ≡ None ∷ Some F31 ∷ None ∷ Some F40 ∷ None ∷ Some F39 ∷ None ∷ Some F37 ∷ None ∷ []
unfolding own body_stop coordinate_sum quotient lowest gcd commands command_of_word operator_named operator_words is_number_word number_of_word
edges = refl

-- ---- flex

abbrev pub flex_start : List ℕ
flex_start =
    codes "0 500 hsbw 1 callsubr 50 0 rmoveto 2 callsubr -30 0 rmoveto 2 callsubr 15 -10 rmoveto 2 callsubr 15 0 rmoveto 2 callsubr 15 0 rmoveto 2 callsubr 15 10 rmoveto 2 callsubr "

abbrev pub flex_curves : List Segment
flex_curves =
    Curve (pt (pos 0) (pos 0)) (pt (pos 20) (pos 0)) (pt (pos 35) (negsuc 9)) (pt (pos 50) (negsuc 9))
    ∷ Curve (pt (pos 50) (negsuc 9)) (pt (pos 65) (negsuc 9)) (pt (pos 80) (pos 0)) (pt (pos 100) (pos 0)) ∷ []

-- seven points are recorded; the curves end at the seventh, and setcurrentpoint goes where the results say
flex : map (λ last. segments_of (own (demo (flex_start ++ last)) (codes "V"))) (
    codes "20 0 rmoveto 2 callsubr 50 100 0 0 callsubr endchar" ∷
    codes "20 0 rmoveto 2 callsubr 50 100 5 0 callsubr endchar" ∷
    codes "20 0 rmoveto 2 callsubr 50 100 5 0 callsubr 10 hlineto endchar" ∷
    [])
    ≡ flex_curves ∷ flex_curves ∷ (flex_curves ++ Line (pt (pos 100) (pos 5)) (pt (pos 110) (pos 5)) ∷ []) ∷ []
unfolding own body_stop coordinate_sum quotient lowest gcd commands command_of_word operator_named operator_words is_number_word number_of_word
flex = refl

flex_faults : map (λ text. fault_of (own (demo text) (codes "V"))) (
    (flex_start ++ codes "50 100 0 0 callsubr endchar") ∷
    (flex_start ++ codes "20 0 rmoveto 2 callsubr 0 0 rmoveto 2 callsubr endchar") ∷
    codes "0 500 hsbw 1 callsubr 1 callsubr endchar" ∷
    codes "0 500 hsbw 2 callsubr endchar" ∷
    codes "0 500 hsbw 50 100 0 0 callsubr endchar" ∷
    codes "0 500 hsbw 1 callsubr endchar" ∷
    [])
    ≡ Some F41 ∷ Some F41 ∷ Some F41 ∷ Some F41 ∷ Some F41 ∷ Some F41 ∷ []
unfolding own body_stop coordinate_sum quotient lowest gcd commands command_of_word operator_named operator_words is_number_word number_of_word
flex_faults = refl

flex_entered : entered_of (own (demo (flex_start ++ codes "20 0 rmoveto 2 callsubr 50 100 0 0 callsubr endchar")) (codes "V")) ≡ 0 ∷ 1 ∷ 2 ∷ []
unfolding own body_stop coordinate_sum quotient lowest gcd commands command_of_word operator_named operator_words is_number_word number_of_word
flex_entered = refl

-- ---- Subr numbers that are computed

-- by othersubr 3 and pop, and by div
computed : map (λ text. segments_of (own (demo text) (codes "V"))) (
    codes "10 600 hsbw 4 1 3 callothersubr pop callsubr endchar" ∷
    codes "15 722 hsbw 8 2 div callsubr endchar" ∷
    [])
    ≡ (Line (pt (pos 10) (pos 0)) (pt (pos 110) (pos 178)) ∷ [])
    ∷ (Line (pt (pos 15) (pos 0)) (pt (pos 115) (pos 178)) ∷ [])
    ∷ []
unfolding own body_stop coordinate_sum quotient lowest gcd commands command_of_word operator_named operator_words is_number_word number_of_word
computed = refl

computed_foot : foot (demo (codes "10 600 hsbw 4 1 3 callothersubr pop callsubr endchar")) (codes "V") ≡ Glyph (codes "V") ∷ Subr 4 ∷ []
unfolding own body_stop coordinate_sum quotient lowest gcd commands command_of_word operator_named operator_words is_number_word number_of_word foot
computed_foot = refl

-- a Subr that is missing is asked for too
missing_foot : foot (demo (codes "10 600 hsbw 40 callsubr endchar")) (codes "V") ≡ Glyph (codes "V") ∷ Subr 40 ∷ []
unfolding own body_stop coordinate_sum quotient lowest gcd commands command_of_word operator_named operator_words is_number_word number_of_word foot
missing_foot = refl

-- ---- nesting

-- Subrs 5 to 14, each calling the next; the last draws a line
abbrev pub nested : List (ℕ × List ℕ)
nested =
    (14, codes "10 hlineto return") ∷ (13, codes "14 callsubr return") ∷ (12, codes "13 callsubr return") ∷ (11, codes "12 callsubr return")
    ∷ (10, codes "11 callsubr return") ∷ (9, codes "10 callsubr return") ∷ (8, codes "9 callsubr return") ∷ (7, codes "8 callsubr return")
    ∷ (6, codes "7 callsubr return") ∷ (5, codes "6 callsubr return") ∷ (15, codes "5 callsubr return") ∷ []

-- ten may be active, and the eleventh is refused
nesting : map (λ text. fault_of (own (font_of nested ((codes "V", text) ∷ [])) (codes "V"))) (
    codes "15 722 hsbw 5 callsubr endchar" ∷
    codes "15 722 hsbw 15 callsubr endchar" ∷
    [])
    ≡ None ∷ Some F33 ∷ []
unfolding own body_stop coordinate_sum quotient lowest gcd commands command_of_word operator_named operator_words is_number_word number_of_word
nesting = refl

nested_entered : entered_of (own (font_of nested ((codes "V", codes "15 722 hsbw 5 callsubr endchar") ∷ [])) (codes "V"))
    ≡ 5 ∷ 6 ∷ 7 ∷ 8 ∷ 9 ∷ 10 ∷ 11 ∷ 12 ∷ 13 ∷ 14 ∷ []
unfolding own body_stop coordinate_sum quotient lowest gcd commands command_of_word operator_named operator_words is_number_word number_of_word
nested_entered = refl
