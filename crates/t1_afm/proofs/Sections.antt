-- The text of each section, in the parts that are put one after another.
use Rattle.std.proofs.Common.{◌≡◌, ℕ, Bool, false, ◌==◌, List, [], ◌∷◌, ◌++◌, length, map, refl, sym, ap, ◌∙◌, append_assoc, append-nil}
use Rattle.std.specs.Prelude.{flat_map, codes, decimal}
use Rattle.std.proofs.lemmas.List.{length-map}
use Rattle.std.proofs.lemmas.Grind.{flat_map-append}
use Rattle.std.proofs.lemmas.List.Folds.{flat_map-map}
use Rattle.t1_afm.specs.declared.bbox.BBox.{BBox}
use Rattle.t1_afm.specs.declared.metrics.Header.{Header}
use Rattle.t1_afm.specs.declared.metrics.CharMetric.{CharMetric}
use Rattle.t1_afm.specs.declared.metrics.KernPair.{KernPair}
use Rattle.t1_afm.specs.declared.metrics.CompositeMetric.{CompositeMetric}
use Rattle.t1_afm.specs.declared.part.Value.{Value}
use Rattle.t1_afm.specs.Afm.{Line, line_text, lines_text, value_line, value_lines, header_lines, heights, sides, scheme, values_before_box, values_after_box, section, char_line, pair_line, composite_line, kerning_lines, composite_lines, FontMetrics, afm}
use Rattle.t1_afm.specs.Lines.{value_bytes, values_of}

-- values, put as parts
pub values_are : (vs : List Value) → flat_map (λ v. lines_text (value_line (value_bytes v))) vs ≡ lines_text (value_lines (values_of vs))
values_are [] = refl
values_are (v ∷ vs) =
    ap (λ t. lines_text (value_line (value_bytes v)) ++ t) (values_are vs) ∙ sym (flat_map-append line_text (value_line (value_bytes v)) (value_lines (values_of vs)))

last_line : (ls : List Line) (end : Line) → lines_text (ls ++ end ∷ []) ≡ lines_text ls ++ line_text end
last_line ls end = flat_map-append line_text ls (end ∷ []) ∙ ap (λ t. lines_text ls ++ t) (append-nil (line_text end))

-- the texts of a section's three parts
abbrev pub section_text : {X : Type 0} → (X → Line) → List ℕ → List ℕ → List X → List ℕ
section_text line start end xs = line_text (start ∷ decimal (length xs) ∷ []) ++ (flat_map (λ x. line_text (line x)) xs ++ line_text (end ∷ []))

section_is : {X : Type 0} (line : X → Line) (start end : List ℕ) (xs : List X) → lines_text (section start end (map line xs)) ≡ section_text line start end xs
section_is line start end xs =
    ap (λ n. line_text (start ∷ decimal n ∷ []) ++ lines_text (map line xs ++ (end ∷ []) ∷ [])) (length-map xs line)
    ∙ ap (λ t. line_text (start ∷ decimal (length xs) ∷ []) ++ t)
    (last_line (map line xs) (end ∷ []) ∙ ap (λ t. t ++ line_text (end ∷ [])) (flat_map-map line_text line xs))

abbrev pub start_line : List ℕ
start_line = line_text (codes "StartFontMetrics" ∷ codes "4.1" ∷ [])

abbrev pub box_line : BBox → List ℕ
box_line b = line_text (codes "FontBBox" ∷ sides b)

abbrev pub scheme_line : Bool → List ℕ
scheme_line standard = line_text (codes "EncodingScheme" ∷ scheme standard ∷ [])

two_values : (v w : List Line) (b c : Line) → lines_text ((v ++ b ∷ w) ++ c ∷ []) ≡ lines_text v ++ (line_text b ++ (lines_text w ++ line_text c))
two_values v w b c =
    last_line (v ++ b ∷ w) c ∙ ap (λ t. t ++ line_text c) (flat_map-append line_text v (b ∷ w))
    ∙ append_assoc (lines_text v) (line_text b ++ lines_text w) (line_text c) ∙ ap (λ t. lines_text v ++ t) (append_assoc (line_text b) (lines_text w) (line_text c))

pub header_is : (h : Header) (standard : Bool) (b : BBox) → lines_text (header_lines h standard b)
    ≡ start_line ++ (lines_text (value_lines (values_before_box h)) ++ (box_line b ++ (lines_text (value_lines (values_after_box h)) ++ scheme_line standard)))
header_is h standard b =
    ap (λ t. start_line ++ t) (two_values (value_lines (values_before_box h)) (value_lines (values_after_box h)) (codes "FontBBox" ∷ sides b) (codes "EncodingScheme" ∷ scheme standard ∷ []))

pub glyphs_are : (cs : List CharMetric) → lines_text (value_lines (heights cs) ++ section (codes "StartCharMetrics") (codes "EndCharMetrics") (map char_line cs))
    ≡ lines_text (value_lines (heights cs)) ++ section_text char_line (codes "StartCharMetrics") (codes "EndCharMetrics") cs
glyphs_are cs =
    flat_map-append line_text (value_lines (heights cs)) (section (codes "StartCharMetrics") (codes "EndCharMetrics") (map char_line cs))
    ∙ ap (λ t. lines_text (value_lines (heights cs)) ++ t) (section_is char_line (codes "StartCharMetrics") (codes "EndCharMetrics") cs)

abbrev pub kerning_start : List ℕ
kerning_start = line_text (codes "StartKernData" ∷ [])

abbrev pub kerning_end : List ℕ
kerning_end = line_text (codes "EndKernData" ∷ [])

pub kerning_is : (ps : List KernPair) → (length ps == 0) ≡ false → lines_text (kerning_lines ps)
    ≡ kerning_start ++ (section_text pair_line (codes "StartKernPairs") (codes "EndKernPairs") ps ++ kerning_end)
kerning_is [] some = cc
kerning_is (p ∷ ps) some =
    ap (λ t. kerning_start ++ t)
    (last_line (section (codes "StartKernPairs") (codes "EndKernPairs") (map pair_line (p ∷ ps))) (codes "EndKernData" ∷ [])
    ∙ ap (λ t. t ++ kerning_end) (section_is pair_line (codes "StartKernPairs") (codes "EndKernPairs") (p ∷ ps)))

pub composites_are : (cs : List CompositeMetric) → (length cs == 0) ≡ false → lines_text (composite_lines cs) ≡ section_text composite_line (codes "StartComposites") (codes "EndComposites") cs
composites_are [] some = cc
composites_are (c ∷ cs) some = section_is composite_line (codes "StartComposites") (codes "EndComposites") (c ∷ cs)

abbrev pub end_line : List ℕ
end_line = line_text (codes "EndFontMetrics" ∷ [])

file_parts : (h v s k c : List Line) (e : Line) → lines_text (h ++ v ++ s ++ k ++ c ++ e ∷ []) ≡ lines_text h ++ (lines_text (v ++ s) ++ (lines_text k ++ (lines_text c ++ line_text e)))
file_parts h v s k c e =
    let texts : lines_text (h ++ v ++ s ++ k ++ c ++ e ∷ []) ≡ lines_text (h ++ v ++ s ++ k ++ c) ++ line_text e = last_line (h ++ v ++ s ++ k ++ c) e in
    texts ∙ simp (flat_map-append line_text, append_assoc)

abbrev pub glyphs_text : List CharMetric → List ℕ
glyphs_text cs = lines_text (value_lines (heights cs) ++ section (codes "StartCharMetrics") (codes "EndCharMetrics") (map char_line cs))

pub file_is : (m : FontMetrics) → afm m
    ≡ lines_text (header_lines m.header m.standard m.font_box)
    ++ (glyphs_text m.chars ++ (lines_text (kerning_lines m.pairs) ++ (lines_text (composite_lines m.composites) ++ end_line)))
unfolding afm
file_is m =
    file_parts (header_lines m.header m.standard m.font_box) (value_lines (heights m.chars)) (section (codes "StartCharMetrics") (codes "EndCharMetrics") (map char_line m.chars))
    (kerning_lines m.pairs) (composite_lines m.composites) (codes "EndFontMetrics" ∷ [])
