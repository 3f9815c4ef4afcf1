-- Lines, written one after another.
use Rattle.std.proofs.Common.{◌≡◌, ℕ, ◌+◌, ◌<◌, List, [], ◌∷◌, ◌++◌, length, take, drop, get_or, drop-cons, add-one, refl, ℤ, pos, negsuc, zero, suc, ◌≢◌, sym, ap, ◌∙◌}
use Rattle.std.specs.Prelude.{codes, flat_map}
use Rattle.std.proofs.lemmas.Grind.{flat_map-append}
use Rattle.std.proofs.lemmas.List.{drop-drop, take-append-drop}
use mir.Syntax.{w64}
use mir.Val.{of_z}
use Rattle.std.specs.Fmt.{signed_decimal}
use Rattle.t1_afm.specs.declared.line.Word.{Word}
use Rattle.t1_afm.specs.declared.line.Word.TheVariants.{Text}
use Rattle.t1_afm.specs.Afm.{rest_text, width_words}
use Rattle.t1_afm.specs.Lines.{word_text, line_words}

abbrev pub no_word : Word
no_word = Text (record { ref_ptr = (0, 0); now = [] })

-- the words that are left begin with a space, a word, and those after it
pub rest_is : (ws : List Word) (i : ℕ) → i < length ws
    → rest_text (line_words (drop i ws)) ≡ (32 ∷ []) ++ (word_text (get_or ws i no_word) ++ rest_text (line_words (drop (i + 1) ws)))
rest_is ws i inside = rw (add-one, drop-cons ws i no_word) refl

-- the text of the parts that are left begins with that of a part
pub parts_are : {P : Type 0} (text : P → List ℕ) (ps : List P) (i : ℕ) (part : P) → i < length ps → part ≡ get_or ps i part
    → flat_map text (drop i ps) ≡ text part ++ flat_map text (drop (i + 1) ps)
parts_are text ps i part inside is = rw (add-one, drop-cons ps i part) (ap (λ p. text p ++ flat_map text (drop (suc i) ps)) (sym is))

-- the text of what is left begins with that of its first elements
pub lines_cut : {X : Type 0} (text : X → List ℕ) (xs rest : List X) (at count : ℕ) → rest ≡ drop at xs
    → flat_map text (drop at xs) ≡ flat_map text (take count rest) ++ flat_map text (drop (at + count) xs)
lines_cut text xs rest at count is =
    ap (flat_map text) (sym (take-append-drop count (drop at xs)))
    ∙ flat_map-append text (take count (drop at xs)) (drop count (drop at xs))
    ∙ ap (λ l. flat_map text (take count l) ++ flat_map text (drop count (drop at xs))) (sym is)
    ∙ ap (λ l. flat_map text (take count rest) ++ flat_map text l) (drop-drop count at xs)

-- the code tests the number's 64 bits
pub width_both : (wx wy : ℤ) → of_z w64 wy ≢ 0 → width_words wx wy ≡ codes "W" ∷ signed_decimal wx ∷ signed_decimal wy ∷ []
width_both wx (pos zero) h = absurd (h refl)
width_both wx (pos (suc n)) h = refl
width_both wx (negsuc n) h = refl
