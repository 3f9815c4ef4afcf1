-- The words of commands in the order of the code's table.
use Rattle.std.proofs.Common.{◌≡◌, ◌<◌, length, arith, ℕ, Bool, true, false, None, List, [], ◌∷◌, take, drop, Option, Some, MatchOption, filter, refl, sym, ap, ◌∙◌, inl, inr}
use Rattle.std.proofs.lemmas.Bool.{cases_Bool, and_parts}
use Rattle.std.specs.List.{list_all, position_or_len, AllByRecursion}
use Rattle.std.specs.Borrow.{Bor}
use Rattle.std.proofs.lemmas.Slice.Eq.{bytes_eq-Decides}
use Rattle.std.proofs.Math.Numerals.{one-add}
use Rattle.t1_frac.specs.Words.{is_blank}
use Rattle.std.specs.Map.{lookup}
use Rattle.std.specs.Prelude.{codes}
use Rattle.std.specs.Str.{bytes_eq}
use Rattle.t1_code.specs.declared.command.Command.{Command}
use Rattle.t1_code.specs.declared.command.Command.TheVariants.{RRCurveTo, RLineTo, HLineTo, VLineTo, VHCurveTo, HVCurveTo, RMoveTo, HMoveTo, VMoveTo, ClosePath, CallSubr, HStem, VStem, Hsbw, EndChar, Return, CallOtherSubr, Pop, Div, HStem3, VStem3, DotSection, SetCurrentPoint, Seac, Sbw}
use Rattle.t1_code.specs.Words.{operator_named, operator_words}
use Rattle.t1_code.specs.FoundCommands.{first_word}
use Rattle.t1_code.proofs.Tables.{StandIn, same_found}

-- those that draw stand first
abbrev pub drawing_first : List (List ℕ × Command)
drawing_first =
    (codes "closepath", ClosePath) ∷
    (codes "rrcurveto", RRCurveTo) ∷
    (codes "rmoveto", RMoveTo) ∷
    (codes "rlineto", RLineTo) ∷
    (codes "hlineto", HLineTo) ∷
    (codes "vlineto", VLineTo) ∷
    (codes "vhcurveto", VHCurveTo) ∷
    (codes "hvcurveto", HVCurveTo) ∷
    (codes "hmoveto", HMoveTo) ∷
    (codes "vmoveto", VMoveTo) ∷
    (codes "callsubr", CallSubr) ∷
    (codes "hstem", HStem) ∷
    (codes "vstem", VStem) ∷
    (codes "hsbw", Hsbw) ∷
    (codes "endchar", EndChar) ∷
    (codes "return", Return) ∷
    (codes "callothersubr", CallOtherSubr) ∷
    (codes "pop", Pop) ∷
    (codes "div", Div) ∷
    (codes "hstem3", HStem3) ∷
    (codes "vstem3", VStem3) ∷
    (codes "dotsection", DotSection) ∷
    (codes "setcurrentpoint", SetCurrentPoint) ∷
    (codes "seac", Seac) ∷
    (codes "sbw", Sbw) ∷
    []

in_definition : StandIn drawing_first operator_words
unfolding operator_words
in_definition = (refl, (refl, (refl, (refl, (refl, (refl, (refl, (refl, (refl, (refl, (refl, (refl, (refl, (refl, (refl, (refl, (refl, (refl, (refl, (refl, (refl, (refl, (refl, (refl, (refl, tt)))))))))))))))))))))))))

in_code : StandIn operator_words drawing_first
unfolding operator_words
in_code = (refl, (refl, (refl, (refl, (refl, (refl, (refl, (refl, (refl, (refl, (refl, (refl, (refl, (refl, (refl, (refl, (refl, (refl, (refl, (refl, (refl, (refl, (refl, (refl, (refl, tt)))))))))))))))))))))))))

-- a word names the same command in both orders
pub named_alike : (word : List ℕ) → lookup (bytes_eq word) drawing_first ≡ operator_named word
unfolding operator_named
named_alike word = same_found word drawing_first operator_words in_definition in_code

-- ---- the rows by the first bytes of their words

abbrev starts : (ℕ → Bool) → List ℕ → Bool
starts test [] = false
starts test (c ∷ rest) = test c

-- the rows whose words begin with a byte that passes the test
abbrev pub rows_of : (ℕ → Bool) → List (List ℕ × Command)
rows_of test = filter (λ row. starts test row.0) drawing_first

kept : (test : ℕ → Bool) (c : ℕ) (word : List ℕ) (table : List (List ℕ × Command)) → test c ≡ true
    → lookup (bytes_eq (c ∷ word)) (filter (λ row. starts test row.0) table) ≡ lookup (bytes_eq (c ∷ word)) table
kept test c word [] h = refl
kept test c word (row ∷ table) h = elim (cases_Bool (bytes_eq (c ∷ word) row.0)) [
  | inl e ↦ (let on : starts test row.0 ≡ true = sym (ap (starts test) ((bytes_eq-Decides (c ∷ word) row.0).0 e)) ∙ h in rw (on, e) refl)
  | inr e ↦ elim (cases_Bool (starts test row.0)) [
    | inl on ↦ rw (on, e) (kept test c word table h)
    | inr off ↦ rw (off, e) (kept test c word table h)
  ]
]

-- a word finds its command among those that begin as it does
pub named_among : (test : ℕ → Bool) (c : ℕ) (rest : List ℕ) → test c ≡ true → lookup (bytes_eq []) (rows_of test) ≡ None
    → lookup (bytes_eq (first_word (c ∷ rest))) (rows_of test) ≡ operator_named (first_word (c ∷ rest))
named_among test c rest h none = elim (cases_Bool (is_blank c)) [
  | inl blank ↦ rw blank (none ∙ named_alike [])
  | inr other ↦ rw (other, one-add) (kept test c (first_word rest) drawing_first h ∙ named_alike (c ∷ first_word rest))
]

-- and no word finds none
pub nothing_named : (text : List ℕ) → length text < 1 → operator_named (first_word text) ≡ None
unfolding operator_named operator_words
nothing_named [] h = refl
nothing_named (c ∷ text) h = absurd (omega (arith, h))

-- the first word of a text finds its command among those that begin as the text does
named_first : (test : ℕ → Bool) (text : List ℕ) → list_all test (take 1 text) ≡ true → lookup (bytes_eq []) (rows_of test) ≡ None
    → lookup (bytes_eq (first_word text)) (rows_of test) ≡ operator_named (first_word text)
named_first test [] h none = none ∙ named_alike []
named_first test (c ∷ rest) h none = named_among test c rest (and_parts (test c) true h).0 none

none_found : (word : List ℕ) (table : List (List ℕ × Command)) → AllByRecursion (λ row. bytes_eq word row.0 ≡ false) table → lookup (bytes_eq word) table ≡ None
none_found word [] all = refl
none_found word (row ∷ table) all = rw all.0 (none_found word table all.1)

-- a word that none of them is names no command
pub unnamed : (test : ℕ → Bool) (text : List ℕ) → list_all test (take 1 text) ≡ true → lookup (bytes_eq []) (rows_of test) ≡ None
    → AllByRecursion (λ row. bytes_eq (first_word text) row.0 ≡ false) (rows_of test) → operator_named (first_word text) ≡ None
unnamed test text h none all = sym (named_first test text h none) ∙ none_found (first_word text) (rows_of test) all

-- where the last of several words decides
pub last_decides : (word text : List ℕ) (found : Option (Command × Bor (List ℕ))) → (bytes_eq (first_word text) word ≡ false → operator_named (first_word text) ≡ None)
    → MatchOption found (bytes_eq (first_word text) word ≡ false) (λ f. (operator_named (first_word text) ≡ Some f.0) × (f.1.now ≡ drop 1 (drop (position_or_len is_blank text) text)))
    → MatchOption found (operator_named (first_word text) ≡ None) (λ f. (operator_named (first_word text) ≡ Some f.0) × (f.1.now ≡ drop 1 (drop (position_or_len is_blank text) text)))
last_decides word text None f h = f h
last_decides word text (Some x) f h = h
