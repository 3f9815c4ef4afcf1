-- What is told of each element by those before it, as a loop tells it by what it keeps of them.
use Rattle.std.proofs.Common.{◌≡◌, ℕ, Bool, true, false, ◌+◌, ◌≤◌, ◌||◌, min, nat_lt, List, [], ◌∷◌, ◌++◌, length, map, Option, Some, None, refl, sym, ap, ◌∙◌, arith, inl, inr, append_assoc, one-add, add-one}
use Rattle.std.specs.Prelude.{if◌then◌else◌}
use Rattle.std.specs.List.{before_first, list_any, take_while}
use Rattle.std.proofs.lemmas.Bool.{cases_Bool}
use Rattle.std.proofs.lemmas.Bool.Decides.{nat_tests}
use Rattle.std.proofs.lemmas.List.Sums.{take_while-cons}
use Rattle.t1_frac.specs.Numbers.{is_number_word}
use Rattle.t1_text.specs.Tokens.{places_from}
use Rattle.t1_code.specs.Words.{operator_named}
use Rattle.t1_code.specs.declared.command.Command.{Command}
use Rattle.t1_code.specs.declared.command.Command.TheVariants.{Num, HStem, VStem, VMoveTo, RLineTo, HLineTo, VLineTo, RRCurveTo, ClosePath, CallSubr, Return, DotSection, VStem3, HStem3, Seac, Sbw, Div, CallOtherSubr, Pop, SetCurrentPoint, Hsbw, EndChar, RMoveTo, HMoveTo, VHCurveTo, HVCurveTo}
use Rattle.t1_run.specs.Operands.{takes}
use Rattle.t1_run.specs.Words.{draws}
use Rattle.t1_notes.specs.declared.kept.TokensBefore.{TokensBefore}
use Rattle.t1_notes.specs.declared.line.Line.{Line}
use Rattle.t1_notes.specs.declared.note.Note.{Note}
use Rattle.t1_notes.specs.declared.sections.Section.{Section}
use Rattle.t1_notes.specs.BodyWords.{numbers_before, is_open, ends_path_at, is_past, nearest_is_below_zero, command_notes, token_notes, body_notes}
use Rattle.t1_notes.specs.CommandWords.{passes}
use Rattle.t1_notes.specs.Heads.{head_line_of, heads, is_entry_open}
use Rattle.t1_notes.specs.HeadsByLine.{heads_by_line}
use Rattle.t1_notes.specs.Kept.{kept_of_tokens, kept_after_token, kept_notes, kept_through, notes_by_line, notes_by_place, one_number_more, open_after}
use Rattle.t1_notes.specs.Notes.{follows_stray, stray_note, stray_notes}
use Rattle.t1_notes.specs.StraysByLine.{strays_by_line}
use Rattle.t1_notes.specs.PlacedTokens.{PlacedToken, placed_token, placed_tokens}
use Rattle.t1_notes.specs.Told.{told}

-- ---- the lines outside entries

heads_after : (section : Section) (before ls : List Line)
    → told (λ before l. head_line_of (is_entry_open section before) l) before ls ≡ heads_by_line section (is_entry_open section before) ls
heads_after section before [] = refl
heads_after section before (l ∷ ls) = ap (λ more. head_line_of (is_entry_open section before) l ++ more) (heads_after section (l ∷ before) ls)

pub heads_by : (section : Section) (ls : List Line) → heads section ls ≡ heads_by_line section false ls
heads_by section ls = heads_after section [] ls

-- ---- stray lines

strays_after : (before ls : List Line) → told (λ before l. stray_note (follows_stray before) l) before ls ≡ strays_by_line (follows_stray before) ls
strays_after before [] = refl
strays_after before (l ∷ ls) = ap (λ more. stray_note (follows_stray before) l ++ more) (strays_after (l ∷ before) ls)

pub strays_by : (ls : List Line) → stray_notes ls ≡ strays_by_line false ls
strays_by ls = strays_after [] ls

-- ---- the tokens of bodies

number_next : (before : List PlacedToken) (t : PlacedToken) → is_number_word t.token ≡ true → numbers_before (t ∷ before) ≡ t.token ∷ numbers_before before
number_next before t e =
    let one : take_while (λ u. is_number_word u.token) (t ∷ before) ≡ t ∷ take_while (λ u. is_number_word u.token) before =
    take_while-cons (λ u. is_number_word u.token) t before ∙ rw e refl in
    ap (map (λ u. u.token)) one

other_next : (before : List PlacedToken) (t : PlacedToken) → is_number_word t.token ≡ false → numbers_before (t ∷ before) ≡ []
other_next before t e =
    let none : take_while (λ u. is_number_word u.token) (t ∷ before) ≡ [] = take_while-cons (λ u. is_number_word u.token) t before ∙ rw e refl in
    ap (map (λ u. u.token)) none

more_capped : (n : ℕ) → min 7 (n + 1) ≡ one_number_more (min 7 n)
more_capped n = grind (arith, nat_tests)

length_capped : (word : List ℕ) (words : List (List ℕ)) → min 7 (length (word ∷ words)) ≡ one_number_more (min 7 (length words))
length_capped word words = ap (min 7) (sym (add-one (length words))) ∙ more_capped (length words)

-- what is drawn since an element that ends a path, after one more
open_step : {X : Type 0} (ends draws : X → Bool) (x : X) (before : List X)
    → list_any draws (before_first ends (x ∷ before)) ≡ (if ends x then false else draws x || list_any draws (before_first ends before))
open_step ends draws x before =
    elim (cases_Bool (ends x)) [
      | inl ended ↦ rw ended refl
      | inr stays ↦ rw (stays, one-add) refl
    ]

open_next : (before : List PlacedToken) (t : PlacedToken) → is_open (t ∷ before) ≡ open_after (is_open before) t.token (operator_named t.token)
open_next before t = open_step (λ u. ends_path_at u.token) (λ u. passes draws (operator_named u.token)) t before

abbrev made : ℕ → Bool → Bool → Bool → TokensBefore
made numbers has_wide is_negative path = record { numbers = numbers; has_wide = has_wide; is_negative = is_negative; is_open = path }

same_kept : (n m : ℕ) (a b c d p q : Bool) → n ≡ m → a ≡ b → c ≡ d → p ≡ q → made n a c p ≡ made m b d q
same_kept n m a b c d p q en ea ec ep =
    ap (λ x. made x a c p) en ∙ ap (λ x. made m x c p) ea ∙ ap (λ x. made m b x p) ec ∙ ap (λ x. made m b d x) ep

kept_next : (before : List PlacedToken) (t : PlacedToken) → kept_of_tokens (t ∷ before) ≡ kept_after_token (kept_of_tokens before) t.token (operator_named t.token)
kept_next before t =
    elim (cases_Bool (is_number_word t.token)) [
      | inl number ↦
          let next = number_next before t number in
          same_kept _ _ _ _ _ _ _ _
          (ap (λ ns. min 7 (length ns)) next ∙ length_capped t.token (numbers_before before) ∙ rw number refl)
          (ap (list_any (is_past 16000)) next ∙ rw number refl)
          (ap nearest_is_below_zero next ∙ rw number refl)
          (open_next before t)
      | inr other ↦
          let next = other_next before t other in
          same_kept _ _ _ _ _ _ _ _
          (ap (λ ns. min 7 (length ns)) next ∙ rw other refl)
          (ap (list_any (is_past 16000)) next ∙ rw other refl)
          (ap nearest_is_below_zero next ∙ rw other refl)
          (open_next before t)
    ]

few : (c : Command) → takes c ≤ 6
few (Num n) = omega arith
few HStem = omega arith
few VStem = omega arith
few VMoveTo = omega arith
few RLineTo = omega arith
few HLineTo = omega arith
few VLineTo = omega arith
few RRCurveTo = omega arith
few ClosePath = omega arith
few CallSubr = omega arith
few Return = omega arith
few DotSection = omega arith
few VStem3 = omega arith
few HStem3 = omega arith
few Seac = omega arith
few Sbw = omega arith
few Div = omega arith
few CallOtherSubr = omega arith
few Pop = omega arith
few SetCurrentPoint = omega arith
few Hsbw = omega arith
few EndChar = omega arith
few RMoveTo = omega arith
few HMoveTo = omega arith
few VHCurveTo = omega arith
few HVCurveTo = omega arith

fewer_capped : (k n : ℕ) → k ≤ 6 → nat_lt k n ≡ nat_lt k (min 7 n)
fewer_capped k n h = grind (arith, nat_tests)

command_same : (t : PlacedToken) (numbers : List (List ℕ)) (path : Bool) (command : Option Command)
    → command_notes t numbers path command
    ≡ kept_notes t.line t.column (made (min 7 (length numbers)) (list_any (is_past 16000) numbers) (nearest_is_below_zero numbers) path) command
command_same t numbers path None = refl
command_same t numbers path (Some c) = rw (fewer_capped (takes c) (length numbers) (few c)) refl

notes_same : (before : List PlacedToken) (t : PlacedToken) → token_notes before t ≡ kept_notes t.line t.column (kept_of_tokens before) (operator_named t.token)
notes_same before t = command_same t (numbers_before before) (is_open before) (operator_named t.token)

-- the tokens of a line, before those of later ones
line_told : (number : ℕ) (before : List PlacedToken) (ps : List (ℕ × List ℕ)) (rest : List PlacedToken) (more : List Note)
    → ((b : List PlacedToken) → kept_of_tokens b ≡ kept_through (kept_of_tokens before) ps → told token_notes b rest ≡ more)
    → told token_notes before (map (placed_token number) ps ++ rest) ≡ notes_by_place number (kept_of_tokens before) ps ++ more
line_told number before [] rest more h = h before refl
line_told number before (p ∷ ps) rest more h =
    let t = placed_token number p in
    let next = kept_next before t in
    let later = line_told number (t ∷ before) ps rest more (λ b e. h b (e ∙ ap (λ k. kept_through k ps) next)) in
    let first = kept_notes number (p.0 + 1) (kept_of_tokens before) (operator_named p.1) in
    ap (λ ns. ns ++ told token_notes (t ∷ before) (map (placed_token number) ps ++ rest)) (notes_same before t)
    ∙ ap (λ ns. first ++ ns) (later ∙ ap (λ k. notes_by_place number k ps ++ more) next)
    ∙ sym (append_assoc first (notes_by_place number (kept_after_token (kept_of_tokens before) p.1 (operator_named p.1)) ps) more)

lines_told : (before : List PlacedToken) (ls : List Line) → told token_notes before (placed_tokens ls) ≡ notes_by_line (kept_of_tokens before) ls
lines_told before [] = refl
lines_told before (l ∷ ls) =
    line_told l.number before (places_from 0 l.text) (placed_tokens ls) (notes_by_line (kept_through (kept_of_tokens before) (places_from 0 l.text)) ls)
    (λ b e. lines_told b ls ∙ ap (λ k. notes_by_line k ls) e)

pub bodies_by_line : (ls : List Line) → body_notes ls ≡ notes_by_line (kept_of_tokens []) ls
bodies_by_line ls = lines_told [] ls
