-- Steps of judging a clear part.
use Rattle.std.proofs.Common.{◌≡◌, ℕ, ◌+◌, ◌<◌, Result, List, ◌∷◌, length, take, drop, get_or, Ok, Err, refl, sym, ap, ◌∙◌, inl, inr}
use Rattle.std.specs.List.{position_or_len}
use Rattle.std.proofs.lemmas.Bool.{cases_Bool}
use Rattle.std.proofs.lemmas.List.{drop_more, length-take, take_min}
use Rattle.t1_frac.specs.declared.fault.Code.{Code}
use Rattle.t1_frac.specs.declared.fault.Fault.{Fault}
use Rattle.t1_frac.specs.declared.fault.Place.TheVariants.{Line}
use Rattle.t1_frac.specs.Outcome.{reported_at}
use Rattle.t1_parts.specs.Encoding.{is_standard, ends_array, array_lines, opening_check, later_check, array_check, lines_check, encoding_check}
use Rattle.t1_text.specs.Tokens.{tokens}

-- a line that passes leaves the later ones
pub line_passes : (check : List ℕ → Result (Unit {0}) Code) (n k : ℕ) (l : List ℕ) (ls : List (List ℕ)) → k < length ls → l ≡ get_or ls k l → reported_at (Line n) (check l) ≡ Ok tt
    → lines_check check n (drop k ls) ≡ lines_check check (n + 1) (drop (k + 1) ls)
line_passes check n k l ls h is e =
    ap (lines_check check n) (drop_more ls k l h ∙ ap (λ x. x ∷ drop (k + 1) ls) (sym is)) ∙ (rw e refl)

-- the first fault decides
pub line_stops : (check : List ℕ → Result (Unit {0}) Code) (n k : ℕ) (l : List ℕ) (ls : List (List ℕ)) (f : Fault) → k < length ls → l ≡ get_or ls k l → reported_at (Line n) (check l) ≡ Err f
    → lines_check check n (drop k ls) ≡ Err f
line_stops check n k l ls f h is e =
    ap (lines_check check n) (drop_more ls k l h ∙ ap (λ x. x ∷ drop (k + 1) ls) (sym is)) ∙ (rw e refl)

pub opening_stops : (n : ℕ) (l : List ℕ) (ls : List (List ℕ)) (f : Fault) → opening_check n l ls ≡ Err f → encoding_check n (l ∷ ls) ≡ Err f
opening_stops n l ls f e = rw e refl

-- the lines of the array are the first of the later ones
pub array_front : (l : List ℕ) (ls : List (List ℕ)) → take (length (array_lines (l ∷ ls))) ls ≡ array_lines (l ∷ ls)
array_front l ls =
    elim (cases_Bool (is_standard (tokens l))) [
      | inl on ↦ rw on refl
      | inr off ↦
          let k = position_or_len ends_array ls in
          rw off (ap (λ n. take n ls) (length-take k ls) ∙ take_min k ls)
    ]

pub array_stops : (n : ℕ) (l : List ℕ) (ls : List (List ℕ)) (f : Fault) → opening_check n l ls ≡ Ok tt → lines_check array_check (n + 1) (take (length (array_lines (l ∷ ls))) ls) ≡ Err f
    → encoding_check n (l ∷ ls) ≡ Err f
array_stops n l ls f opened e =
    let stopped : lines_check array_check (n + 1) (array_lines (l ∷ ls)) ≡ Err f = ap (lines_check array_check (n + 1)) (sym (array_front l ls)) ∙ e in
    rw (opened, stopped) refl

pub array_passes : (n : ℕ) (l : List ℕ) (ls : List (List ℕ)) → opening_check n l ls ≡ Ok tt → lines_check array_check (n + 1) (take (length (array_lines (l ∷ ls))) ls) ≡ Ok tt
    → encoding_check n (l ∷ ls) ≡ lines_check later_check (n + 1 + length (array_lines (l ∷ ls))) (drop (length (array_lines (l ∷ ls))) ls)
array_passes n l ls opened e =
    let passed : lines_check array_check (n + 1) (array_lines (l ∷ ls)) ≡ Ok tt = ap (lines_check array_check (n + 1)) (sym (array_front l ls)) ∙ e in
    rw (opened, passed) refl
