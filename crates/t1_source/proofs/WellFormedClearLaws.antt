-- Edits of slots keep a clear part as it is to be.
use Rattle.std.proofs.Common.{◌≡◌, ℕ, zero, suc, Bool, true, false, not, ◌||◌, ◌&&◌, ◌+◌, ◌-◌, ◌<◌, ◌≤◌, nat_le, ℤ, pos, negsuc, if◌then◌else◌, Some, is_none, Result, Ok, Err, ok_or, List, [], ◌∷◌, ◌++◌, length, take, drop, set, reverse, codes, refl, sym, ◌∙◌, ap, inl, inr, arith, append_assoc, length-append}
use Rattle.std.specs.List.{list_any, list_all, filter, onto_first, position, position_or_len}
use Rattle.std.specs.Fmt.{decimal}
use Rattle.std.proofs.lemmas.Bool.{cases_Bool, and_parts, and_from, or_parts, leb-true, le-leb, not-true}
use Rattle.std.proofs.lemmas.List.{reverse-append, reverse-reverse, take-append-drop}
use Rattle.std.proofs.lemmas.List.Folds.{list_any-append, list_all-append}
use Rattle.std.proofs.lemmas.Slice.Eq.{bytes_eq-Decides}
use Rattle.std.proofs.Math.Seq.{drop-append_seam, drop-append-add, take-append_seam, take-append-add}
use Rattle.t1_frac.specs.declared.fault.Code.{Code}
use Rattle.t1_frac.specs.declared.fault.Code.TheVariants.{F5, F6}
use Rattle.t1_frac.specs.declared.fault.Fault.{Fault}
use Rattle.t1_frac.specs.declared.fault.Place.TheVariants.{Line}
use Rattle.t1_frac.specs.Outcome.{fault_at, reported_at, ◌>>=◌}
use Rattle.t1_frac.specs.Words.{trimmed_front}
use Rattle.t1_source.specs.declared.edit.Rule.{Rule}
use Rattle.t1_source.specs.declared.edit.Rule.TheVariants.{E3, E4, E5, E10}
use Rattle.t1_parts.specs.SourceParts.{SourceParts}
use Rattle.t1_text.specs.Lines.{is_line, trimmed}
use Rattle.t1_text.specs.Tokens.{tokens, is_regular, first_is, last_is}
use Rattle.t1_text.specs.Names.{is_name, name_of_token}
use Rattle.t1_parts.specs.Encoding.{code_of_token, slot_of_tokens, opens_encoding, is_standard, is_array, ends_array, is_bad_slot, array_lines, opening_check, later_check, array_check, lines_check, encoding_check, clear_check, chooses_standard}
use Rattle.t1_parts.specs.Parts.{is_eexec}
use Rattle.t1_source.specs.Editing.{keeps, number_up_to, good_name, ArrayParts, array_parts, is_slot, is_slot_of, slot_line, encoded_lines, through_last, with_clear, encoded, unencoded}
use Rattle.t1_source.specs.WellFormed.{IsClear, IsWellFormed}
use Rattle.t1_frac.proofs.OutcomeLaws.{bind_ok, reported_ok}
use Rattle.t1_source.proofs.RuleLaws.{kept_ok}
use Rattle.t1_text.proofs.NumberLaws.{decimal_spells, spelled}
use Rattle.t1_text.proofs.TokenLaws.{other_first}
use Rattle.t1_parts.proofs.EntryLaws.{digits_regular, name_regular, run_before, token_before}
use Rattle.t1_parts.proofs.PartLaws.{place_of}
use Rattle.t1_source.proofs.PrintedLaws.{line_append, digits_line, name_is_line}
use Rattle.t1_source.proofs.SourceAgainLaws.{Ends}
use Rattle.t1_source.proofs.WellFormedItemsLaws.{given_some}
use Rattle.t1_source.proofs.WellFormedBodyLaws.{all_take, all_drop}
use Rattle.t1_source.proofs.ItemPlaceLaws.{First, first_at, position_first}
use Rattle.t1_source.proofs.ItemsAgainLaws.{and_off}

-- lines before others, of which none passes a test, and the last of all lines
ends_parts : (test : List ℕ → Bool) (p : List (List ℕ)) (q : List ℕ) (r : List (List ℕ)) → Ends test (p ++ q ∷ r) → (list_any test p ≡ false) × Ends test (q ∷ r)
ends_parts test [] q r h = (refl, h)
ends_parts test (l ∷ p) q r h =
    elim (cases_Bool (test l)) [
      | inl on ↦
          let size : 0 + 1 ≡ length (l ∷ (p ++ q ∷ r)) = rw on at h in
          absurd (omega (arith, size, length-append p (q ∷ r)))
      | inr off ↦
          let more : Ends test (p ++ q ∷ r) = (let here : 1 + position_or_len test (p ++ q ∷ r) + 1 ≡ length (l ∷ (p ++ q ∷ r)) = rw off at h in omega (arith, here)) in
          let parts = ends_parts test p q r more in
          (rw off parts.0, parts.1)
    ]

ends_join : (test : List ℕ → Bool) (p q : List (List ℕ)) → list_any test p ≡ false → Ends test q → Ends test (p ++ q)
ends_join test [] q none h = h
ends_join test (l ∷ p) q none h =
    let parts = or_parts (test l) (list_any test p) none in
    let off = parts.0 in
    let more = ends_join test p q parts.1 h in
    rw off (omega (arith, more))

-- a line of the array as it passes judgement
abbrev pub is_fine : List ℕ → Bool
is_fine l = not (opens_encoding l) && not (is_bad_slot (tokens l))

later_passed : (l : List ℕ) → later_check l ≡ Ok tt → not (opens_encoding l) ≡ true
unfolding later_check
later_passed l e =
    elim (cases_Bool (opens_encoding l)) [
      | inl opens ↦ let none : ◌≡◌ {A = Result (Unit {0}) Code} (Err F5) (Ok tt) = rw opens at e in cc
      | inr off ↦ rw off refl
    ]

later_passes : (l : List ℕ) → not (opens_encoding l) ≡ true → later_check l ≡ Ok tt
unfolding later_check
later_passes l h = let off = not-true (opens_encoding l) h in rw off refl

array_passed : (l : List ℕ) → array_check l ≡ Ok tt → is_fine l ≡ true
unfolding array_check
array_passed l e =
    let step = bind_ok (later_check l) (λ fine. if is_bad_slot (tokens l) then Err F6 else Ok tt) tt e in
    elim (cases_Bool (is_bad_slot (tokens l))) [
      | inl bad ↦ let none : ◌≡◌ {A = Result (Unit {0}) Code} (Err F6) (Ok tt) = rw bad at step.2 in cc
      | inr good ↦ and_from (not (opens_encoding l)) (not (is_bad_slot (tokens l))) (later_passed l step.1) (rw good refl)
    ]

array_passes : (l : List ℕ) → is_fine l ≡ true → array_check l ≡ Ok tt
unfolding array_check
array_passes l h =
    let parts = and_parts (not (opens_encoding l)) (not (is_bad_slot (tokens l))) h in
    let fine = later_passes l parts.0 in
    let good = not-true (is_bad_slot (tokens l)) parts.1 in
    rw (fine, good) refl

-- lines that pass a check, by what it is that passes
all_passed : (check : List ℕ → Result (Unit {0}) Code) (test : List ℕ → Bool) → ((l : List ℕ) → check l ≡ Ok tt → test l ≡ true) → (n : ℕ) (ls : List (List ℕ)) → lines_check check n ls ≡ Ok tt
    → list_all test ls ≡ true
all_passed check test passed n [] e = refl
all_passed check test passed n (l ∷ ls) e =
    let step = bind_ok (reported_at (Line n) (check l)) (λ fine. lines_check check (n + 1) ls) tt e in
    and_from (test l) (list_all test ls) (passed l (reported_ok (Line n) (check l) tt step.1)) (all_passed check test passed (n + 1) ls step.2)

all_pass : (check : List ℕ → Result (Unit {0}) Code) (test : List ℕ → Bool) → ((l : List ℕ) → test l ≡ true → check l ≡ Ok tt) → (n : ℕ) (ls : List (List ℕ)) → list_all test ls ≡ true
    → lines_check check n ls ≡ Ok tt
all_pass check test passes n [] h = refl
all_pass check test passes n (l ∷ ls) h =
    let parts = and_parts (test l) (list_all test ls) h in
    let fine = passes l parts.0 in
    rw fine (all_pass check test passes (n + 1) ls parts.1)

-- a line that may stand in an array
abbrev pub is_array_line : List ℕ → Bool
is_array_line l = (is_line l && not (is_eexec l)) && (is_fine l && not (ends_array l))

all_and : (f g : List ℕ → Bool) (ls : List (List ℕ)) → list_all f ls ≡ true → list_all g ls ≡ true → list_all (λ l. f l && g l) ls ≡ true
all_and f g [] h k = refl
all_and f g (l ∷ ls) h k =
    let p = and_parts (f l) (list_all f ls) h in
    let q = and_parts (g l) (list_all g ls) k in
    and_from (f l && g l) (list_all (λ m. f m && g m) ls) (and_from (f l) (g l) p.0 q.0) (all_and f g ls p.1 q.1)

all_left : (f g : List ℕ → Bool) (ls : List (List ℕ)) → list_all (λ l. f l && g l) ls ≡ true → (list_all f ls ≡ true) × (list_all g ls ≡ true)
all_left f g [] h = (refl, refl)
all_left f g (l ∷ ls) h =
    let parts = and_parts (f l && g l) (list_all (λ m. f m && g m) ls) h in
    let here = and_parts (f l) (g l) parts.0 in
    let more = all_left f g ls parts.1 in
    (and_from (f l) (list_all f ls) here.0 more.0, and_from (g l) (list_all g ls) here.1 more.1)

all_none : (f : List ℕ → Bool) (ls : List (List ℕ)) → list_any f ls ≡ false → list_all (λ l. not (f l)) ls ≡ true
all_none f [] h = refl
all_none f (l ∷ ls) h =
    let parts = or_parts (f l) (list_any f ls) h in
    let off = parts.0 in
    and_from (not (f l)) (list_all (λ m. not (f m)) ls) (rw off refl) (all_none f ls parts.1)

none_all : (f : List ℕ → Bool) (ls : List (List ℕ)) → list_all (λ l. not (f l)) ls ≡ true → list_any f ls ≡ false
none_all f [] h = refl
none_all f (l ∷ ls) h =
    let parts = and_parts (not (f l)) (list_all (λ m. not (f m)) ls) h in
    let off = not-true (f l) parts.0 in
    rw off (none_all f ls parts.1)

-- a clear part around its array
record Array (clear : List (List ℕ)) (parts : ArrayParts) : Type 0 where
  before : List (List ℕ)
  opening : List ℕ
  ls : List (List ℕ)
  ending : List ℕ
  rest : List (List ℕ)
  whole : clear ≡ before ++ (opening ∷ (ls ++ ending ∷ rest))
  first : list_any opens_encoding before ≡ false
  opens : opens_encoding opening ≡ true
  other : is_standard (tokens opening) ≡ false
  array : is_array (tokens opening) ≡ true
  inside : list_any ends_array ls ≡ false
  ends : ends_array ending ≡ true
  front : parts.front ≡ before ++ opening ∷ []
  lines : parts.lines ≡ ls
  back : parts.back ≡ ending ∷ rest

-- the check of a clear part around its array
check_there : (before : List (List ℕ)) (opening : List ℕ) (later : List (List ℕ)) → list_any opens_encoding before ≡ false → opens_encoding opening ≡ true
    → clear_check (before ++ opening ∷ later) ≡ encoding_check (length before + 1) (opening ∷ later)
unfolding clear_check
check_there before opening later none on =
    let place : position_or_len opens_encoding (before ++ opening ∷ later) ≡ length before = place_of opens_encoding before opening later none on in
    ap (λ k. encoding_check (k + 1) (drop k (before ++ opening ∷ later))) place ∙ ap (encoding_check (length before + 1)) (drop-append_seam before (opening ∷ later))

opening_given : (n : ℕ) (opening : List ℕ) (later : List (List ℕ)) → is_standard (tokens opening) ≡ false → opening_check n opening later ≡ Ok tt → (is_array (tokens opening) ≡ true) × (list_any ends_array later ≡ true)
unfolding opening_check
opening_given n opening later other e =
    elim (cases_Bool (is_array (tokens opening) && list_any ends_array later)) [
      | inl on ↦ and_parts (is_array (tokens opening)) (list_any ends_array later) on
      | inr off ↦ let none : ◌≡◌ {A = Result (Unit {0}) Fault} (Err (fault_at (Line n) F5)) (Ok tt) = rw (other, off) at e in cc
    ]

any_within : (test : List ℕ → Bool) (ls : List (List ℕ)) → list_any test ls ≡ true → position_or_len test ls < length ls
any_within test [] h = cc
any_within test (l ∷ ls) h =
    elim (cases_Bool (test l)) [
      | inl on ↦ rw on (omega arith)
      | inr off ↦
          let more = any_within test ls (rw off at h) in
          rw off (omega (arith, more))
    ]

none_first : (test : List ℕ → Bool) (before : List (List ℕ)) (x : List ℕ) (after : List (List ℕ)) → list_any test (before ++ x ∷ after) ≡ false → test x ≡ false
none_first test before x after h =
    let parts = or_parts (list_any test before) (test x || list_any test after) (sym (list_any-append test before (x ∷ after)) ∙ h) in
    (or_parts (test x) (list_any test after) parts.1).0

-- what passes from the line that opens the encoding on
encoding_passed : (n : ℕ) (opening : List ℕ) (later : List (List ℕ)) → encoding_check n (opening ∷ later) ≡ Ok tt
    → (opening_check n opening later ≡ Ok tt) × (lines_check array_check (n + 1) (array_lines (opening ∷ later)) ≡ Ok tt)
    × (lines_check later_check (n + 1 + length (array_lines (opening ∷ later))) (drop (length (array_lines (opening ∷ later))) later) ≡ Ok tt)
encoding_passed n opening later e =
    let array = array_lines (opening ∷ later) in
    let after : Result (Unit {0}) Fault = lines_check later_check (n + 1 + length array) (drop (length array) later) in
    let opened = bind_ok (opening_check n opening later) (λ opened. lines_check array_check (n + 1) array >>= λ filled. after) tt e in
    let filled = bind_ok (lines_check array_check (n + 1) array) (λ filled. after) tt opened.2 in
    (opened.1, filled.1, filled.2)

-- what comes after the line that opens an array
array_there : (n : ℕ) (opening : List ℕ) (later : List (List ℕ)) → is_standard (tokens opening) ≡ false → encoding_check n (opening ∷ later) ≡ Ok tt
    → (is_array (tokens opening) ≡ true) × First ends_array later (position_or_len ends_array later)
array_there n opening later other e =
    let given = opening_given n opening later other (encoding_passed n opening later e).0 in
    (given.0, first_at ends_array later (any_within ends_array later given.1))

lines_there : (opening : List ℕ) (ls : List (List ℕ)) (ending : List ℕ) (rest : List (List ℕ)) → is_standard (tokens opening) ≡ false → list_any ends_array ls ≡ false → ends_array ending ≡ true
    → array_lines (opening ∷ (ls ++ ending ∷ rest)) ≡ ls
lines_there opening ls ending rest other inside ends =
    let place = place_of ends_array ls ending rest inside ends in
    rw (other, place) (take-append_seam ls (ending ∷ rest))

-- the lines of the array and those after it
checks_parts : (n : ℕ) (opening : List ℕ) (ls rest : List (List ℕ)) → array_lines (opening ∷ (ls ++ rest)) ≡ ls → encoding_check n (opening ∷ (ls ++ rest)) ≡ Ok tt
    → (list_all is_fine ls ≡ true) × (list_any opens_encoding rest ≡ false)
checks_parts n opening ls rest inner e =
    let passed = encoding_passed n opening (ls ++ rest) e in
    let after = n + 1 + length (array_lines (opening ∷ (ls ++ rest))) in
    let following : drop (length (array_lines (opening ∷ (ls ++ rest)))) (ls ++ rest) ≡ rest = ap (λ t. drop (length t) (ls ++ rest)) inner ∙ drop-append_seam ls rest in (
      all_passed array_check is_fine array_passed (n + 1) ls (ap (lines_check array_check (n + 1)) (sym inner) ∙ passed.1),
      none_all opens_encoding rest (all_passed later_check (λ l. not (opens_encoding l)) later_passed after rest (ap (lines_check later_check after) (sym following) ∙ passed.2)),
    )

checks_join : (n : ℕ) (opening : List ℕ) (ls rest : List (List ℕ)) → array_lines (opening ∷ (ls ++ rest)) ≡ ls → opening_check n opening (ls ++ rest) ≡ Ok tt → list_all is_fine ls ≡ true → list_any opens_encoding rest ≡ false
    → encoding_check n (opening ∷ (ls ++ rest)) ≡ Ok tt
checks_join n opening ls rest inner opened fine none =
    let filled = all_pass array_check is_fine array_passes (n + 1) ls fine in
    let after = all_pass later_check (λ l. not (opens_encoding l)) later_passes (n + 1 + length ls) rest (all_none opens_encoding rest none) in
    rw (opened, inner, filled) (ap (lines_check later_check (n + 1 + length ls)) (drop-append_seam ls rest) ∙ after)

array_of : (clear : List (List ℕ)) (parts : ArrayParts) → clear_check clear ≡ Ok tt → array_parts clear ≡ Ok parts → Array clear parts
unfolding array_parts
array_of clear parts check e =
    let made : ℕ → ArrayParts = λ at. record { front = take (at + 1) clear; lines = array_lines (drop at clear); back = drop (length (array_lines (drop at clear))) (drop (at + 1) clear) } in
    let chosen = bind_ok (keeps E5 (not (list_any chooses_standard clear))) (λ chosen. ok_or (position opens_encoding clear) E5 >>= λ at. Ok (made at)) parts e in
    let placed = bind_ok (ok_or (position opens_encoding clear) E5) (λ at. Ok (made at)) parts chosen.2 in
    let at = placed.0 in
    let f = position_first opens_encoding clear at (given_some (position opens_encoding clear) E5 at placed.1) in
    let before = f.found.before in
    let opening = f.found.here in
    let later = f.found.after in
    let none : list_any chooses_standard clear ≡ false = not-true (list_any chooses_standard clear) (kept_ok E5 (not (list_any chooses_standard clear)) chosen.1) in
    let other = and_off (opens_encoding opening) (is_standard (tokens opening)) f.found.passes (none_first chooses_standard before opening later (ap (list_any chooses_standard) (sym f.found.whole) ∙ none)) in
    let r = array_there (length before + 1) opening later other (sym (check_there before opening later f.first f.found.passes) ∙ ap clear_check (sym f.found.whole) ∙ check) in
    let ls = r.1.found.before in
    let ending = r.1.found.here in
    let rest = r.1.found.after in
    let whole : clear ≡ before ++ (opening ∷ (ls ++ ending ∷ rest)) = f.found.whole ∙ ap (λ t. before ++ opening ∷ t) r.1.found.whole in
    let last : ◌≡◌ {A = Result ArrayParts Rule} (Ok (made at)) (Ok parts) = placed.2 in
    let same : made at ≡ parts = cc in
    let from : drop at clear ≡ opening ∷ (ls ++ ending ∷ rest) = ap (λ k. drop k clear) f.place ∙ ap (drop (length before)) whole ∙ drop-append_seam before (opening ∷ (ls ++ ending ∷ rest)) in
    let next : at + 1 ≡ length before + 1 = ap (λ k. k + 1) f.place in
    let following : drop (at + 1) clear ≡ ls ++ ending ∷ rest = ap (λ k. drop k clear) next ∙ ap (drop (length before + 1)) whole ∙ drop-append-add before (opening ∷ (ls ++ ending ∷ rest)) 1 in
    let inner : array_lines (drop at clear) ≡ ls = ap array_lines from ∙ lines_there opening ls ending rest other r.1.first r.1.found.passes in
    record {
      before = before;
      opening = opening;
      ls = ls;
      ending = ending;
      rest = rest;
      whole = whole;
      first = f.first;
      opens = f.found.passes;
      other = other;
      array = r.0;
      inside = r.1.first;
      ends = r.1.found.passes;
      front = sym (ap (λ p. p.front) same) ∙ ap (λ k. take k clear) next ∙ ap (take (length before + 1)) whole ∙ take-append-add before (opening ∷ (ls ++ ending ∷ rest)) 1;
      lines = sym (ap (λ p. p.lines) same) ∙ inner;
      back = sym (ap (λ p. p.back) same) ∙ ap (λ t. drop (length t) (drop (at + 1) clear)) inner ∙ ap (drop (length ls)) following ∙ drop-append_seam ls (ending ∷ rest);
    }

all_parts : (f : List ℕ → Bool) (a b : List (List ℕ)) → list_all f (a ++ b) ≡ true → (list_all f a ≡ true) × (list_all f b ≡ true)
all_parts f a b h = and_parts (list_all f a) (list_all f b) (sym (list_all-append f a b) ∙ h)

all_both : (f : List ℕ → Bool) (a b : List (List ℕ)) → list_all f a ≡ true → list_all f b ≡ true → list_all f (a ++ b) ≡ true
all_both f a b p q = list_all-append f a b ∙ and_from (list_all f a) (list_all f b) p q

any_parts : (f : List ℕ → Bool) (a b : List (List ℕ)) → list_any f (a ++ b) ≡ false → (list_any f a ≡ false) × (list_any f b ≡ false)
any_parts f a b h = or_parts (list_any f a) (list_any f b) (sym (list_any-append f a b) ∙ h)

any_both : (f : List ℕ → Bool) (a : List (List ℕ)) (x : List ℕ) (b : List (List ℕ)) → list_any f a ≡ false → f x ≡ false → list_any f b ≡ false → list_any f (a ++ x ∷ b) ≡ false
any_both f a x b p q r = list_any-append f a (x ∷ b) ∙ (rw (p, q, r) refl)

-- a clear part around an array with other lines
array_clear : (clear : List (List ℕ)) (parts : ArrayParts) (r : Array clear parts) (ls : List (List ℕ)) → IsClear clear → list_all is_array_line ls ≡ true
    → IsClear (r.before ++ (r.opening ∷ (ls ++ r.ending ∷ r.rest)))
unfolding opening_check
array_clear clear parts r ls h good =
    let n = length r.before + 1 in
    let new = ls ++ r.ending ∷ r.rest in
    let outer = all_left (λ l. is_line l && not (is_eexec l)) (λ l. is_fine l && not (ends_array l)) ls good in
    let lines = all_left is_line (λ l. not (is_eexec l)) ls outer.0 in
    let fine = all_left is_fine (λ l. not (ends_array l)) ls outer.1 in
    let old = all_parts is_line r.before (r.opening ∷ (r.ls ++ r.ending ∷ r.rest)) (ap (list_all is_line) (sym r.whole) ∙ h.0) in
    let opened = and_parts (is_line r.opening) (list_all is_line (r.ls ++ r.ending ∷ r.rest)) old.1 in
    let following = (all_parts is_line r.ls (r.ending ∷ r.rest) opened.1).1 in
    let split : clear ≡ (r.before ++ r.opening ∷ r.ls) ++ r.ending ∷ r.rest = r.whole ∙ sym (append_assoc r.before (r.opening ∷ r.ls) (r.ending ∷ r.rest)) in
    let ends = ends_parts is_eexec (r.before ++ r.opening ∷ r.ls) r.ending r.rest (ap (λ t. position_or_len is_eexec t + 1) (sym split) ∙ h.1 ∙ ap length split) in
    let front = any_parts is_eexec r.before (r.opening ∷ r.ls) ends.0 in
    let no_eexec = any_both is_eexec r.before r.opening ls front.0 (or_parts (is_eexec r.opening) (list_any is_eexec r.ls) front.1).0 (none_all is_eexec ls lines.1) in
    let joined = append_assoc r.before (r.opening ∷ ls) (r.ending ∷ r.rest) in
    let last = ends_join is_eexec (r.before ++ r.opening ∷ ls) (r.ending ∷ r.rest) no_eexec ends.1 in
    let was = sym (check_there r.before r.opening (r.ls ++ r.ending ∷ r.rest) r.first r.opens) ∙ ap clear_check (sym r.whole) ∙ h.2 in
    let later = checks_parts n r.opening r.ls (r.ending ∷ r.rest) (lines_there r.opening r.ls r.ending r.rest r.other r.inside r.ends) was in
    let array : list_any ends_array new ≡ true = list_any-append ends_array ls (r.ending ∷ r.rest) ∙ (let on = r.ends in rw on (or_on (list_any ends_array ls))) in
    let opening : opening_check n r.opening new ≡ Ok tt = (let off = r.other in let on = r.array in rw (off, on, array) refl) in
    let inner = lines_there r.opening ls r.ending r.rest r.other (none_all ends_array ls fine.1) r.ends in (
      all_both is_line r.before (r.opening ∷ new) old.0 (and_from (is_line r.opening) (list_all is_line new) opened.0 (all_both is_line ls (r.ending ∷ r.rest) lines.0 following)),
      ap (λ t. position_or_len is_eexec t + 1) (sym joined) ∙ last ∙ ap length joined,
      check_there r.before r.opening new r.first r.opens ∙ checks_join n r.opening ls (r.ending ∷ r.rest) inner opening fine.0 later.1,
    )
  where
    or_on : (b : Bool) → (b || true) ≡ true
    or_on true = refl
    or_on false = refl

-- the lines of the array may stand in an array
array_lines_good : (clear : List (List ℕ)) (parts : ArrayParts) (r : Array clear parts) → IsClear clear → list_all is_array_line r.ls ≡ true
array_lines_good clear parts r h =
    let n = length r.before + 1 in
    let old = all_parts is_line r.before (r.opening ∷ (r.ls ++ r.ending ∷ r.rest)) (ap (list_all is_line) (sym r.whole) ∙ h.0) in
    let opened = and_parts (is_line r.opening) (list_all is_line (r.ls ++ r.ending ∷ r.rest)) old.1 in
    let lines = (all_parts is_line r.ls (r.ending ∷ r.rest) opened.1).0 in
    let split : clear ≡ (r.before ++ r.opening ∷ r.ls) ++ r.ending ∷ r.rest = r.whole ∙ sym (append_assoc r.before (r.opening ∷ r.ls) (r.ending ∷ r.rest)) in
    let ends = ends_parts is_eexec (r.before ++ r.opening ∷ r.ls) r.ending r.rest (ap (λ t. position_or_len is_eexec t + 1) (sym split) ∙ h.1 ∙ ap length split) in
    let front = any_parts is_eexec r.before (r.opening ∷ r.ls) ends.0 in
    let eexec = all_none is_eexec r.ls (or_parts (is_eexec r.opening) (list_any is_eexec r.ls) front.1).1 in
    let was = sym (check_there r.before r.opening (r.ls ++ r.ending ∷ r.rest) r.first r.opens) ∙ ap clear_check (sym r.whole) ∙ h.2 in
    let later = checks_parts n r.opening r.ls (r.ending ∷ r.rest) (lines_there r.opening r.ls r.ending r.rest r.other r.inside r.ends) was in
    all_and (λ l. is_line l && not (is_eexec l)) (λ l. is_fine l && not (ends_array l)) r.ls
    (all_and is_line (λ l. not (is_eexec l)) r.ls lines eexec)
    (all_and is_fine (λ l. not (ends_array l)) r.ls later.0 (all_none ends_array r.ls r.inside))

-- the tokens of a new slot
slot_tokens : (code : ℕ) (g : List ℕ) → code ≤ 255 → is_name g ≡ true → tokens (codes "dup " ++ (decimal code ++ (codes " /" ++ (g ++ codes " put")))) ≡ codes "dup" ∷ decimal code ∷ (47 ∷ g) ∷ codes "put" ∷ []
slot_tokens code [] small named = cc
slot_tokens code (c ∷ g) small named =
    let s = decimal_spells code (omega (arith, small)) in
    let bytes = name_regular (c ∷ g) (and_parts _ _ named).1 in
    let first : is_regular c ≡ true = (and_parts (is_regular c) (list_all is_regular g) bytes).0 in
    let name : tokens (47 ∷ (c ∷ g ++ codes " put")) ≡ (47 ∷ c ∷ g) ∷ codes "put" ∷ [] =
    other_first 47 (c ∷ g ++ codes " put") refl refl refl ∙ (rw first (ap (onto_first 47) (run_before c g (codes "put") bytes))) in
    token_before (codes "dup") (decimal code ++ (codes " /" ++ (c ∷ g ++ codes " put"))) (omega arith) refl
    ∙ ap (λ t. codes "dup" ∷ t) (token_before (decimal code) (47 ∷ (c ∷ g ++ codes " put")) s.2 (digits_regular (decimal code) s.0) ∙ ap (λ t. decimal code ∷ t) name)

last_bytes : (x y : List ℕ) (a b : ℕ) → x ++ a ∷ [] ≡ y ++ b ∷ [] → a ≡ b
last_bytes x y a b e =
    let turned : a ∷ reverse x ≡ b ∷ reverse y = sym (reverse-append x (a ∷ [])) ∙ ap reverse e ∙ reverse-append y (b ∷ []) in
    cc

-- a line from `d` to `t` doesn't end the clear part
not_eexec : (x : List ℕ) → is_eexec (100 ∷ (x ++ 116 ∷ [])) ≡ false
not_eexec x =
    elim (cases_Bool (is_eexec (100 ∷ (x ++ 116 ∷ [])))) [
      | inl on ↦
          let l = 100 ∷ (x ++ 116 ∷ []) in
          let text = codes "currentfile eexec" in
          let turned : reverse l ≡ 116 ∷ reverse (100 ∷ x) = reverse-append (100 ∷ x) (116 ∷ []) in
          let whole : trimmed l ≡ reverse (reverse l) = ap (λ t. reverse (trimmed_front t)) turned ∙ ap reverse (sym turned) in
          let k = length (trimmed l) - length text in
          let ends : text ≡ drop k (trimmed l) = (bytes_eq-Decides text (drop k (trimmed l))).0 on in
          let cut : trimmed l ≡ (take k (trimmed l) ++ codes "currentfile eexe") ++ 99 ∷ [] =
          sym (take-append-drop k (trimmed l)) ∙ ap (λ t. take k (trimmed l) ++ t) (sym ends) ∙ sym (append_assoc (take k (trimmed l)) (codes "currentfile eexe") (99 ∷ [])) in
          let bad : 116 ≡ 99 = last_bytes (100 ∷ x) (take k (trimmed l) ++ codes "currentfile eexe") 116 99 (sym (reverse-reverse l) ∙ sym whole ∙ cut) in
          absurd (omega (arith, bad))
      | inr off ↦ off
    ]

slot_code : (code : ℕ) → code ≤ 255 → code_of_token (decimal code) ≡ Some code
slot_code code small =
    let read = spelled (decimal code) code (decimal_spells code (omega (arith, small))) in
    let limit : nat_le code 255 ≡ true = le-leb code 255 small in
    rw (read, limit) refl

-- a new slot may stand in an array
slot_good : (code : ℕ) (g : List ℕ) → code ≤ 255 → is_name g ≡ true → is_array_line (slot_line code g) ≡ true
slot_good code g small named =
    let l = codes "dup " ++ (decimal code ++ (codes " /" ++ (g ++ codes " put"))) in
    let s = decimal_spells code (omega (arith, small)) in
    let split : slot_line code g ≡ l =
    append_assoc (codes "dup " ++ decimal code ++ codes " /") g (codes " put") ∙ append_assoc (codes "dup " ++ decimal code) (codes " /") (g ++ codes " put") ∙ append_assoc (codes "dup ") (decimal code) (codes " /" ++ (g ++ codes " put")) in
    let read = slot_tokens code g small named in
    let value = slot_code code small in
    let name : name_of_token (47 ∷ g) ≡ Some g = rw named refl in
    let line : is_line l ≡ true = line_append (decimal code) (codes " /" ++ (g ++ codes " put")) (digits_line (decimal code) s.0) (line_append g (codes " put") (name_is_line g named) refl) in
    let open_end : (codes "up " ++ (decimal code ++ (codes " /" ++ (g ++ codes " pu")))) ++ 116 ∷ [] ≡ codes "up " ++ (decimal code ++ (codes " /" ++ (g ++ codes " put"))) =
    append_assoc (codes "up ") (decimal code ++ (codes " /" ++ (g ++ codes " pu"))) (116 ∷ [])
    ∙ ap (λ t. codes "up " ++ t) (append_assoc (decimal code) (codes " /" ++ (g ++ codes " pu")) (116 ∷ [])
    ∙ ap (λ t. decimal code ++ t) (append_assoc (codes " /") (g ++ codes " pu") (116 ∷ []) ∙ ap (λ t. codes " /" ++ t) (append_assoc g (codes " pu") (116 ∷ [])))) in
    let eexec : is_eexec l ≡ false = ap (λ t. is_eexec (100 ∷ t)) (sym open_end) ∙ not_eexec (codes "up " ++ (decimal code ++ (codes " /" ++ (g ++ codes " pu")))) in
    let opens : opens_encoding l ≡ false = ap (first_is (codes "/Encoding")) read in
    let ends : ends_array l ≡ false = ap (last_is (codes "def")) read in
    let slot : slot_of_tokens (tokens l) ≡ Some (code, g) = ap slot_of_tokens read ∙ (rw (value, name) refl) in
    let bad : is_bad_slot (tokens l) ≡ false = ap (λ o. first_is (codes "dup") (tokens l) && is_none o) slot ∙ ap (λ t. first_is (codes "dup") t && false) read in
    ap is_array_line split ∙ (rw (line, eexec, opens, ends, bad) refl)

-- lists whose lines may stand in an array
all_set : (f : List ℕ → Bool) (ls : List (List ℕ)) (i : ℕ) (y : List ℕ) → list_all f ls ≡ true → f y ≡ true → list_all f (set ls i y) ≡ true
all_set f [] i y h on = refl
all_set f (l ∷ ls) zero y h on = and_from (f y) (list_all f ls) on (and_parts (f l) (list_all f ls) h).1
all_set f (l ∷ ls) (suc i) y h on = let parts = and_parts (f l) (list_all f ls) h in and_from (f l) (list_all f (set ls i y)) parts.0 (all_set f ls i y parts.1 on)

all_filter : (f keep : List ℕ → Bool) (ls : List (List ℕ)) → list_all f ls ≡ true → list_all f (filter keep ls) ≡ true
all_filter f keep [] h = refl
all_filter f keep (l ∷ ls) h =
    let parts = and_parts (f l) (list_all f ls) h in
    elim (cases_Bool (keep l)) [
      | inl on ↦ rw on (and_from (f l) (list_all f (filter keep ls)) parts.0 (all_filter f keep ls parts.1))
      | inr off ↦ rw off (all_filter f keep ls parts.1)
    ]

encoded_good : (code : ℕ) (g : List ℕ) (ls : List (List ℕ)) → list_all is_array_line ls ≡ true → is_array_line (slot_line code g) ≡ true → list_all is_array_line (encoded_lines code g ls) ≡ true
encoded_good code g ls h on =
    let last = through_last (is_slot_of code) ls in
    let slots = through_last is_slot ls in
    let one : list_all is_array_line (slot_line code g ∷ []) ≡ true = and_from (is_array_line (slot_line code g)) true on refl in
    elim (cases_Bool (nat_le 1 last)) [
      | inl replaced ↦ rw replaced (all_set is_array_line ls (last - 1) (slot_line code g) h on)
      | inr new ↦ elim (cases_Bool (nat_le 1 slots)) [
        | inl following ↦
            let later : list_all is_array_line (slot_line code g ∷ drop slots ls) ≡ true = and_from (is_array_line (slot_line code g)) (list_all is_array_line (drop slots ls)) on (all_drop is_array_line slots ls h) in
            rw (new, following) (all_both is_array_line (take slots ls) (slot_line code g ∷ drop slots ls) (all_take is_array_line slots ls h) later)
        | inr none ↦ rw (new, none) (all_both is_array_line ls (slot_line code g ∷ []) h one)
      ]
    ]

-- the source with other clear lines
clear_well_formed : (s : SourceParts) (clear others : List (List ℕ)) (made : SourceParts) → IsWellFormed s → clear ≡ others → IsClear others → ◌≡◌ {A = Result SourceParts Rule} (Ok (with_clear s clear)) (Ok made) → IsWellFormed made
clear_well_formed s clear others made kept same h e =
    let is : with_clear s clear ≡ made = cc in
    let there : with_clear s others ≡ made = ap (with_clear s) (sym same) ∙ is in
    rw (← there) (record { clear = h; items = kept.items; lines = kept.lines; tail = kept.tail })

-- the lines around an array
around_array : (clear : List (List ℕ)) (parts : ArrayParts) (r : Array clear parts) (ls : List (List ℕ)) → (parts.front ++ ls) ++ parts.back ≡ r.before ++ (r.opening ∷ (ls ++ r.ending ∷ r.rest))
around_array clear parts r ls =
    ap (λ t. (t ++ ls) ++ parts.back) r.front ∙ ap (λ t. ((r.before ++ r.opening ∷ []) ++ ls) ++ t) r.back
    ∙ append_assoc (r.before ++ r.opening ∷ []) ls (r.ending ∷ r.rest) ∙ append_assoc r.before (r.opening ∷ []) (ls ++ r.ending ∷ r.rest)

code_small : (v : ℤ) (n : ℕ) → number_up_to 255 v ≡ Ok n → n ≤ 255
code_small (pos m) n e =
    elim (cases_Bool (nat_le m 255)) [
      | inl small ↦
          let here : ◌≡◌ {A = Result ℕ Rule} (Ok m) (Ok n) = rw small at e in
          let same : m ≡ n = cc in
          rw (← same) (leb-true m 255 small)
      | inr large ↦ let none : ◌≡◌ {A = Result ℕ Rule} (Err E4) (Ok n) = rw large at e in cc
    ]
code_small (negsuc m) n e = cc

-- a code encoded
pub encoded_well_formed : (s : SourceParts) (number : ℤ) (g : List ℕ) (made : SourceParts) → IsWellFormed s → encoded s number g ≡ Ok made → IsWellFormed made
unfolding encoded
encoded_well_formed s number g made kept e =
    let made_of : ℕ → ArrayParts → Result SourceParts Rule = λ code array. Ok (with_clear s (array.front ++ encoded_lines code g array.lines ++ array.back)) in
    let named = bind_ok (good_name g) (λ named. number_up_to 255 number >>= λ code. array_parts s.clear >>= λ array. made_of code array) made e in
    let numbered = bind_ok (number_up_to 255 number) (λ code. array_parts s.clear >>= λ array. made_of code array) made named.2 in
    let code = numbered.0 in
    let array = bind_ok (array_parts s.clear) (λ array. made_of code array) made numbered.2 in
    let parts = array.0 in
    let r = array_of s.clear parts kept.clear.2 array.1 in
    let good = encoded_good code g r.ls (array_lines_good s.clear parts r kept.clear) (slot_good code g (code_small number code numbered.1) (kept_ok E3 (is_name g) named.1)) in
    let same = ap (λ t. (parts.front ++ encoded_lines code g t) ++ parts.back) r.lines ∙ around_array s.clear parts r (encoded_lines code g r.ls) in
    clear_well_formed s ((parts.front ++ encoded_lines code g parts.lines) ++ parts.back) _ made kept same (array_clear s.clear parts r (encoded_lines code g r.ls) kept.clear good) array.2

-- the slots of a code taken out
pub unencoded_well_formed : (s : SourceParts) (number : ℤ) (made : SourceParts) → IsWellFormed s → unencoded s number ≡ Ok made → IsWellFormed made
unfolding unencoded
unencoded_well_formed s number made kept e =
    let left : ℕ → List (List ℕ) → List (List ℕ) = λ code ls. filter (λ l. not (is_slot_of code l)) ls in
    let made_of : ℕ → ArrayParts → Result SourceParts Rule = λ code array. Ok (with_clear s (array.front ++ left code array.lines ++ array.back)) in
    let numbered = bind_ok (number_up_to 255 number) (λ code. array_parts s.clear >>= λ array. keeps E10 (list_any (is_slot_of code) array.lines) >>= λ some. made_of code array) made e in
    let code = numbered.0 in
    let array = bind_ok (array_parts s.clear) (λ array. keeps E10 (list_any (is_slot_of code) array.lines) >>= λ some. made_of code array) made numbered.2 in
    let parts = array.0 in
    let some = bind_ok (keeps E10 (list_any (is_slot_of code) parts.lines)) (λ some. made_of code parts) made array.2 in
    let r = array_of s.clear parts kept.clear.2 array.1 in
    let good = all_filter is_array_line (λ l. not (is_slot_of code l)) r.ls (array_lines_good s.clear parts r kept.clear) in
    let same = ap (λ t. (parts.front ++ left code t) ++ parts.back) r.lines ∙ around_array s.clear parts r (left code r.ls) in
    clear_well_formed s ((parts.front ++ left code parts.lines) ++ parts.back) _ made kept same (array_clear s.clear parts r (left code r.ls) kept.clear good) some.2
