-- Words that are known by the byte that they begin with.
use Rattle.std.proofs.Common.{◌≡◌, ℕ, ℤ, suc, pos, Bool, codes, true, false, ◌+◌, ◌-ℤ◌, ◌==◌, ◌≤◌, ◌<◌, if◌then◌else◌, List, [], ◌∷◌, ◌++◌, length, take, Result, Ok, Some, FitsSigned, w32, nat_eq, refl, sym, ap, subst, ◌∙◌, append_assoc, append-nil, arith, lit<}
use Rattle.std.proofs.lemmas.Bool.{lt-ltb, le-ltb}
use Rattle.std.proofs.lemmas.List.{take-take, length-take-le}
use Rattle.std.specs.Fmt.{signed_decimal}
use Rattle.std.specs.Map.{lookup}
use Rattle.t1_frac.specs.Numbers.{is_number_word}
use Rattle.t1_frac.specs.Outcome.{◌>>=◌}
use Rattle.t1_disassemble.specs.declared.fault.FontCode.{FontCode}
use Rattle.t1_disassemble.specs.KnownWords.{KnownText, IsKnown, HasBlank}
use Rattle.t1_disassemble.specs.Words.{one_byte_words, found_word, word_at}
use Rattle.t1_disassemble.specs.WordsOnto.{put_first, with_word}
use Rattle.t1_disassemble.proofs.Reading.{number_is_word}

-- ---- a word that is read whatever comes after it

abbrev put : List ℕ → Bool → List ℕ → List ℕ → Bool → Result (List ℕ × Bool × List ℕ) FontCode
put text is_open w rest is_number = Ok ((text ++ (if is_open then 32 else 9) ∷ w) ++ (if is_number then [] else 10 ∷ []), is_number, rest)

abbrev after_text : List ℕ → Bool → Result (List ℕ × List ℕ) FontCode → Result (List ℕ × Bool × List ℕ) FontCode
after_text text is_open found = found >>= λ it. Ok (with_word text is_open it.0, is_number_word it.0, it.1)

word_put : (v : ℕ) (w text rest : List ℕ) (is_open is_number : Bool) → word_at v rest ≡ Ok (w, rest) → is_number_word w ≡ is_number → put_first text is_open v rest ≡ put text is_open w rest is_number
word_put v w text rest is_open is_number read number = ap (after_text text is_open) read ∙ ap (put text is_open w rest) number

abbrev said : List ℕ → ℤ → Result (List ℕ × List ℕ) FontCode
said rest n = Ok (signed_decimal n, rest)

pub number_read : (v : ℕ) (n : ℤ) (rest : List ℕ) → 32 ≤ v → v < 247 → n ≡ pos v -ℤ pos 139 → word_at v rest ≡ Ok (signed_decimal n, rest)
unfolding word_at
number_read v n rest low high e = rw (le-ltb v 32 low, lt-ltb v 247 high) (ap (said rest) (sym e))

abbrev front : List ℕ → Bool → List ℕ → List ℕ → Result (List ℕ × Bool × List ℕ) FontCode
front text is_number rest all = Ok (all, is_number, rest)

pub number_known : (v : ℕ) (n : ℤ) → 32 ≤ v → v < 247 → n ≡ pos v -ℤ pos 139 → FitsSigned w32 n → IsKnown (record { first = v; text = signed_decimal n; is_number = true })
number_known v n low high e fits text rest is_open =
    word_put v (signed_decimal n) text rest is_open true (number_read v n rest low high e) (number_is_word n fits)
    ∙ ap (front text true rest) (append-nil (text ++ (if is_open then 32 else 9) ∷ signed_decimal n))

pub command_read : (v : ℕ) (w rest : List ℕ) → v < 32 → (v == 12) ≡ false → lookup (nat_eq v) one_byte_words ≡ Some w → word_at v rest ≡ Ok (w, rest)
unfolding word_at
command_read v w rest small alone found = rw (lt-ltb v 32 small, alone) (ap (found_word rest) found)

pub command_known : (v : ℕ) (w : List ℕ) → v < 32 → (v == 12) ≡ false → lookup (nat_eq v) one_byte_words ≡ Some w → is_number_word w ≡ false → IsKnown (record { first = v; text = w ++ 10 ∷ []; is_number = false })
command_known v w small alone found operator text rest is_open =
    word_put v w text rest is_open false (command_read v w rest small alone found) operator
    ∙ ap (front text false rest) (append_assoc text ((if is_open then 32 else 9) ∷ w) (10 ∷ []))

-- the same of another text that is this one
pub known_as : (v : ℕ) (is_number : Bool) (text other : List ℕ) → other ≡ text → IsKnown (record { first = v; text = text; is_number = is_number }) → IsKnown (record { first = v; text = other; is_number = is_number })
known_as v is_number text other e known = subst (λ t. IsKnown (record { first = v; text = t; is_number = is_number })) (sym e) known

pub endchar_known : IsKnown (record { first = 14; text = take 8 (codes "endchar\n\t       "); is_number = false })
unfolding is_number_word
endchar_known = command_known 14 (codes "endchar") (lit< tt) refl refl refl

-- ---- a known word after others

pub put_known : (known : KnownText) (first : ℕ) (old blank new : List ℕ) (is_open : Bool) → IsKnown known → known.first ≡ first
    → blank ≡ old ++ (if is_open then 32 else 9) ∷ [] → new ≡ blank ++ known.text → (rest : List ℕ) → put_first old is_open first rest ≡ Ok (new, known.is_number, rest)
put_known known first old blank new is_open is_known e p q rest =
    let all : new ≡ old ++ (if is_open then 32 else 9) ∷ known.text = q ∙ ap (λ l. l ++ known.text) p ∙ append_assoc old ((if is_open then 32 else 9) ∷ []) known.text in
    ap (λ v. put_first old is_open v rest) (sym e) ∙ is_known old rest is_open ∙ ap (front old known.is_number rest) (sym all)

-- ---- the first of some bytes after others

seam : (xs ys : List ℕ) (n : ℕ) → take (length xs + n) (xs ++ ys) ≡ xs ++ take n ys
seam [] ys n = let on : 0 + n ≡ n = omega arith in ap (λ k. take k ys) on
seam (x ∷ xs) ys n = let on : suc (length xs) + n ≡ suc (length xs + n) = omega arith in ap (λ k. take k (x ∷ xs ++ ys)) on ∙ ap (λ l. x ∷ l) (seam xs ys n)

pub front_put : (len most count : ℕ) (old new more text : List ℕ) → count ≤ most → take len old ≡ text → length text ≡ len → take (len + most) new ≡ take len old ++ more → take (len + count) new ≡ text ++ take count more
front_put len most count old new more text few here size e =
    sym (take-take (len + count) (len + most) new (omega (arith, few)))
    ∙ ap (take (len + count)) (e ∙ ap (λ l. l ++ more) here)
    ∙ ap (λ k. take (k + count) (text ++ more)) (sym size)
    ∙ seam text more count

-- ---- the blank before the next word

front_kept : (len most count : ℕ) (old new more : List ℕ) → count ≤ most → len ≤ length old → take (len + most) new ≡ take len old ++ more → take (len + count) new ≡ take len old ++ take count more
front_kept len most count old new more few within e = front_put len most count old new more (take len old) few refl (length-take-le len old within) e

-- one that is put with a word
pub blank_kept : (len most count : ℕ) (old new more : List ℕ) (is_open : Bool) → count < most → len ≤ length old → take (len + most) new ≡ take len old ++ more → HasBlank count is_open more → HasBlank (len + count) is_open new
blank_kept len most count old new more is_open few within e blank =
    let last : List ℕ = (if is_open then 32 else 9) ∷ [] in
    let same : len + count + 1 ≡ len + (count + 1) = omega arith in
    ap (λ n. take n new) same
    ∙ front_kept len most (count + 1) old new more (omega (arith, few)) within e
    ∙ ap (λ l. take len old ++ l) blank
    ∙ sym (append_assoc (take len old) (take count more) last)
    ∙ ap (λ l. l ++ last) (sym (front_kept len most count old new more (omega (arith, few)) within e))
