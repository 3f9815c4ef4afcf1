-- How the lines of an input grow, byte by byte.
use Rattle.std.proofs.Common.{◌≡◌, ◌∙◌, ℕ, suc, Bool, true, false, cond, List, [], ◌∷◌, ◌++◌, refl, ap, ◌&&◌, arith}
use Rattle.std.specs.Prelude.{◌==◌, ◌||◌, not}
use Rattle.std.specs.List.{onto_first}
use Rattle.std.proofs.lemmas.Bool.{and_parts, eqb-true, false_from_ne_true, not-true}
use Rattle.std.proofs.lemmas.List.Sums.{sum_by-cons}
use Rattle.t1_text.specs.Lines.{unified, split_lines}
use Rattle.t1_commands.specs.Lines.{ended_lines, finished_lines}
use Rattle.t1_session.specs.Conversation.{input_after, is_unbroken}
use Rattle.t1_session.specs.LineEnds.{ends_line}

-- two numbers that differ don't compare as equal
pub differs : (a b : ℕ) → (a ≡ b → ⊥) → (a == b) ≡ false
differs a b h = false_from_ne_true (a == b) (λ e. h (eqb-true a b e))

other_ten : (b : ℕ) → (b == 10) ≡ false → (10 == b) ≡ false
other_ten b h = false_from_ne_true (10 == b) (λ e. let s : 10 ≡ b = eqb-true 10 b e in let t : true ≡ false = ap (λ n. n == 10) s ∙ h in cc)

-- the last line, where it isn't empty
abbrev pub last_line : List ℕ → List (List ℕ)
last_line [] = []
last_line (b ∷ bs) = (b ∷ bs) ∷ []

onto_last : (b : ℕ) (bs : List ℕ) → onto_first b (last_line bs) ≡ (b ∷ bs) ∷ []
onto_last b [] = refl
onto_last b (c ∷ cs) = refl

-- a line goes up to its LF
split-line : (xs rest : List ℕ) → is_unbroken xs ≡ true → split_lines (xs ++ 10 ∷ rest) ≡ xs ∷ split_lines rest
split-line [] rest h = refl
split-line (b ∷ bs) rest h =
    let s = and_parts (not (b == 10)) (is_unbroken bs) h in
    rw (not-true (b == 10) s.0, split-line bs rest s.1) refl

split-unbroken : (xs : List ℕ) → is_unbroken xs ≡ true → split_lines xs ≡ last_line xs
split-unbroken [] h = refl
split-unbroken (b ∷ bs) h =
    let s = and_parts (not (b == 10)) (is_unbroken bs) h in
    rw (not-true (b == 10) s.0, split-unbroken bs s.1) (onto_last b bs)

ended-line : (xs rest : List ℕ) → is_unbroken xs ≡ true → ended_lines (xs ++ 10 ∷ rest) ≡ suc (ended_lines rest)
ended-line [] rest h = sum_by-cons (λ c. cond (c == 10) 1 0) 10 rest ∙ omega arith
ended-line (b ∷ bs) rest h =
    let s = and_parts (not (b == 10)) (is_unbroken bs) h in
    sum_by-cons (λ c. cond (c == 10) 1 0) b (bs ++ 10 ∷ rest) ∙ rw (not-true (b == 10) s.0) (omega (arith, ended-line bs rest s.1))

ended-unbroken : (xs : List ℕ) → is_unbroken xs ≡ true → ended_lines xs ≡ 0
ended-unbroken [] h = refl
ended-unbroken (b ∷ bs) h =
    let s = and_parts (not (b == 10)) (is_unbroken bs) h in
    sum_by-cons (λ c. cond (c == 10) 1 0) b bs ∙ rw (not-true (b == 10) s.0) (omega (arith, ended-unbroken bs s.1))

pub finished_lines-line : (ended : Bool) (xs rest : List ℕ) → is_unbroken xs ≡ true → finished_lines ended (xs ++ 10 ∷ rest) ≡ xs ∷ finished_lines ended rest
finished_lines-line true xs rest h = split-line xs rest h
finished_lines-line false xs rest h = rw (ended-line xs rest h, split-line xs rest h) refl

pub finished_lines-unbroken : (xs : List ℕ) → is_unbroken xs ≡ true → finished_lines false xs ≡ []
finished_lines-unbroken xs h = rw (ended-unbroken xs h) refl

pub finished_lines-last : (xs : List ℕ) → is_unbroken xs ≡ true → finished_lines true xs ≡ last_line xs
finished_lines-last xs h = split-unbroken xs h

-- a line without its end stays so as a byte that ends no line comes to it
pub is_unbroken-push : (xs : List ℕ) (b : ℕ) → is_unbroken xs ≡ true → (b == 10) ≡ false → is_unbroken (xs ++ b ∷ []) ≡ true
is_unbroken-push [] b h n = rw n refl
is_unbroken-push (x ∷ xs) b h n =
    let s = and_parts (not (x == 10)) (is_unbroken xs) h in
    rw s.0 (is_unbroken-push xs b s.1 n)

pub unbroken_pushed : (q : Bool) (xs : List ℕ) (b : ℕ) → is_unbroken xs ≡ true → (b == 10) ≡ false → is_unbroken (cond q (xs ++ b ∷ []) xs) ≡ true
unbroken_pushed true xs b h n = is_unbroken-push xs b h n
unbroken_pushed false xs b h n = h

-- a byte that isn't an LF belongs to no CR before it
after-other : (a : Bool) (b : ℕ) (rest : List ℕ) → (b == 10) ≡ false → input_after a (b ∷ rest) ≡ b ∷ rest
after-other true b rest h = rw (other_ten b h) refl
after-other false b rest h = refl

-- a byte of a line
pub unified-byte : (a : Bool) (b : ℕ) (rest : List ℕ) → (b == 13) ≡ false → (b == 10) ≡ false
    → unified (input_after a (b ∷ rest)) ≡ b ∷ unified rest
unified-byte a b rest n13 n10 = rw (after-other a b rest n10, n13) refl

-- a CR takes the LF after it along
unified-return : (rest : List ℕ) → unified (13 ∷ rest) ≡ 10 ∷ unified (input_after true rest)
unified-return [] = refl
unified-return (c ∷ rest) = return_cases (10 == c) c rest refl where
  return_cases : (q : Bool) (c : ℕ) (rest : List ℕ) → (10 == c) ≡ q → unified (13 ∷ c ∷ rest) ≡ 10 ∷ unified (input_after true (c ∷ rest))
  return_cases true c rest e = let is : 10 ≡ c = eqb-true 10 c e in rw (← is) refl
  return_cases false c rest e = rw e refl

end_cases : (p q a : Bool) (b : ℕ) (rest : List ℕ) → (b == 13) ≡ p → (b == 10) ≡ q → p || (q && not a) ≡ true
    → unified (input_after a (b ∷ rest)) ≡ 10 ∷ unified (input_after p rest)
end_cases true q a b rest e f h = let is : b ≡ 13 = eqb-true b 13 e in rw (is, after-other a 13 rest refl) (unified-return rest)
end_cases false true true b rest e f h = cc
end_cases false true false b rest e f h = let is : b ≡ 10 = eqb-true b 10 f in rw is refl
end_cases false false a b rest e f h = cc

-- a byte that ends a line is read as its LF
pub unified-end : (a : Bool) (b : ℕ) (rest : List ℕ) → ends_line a b ≡ true → unified (input_after a (b ∷ rest)) ≡ 10 ∷ unified (input_after (b == 13) rest)
unified-end a b rest h = end_cases (b == 13) (b == 10) a b rest refl refl h

not_end_cases : (p q a : Bool) → p || (q && not a) ≡ false → q ≡ false → p ≡ false
not_end_cases true q a h k = h
not_end_cases false q a h k = refl

-- a byte that ends no line, and isn't an LF, is no CR
pub not_return : (a : Bool) (b : ℕ) → ends_line a b ≡ false → (b == 10) ≡ false → (b == 13) ≡ false
not_return a b h k = not_end_cases (b == 13) (b == 10) a h k

swallowed_cases : (a : Bool) → not a ≡ false → a ≡ true
swallowed_cases true h = refl
swallowed_cases false h = cc

-- an LF that ends no line stands after a CR
pub after_a_return : (a : Bool) → ends_line a 10 ≡ false → a ≡ true
after_a_return a h = swallowed_cases a h
