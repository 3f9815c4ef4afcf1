-- Sources cut into their parts.
use Rattle.std.proofs.Common.{◌≡◌, ◌≤◌, ◌<◌, ◌+◌, ◌-◌, Bool, true, false, suc, if◌then◌else◌, ℕ, None, Some, Ok, Err, List, [], ◌∷◌, ◌++◌, length, take, drop, nat_lt, refl, sym, ◌∙◌, inl, inr, ap, arith}
use Rattle.std.specs.List.{list_any, position, position_or_len}
use Rattle.std.proofs.lemmas.Bool.{cases_Bool, le-ltb, lt-ltb}
use Rattle.std.proofs.lemmas.List.{append_assoc, append-nil, take_all}
use Rattle.std.proofs.lemmas.List.Folds.{list_any-append}
use Rattle.t1_frac.specs.declared.fault.Code.TheVariants.{F1, F2}
use Rattle.t1_frac.specs.declared.fault.Place.TheVariants.{Nowhere}
use Rattle.t1_frac.specs.Outcome.{fault_at}
use Rattle.t1_text.specs.Lines.{lines, before_rest}
use Rattle.t1_parts.specs.Parts.{is_eexec, is_closefile, parts_of}
use Rattle.t1_parts.specs.LineCuts.{IsCut, AreCutAfter, NoneGone}

-- a function of two that are each the same
pub ap_both : {A B C : Type 0} (f : A → B → C) (x y : A) (u v : B) → x ≡ y → u ≡ v → f x u ≡ f y v
ap_both f x y u v e k = ap (λ a. f a u) e ∙ ap (f y) k

-- ---- lines cut at the first one that passes a test

at_end : {X : Type 0} (p : X → Bool) (xs : List X) → list_any p xs ≡ false → length xs ≤ position_or_len p xs
at_end p [] h = omega arith
at_end p (x ∷ xs) h = elim (cases_Bool (p x)) [
  | inl e ↦ (let off : true ≡ false = rw e at h in absurd (cc))
  | inr e ↦ (let more = at_end p xs (rw e at h) in rw e (omega (arith, more)))
]

pub no_position : {X : Type 0} (p : X → Bool) (xs : List X) → list_any p xs ≡ false → position p xs ≡ None
no_position p xs h = ap (λ t. if t then Some (position_or_len p xs) else None) (le-ltb (position_or_len p xs) (length xs) (at_end p xs h))

pub place_of : {X : Type 0} (p : X → Bool) (xs : List X) (y : X) (zs : List X) → list_any p xs ≡ false → p y ≡ true → position_or_len p (xs ++ y ∷ zs) ≡ length xs
place_of p [] y zs h k = rw k refl
place_of p (x ∷ xs) y zs h k = elim (cases_Bool (p x)) [
  | inl e ↦ (let off : true ≡ false = rw e at h in absurd (cc))
  | inr e ↦ (let more = place_of p xs y zs (rw e at h) k in rw e (omega (arith, more)))
]

pub longer : {X : Type 0} (xs : List X) (y : X) (zs : List X) → length xs < length (xs ++ y ∷ zs)
longer [] y zs = omega arith
longer (x ∷ xs) y zs = let more = longer xs y zs in omega (arith, more)

pub cut_position : {X : Type 0} (p : X → Bool) (xs : List X) (y : X) (zs : List X) → list_any p xs ≡ false → p y ≡ true → position p (xs ++ y ∷ zs) ≡ Some (length xs)
cut_position p xs y zs h k =
    let at = place_of p xs y zs h k in
    ap (λ n. if nat_lt n (length (xs ++ y ∷ zs)) then Some n else None) at
    ∙ ap (λ t. if t then Some (length xs) else None) (lt-ltb (length xs) (length (xs ++ y ∷ zs)) (longer xs y zs))

cut_taken : {X : Type 0} (xs : List X) (y : X) (zs : List X) → take (length xs + 1) (xs ++ y ∷ zs) ≡ xs ++ y ∷ []
cut_taken [] y zs = refl
cut_taken (x ∷ xs) y zs =
    let size : suc (length xs) + 1 ≡ suc (length xs + 1) = omega arith in
    ap (λ k. take k (x ∷ xs ++ y ∷ zs)) size ∙ ap (λ l. x ∷ l) (cut_taken xs y zs)

pub cut_dropped : {X : Type 0} (xs : List X) (y : X) (zs : List X) → drop (length xs + 1) (xs ++ y ∷ zs) ≡ zs
cut_dropped [] y zs = refl
cut_dropped (x ∷ xs) y zs =
    let size : suc (length xs) + 1 ≡ suc (length xs + 1) = omega arith in
    ap (λ k. drop k (x ∷ xs ++ y ∷ zs)) size ∙ cut_dropped xs y zs

-- ---- the parts

-- without a line that ends the clear part
pub no_clear : (ls : List (List ℕ)) → list_any is_eexec ls ≡ false → parts_of ls ≡ Err (fault_at Nowhere F1)
unfolding parts_of
no_clear ls h = rw (no_position is_eexec ls h) refl

-- without one that ends the private part
pub no_private : (ls clear : List (List ℕ)) (eexec : List ℕ) (rest : List (List ℕ)) → IsCut is_eexec ls clear eexec rest → list_any is_closefile rest ≡ false
    → parts_of ls ≡ Err (fault_at Nowhere F2)
unfolding parts_of
no_private ls clear eexec rest cut h =
    let at = cut_position is_eexec clear eexec rest cut.1 cut.2 in
    let none = ap (position is_closefile) (cut_dropped clear eexec rest) ∙ no_position is_closefile rest h in
    rw cut.0 (rw (at, none) refl)

-- with both
pub parts_cut : (ls clear : List (List ℕ)) (eexec : List ℕ) (rest private : List (List ℕ)) (closefile : List ℕ) (tail : List (List ℕ))
    → IsCut is_eexec ls clear eexec rest → IsCut is_closefile rest private closefile tail
    → parts_of ls ≡ Ok (record { clear = clear ++ eexec ∷ []; private = private ++ closefile ∷ []; tail = tail })
unfolding parts_of
parts_cut ls clear eexec rest private closefile tail cut next =
    let at = cut_position is_eexec clear eexec rest cut.1 cut.2 in
    let following = cut_dropped clear eexec rest ∙ next.0 in
    let second = ap (position is_closefile) following ∙ cut_position is_closefile private closefile tail next.1 next.2 in
    rw cut.0 (rw (at, second) (ap_both (λ c r. Ok (record { clear = c; private = take (length private + 1) r; tail = drop (length private + 1) r })) _ _ _ _ (cut_taken clear eexec rest) following
    ∙ ap_both (λ p t. Ok (record { clear = clear ++ eexec ∷ []; private = p; tail = t })) _ _ _ _ (cut_taken private closefile tail) (cut_dropped private closefile tail)))

-- ---- bytes cut after whole lines

-- a line further
pub cut_further : (bytes rest line after : List ℕ) → length rest ≤ length bytes → length after < length rest
    → ((j : ℕ) → lines (take (length rest - length after + j) rest) ≡ line ∷ lines (take j after)) → AreCutAfter bytes rest
    → (lines (before_rest bytes after) ≡ lines (before_rest bytes rest) ++ line ∷ []) × AreCutAfter bytes after
cut_further bytes rest line after within fewer cut h =
    let step : length rest - length after ≡ length rest - length after + 0 = omega arith in
    let further : (j : ℕ) → lines (take (length bytes - length after + j) bytes) ≡ lines (before_rest bytes rest) ++ (line ∷ lines (take j after)) =
    λ j. (let size : length bytes - length after + j ≡ length bytes - length rest + (length rest - length after + j) = omega (arith, within, fewer) in
    ap (λ k. lines (take k bytes)) size ∙ h (length rest - length after + j) ∙ ap (λ ls. lines (before_rest bytes rest) ++ ls) (cut j)) in
    let none : length bytes - length after ≡ length bytes - length after + 0 = omega arith in
    let now : lines (before_rest bytes after) ≡ lines (before_rest bytes rest) ++ line ∷ [] = ap (λ k. lines (take k bytes)) none ∙ further 0 in
    (now, λ j. further j ∙ sym (ap (λ ls. ls ++ lines (take j after)) now ∙ append_assoc (lines (before_rest bytes rest)) (line ∷ []) (lines (take j after))))

-- all lines are those before the rest, and the rest's
pub lines_cut : (bytes rest : List ℕ) → length rest ≤ length bytes → AreCutAfter bytes rest → lines bytes ≡ lines (before_rest bytes rest) ++ lines rest
lines_cut bytes rest within h =
    let size : length bytes - length rest + length rest ≡ length bytes = omega (arith, within) in
    ap lines (sym (take_all (length bytes) bytes (omega arith))) ∙ ap (λ k. lines (take k bytes)) (sym size) ∙ h (length rest)
    ∙ ap (λ l. lines (before_rest bytes rest) ++ lines l) (take_all (length rest) rest (omega arith))

-- none of the lines before passes the test, nor does one more
pub none_further : (test : List ℕ → Bool) (bytes rest line after : List ℕ) → length after < length rest
    → ((j : ℕ) → lines (take (length rest - length after + j) rest) ≡ line ∷ lines (take j after)) → test line ≡ false → NoneGone test bytes rest → NoneGone test bytes after
none_further test bytes rest line after fewer cut off h =
    let further = cut_further bytes rest line after h.0 fewer cut h.1 in (
      omega (arith, h.0, fewer),
      further.1,
      ap (list_any test) further.0 ∙ list_any-append test (lines (before_rest bytes rest)) (line ∷ []) ∙ (rw (h.2, off) refl),
    )

-- nor does one of those that are gone then
pub none_over : (test : List ℕ → Bool) (bytes rest after : List ℕ) → NoneGone test bytes rest → NoneGone test rest after → NoneGone test bytes after
none_over test bytes rest after h k =
    let all : (j : ℕ) → lines (take (length bytes - length after + j) bytes) ≡ lines (before_rest bytes rest) ++ (lines (before_rest rest after) ++ lines (take j after)) =
    λ j. (let size : length bytes - length after + j ≡ length bytes - length rest + (length rest - length after + j) = omega (arith, h.0, k.0) in
    ap (λ n. lines (take n bytes)) size ∙ h.1 (length rest - length after + j) ∙ ap (λ ls. lines (before_rest bytes rest) ++ ls) (k.1 j)) in
    let none : length bytes - length after ≡ length bytes - length after + 0 = omega arith in
    let now : lines (before_rest bytes after) ≡ lines (before_rest bytes rest) ++ lines (before_rest rest after) =
    ap (λ n. lines (take n bytes)) none ∙ all 0 ∙ ap (λ ls. lines (before_rest bytes rest) ++ ls) (append-nil (lines (before_rest rest after))) in (
      omega (arith, h.0, k.0),
      λ j. all j ∙ sym (ap (λ ls. ls ++ lines (take j after)) now ∙ append_assoc (lines (before_rest bytes rest)) (lines (before_rest rest after)) (lines (take j after))),
      ap (list_any test) now ∙ list_any-append test (lines (before_rest bytes rest)) (lines (before_rest rest after)) ∙ (rw (h.2, k.2) refl),
    )
