-- The three parts of a source, and its tail.
use Rattle.std.specs.Prelude.{ℕ, Bool, false, ◌+◌, ◌||◌, ◌&&◌, ◌==◌, nat_le, if◌then◌else◌, Some, None, Result, Ok, ok_or, List, [], ◌∷◌, length, take, drop, codes, filter_map}
use Rattle.std.specs.List.{list_all, list_any, position, starts_with, ends_with}
use Rattle.t1_frac.specs.Ascii.{digit_zero}
use Rattle.t1_frac.specs.declared.fault.Code.TheVariants.{F1, F2}
use Rattle.t1_frac.specs.declared.fault.Fault.{Fault}
use Rattle.t1_frac.specs.declared.fault.Place.TheVariants.{Nowhere}
use Rattle.t1_frac.specs.Outcome.{fault_at, ◌>>=◌}
use Rattle.t1_text.specs.Lines.{trimmed}

-- profile, parts: whether the trimmed line ends in this text
abbrev pub ends_in : List ℕ → List ℕ → Bool
ends_in text l = ends_with (λ x y. x == y) (trimmed l) text

-- Type 1 Font Format, eexec: the line that ends the clear part
abbrev pub is_eexec : List ℕ → Bool
is_eexec l = ends_in (codes "currentfile eexec") l

-- Type 1 Font Format, eexec: the line that ends the private part
abbrev pub is_closefile : List ℕ → Bool
is_closefile l = ends_in (codes "mark currentfile closefile") l

-- profile, parts: the three parts of some lines
pub record ThreeParts : Type 0 where
  pub clear : List (List ℕ)
  pub private : List (List ℕ)
  pub tail : List (List ℕ)

-- profile, parts: through the first eexec line, then through the first closefile line, then the tail
unfoldable pub parts_of : List (List ℕ) → Result ThreeParts Fault
parts_of ls = do
  eexec ← ok_or (position is_eexec ls) (fault_at Nowhere F1)
  closefile ← ok_or (position is_closefile (drop (eexec + 1) ls)) (fault_at Nowhere F2)
  Ok (record {
    clear = take (eexec + 1) ls;
    private = take (closefile + 1) (drop (eexec + 1) ls);
    tail = drop (closefile + 1) (drop (eexec + 1) ls);
  })

-- profile, parts: whether the bytes hold this text
abbrev pub holds : List ℕ → List ℕ → Bool
holds text [] = false
holds text (c ∷ rest) = starts_with (λ x y. x == y) (c ∷ rest) text || holds text rest

-- profile, tail: a line that, trimmed, has at least one byte, each of them `0`
abbrev pub is_zeros : List ℕ → Bool
is_zeros l = nat_le 1 (length (trimmed l)) && list_all (λ c. c == digit_zero) (trimmed l)

-- profile, tail: lines of zeros dropped, and `cleartomark` put first where no line holds it
unfoldable pub tail_of : List (List ℕ) → List (List ℕ)
tail_of ls =
    let kept = filter_map (λ l. if is_zeros l then None else Some l) ls in
    if list_any (holds (codes "cleartomark")) kept then kept else codes "cleartomark" ∷ kept
