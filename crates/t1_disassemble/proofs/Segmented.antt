-- The segments of a file, one after another.
use Rattle.std.proofs.Common.{◌≡◌, ℕ, ltb, ◌==◌, ◌||◌, ◌-◌, List, [], ◌∷◌, length, Option, None, Some, Result, Ok, Err, refl, ap, ◌∙◌, inl, inr}
use Rattle.std.proofs.lemmas.Bool.{cases_Bool}
use Rattle.std.specs.Int.{w32, from_le_bytes}
use Rattle.t1_frac.specs.Outcome.{◌>>=◌}
use Rattle.t1_disassemble.specs.declared.fault.FontCode.{FontCode}
use Rattle.t1_disassemble.specs.declared.fault.FontFault.{FontFault}
use Rattle.t1_disassemble.specs.declared.fault.FontPlace.{FontPlace}
use Rattle.t1_disassemble.specs.declared.fault.FontPlace.TheVariants.{Byte}
use Rattle.t1_disassemble.specs.Cuts.{pieces_after}
use Rattle.t1_disassemble.specs.Outcome.{font_fault_at, font_reported_at}
use Rattle.t1_disassemble.specs.SegmentsRead.{Segment, FontParts, cut_segment, segment_after, some_found, typed_segment, segment_at, segment_left, placed_segment, before_others, segments_at, segments_of, parts_onto, with_segment}
use Rattle.t1_disassemble.proofs.CutPieces.{IsLeft, left_twice, left_pieces}

-- what stands after a segment is what is left
abbrev Leaves : List ℕ → Result (Segment × List ℕ) FontCode → Type 0
Leaves rest (Ok found) = IsLeft rest found.1
Leaves rest (Err e) = Unit {0}

-- the same of what stands after the first byte, where there is a segment
abbrev LeavesMaybe : List ℕ → Result (Option (Segment × List ℕ)) FontCode → Type 0
LeavesMaybe rest (Ok (Some found)) = IsLeft rest found.1
LeavesMaybe rest (Ok None) = Unit {0}
LeavesMaybe rest (Err e) = Unit {0}

cut_leaves : (kind count : ℕ) (rest : List ℕ) → Leaves rest (cut_segment kind count rest)
cut_leaves kind count rest = elim (cases_Bool (ltb (length rest) count)) [
  | inl t ↦ rw t tt
  | inr f ↦ rw f (count, refl)
]

four_leaves : (a b c d : ℕ) (rest : List ℕ) (found : Result (Segment × List ℕ) FontCode) → Leaves rest found → Leaves (a ∷ b ∷ c ∷ d ∷ rest) found
four_leaves a b c d rest (Ok found) h = left_twice (a ∷ b ∷ c ∷ d ∷ rest) rest found.1 (4, refl) h
four_leaves a b c d rest (Err code) h = tt

after_leaves : (kind : ℕ) (rest : List ℕ) → Leaves rest (segment_after kind rest)
after_leaves kind [] = tt
after_leaves kind (a ∷ []) = tt
after_leaves kind (a ∷ b ∷ []) = tt
after_leaves kind (a ∷ b ∷ c ∷ []) = tt
after_leaves kind (a ∷ b ∷ c ∷ d ∷ rest) =
    let count = from_le_bytes w32 (a ∷ b ∷ c ∷ d ∷ []) in
    four_leaves a b c d rest (cut_segment kind count rest) (cut_leaves kind count rest)

some_leaves : (kind : ℕ) (rest : List ℕ) (found : Result (Segment × List ℕ) FontCode) → Leaves rest found → LeavesMaybe (kind ∷ rest) (some_found found)
some_leaves kind rest (Ok found) h = left_twice (kind ∷ rest) rest found.1 (1, refl) h
some_leaves kind rest (Err code) h = tt

typed_leaves : (kind : ℕ) (rest : List ℕ) → LeavesMaybe (kind ∷ rest) (typed_segment kind rest)
typed_leaves kind rest = elim (cases_Bool (kind == 3)) [
  | inl t ↦ rw t tt
  | inr f ↦ rw f (elim (cases_Bool (kind == 1 || kind == 2)) [
    | inl t ↦ rw t (some_leaves kind rest (segment_after kind rest) (after_leaves kind rest))
    | inr g ↦ rw g tt
  ])
]

at_leaves : (first : ℕ) (rest : List ℕ) → LeavesMaybe rest (segment_at (first ∷ rest))
at_leaves first [] = tt
at_leaves first (kind ∷ rest) = elim (cases_Bool (first == 128)) [
  | inl t ↦ rw t (typed_leaves kind rest)
  | inr f ↦ rw f tt
]

-- ---- the first segment, and those after it

-- what comes after a segment, of the bytes that it leaves
abbrev before_rest : ℕ → Option (Segment × List ℕ) → Result (List Segment) FontFault
before_rest total None = Ok []
before_rest total (Some found) = segments_of total found.1 >>= λ more. Ok (found.0 ∷ more)

abbrev after_first : List ℕ → List ℕ
after_first bytes = segment_left (segment_at bytes)

found_more : (total : ℕ) (place : FontPlace) (rest : List ℕ) (found : Result (Option (Segment × List ℕ)) FontCode) → LeavesMaybe rest found
    → (font_reported_at place found >>= before_others (segments_at total (pieces_after after_first (length rest - length (segment_left found)) rest))) ≡ (font_reported_at place found >>= before_rest total)
unfolding segments_of
found_more total place rest (Ok (Some found)) h =
    ap (λ (froms : List (List ℕ)). segments_at total froms >>= λ more. Ok (found.0 ∷ more)) (left_pieces after_first rest found.1 h)
found_more total place rest (Ok None) h = refl
found_more total place rest (Err code) h = refl

one_more : (total : ℕ) (rest : List ℕ) → segments_of total rest ≡ (placed_segment total rest >>= before_rest total)
unfolding segments_of
one_more total [] = refl
one_more total (first ∷ rest) = found_more total (Byte (total - length (first ∷ rest))) rest (segment_at (first ∷ rest)) (at_leaves first rest)

pub segments_more : (total : ℕ) (rest : List ℕ) (s : Segment) (after : List ℕ) → segment_at rest ≡ Ok (Some (s, after)) → segments_of total rest ≡ (segments_of total after >>= λ more. Ok (s ∷ more))
segments_more total rest s after e =
    one_more total rest ∙ ap (λ (found : Result (Option (Segment × List ℕ)) FontCode). font_reported_at (Byte (total - length rest)) found >>= before_rest total) e

pub segments_end : (total : ℕ) (rest : List ℕ) → segment_at rest ≡ Ok None → segments_of total rest ≡ Ok []
segments_end total rest e =
    one_more total rest ∙ ap (λ (found : Result (Option (Segment × List ℕ)) FontCode). font_reported_at (Byte (total - length rest)) found >>= before_rest total) e

pub segments_fail : (total : ℕ) (rest : List ℕ) (code : FontCode) → segment_at rest ≡ Err code → segments_of total rest ≡ Err (font_fault_at (Byte (total - length rest)) code)
segments_fail total rest code e =
    one_more total rest ∙ ap (λ (found : Result (Option (Segment × List ℕ)) FontCode). font_reported_at (Byte (total - length rest)) found >>= before_rest total) e

-- ---- each segment is put into its part

-- the parts after what was found, and after the segments behind it
abbrev pub parts_after : FontParts → ℕ → Option (Segment × List ℕ) → Result FontParts FontFault
parts_after parts total None = Ok parts
parts_after parts total (Some found) = parts_onto (with_segment parts found.0) (segments_of total found.1)

onto_first : (parts : FontParts) (s : Segment) (others : Result (List Segment) FontFault)
    → parts_onto parts (others >>= λ more. Ok (s ∷ more)) ≡ parts_onto (with_segment parts s) others
onto_first parts s (Ok more) = refl
onto_first parts s (Err fault) = refl

onto_found : (parts : FontParts) (total : ℕ) (found : Result (Option (Segment × List ℕ)) FontFault)
    → parts_onto parts (found >>= before_rest total) ≡ (found >>= parts_after parts total)
onto_found parts total (Ok (Some found)) = onto_first parts found.0 (segments_of total found.1)
onto_found parts total (Ok None) = refl
onto_found parts total (Err fault) = refl

pub parts_more : (parts : FontParts) (total : ℕ) (rest : List ℕ) → parts_onto parts (segments_of total rest) ≡ (placed_segment total rest >>= parts_after parts total)
parts_more parts total rest = ap (parts_onto parts) (one_more total rest) ∙ onto_found parts total (placed_segment total rest)
