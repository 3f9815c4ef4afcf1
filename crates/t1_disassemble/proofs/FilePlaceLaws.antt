-- Where faults of the parts of a file stand in the file.
use Rattle.std.proofs.Common.{◌≡◌, ℕ, Bool, true, false, ◌+◌, ◌-◌, ◌<◌, ◌≤◌, min, List, ◌∷◌, length, None, Some, Result, Ok, Err, refl, sym, ap, subst, ◌∙◌, inl, inr, arith}
use Rattle.std.proofs.lemmas.Bool.{cases_lt, lt-ltb, le-ltb}
use Rattle.t1_frac.specs.Outcome.{◌>>=◌}
use Rattle.t1_text.specs.Lines.{begins_with}
use Rattle.t1_disassemble.specs.declared.fault.FontCode.{FontCode}
use Rattle.t1_disassemble.specs.declared.fault.FontFault.{FontFault}
use Rattle.t1_disassemble.specs.declared.fault.FontPlace.{FontPlace}
use Rattle.t1_disassemble.specs.declared.fault.FontPlace.TheVariants.{Nowhere, Byte, Entry}
use Rattle.t1_disassemble.specs.declared.fault.FontRefusal.{FontRefusal}
use Rattle.t1_disassemble.specs.declared.fault.FontRefusal.TheVariants as refusals
use Rattle.t1_disassemble.specs.FilePlaced.{Stands, front_place, place_byte, fault_byte, place_moved, fault_moved}
use Rattle.t1_disassemble.specs.FilePlaces.{is_behind, has_begun, place_among, byte_place, place_in_file, in_file}
use Rattle.t1_disassemble.specs.InPlace.{AreBehind}
use Rattle.t1_disassemble.specs.Outcome.{RefusesFont}
use Rattle.t1_disassemble.specs.SegmentsRead.{Segment, FontParts, segment_at, segments_of, parts_onto, no_parts}
use Rattle.t1_disassemble.proofs.Segmented.{segments_more, segments_end, segments_fail}

-- ---- one segment more

-- the same segments behind one
abbrev behind_one : Segment → Result (List Segment) FontFault → Result (List Segment) FontFault
behind_one s others = others >>= λ more. Ok (s ∷ more)

past_tail : (start end : ℕ) (begun : Bool) (s : Segment) (others : Result (List Segment) FontFault) (count place : ℕ) → is_behind begun s ≡ true
    → Stands (start + 6 + length s.bytes) end begun others count place → Stands start end begun (behind_one s others) count place
past_tail start end begun s (Ok more) count place is h = rw is h
past_tail start end begun s (Err fault) count place is h = tt

here : (start end : ℕ) (begun : Bool) (s : Segment) (others : Result (List Segment) FontFault) (count : ℕ) → is_behind begun s ≡ false → count < length s.bytes
    → Stands start end begun (behind_one s others) count (start + 6 + count)
here start end begun s (Ok more) count is few = rw (is, lt-ltb count (length s.bytes) few) refl
here start end begun s (Err fault) count is few = tt

past_part : (start end : ℕ) (begun : Bool) (s : Segment) (others : Result (List Segment) FontFault) (count place : ℕ) → is_behind begun s ≡ false → length s.bytes ≤ count
    → Stands (start + 6 + length s.bytes) (start + 6 + length s.bytes) (has_begun begun s) others (count - length s.bytes) place → Stands start end begun (behind_one s others) count place
past_part start end begun s (Ok more) count place is many h = rw (is, le-ltb count (length s.bytes) many) h
past_part start end begun s (Err fault) count place is many h = tt

-- ---- the same of the bytes that are left

pub tail_passed : (total start end : ℕ) (begun : Bool) (rest : List ℕ) (s : Segment) (after : List ℕ) (count place : ℕ) → segment_at rest ≡ Ok (Some (s, after)) → is_behind begun s ≡ true
    → Stands (start + 6 + length s.bytes) end begun (segments_of total after) count place → Stands start end begun (segments_of total rest) count place
tail_passed total start end begun rest s after count place e is h =
    subst (λ (r : Result (List Segment) FontFault). Stands start end begun r count place) (sym (segments_more total rest s after e)) (past_tail start end begun s (segments_of total after) count place is h)

pub stands_here : (total start end : ℕ) (begun : Bool) (rest : List ℕ) (s : Segment) (after : List ℕ) (count : ℕ) → segment_at rest ≡ Ok (Some (s, after)) → is_behind begun s ≡ false → count < length s.bytes
    → Stands start end begun (segments_of total rest) count (start + 6 + count)
stands_here total start end begun rest s after count e is few =
    subst (λ (r : Result (List Segment) FontFault). Stands start end begun r count (start + 6 + count)) (sym (segments_more total rest s after e)) (here start end begun s (segments_of total after) count is few)

pub part_passed : (total start end : ℕ) (begun : Bool) (rest : List ℕ) (s : Segment) (after : List ℕ) (count place : ℕ) → segment_at rest ≡ Ok (Some (s, after)) → is_behind begun s ≡ false → length s.bytes ≤ count
    → Stands (start + 6 + length s.bytes) (start + 6 + length s.bytes) (has_begun begun s) (segments_of total after) (count - length s.bytes) place → Stands start end begun (segments_of total rest) count place
part_passed total start end begun rest s after count place e is many h =
    subst (λ (r : Result (List Segment) FontFault). Stands start end begun r count place) (sym (segments_more total rest s after e)) (past_part start end begun s (segments_of total after) count place is many h)

pub stands_end : (total start end : ℕ) (begun : Bool) (rest : List ℕ) (count : ℕ) → segment_at rest ≡ Ok None → Stands start end begun (segments_of total rest) count end
stands_end total start end begun rest count e = subst (λ (r : Result (List Segment) FontFault). Stands start end begun r count end) (sym (segments_end total rest e)) refl

pub stands_failed : (total start end : ℕ) (begun : Bool) (rest : List ℕ) (count place : ℕ) (code : FontCode) → segment_at rest ≡ Err code → Stands start end begun (segments_of total rest) count place
stands_failed total start end begun rest count place code e = subst (λ (r : Result (List Segment) FontFault). Stands start end begun r count place) (sym (segments_fail total rest code e)) tt

-- ---- the clear text in the first segment, the encrypted part in the second

pub front_stands : (total : ℕ) (file : List ℕ) (s t : Segment) (after rest : List ℕ) (count : ℕ) → segment_at file ≡ Ok (Some (s, after)) → segment_at after ≡ Ok (Some (t, rest)) → s.kind ≡ 1 → t.kind ≡ 2 → 0 < length t.bytes
    → AreBehind (segments_of total rest) → Stands 0 0 false (segments_of total file) count (front_place (length s.bytes) (length t.bytes) count)
front_stands total file s t after rest count e d text binary some behind = elim (cases_lt count (length s.bytes)) [
  | inl few ↦ rw (lt-ltb count (length s.bytes) few) (stands_here total 0 0 false file s after count e refl few)
  | inr many ↦
      let begun : has_begun false s ≡ false = rw text refl in
      let start = 6 + length s.bytes in
      let left = count - length s.bytes in
      let next : (place : ℕ) → Stands start start false (segments_of total after) left place → Stands 0 0 false (segments_of total file) count place = λ place h.
      part_passed total 0 0 false file s after count place e refl many (subst (λ (b : Bool). Stands start start b (segments_of total after) left place) (sym begun) h)
      in
      rw (le-ltb count (length s.bytes) many) (elim (cases_lt left (length t.bytes)) [
        | inl fits ↦
            let is : start + 6 + left ≡ 12 + min count (length s.bytes + length t.bytes) = omega (arith, many, fits) in
            next (12 + min count (length s.bytes + length t.bytes)) (subst (λ (n : ℕ). Stands start start false (segments_of total after) left n) is (stands_here total start start false after t rest left d refl fits))
        | inr past ↦
            let is : start + 6 + length t.bytes ≡ 12 + min count (length s.bytes + length t.bytes) = omega (arith, many, past) in
            let end = start + 6 + length t.bytes in
            let now : has_begun false t ≡ true = rw (binary, lt-ltb 0 (length t.bytes) some) refl in
            next (12 + min count (length s.bytes + length t.bytes))
            (subst (λ (n : ℕ). Stands start start false (segments_of total after) left n) is
            (part_passed total start start false after t rest left end d refl past (subst (λ (b : Bool). Stands end end b (segments_of total rest) (left - length t.bytes) end) (sym now) (behind end end (left - length t.bytes)))))
      ])
]

-- ---- the fault of a file

stood : (parts : FontParts) (found : Result (List Segment) FontFault) (count place : ℕ) → parts_onto no_parts found ≡ Ok parts → Stands 0 0 false found count place → place ≡ place_among found count
stood parts (Ok segments) count place e h = h
stood parts (Err fault) count place e h = absurd (cc)

-- a byte that stands somewhere among sound segments stands there in the file
pub stands_in_file : (file : List ℕ) (parts : FontParts) (count place : ℕ) → begins_with 128 file ≡ true → parts_onto no_parts (segments_of (length file) file) ≡ Ok parts
    → Stands 0 0 false (segments_of (length file) file) count place → place ≡ byte_place file count
stands_in_file file parts count place marked e h = rw marked (stood parts (segments_of (length file) file) count place e h)

place_same : (file : List ℕ) (place : FontPlace) (to : ℕ) → to ≡ byte_place file (place_byte place) → place_in_file file place ≡ place_moved to place
place_same file Nowhere to e = refl
place_same file (Byte count) to e = ap (λ (n : ℕ). Byte n) (sym e)
place_same file (Entry name) to e = refl

-- what is refused of the parts, and of their file
pub refused_in_file : (file : List ℕ) (refused : FontRefusal) (read : Result (List ℕ) FontFault) (to : ℕ) → to ≡ byte_place file (fault_byte refused) → RefusesFont refused read
    → RefusesFont (fault_moved to refused) (in_file file read)
refused_in_file file refusals.Memory read to e h = tt
refused_in_file file (refusals.Fault fault) read to e h =
    ap (λ (r : Result (List ℕ) FontFault). in_file file r) h ∙ ap (λ (p : FontPlace). Err (record { code = fault.code; place = p })) (place_same file fault.place to e)

-- a file without segments
place_flat : (file : List ℕ) (place : FontPlace) → begins_with 128 file ≡ false → place_in_file file place ≡ place
place_flat file Nowhere h = refl
place_flat file (Byte count) h = rw h refl
place_flat file (Entry name) h = refl

pub flat_file : (file : List ℕ) (read : Result (List ℕ) FontFault) → begins_with 128 file ≡ false → in_file file read ≡ read
flat_file file (Ok text) h = refl
flat_file file (Err fault) h = ap (λ (p : FontPlace). Err (record { code = fault.code; place = p })) (place_flat file fault.place h)
