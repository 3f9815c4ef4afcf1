-- Encrypted parts in binary, in segments of their own.
use Rattle.std.proofs.Common.{◌≡◌, ℕ, Bool, true, false, ◌&&◌, ◌+◌, ◌-◌, ◌<◌, ◌≤◌, if◌then◌else◌, List, [], ◌∷◌, ◌++◌, length, take, drop, Result, Ok, Err, refl, sym, ap, ◌∙◌, append-nil, length-append, inl, inr, arith}
use Rattle.std.proofs.Math.Numerals.{one-add}
use Rattle.std.proofs.lemmas.Bool.{cases_Bool}
use Rattle.std.proofs.lemmas.List.{drop-drop, take-take, length-take-le, length-drop, nil_from_length}
use Rattle.std.specs.List.{prefix_len}
use Rattle.std.specs.Prelude.{nat_lt}
use Rattle.t1_frac.specs.Outcome.{◌>>=◌}
use Rattle.t1_text.specs.Lines.{lines, joined}
use Rattle.t1_parts.specs.Parts.{tail_of}
use Rattle.t1_disassemble.specs.declared.fault.FontCode.TheVariants.{D3}
use Rattle.t1_disassemble.specs.declared.fault.FontFault.{FontFault}
use Rattle.t1_disassemble.specs.declared.fault.FontPlace.TheVariants.{Nowhere, Byte}
use Rattle.t1_disassemble.specs.CutDigits.{is_early, is_cut, with_digits}
use Rattle.t1_disassemble.specs.Decipher.{decrypted_private}
use Rattle.t1_disassemble.specs.Digits.{is_hexadecimal, digits_len}
use Rattle.t1_disassemble.specs.Disassembly.{coded_bytes, coded_place, after_coded, tail_after}
use Rattle.t1_disassemble.specs.Front.{is_space, past_spaces}
use Rattle.t1_disassemble.specs.Kinds.{single_sections}
use Rattle.t1_disassemble.specs.Outcome.{font_fault_at, font_reported_at}
use Rattle.t1_disassemble.specs.PiecesOnto.{private_onto}
use Rattle.t1_disassemble.specs.SegmentsRead.{FontParts}
use Rattle.t1_disassemble.specs.Settings.{reading_operator, leading_bytes}
use Rattle.t1_disassemble.specs.SourceOnto.{plain_onto, source_onto, binary_onto, segmented_source, flat_source, counted_onto, flat_onto}
use Rattle.t1_disassemble.proofs.Sources.{all_stand}
use Rattle.t1_disassemble.proofs.WholeLaws.{unchanged, tail_again}

-- ---- where the encrypted bytes begin

space_front : (c : ℕ) (rest : List ℕ) → is_space c ≡ true → past_spaces (c ∷ rest) ≡ past_spaces rest
space_front c rest h = rw (h, one-add) refl

pub word_front : (c : ℕ) (rest : List ℕ) → is_space c ≡ false → past_spaces (c ∷ rest) ≡ c ∷ rest
word_front c rest h = rw h refl

pub spaces_gone : (after coded : List ℕ) → length (past_spaces after) ≡ 0 → past_spaces (after ++ coded) ≡ past_spaces coded
spaces_gone [] coded h = refl
spaces_gone (c ∷ after) coded h = elim (cases_Bool (is_space c)) [
  | inl t ↦ space_front c (after ++ coded) t ∙ spaces_gone after coded (ap length (sym (space_front c after t)) ∙ h)
  | inr f ↦ (let e : length (c ∷ after) ≡ 0 = ap length (sym (word_front c after f)) ∙ h in absurd (omega (arith, e)))
]

pub spaces_behind : (len : ℕ) (clear : List ℕ) → drop (len + prefix_len is_space (drop len clear)) clear ≡ past_spaces (drop len clear)
spaces_behind len clear = sym (drop-drop (prefix_len is_space (drop len clear)) len clear)

-- ---- no digits among which another byte could stand

and_none : (b : Bool) → (b && false) ≡ false
and_none true = refl
and_none false = refl

digits_none : {X : Type 0} (place : ℕ) (coded : List ℕ) (read : Result X FontFault) → is_hexadecimal coded ≡ false → with_digits place coded read ≡ read
digits_none place coded (Ok x) off = refl
digits_none place coded (Err fault) off =
    let cut : is_cut coded ≡ false = ap (λ b. b && nat_lt (digits_len coded) (length coded)) off in
    ap (λ b. Err (if is_early fault.code && b then font_fault_at (Byte (place + digits_len coded)) D3 else fault)) cut
    ∙ ap (λ b. Err (if b then font_fault_at (Byte (place + digits_len coded)) D3 else fault)) (and_none (is_early fault.code))

-- ---- the source of such a part

same_after : {X Y : Type 0} (read : Result X FontFault) (f g : X → Result Y FontFault) → ((x : X) → f x ≡ g x) → (read >>= f) ≡ (read >>= g)
same_after (Ok x) f g h = h x
same_after (Err fault) f g h = refl

-- the lines that were read, with those of a tail
abbrev with_tail : ℕ → List ℕ → List ℕ → List ℕ → List ℕ × List ℕ → Result (List ℕ) FontFault
with_tail lead text plain tail private = single_sections (drop (length text) private.0) >>= λ single. all_stand lead plain >>= λ kept. Ok (private.0 ++ joined (tail_of (lines tail)))

pub binary_same : (text clear segments tail coded : List ℕ) → is_hexadecimal coded ≡ false → 0 < length segments
    → source_onto text (record { clear = clear; coded = segments; tail = tail }) coded ≡ binary_onto text tail (decrypted_private coded)
binary_same text clear segments tail coded off some =
    let parts : FontParts = record { clear = clear; coded = segments; tail = tail } in
    let plain = decrypted_private coded in
    let read = λ (lead : ℕ). private_onto (reading_operator (lines plain)) lead text false plain in
    let left = λ (private : List ℕ × List ℕ). tail_after parts coded (4 + (length plain - length private.1)) in
    ap (λ (b : List ℕ). plain_onto text parts coded (decrypted_private b)) (unchanged coded off)
    ∙ same_after (font_reported_at Nowhere (leading_bytes (lines plain)))
    (λ lead. with_digits (coded_place parts coded) coded (read lead) >>= λ private. with_tail lead text plain (left private) private)
    (λ lead. read lead >>= λ private. with_tail lead text plain tail private)
    (λ lead.
    ap (λ (r : Result (List ℕ × List ℕ) FontFault). r >>= λ private. with_tail lead text plain (left private) private) (digits_none (coded_place parts coded) coded (read lead) off)
    ∙ same_after (read lead) (λ private. with_tail lead text plain (left private) private) (λ private. with_tail lead text plain tail private)
    (λ private. ap (λ (t : List ℕ). with_tail lead text plain t private) (tail_again clear segments tail coded (4 + (length plain - length private.1)) some)))

pub coded_in_segments : (text clear after coded tail : List ℕ) → past_spaces (after ++ coded) ≡ coded → is_hexadecimal coded ≡ false → 0 < length coded
    → source_onto text (record { clear = clear; coded = coded; tail = tail }) (past_spaces (after ++ coded)) ≡ binary_onto text tail (decrypted_private coded)
coded_in_segments text clear after coded tail e off some =
    ap (source_onto text (record { clear = clear; coded = coded; tail = tail })) e ∙ binary_same text clear coded tail coded off some

pub coded_on_line : (text clear after coded tail : List ℕ) → length coded ≡ 0
    → source_onto text (record { clear = clear; coded = coded; tail = tail }) (past_spaces (after ++ coded)) ≡ source_onto text (record { clear = clear; coded = []; tail = tail }) (past_spaces after)
coded_on_line text clear after [] tail none = ap (λ l. source_onto text (record { clear = clear; coded = []; tail = tail }) (past_spaces l)) (append-nil after)
coded_on_line text clear after (c ∷ coded) tail none = absurd (omega (arith, none))

-- ---- the same, by the lines and the count of the private text

then_then : {X Y Z : Type 0} (read : Result X FontFault) (f : X → Result Y FontFault) (g : Y → Result Z FontFault) → ((read >>= f) >>= g) ≡ (read >>= λ x. f x >>= g)
then_then (Ok x) f g = refl
then_then (Err fault) f g = refl

-- what is made of both, with the tail that stands behind so many bytes
abbrev counted_tail : (ℕ → List ℕ) → List ℕ × ℕ → Result (List ℕ) FontFault
counted_tail tail found = Ok (found.0 ++ joined (tail_of (lines (tail found.1))))

counted_on : (text plain : List ℕ) (tail : ℕ → List ℕ)
    → (font_reported_at Nowhere (leading_bytes (lines plain)) >>= λ lead. private_onto (reading_operator (lines plain)) lead text false plain >>= λ private. with_tail lead text plain (tail (length plain - length private.1)) private)
    ≡ (counted_onto text plain >>= counted_tail tail)
counted_on text plain tail =
    let read = λ (lead : ℕ). private_onto (reading_operator (lines plain)) lead text false plain in
    let counted = λ (lead : ℕ) (private : List ℕ × List ℕ) (one : List ℕ). all_stand lead plain >>= λ kept. Ok (private.0, length plain - length private.1) in
    let single = λ (lead : ℕ) (private : List ℕ × List ℕ). single_sections (drop (length text) private.0) >>= counted lead private in
    sym (then_then (font_reported_at Nowhere (leading_bytes (lines plain))) (λ lead. read lead >>= single lead) (counted_tail tail)
    ∙ same_after (font_reported_at Nowhere (leading_bytes (lines plain))) (λ lead. (read lead >>= single lead) >>= counted_tail tail)
    (λ lead. read lead >>= λ private. with_tail lead text plain (tail (length plain - length private.1)) private)
    (λ lead. then_then (read lead) (single lead) (counted_tail tail)
    ∙ same_after (read lead) (λ private. single lead private >>= counted_tail tail) (λ private. with_tail lead text plain (tail (length plain - length private.1)) private)
    (λ private. then_then (single_sections (drop (length text) private.0)) (counted lead private) (counted_tail tail)
    ∙ same_after (single_sections (drop (length text) private.0)) (λ one. counted lead private one >>= counted_tail tail)
    (λ one. all_stand lead plain >>= λ kept. counted_tail tail (private.0, length plain - length private.1))
    (λ one. then_then (all_stand lead plain) (λ kept. Ok (private.0, length plain - length private.1)) (counted_tail tail)))))

segmented_same : (tail plain : List ℕ) → binary_onto [] tail plain ≡ segmented_source tail plain
segmented_same tail plain = counted_on [] plain (λ count. tail)

-- in segments
pub packed_segments : (clear segments tail coded : List ℕ) → is_hexadecimal coded ≡ false → 0 < length segments
    → source_onto [] (record { clear = clear; coded = segments; tail = tail }) coded ≡ segmented_source tail (decrypted_private coded)
packed_segments clear segments tail coded off some = binary_same [] clear segments tail coded off some ∙ segmented_same tail (decrypted_private coded)

-- without segments
behind_binary : (coded : List ℕ) (count : ℕ) → is_hexadecimal coded ≡ false → after_coded coded count ≡ drop count coded
behind_binary coded count off = rw off refl

pub flat_on : (text clear tail coded : List ℕ) → is_hexadecimal coded ≡ false → source_onto text (record { clear = clear; coded = []; tail = tail }) coded ≡ flat_onto text coded
flat_on text clear tail coded off =
    let parts : FontParts = record { clear = clear; coded = []; tail = tail } in
    let plain = decrypted_private coded in
    let read = λ (lead : ℕ). private_onto (reading_operator (lines plain)) lead text false plain in
    let left = λ (private : List ℕ × List ℕ). tail_after parts coded (4 + (length plain - length private.1)) in
    let behind = λ (private : List ℕ × List ℕ). drop (4 + (length plain - length private.1)) coded in
    ap (λ (b : List ℕ). plain_onto text parts coded (decrypted_private b)) (unchanged coded off)
    ∙ same_after (font_reported_at Nowhere (leading_bytes (lines plain)))
    (λ lead. with_digits (coded_place parts coded) coded (read lead) >>= λ private. with_tail lead text plain (left private) private)
    (λ lead. read lead >>= λ private. with_tail lead text plain (behind private) private)
    (λ lead.
    ap (λ (r : Result (List ℕ × List ℕ) FontFault). r >>= λ private. with_tail lead text plain (left private) private) (digits_none (coded_place parts coded) coded (read lead) off)
    ∙ same_after (read lead) (λ private. with_tail lead text plain (left private) private) (λ private. with_tail lead text plain (behind private) private)
    (λ private. ap (λ (t : List ℕ). with_tail lead text plain t private) (behind_binary coded (4 + (length plain - length private.1)) off)))
    ∙ counted_on text plain (λ count. drop (4 + count) coded)

pub flat_same : (clear tail coded : List ℕ) → is_hexadecimal coded ≡ false → source_onto [] (record { clear = clear; coded = []; tail = tail }) coded ≡ flat_source coded
flat_same clear tail coded off = flat_on [] clear tail coded off

-- ---- a beginning in segments of text, put in front of the binary segments

parts_same : (text : List ℕ) (p q : FontParts) (coded : List ℕ) → coded_place p coded ≡ coded_place q coded → ((count : ℕ) → tail_after p coded count ≡ tail_after q coded count)
    → source_onto text p coded ≡ source_onto text q coded
parts_same text p q coded place tail =
    let plain = decrypted_private (coded_bytes coded) in
    let read = λ (n : ℕ) (lead : ℕ). with_digits n coded (private_onto (reading_operator (lines plain)) lead text false plain) in
    let left = λ (parts : FontParts) (private : List ℕ × List ℕ). tail_after parts coded (4 + (length plain - length private.1)) in
    same_after (font_reported_at Nowhere (leading_bytes (lines plain)))
    (λ lead. read (coded_place p coded) lead >>= λ private. with_tail lead text plain (left p private) private)
    (λ lead. read (coded_place q coded) lead >>= λ private. with_tail lead text plain (left q private) private)
    (λ lead.
    ap (λ (n : ℕ). read n lead >>= λ private. with_tail lead text plain (left p private) private) place
    ∙ same_after (read (coded_place q coded) lead) (λ private. with_tail lead text plain (left p private) private) (λ private. with_tail lead text plain (left q private) private)
    (λ private. ap (λ (t : List ℕ). with_tail lead text plain t private) (tail (4 + (length plain - length private.1)))))

pub whole_parts : (clear front segments tail whole : List ℕ) (len : ℕ) → len ≤ length clear → 0 < length segments → front ≡ take len clear → whole ≡ drop len clear ++ segments
    → source_onto (joined (lines (take len clear))) (record { clear = clear; coded = segments; tail = tail }) (past_spaces (drop len clear ++ segments))
    ≡ source_onto (joined (lines (take len front))) (record { clear = front; coded = whole; tail = tail }) (past_spaces (drop len front ++ whole))
whole_parts clear front segments tail whole len within some e d =
    let p : FontParts = record { clear = clear; coded = segments; tail = tail } in
    let q : FontParts = record { clear = front; coded = whole; tail = tail } in
    let coded = past_spaces (drop len clear ++ segments) in
    let front_len : length front ≡ len = ap (λ (l : List ℕ). length l) e ∙ length-take-le len clear within in
    let whole_len : length whole ≡ length clear - len + length segments =
    ap (λ (l : List ℕ). length l) d ∙ omega (arith, length-append (drop len clear) segments, length-drop len clear)
    in
    let place : coded_place p coded ≡ coded_place q coded = omega (arith, front_len, whole_len, within) in
    let much : 0 < length whole = omega (arith, whole_len, some) in
    let none : drop len front ≡ [] = nil_from_length (drop len front) (omega (arith, length-drop len front, front_len)) in
    let same : take len front ≡ take len clear = ap (λ (l : List ℕ). take len l) e ∙ take-take len len clear (omega arith) in
    let all : drop len clear ++ segments ≡ drop len front ++ whole = sym d ∙ ap (λ (l : List ℕ). l ++ whole) (sym none) in
    parts_same (joined (lines (take len clear))) p q coded place (λ count. tail_again clear segments tail coded count some ∙ sym (tail_again front whole tail coded count much))
    ∙ ap (λ (l : List ℕ). source_onto (joined (lines l)) q coded) (sym same)
    ∙ ap (λ (l : List ℕ). source_onto (joined (lines (take len front))) q (past_spaces l)) all
