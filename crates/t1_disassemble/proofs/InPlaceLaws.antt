-- Files whose first two segments hold the clear text and the encrypted part.
use Rattle.std.proofs.Common.{◌≡◌, ℕ, suc, ltb, ◌==◌, ◌||◌, ◌+◌, ◌-◌, ◌<◌, ◌≤◌, true, false, List, [], ◌∷◌, ◌++◌, take, drop, length, Option, None, Some, Result, Ok, Err, refl, sym, ap, subst, ◌∙◌, inl, inr, arith}
use Rattle.std.proofs.lemmas.Bool.{cases_Bool, ltb-false, eqb-true, ne_eqb}
use Rattle.std.proofs.lemmas.List.{length-take-le, length-drop, drop-drop}
use Rattle.std.specs.Int.{w32, from_le_bytes}
use Rattle.t1_frac.specs.Outcome.{◌>>=◌}
use Rattle.t1_text.specs.Lines.{begins_with}
use Rattle.t1_disassemble.specs.declared.fault.FontCode.{FontCode}
use Rattle.t1_disassemble.specs.declared.fault.FontFault.{FontFault}
use Rattle.t1_disassemble.specs.declared.fault.FontPlace.{FontPlace}
use Rattle.t1_disassemble.specs.declared.fault.FontPlace.TheVariants.{Byte}
use Rattle.t1_disassemble.specs.InPlace.{tailless, AreBehind, IsFront}
use Rattle.t1_disassemble.specs.Outcome.{font_reported_at}
use Rattle.t1_disassemble.specs.SegmentsRead.{Segment, FontParts, cut_segment, segment_after, some_found, typed_segment, segment_at, placed_segment, segments_of, parts_onto, with_segment, no_parts}
use Rattle.t1_disassemble.proofs.FilePlaceLaws.{front_stands, tail_passed, stands_end}
use Rattle.t1_disassemble.proofs.Segmented.{parts_more, parts_after}

-- ---- where the bytes of a segment stand

-- a segment after so many bytes, and what stands behind it
record HasCut (before : ℕ) (bytes : List ℕ) (s : Segment) (after : List ℕ) : Type 0 where
  here : s.bytes ≡ take (length s.bytes) (drop before bytes)
  behind : after ≡ drop (before + length s.bytes) bytes
  within : before + length s.bytes ≤ length bytes

abbrev Cut : ℕ → List ℕ → Result (Segment × List ℕ) FontCode → Type 0
Cut before bytes (Ok found) = HasCut before bytes found.0 found.1
Cut before bytes (Err code) = Unit {0}

abbrev CutMaybe : ℕ → List ℕ → Result (Option (Segment × List ℕ)) FontCode → Type 0
CutMaybe before bytes (Ok (Some found)) = HasCut before bytes found.0 found.1
CutMaybe before bytes (Ok None) = Unit {0}
CutMaybe before bytes (Err code) = Unit {0}

deeper : (c before : ℕ) (bytes : List ℕ) (s : Segment) (after : List ℕ) → HasCut before bytes s after → HasCut (suc before) (c ∷ bytes) s after
deeper c before bytes s after h =
    let on : suc before + length s.bytes ≡ suc (before + length s.bytes) = omega arith in
    record { here = h.here; behind = h.behind ∙ ap (λ n. drop n (c ∷ bytes)) (sym on); within = omega (arith, on, h.within) }

cut_here : (kind count : ℕ) (rest : List ℕ) → Cut 0 rest (cut_segment kind count rest)
cut_here kind count rest = elim (cases_Bool (ltb (length rest) count)) [
  | inl t ↦ rw t tt
  | inr f ↦
      let few : count ≤ length rest = ltb-false (length rest) count f in
      let size : length (take count rest) ≡ count = length-take-le count rest few in
      let on : 0 + length (take count rest) ≡ count = omega (arith, size) in
      rw f (record { here = ap (λ n. take n rest) (sym size); behind = ap (λ n. drop n rest) (sym on); within = omega (arith, on, few) })
]

cut_four : (a b c d : ℕ) (rest : List ℕ) (found : Result (Segment × List ℕ) FontCode) → Cut 0 rest found → Cut 4 (a ∷ b ∷ c ∷ d ∷ rest) found
cut_four a b c d rest (Ok found) h =
    deeper a 3 (b ∷ c ∷ d ∷ rest) found.0 found.1 (deeper b 2 (c ∷ d ∷ rest) found.0 found.1 (deeper c 1 (d ∷ rest) found.0 found.1 (deeper d 0 rest found.0 found.1 h)))
cut_four a b c d rest (Err code) h = tt

cut_after : (kind : ℕ) (rest : List ℕ) → Cut 4 rest (segment_after kind rest)
cut_after kind [] = tt
cut_after kind (a ∷ []) = tt
cut_after kind (a ∷ b ∷ []) = tt
cut_after kind (a ∷ b ∷ c ∷ []) = tt
cut_after kind (a ∷ b ∷ c ∷ d ∷ rest) =
    let count = from_le_bytes w32 (a ∷ b ∷ c ∷ d ∷ []) in
    cut_four a b c d rest (cut_segment kind count rest) (cut_here kind count rest)

cut_some : (kind : ℕ) (rest : List ℕ) (found : Result (Segment × List ℕ) FontCode) → Cut 4 rest found → CutMaybe 5 (kind ∷ rest) (some_found found)
cut_some kind rest (Ok found) h = deeper kind 4 rest found.0 found.1 h
cut_some kind rest (Err code) h = tt

cut_typed : (kind : ℕ) (rest : List ℕ) → CutMaybe 5 (kind ∷ rest) (typed_segment kind rest)
cut_typed kind rest = elim (cases_Bool (kind == 3)) [
  | inl t ↦ rw t tt
  | inr f ↦ rw f (elim (cases_Bool (kind == 1 || kind == 2)) [
    | inl t ↦ rw t (cut_some kind rest (segment_after kind rest) (cut_after kind rest))
    | inr g ↦ rw g tt
  ])
]

cut_first : (first : ℕ) (bytes : List ℕ) (found : Result (Option (Segment × List ℕ)) FontCode) → CutMaybe 5 bytes found → CutMaybe 6 (first ∷ bytes) found
cut_first first bytes (Ok (Some found)) h = deeper first 5 bytes found.0 found.1 h
cut_first first bytes (Ok None) h = tt
cut_first first bytes (Err code) h = tt

cut_at : (bytes : List ℕ) → CutMaybe 6 bytes (segment_at bytes)
cut_at [] = tt
cut_at (first ∷ []) = tt
cut_at (first ∷ kind ∷ rest) = elim (cases_Bool (first == 128)) [
  | inl t ↦ rw t (cut_first first (kind ∷ rest) (typed_segment kind rest) (cut_typed kind rest))
  | inr f ↦ rw f tt
]

cut_found : (bytes : List ℕ) (s : Segment) (after : List ℕ) → segment_at bytes ≡ Ok (Some (s, after)) → HasCut 6 bytes s after
cut_found bytes s after e = subst (CutMaybe 6 bytes) e (cut_at bytes)

-- a segment that is found begins with the marker
Marked : List ℕ → Result (Option (Segment × List ℕ)) FontCode → Type 0
Marked bytes (Ok (Some found)) = begins_with 128 bytes ≡ true
Marked bytes (Ok None) = Unit {0}
Marked bytes (Err code) = Unit {0}

marked_typed : (bytes : List ℕ) (found : Result (Option (Segment × List ℕ)) FontCode) → begins_with 128 bytes ≡ true → Marked bytes found
unfolding Marked
marked_typed bytes (Ok (Some found)) h = h
marked_typed bytes (Ok None) h = tt
marked_typed bytes (Err code) h = tt

marked_at : (bytes : List ℕ) → Marked bytes (segment_at bytes)
unfolding Marked
marked_at [] = tt
marked_at (first ∷ []) = tt
marked_at (first ∷ kind ∷ rest) = elim (cases_Bool (first == 128)) [
  | inl t ↦ rw t (marked_typed (first ∷ kind ∷ rest) (typed_segment kind rest) (ap (λ (k : ℕ). 128 == k) (eqb-true first 128 t)))
  | inr f ↦ rw f tt
]

marked_found : (bytes : List ℕ) (s : Segment) (after : List ℕ) → segment_at bytes ≡ Ok (Some (s, after)) → begins_with 128 bytes ≡ true
unfolding Marked
marked_found bytes s after e = subst (Marked bytes) e (marked_at bytes)

-- ---- the parts after a segment

one_put : (parts : FontParts) (total : ℕ) (bytes : List ℕ) (s : Segment) (after : List ℕ) → segment_at bytes ≡ Ok (Some (s, after))
    → parts_onto parts (segments_of total bytes) ≡ parts_onto (with_segment parts s) (segments_of total after)
one_put parts total bytes s after e =
    parts_more parts total bytes
    ∙ ap (λ (found : Result (Option (Segment × List ℕ)) FontCode). font_reported_at (Byte (total - length bytes)) found >>= parts_after parts total) e

text_put : (s : Segment) → s.kind ≡ 1 → with_segment no_parts s ≡ tailless s.bytes []
text_put s kind = rw kind refl

binary_put : (clear : List ℕ) (s : Segment) → s.kind ≡ 2 → with_segment (tailless clear []) s ≡ tailless clear s.bytes
binary_put clear s kind = rw kind refl

-- the first two segments
pub front_found : (file : List ℕ) (s t : Segment) (after rest : List ℕ) → segment_at file ≡ Ok (Some (s, after)) → segment_at after ≡ Ok (Some (t, rest)) → s.kind ≡ 1 → t.kind ≡ 2 → 0 < length t.bytes
    → IsFront (length s.bytes) (length t.bytes) file
front_found file s t after rest e d text binary some =
    let first = cut_found file s after e in
    let second = cut_found after t rest d in
    let past : 6 + length s.bytes + 6 ≡ 12 + length s.bytes = omega arith in
    let over : 6 + length s.bytes + (6 + length t.bytes) ≡ 12 + length s.bytes + length t.bytes = omega arith in
    let here : t.bytes ≡ take (length t.bytes) (drop (12 + length s.bytes) file) =
    second.here ∙ ap (λ (l : List ℕ). take (length t.bytes) (drop 6 l)) first.behind
    ∙ ap (λ (l : List ℕ). take (length t.bytes) l) (drop-drop 6 (6 + length s.bytes) file ∙ ap (λ n. drop n file) past)
    in
    let behind : rest ≡ drop (12 + length s.bytes + length t.bytes) file =
    second.behind ∙ ap (λ (l : List ℕ). drop (6 + length t.bytes) l) first.behind
    ∙ drop-drop (6 + length t.bytes) (6 + length s.bytes) file ∙ ap (λ n. drop n file) over
    in
    let length_after : length after ≡ length file - (6 + length s.bytes) = ap length first.behind ∙ length-drop (6 + length s.bytes) file in
    record {
      marked = marked_found file s after e;
      some = some;
      within = omega (arith, first.within, second.within, length_after);
      parts = λ total.
          one_put no_parts total file s after e
          ∙ ap (λ (parts : FontParts). parts_onto parts (segments_of total after)) (text_put s text)
          ∙ one_put (tailless s.bytes []) total after t rest d
          ∙ ap (λ (parts : FontParts). parts_onto parts (segments_of total rest)) (binary_put s.bytes t binary)
          ∙ ap (λ (l : List ℕ). parts_onto (tailless l t.bytes) (segments_of total rest)) first.here
          ∙ ap (λ (l : List ℕ). parts_onto (tailless (take (length s.bytes) (drop 6 file)) l) (segments_of total rest)) here
          ∙ ap (λ (l : List ℕ). parts_onto (tailless (take (length s.bytes) (drop 6 file)) (take (length t.bytes) (drop (12 + length s.bytes) file))) (segments_of total l)) behind;
      places = λ total count are.
          front_stands total file s t after rest count e d text binary some (subst (λ (l : List ℕ). AreBehind (segments_of total l)) (sym behind) are);
    }

-- ---- the segments behind them

-- a segment that is found without a fault
same_found : {X : Type 0} (y x : X) → ◌≡◌ {A = Result X FontFault} (Ok y) (Ok x) → y ≡ x
same_found y x e = cc

found_at : {X : Type 0} (place : FontPlace) (found : Result X FontCode) (x : X) → font_reported_at place found ≡ Ok x → found ≡ Ok x
found_at {X = X} place (Ok y) x e = ap (λ (z : X). Ok z) (same_found y x e)
found_at place (Err code) x e = absurd (cc)

placed_ok : (total : ℕ) (rest : List ℕ) (found : Segment × List ℕ) → placed_segment total rest ≡ Ok (Some found) → segment_at rest ≡ Ok (Some found)
placed_ok total rest found e = found_at (Byte (total - length rest)) (segment_at rest) (Some found) e

placed_none : (total : ℕ) (rest : List ℕ) → placed_segment total rest ≡ Ok None → segment_at rest ≡ Ok None
placed_none total rest e = found_at (Byte (total - length rest)) (segment_at rest) None e

abbrev pub tailed : List ℕ → List ℕ → List ℕ → FontParts
tailed clear coded tail = record { clear = clear; coded = coded; tail = tail }

tail_put : (clear coded tail : List ℕ) (s : Segment) → 0 < length coded → (s.kind == 2) ≡ false → with_segment (tailed clear coded tail) s ≡ tailed clear coded (tail ++ s.bytes)
tail_put clear [] tail s some kind = absurd (omega (arith, some))
tail_put clear (c ∷ coded) tail s some kind =
    let more : (suc (length coded) == 0) ≡ false = ne_eqb (suc (length coded)) 0 (λ e. omega (arith, e)) in
    rw (kind, more) refl

-- one segment more of the tail
pub tail_more : (clear coded tail : List ℕ) (total : ℕ) (rest : List ℕ) (s : Segment) (after : List ℕ) → 0 < length coded → placed_segment total rest ≡ Ok (Some (s, after)) → (s.kind == 2) ≡ false
    → parts_onto (tailed clear coded tail) (segments_of total rest) ≡ parts_onto (tailed clear coded (tail ++ s.bytes)) (segments_of total after)
tail_more clear coded tail total rest s after some e kind =
    parts_more (tailed clear coded tail) total rest
    ∙ ap (λ (found : Result (Option (Segment × List ℕ)) FontFault). found >>= parts_after (tailed clear coded tail) total) e
    ∙ ap (λ (parts : FontParts). parts_onto parts (segments_of total after)) (tail_put clear coded tail s some kind)

-- a segment that isn't binary, behind the encrypted part
pub behind_more : (total : ℕ) (rest : List ℕ) (s : Segment) (after : List ℕ) → placed_segment total rest ≡ Ok (Some (s, after)) → (s.kind == 2) ≡ false → AreBehind (segments_of total after)
    → AreBehind (segments_of total rest)
behind_more total rest s after e kind are start end count =
    tail_passed total start end true rest s after count end (placed_ok total rest (s, after) e) (rw kind refl) (are (start + 6 + length s.bytes) end count)

pub behind_ends : (total : ℕ) (rest : List ℕ) → placed_segment total rest ≡ Ok None → AreBehind (segments_of total rest)
behind_ends total rest e start end count = stands_end total start end true rest count (placed_none total rest e)

pub tail_ends : (parts : FontParts) (total : ℕ) (rest : List ℕ) → placed_segment total rest ≡ Ok None → parts_onto parts (segments_of total rest) ≡ Ok parts
tail_ends parts total rest e = parts_more parts total rest ∙ ap (λ (found : Result (Option (Segment × List ℕ)) FontFault). found >>= parts_after parts total) e

pub tail_fails : (parts : FontParts) (total : ℕ) (rest : List ℕ) (fault : FontFault) → placed_segment total rest ≡ Err fault → parts_onto parts (segments_of total rest) ≡ Err fault
tail_fails parts total rest fault e = parts_more parts total rest ∙ ap (λ (found : Result (Option (Segment × List ℕ)) FontFault). found >>= parts_after parts total) e
