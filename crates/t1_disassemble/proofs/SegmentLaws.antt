-- Segments read back, however the parts are cut.
use Rattle.std.proofs.Common.{◌≡◌, ◌⊎◌, ℕ, true, ◌^◌, ◌-◌, ◌≤◌, ◌<◌, List, [], ◌∷◌, ◌++◌, length, Option, Some, Result, Ok, refl, sym, ap, ◌∙◌, append_assoc, append-nil, length-append, inl, inr, arith, w32}
use Rattle.std.proofs.lemmas.Bool.{le-ltb, ne_eqb}
use Rattle.std.proofs.lemmas.List.{take_at, drop_at}
use Rattle.std.proofs.lemmas.Nat.{from_le_bytes-to_le_bytes_4}
use Rattle.std.specs.Int.{from_le_bytes, to_le_bytes}
use Rattle.std.specs.List.{flat_map, AllByRecursion}
use Rattle.t1_frac.specs.Outcome.{◌>>=◌}
use Rattle.t1_text.specs.Lines.{begins_with}
use Rattle.t1_code.specs.Pfb.{segment, segments, pfb, blocks}
use Rattle.t1_code.specs.Cipher.{eexec}
use Rattle.t1_code.proofs.Framing.{blocks_join, blocks_short}
use Rattle.t1_code.proofs.Encrypting.{length-eexec}
use Rattle.t1_disassemble.specs.declared.fault.FontFault.{FontFault}
use Rattle.t1_disassemble.specs.declared.fault.FontPlace.TheVariants.{Byte}
use Rattle.t1_disassemble.specs.Outcome.{font_reported_at}
use Rattle.t1_disassemble.specs.SegmentsRead.{Segment, FontParts, cut_segment, segment_after, some_found, segment_at, placed_segment, segments_of, parts_onto, with_segment, no_parts, font_parts}
use Rattle.t1_disassemble.specs.Laws.{blocks_bytes, IsBlock, IsEnd}
use Rattle.t1_disassemble.proofs.Segmented.{parts_after, parts_more}

-- a segment of text, or of binary data
abbrev IsData : ℕ → Type 0
IsData kind = (kind ≡ 1) ⊎ (kind ≡ 2)

cut_again : (kind n : ℕ) (bytes more : List ℕ) → length bytes ≡ n → cut_segment kind n (bytes ++ more) ≡ Ok (record { kind = kind; bytes = bytes }, more)
cut_again kind n bytes more e =
    let long : n ≤ length (bytes ++ more) = omega (arith, e, length-append bytes more) in
    rw (le-ltb (length (bytes ++ more)) n long, take_at bytes more n e, drop_at bytes more n e) refl

after_again : (kind : ℕ) (bytes more : List ℕ) → length bytes < 2 ^ 32
    → segment_after kind (to_le_bytes w32 (length bytes) ++ (bytes ++ more)) ≡ Ok (record { kind = kind; bytes = bytes }, more)
after_again kind bytes more h = cut_again kind (from_le_bytes w32 (to_le_bytes w32 (length bytes))) bytes more (sym (from_le_bytes-to_le_bytes_4 (length bytes) h))

segment_again : (kind : ℕ) (bytes more : List ℕ) → IsData kind → length bytes < 2 ^ 32
    → segment_at (segment kind bytes ++ more) ≡ Ok (Some (record { kind = kind; bytes = bytes }, more))
unfolding segment
segment_again kind bytes more (inl e) h = rw e (ap some_found (after_again 1 bytes more h))
segment_again kind bytes more (inr e) h = rw e (ap some_found (after_again 2 bytes more h))

placed_again : (kind total : ℕ) (bytes more : List ℕ) → IsData kind → length bytes < 2 ^ 32
    → placed_segment total (segment kind bytes ++ more) ≡ Ok (Some (record { kind = kind; bytes = bytes }, more))
placed_again kind total bytes more is h = ap (font_reported_at (Byte (total - length (segment kind bytes ++ more)))) (segment_again kind bytes more is h)

-- ---- the segments of a part, one after another

abbrev with_blocks : ℕ → FontParts → List (List ℕ) → FontParts
with_blocks kind parts [] = parts
with_blocks kind parts (block ∷ blocks) = with_blocks kind (with_segment parts (record { kind = kind; bytes = block })) blocks

blocks_again : (kind total : ℕ) (parts : FontParts) (blocks : List (List ℕ)) (more : List ℕ) → IsData kind → AllByRecursion IsBlock blocks
    → parts_onto parts (segments_of total (flat_map (segment kind) blocks ++ more)) ≡ parts_onto (with_blocks kind parts blocks) (segments_of total more)
blocks_again kind total parts [] more is h = refl
blocks_again kind total parts (block ∷ blocks) more is h =
    let rest = flat_map (segment kind) blocks ++ more in
    ap (λ (l : List ℕ). parts_onto parts (segments_of total l)) (append_assoc (segment kind block) (flat_map (segment kind) blocks) more)
    ∙ parts_more parts total (segment kind block ++ rest)
    ∙ ap (λ (found : Result (Option (Segment × List ℕ)) FontFault). found >>= parts_after parts total) (placed_again kind total block rest is h.0)
    ∙ blocks_again kind total (with_segment parts (record { kind = kind; bytes = block })) blocks more is h.1

abbrev parts_of : List ℕ → List ℕ → List ℕ → FontParts
parts_of clear coded tail = record { clear = clear; coded = coded; tail = tail }

clear_blocks : (clear tail : List ℕ) (blocks : List (List ℕ)) → with_blocks 1 (parts_of clear [] tail) blocks ≡ parts_of (clear ++ blocks_bytes blocks) [] tail
clear_blocks clear tail [] = ap (λ l. parts_of l [] tail) (sym (append-nil clear))
clear_blocks clear tail (block ∷ blocks) = clear_blocks (clear ++ block) tail blocks ∙ ap (λ l. parts_of l [] tail) (append_assoc clear block (blocks_bytes blocks))

coded_blocks : (clear coded tail : List ℕ) (blocks : List (List ℕ)) → with_blocks 2 (parts_of clear coded tail) blocks ≡ parts_of clear (coded ++ blocks_bytes blocks) tail
coded_blocks clear coded tail [] = ap (λ l. parts_of clear l tail) (sym (append-nil coded))
coded_blocks clear coded tail (block ∷ blocks) = coded_blocks clear (coded ++ block) tail blocks ∙ ap (λ l. parts_of clear l tail) (append_assoc coded block (blocks_bytes blocks))

tail_step : (clear coded tail block : List ℕ) → 0 < length coded → with_segment (parts_of clear coded tail) (record { kind = 1; bytes = block }) ≡ parts_of clear coded (tail ++ block)
tail_step clear coded tail block some = rw (ne_eqb (length coded) 0 (omega (arith, some))) refl

tail_blocks : (clear coded tail : List ℕ) (blocks : List (List ℕ)) → 0 < length coded → with_blocks 1 (parts_of clear coded tail) blocks ≡ parts_of clear coded (tail ++ blocks_bytes blocks)
tail_blocks clear coded tail [] some = ap (parts_of clear coded) (sym (append-nil tail))
tail_blocks clear coded tail (block ∷ blocks) some =
    ap (λ (parts : FontParts). with_blocks 1 parts blocks) (tail_step clear coded tail block some)
    ∙ tail_blocks clear coded (tail ++ block) blocks some ∙ ap (parts_of clear coded) (append_assoc tail block (blocks_bytes blocks))

ended : (parts : FontParts) (total : ℕ) (end : List ℕ) → IsEnd end → parts_onto parts (segments_of total end) ≡ Ok parts
ended parts total end (inl e) = ap (λ (l : List ℕ). parts_onto parts (segments_of total l)) e ∙ parts_more parts total []
ended parts total end (inr e) = ap (λ (l : List ℕ). parts_onto parts (segments_of total l)) e ∙ parts_more parts total (128 ∷ 3 ∷ [])

begins_marked : (clear coded : List (List ℕ)) (rest : List ℕ) → 0 < length (blocks_bytes coded) → begins_with 128 (flat_map (segment 1) clear ++ (flat_map (segment 2) coded ++ rest)) ≡ true
unfolding segment
begins_marked (block ∷ clear) coded rest some = refl
begins_marked [] (block ∷ coded) rest some = refl
begins_marked [] [] rest some = absurd (omega (arith, some))

pub however_cut : (clear coded tail : List (List ℕ)) (end : List ℕ) → AllByRecursion IsBlock clear → AllByRecursion IsBlock coded → AllByRecursion IsBlock tail
    → 0 < length (blocks_bytes coded) → IsEnd end
    → font_parts (flat_map (segment 1) clear ++ (flat_map (segment 2) coded ++ (flat_map (segment 1) tail ++ end))) ≡ Ok (record { clear = blocks_bytes clear; coded = blocks_bytes coded; tail = blocks_bytes tail })
unfolding font_parts
however_cut clear coded tail end c d t some is =
    let third = flat_map (segment 1) tail ++ end in
    let second = flat_map (segment 2) coded ++ third in
    let file = flat_map (segment 1) clear ++ second in
    let total = length file in
    rw (begins_marked clear coded third some)
    (blocks_again 1 total no_parts clear second (inl refl) c
    ∙ ap (λ (parts : FontParts). parts_onto parts (segments_of total second)) (clear_blocks [] [] clear)
    ∙ blocks_again 2 total (parts_of (blocks_bytes clear) [] []) coded third (inr refl) d
    ∙ ap (λ (parts : FontParts). parts_onto parts (segments_of total third)) (coded_blocks (blocks_bytes clear) [] [] coded)
    ∙ blocks_again 1 total (parts_of (blocks_bytes clear) (blocks_bytes coded) []) tail end (inl refl) t
    ∙ ap (λ (parts : FontParts). parts_onto parts (segments_of total end)) (tail_blocks (blocks_bytes clear) (blocks_bytes coded) [] tail some)
    ∙ ended (parts_of (blocks_bytes clear) (blocks_bytes coded) (blocks_bytes tail)) total end is)

-- ---- the file of an assembled font

blocks_fit : (size : ℕ) (blocks : List (List ℕ)) → size < 2 ^ 32 → AllByRecursion (λ block. length block ≤ size) blocks → AllByRecursion IsBlock blocks
blocks_fit size [] s h = tt
blocks_fit size (block ∷ blocks) s h = (omega (arith, h.0, s), blocks_fit size blocks s h.1)

pub pfb_again : (size : ℕ) (clear private trailer : List ℕ) → 1 ≤ size → size < 2 ^ 32
    → font_parts (pfb size clear private trailer) ≡ Ok (record { clear = clear; coded = eexec private; tail = trailer })
unfolding pfb segments
pfb_again size clear private trailer some short =
    let cut = blocks size in
    let fit = λ (bytes : List ℕ). blocks_fit size (cut bytes) short (blocks_short size bytes some) in
    let end : List ℕ = 128 ∷ 3 ∷ [] in
    let kept = λ (bytes : List ℕ). blocks_join size bytes some in
    let long : 0 < length (blocks_bytes (cut (eexec private))) = omega (arith, ap length (kept (eexec private)), length-eexec private) in
    ap font_parts (append_assoc (flat_map (segment 1) (cut clear) ++ flat_map (segment 2) (cut (eexec private))) (flat_map (segment 1) (cut trailer)) end
    ∙ append_assoc (flat_map (segment 1) (cut clear)) (flat_map (segment 2) (cut (eexec private))) (flat_map (segment 1) (cut trailer) ++ end))
    ∙ however_cut (cut clear) (cut (eexec private)) (cut trailer) end (fit clear) (fit (eexec private)) (fit trailer) long (inr refl)
    ∙ rw (kept clear, kept (eexec private), kept trailer) refl
