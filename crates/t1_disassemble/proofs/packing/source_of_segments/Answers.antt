use Rattle.std.proofs.Common.{◌≡◌, ◌+◌, ◌≤◌, true, false, List, ◌++◌, take, drop, ℕ, length, Result, Ok, Some, sym, ap, ◌∙◌, subst, rules}
use Rattle.t1_text.specs.Lines.{begins_with, lines, joined}
use Rattle.t1_disassemble.specs.declared.fault.FontFault.{FontFault}
use Rattle.t1_disassemble.specs.declared.fault.FontRefusal.{FontRefusal}
use Rattle.t1_disassemble.specs.Digits.{digits_len}
use Rattle.t1_disassemble.specs.Disassembly.{coded_place}
use Rattle.t1_disassemble.specs.FilePlaced.{Stands}
use Rattle.t1_disassemble.specs.FilePlaces.{in_file}
use Rattle.t1_disassemble.specs.Front.{after_eexec, past_spaces}
use Rattle.t1_disassemble.specs.Kinds.{plain_kind}
use Rattle.t1_disassemble.specs.Outcome.{RefusesFont}
use Rattle.t1_disassemble.specs.SegmentsRead.{FontParts, segments_of, parts_onto, no_parts}
use Rattle.t1_disassemble.specs.SourceOnto.{source_onto}
use Rattle.t1_disassemble.proofs.ClearLaws.{behind_clear}
use Rattle.t1_disassemble.proofs.CutPlaces.{only_cut, cut_in_file, cut_place}
use Rattle.t1_disassemble.proofs.FilePlaceLaws.{stands_in_file}
use Rattle.t1_disassemble.proofs.InPlaceSources.{of_segments}
use Rattle.t1_disassemble.proofs.packing.source_of_segments.Goals as goal

pub returns-in-Ok-source_of_joined : goal.returns-in-Ok-source_of_joined
returns-in-Ok-source_of_joined c =
    let file = c.args.file.items in
    let clear = c.clear.inside.clear.items in
    let segments = c.clear.inside.coded.items in
    let tail = c.clear.inside.tail.items in
    let parts : FontParts = record { clear = clear; coded = segments; tail = tail } in
    let len = c.in-Ok.len in
    let text = joined (lines (take len clear)) in
    let coded = past_spaces (drop len clear ++ segments) in
    let marked : begins_with 128 file ≡ true = search rules in
    let found : parts_onto no_parts (segments_of (length file) file) ≡ Ok parts = search rules in
    let within : len ≤ length clear = search rules in
    let eexec : after_eexec clear ≡ Some (drop len clear) = search rules in
    let kind : plain_kind (take len clear) ≡ Ok (take len clear) = search rules in
    let same = of_segments file parts marked found ∙ ap (λ (r : Result (List ℕ) FontFault). in_file file r) (behind_clear clear segments tail len within eexec kind) in
    let made : source_onto text parts coded ≡ Ok c.in-Ok-source_of_joined.source = search rules in
    same ∙ ap (λ (r : Result (List ℕ) FontFault). in_file file r) made

pub returns : goal.returns
returns c =
    let file = c.args.file.items in
    let clear = c.clear.inside.clear.items in
    let segments = c.clear.inside.coded.items in
    let tail = c.clear.inside.tail.items in
    let parts : FontParts = record { clear = clear; coded = segments; tail = tail } in
    let len = c.in-Ok.len in
    let text = joined (lines (take len clear)) in
    let coded = past_spaces (drop len clear ++ segments) in
    let marked : begins_with 128 file ≡ true = search rules in
    let found : parts_onto no_parts (segments_of (length file) file) ≡ Ok parts = search rules in
    let within : len ≤ length clear = search rules in
    let eexec : after_eexec clear ≡ Some (drop len clear) = search rules in
    let kind : plain_kind (take len clear) ≡ Ok (take len clear) = search rules in
    let same = of_segments file parts marked found ∙ ap (λ (r : Result (List ℕ) FontFault). in_file file r) (behind_clear clear segments tail len within eexec kind) in
    let n = coded_place parts coded + digits_len coded in
    let refused : RefusesFont c.in-Err-source_of_joined.refusal (source_onto text parts coded) = search rules in
    let end : c.digits_end.result ≡ len + digits_len (drop len clear ++ segments) = search rules in
    let cut : c.digits_end.result ≡ n = end ∙ cut_place clear segments tail len within in
    let stands : Stands 0 0 false (segments_of (length file) file) c.digits_end.result c.byte_place-place.result = search rules in
    let place = stands_in_file file parts n c.byte_place-place.result marked found (subst (λ (k : ℕ). Stands 0 0 false (segments_of (length file) file) k c.byte_place-place.result) cut stands) in
    let moved = cut_in_file file c.in-Err-source_of_joined.refusal (source_onto text parts coded) n c.byte_place-place.result place (only_cut text parts coded) refused in
    subst (λ (g : Result (List ℕ) FontFault). RefusesFont c.fault_moved-in-Err-source_of_joined.result g) (sym same)
    (subst (λ (r : FontRefusal). RefusesFont r (in_file file (source_onto text parts coded))) (sym c.fault_moved-in-Err-source_of_joined.ensures) moved)
