use Rattle.std.proofs.Common.{◌≡◌, ◌+◌, ◌<◌, ◌≤◌, List, take, drop, ℕ, length, Result, Ok, sym, ap, ◌∙◌, subst, rules, arith}
use Rattle.std.proofs.lemmas.List.{take-take, drop-take, length-take-le, length-drop}
use Rattle.t1_disassemble.specs.declared.fault.FontFault.{FontFault}
use Rattle.t1_disassemble.specs.declared.fault.FontRefusal.{FontRefusal}
use Rattle.t1_disassemble.specs.Disassembly.{source_of}
use Rattle.t1_disassemble.specs.FilePlaced.{front_place, fault_byte}
use Rattle.t1_disassemble.specs.FilePlaces.{byte_place, in_file}
use Rattle.t1_disassemble.specs.Front.{after_eexec}
use Rattle.t1_disassemble.specs.InPlace.{AreBehind, IsFront}
use Rattle.t1_disassemble.specs.Outcome.{RefusesFont}
use Rattle.t1_disassemble.specs.SegmentsRead.{segments_of}
use Rattle.t1_disassemble.proofs.FilePlaceLaws.{refused_in_file}
use Rattle.t1_disassemble.proofs.InPlaceLaws.{tailed}
use Rattle.t1_disassemble.proofs.InPlaceSources.{left, source_in_place, place_in_front}
use Rattle.t1_disassemble.proofs.disassembly.disassemble_in_place.Goals as goal

pub returns : goal.returns
returns c =
    let file = c.args.file.now in
    let text = c.in-Some.text_len in
    let binary = c.in-Some.binary_len in
    let tail = c.in-Some-2.tail.items in
    let front : IsFront text binary file = search rules in
    let whole : 12 + text + binary ≤ length file = front.within in
    let head : c.split_at_mut-front.result.0.now ≡ take (12 + text) file = search rules in
    let cut : c.split_at-2.result.0.now ≡ take (6 + text) c.split_at_mut-front.result.0.now = search rules in
    let past : c.past-clear.result.now ≡ drop 6 c.split_at-2.result.0.now = search rules in
    let clear : c.past-clear.result.now ≡ take text (drop 6 file) =
    past ∙ ap (drop 6) (cut ∙ ap (take (6 + text)) head ∙ take-take (6 + text) (12 + text) file (omega arith)) ∙ drop-take 6 text file
    in
    let back : c.split_at_mut-front.result.1.now ≡ drop (12 + text) file = search rules in
    let coded : c.split_at_mut.result.0.now ≡ take binary (drop (12 + text) file) = search rules in
    let fits : binary ≤ length (drop (12 + text) file) = omega (arith, whole, length-drop (12 + text) file) in
    let some : 0 < length (take binary (drop (12 + text) file)) = omega (arith, front.some, length-take-le binary (drop (12 + text) file) fits) in
    let given = c.text_left.ensures.tail (take text (drop 6 file)) (take binary (drop (12 + text) file)) some in
    let found : left text binary file ≡ Ok (tailed (take text (drop 6 file)) (take binary (drop (12 + text) file)) tail) = search rules in
    let parts = tailed c.past-clear.result.now c.split_at_mut.result.0.now tail in
    let same = source_in_place file c.past-clear.result.now c.split_at_mut.result.0.now tail text binary front clear coded found in
    let rest : c.split_at.result.1.now ≡ drop (12 + text + binary) file = search rules in
    let are : AreBehind (segments_of (length file) c.split_at.result.1.now) = search rules in
    let behind : AreBehind (segments_of (length file) (drop (12 + text + binary) file)) = subst (λ (l : List ℕ). AreBehind (segments_of (length file) l)) rest are in
    let refused : RefusesFont c.in-Err.refusal (source_of parts (after_eexec parts.clear)) = search rules in
    let place : c.front_place-place.result ≡ byte_place file (fault_byte c.in-Err.refusal) =
    c.front_place-place.ensures ∙ ap (λ (n : ℕ). front_place text binary n) c.fault_byte.ensures ∙ place_in_front file tail text binary (fault_byte c.in-Err.refusal) front behind found
    in
    let moved = refused_in_file file c.in-Err.refusal (source_of parts (after_eexec parts.clear)) c.front_place-place.result place refused in
    subst (λ (g : Result (List ℕ) FontFault). RefusesFont c.fault_moved.result g) (sym same)
    (subst (λ (r : FontRefusal). RefusesFont r (in_file file (source_of parts (after_eexec parts.clear)))) (sym c.fault_moved.ensures) moved)

pub returns-in-Ok : goal.returns-in-Ok
returns-in-Ok c =
    let file = c.args.file.now in
    let text = c.in-Some.text_len in
    let binary = c.in-Some.binary_len in
    let tail = c.in-Some-2.tail.items in
    let front : IsFront text binary file = search rules in
    let whole : 12 + text + binary ≤ length file = front.within in
    let head : c.split_at_mut-front.result.0.now ≡ take (12 + text) file = search rules in
    let cut : c.split_at-2.result.0.now ≡ take (6 + text) c.split_at_mut-front.result.0.now = search rules in
    let past : c.past-clear.result.now ≡ drop 6 c.split_at-2.result.0.now = search rules in
    let clear : c.past-clear.result.now ≡ take text (drop 6 file) =
    past ∙ ap (drop 6) (cut ∙ ap (take (6 + text)) head ∙ take-take (6 + text) (12 + text) file (omega arith)) ∙ drop-take 6 text file
    in
    let back : c.split_at_mut-front.result.1.now ≡ drop (12 + text) file = search rules in
    let coded : c.split_at_mut.result.0.now ≡ take binary (drop (12 + text) file) = search rules in
    let fits : binary ≤ length (drop (12 + text) file) = omega (arith, whole, length-drop (12 + text) file) in
    let some : 0 < length (take binary (drop (12 + text) file)) = omega (arith, front.some, length-take-le binary (drop (12 + text) file) fits) in
    let given = c.text_left.ensures.tail (take text (drop 6 file)) (take binary (drop (12 + text) file)) some in
    let found : left text binary file ≡ Ok (tailed (take text (drop 6 file)) (take binary (drop (12 + text) file)) tail) = search rules in
    let parts = tailed c.past-clear.result.now c.split_at_mut.result.0.now tail in
    let same = source_in_place file c.past-clear.result.now c.split_at_mut.result.0.now tail text binary front clear coded found in
    let made : source_of parts (after_eexec parts.clear) ≡ Ok c.in-Ok.text = search rules in
    same ∙ ap (in_file file) made
