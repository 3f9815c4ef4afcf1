use Rattle.std.proofs.Common.{◌≡◌, ◌<◌, length, Ok, Some, rules}
use Rattle.t1_disassemble.specs.SegmentsFound.{found_segment}
use Rattle.t1_disassemble.specs.SegmentsRead.{segment_at}
use Rattle.t1_disassemble.proofs.InPlaceLaws.{front_found}
use Rattle.t1_disassemble.proofs.segments.front_lens.Goals as goal

pub returns : goal.returns
returns c =
    let text = c.in-Ok-Some.text in
    let binary = c.in-Ok-Some-next_segment.binary in
    let first : segment_at c.args.file.now ≡ Ok (Some (found_segment text)) = search rules in
    let second : segment_at text.after.now ≡ Ok (Some (found_segment binary)) = search rules in
    let is_text : text.kind ≡ 1 = search rules in
    let is_binary : binary.kind ≡ 2 = search rules in
    let some : 0 < length binary.bytes.now = search rules in
    front_found c.args.file.now (found_segment text).0 (found_segment binary).0 text.after.now binary.after.now first second is_text is_binary some
