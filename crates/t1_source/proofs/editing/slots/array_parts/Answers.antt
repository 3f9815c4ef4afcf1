use Rattle.std.proofs.Common.{rules, ◌≡◌, false, Some}
use Rattle.std.specs.List.{list_any, position}
use Rattle.t1_parts.specs.Encoding.{opens_encoding, chooses_standard}
use Rattle.t1_source.proofs.SlotLaws.{parts_at}
use Rattle.t1_source.proofs.editing.slots.array_parts.Goals as goal

pub returns : goal.returns
returns c =
    let array : list_any chooses_standard c.args.clear.now ≡ false = search rules in
    let place : position opens_encoding c.args.clear.now ≡ Some c.in-Some.at = search rules in
    let made = parts_at c.args.clear.now c.in-Some.at c.index-clear-at.result array place c.in-Some.ensures.within c.index-clear-at.is in
    rw (c.split_at-2.ensures.front, c.split_at-2.ensures.back, c.array_len.ensures.value, c.as_slice.ensures, c.split_at.ensures.front, c.split_at.ensures.back) made
