use Rattle.std.proofs.Common.{◌≡◌, ℕ, ◌+◌, ◌-◌, ◌<◌, ◌≤◌, Bool, true, false, length, Ok, Err, Some, None, subst, rules, arith}
use Rattle.t1_disassemble.specs.FilePlaced.{Stands}
use Rattle.t1_disassemble.specs.FilePlaces.{is_behind, has_begun}
use Rattle.t1_disassemble.specs.SegmentsFound.{found_segment}
use Rattle.t1_disassemble.specs.SegmentsRead.{segment_at, segments_of}
use Rattle.t1_disassemble.proofs.FilePlaceLaws.{tail_passed, stands_here, part_passed, stands_end, stands_failed}
use Rattle.t1_disassemble.proofs.places.byte_place.Goals as goal

pub loop-found-preserved-then-is_behind : goal.loop-found-preserved-then-is_behind
loop-found-preserved-then-is_behind c =
    let total = length c.args.file.now in
    let rest = c.loop-found.rest.now in
    let found = c.in-Ok-Some.found in
    let s = (found_segment found).0 in
    let after = found.after.now in
    let i = c.loop-found.invariant in
    let here : segment_at rest ≡ Ok (Some (s, after)) = search rules in
    let sizes : 6 + length found.bytes.now + length after ≡ length rest = search rules in
    let is : is_behind c.loop-found.begun s ≡ true = search rules in
    let next : total - length after ≡ total - length rest + 6 + length found.bytes.now = omega (arith, sizes, i.within) in
    record {
      stands = λ place h.
          i.stands place
          (tail_passed total (total - length rest) c.loop-found.end c.loop-found.begun rest s after c.loop-found.left place here is
          (subst (λ (n : ℕ). Stands n c.loop-found.end c.loop-found.begun (segments_of total after) c.loop-found.left place) next h));
      within = omega (arith, sizes, i.within);
    }

pub returns-then-left-len : goal.returns-then-left-len
returns-then-left-len c =
    let total = length c.args.file.now in
    let rest = c.loop-found.rest.now in
    let found = c.in-Ok-Some.found in
    let s = (found_segment found).0 in
    let after = found.after.now in
    let left = c.loop-found.left in
    let i = c.loop-found.invariant in
    let here : segment_at rest ≡ Ok (Some (s, after)) = search rules in
    let sizes : 6 + length found.bytes.now + length after ≡ length rest = search rules in
    let is : is_behind c.loop-found.begun s ≡ false = search rules in
    let few : left < length found.bytes.now = search rules in
    let place : total - length rest + 6 + left ≡ total - length after - length found.bytes.now + left = omega (arith, sizes, i.within) in
    i.stands (total - length after - length found.bytes.now + left)
    (subst (λ (n : ℕ). Stands (total - length rest) c.loop-found.end c.loop-found.begun (segments_of total rest) left n) place
    (stands_here total (total - length rest) c.loop-found.end c.loop-found.begun rest s after left here is few))

pub loop-found-preserved : goal.loop-found-preserved
loop-found-preserved c =
    let total = length c.args.file.now in
    let rest = c.loop-found.rest.now in
    let found = c.in-Ok-Some.found in
    let s = (found_segment found).0 in
    let after = found.after.now in
    let left = c.loop-found.left in
    let over = left - length found.bytes.now in
    let i = c.loop-found.invariant in
    let here : segment_at rest ≡ Ok (Some (s, after)) = search rules in
    let sizes : 6 + length found.bytes.now + length after ≡ length rest = search rules in
    let is : is_behind c.loop-found.begun s ≡ false = search rules in
    let many : length found.bytes.now ≤ left = search rules in
    let begun : c.has_begun-begun.result ≡ has_begun c.loop-found.begun s = search rules in
    let next : total - length after ≡ total - length rest + 6 + length found.bytes.now = omega (arith, sizes, i.within) in
    record {
      stands = λ place h.
          i.stands place
          (part_passed total (total - length rest) c.loop-found.end c.loop-found.begun rest s after left place here is many
          (subst (λ (n : ℕ). Stands n n (has_begun c.loop-found.begun s) (segments_of total after) over place) next
          (subst (λ (b : Bool). Stands (total - length after) (total - length after) b (segments_of total after) over place) begun h)));
      within = omega (arith, sizes, i.within);
    }

pub returns-in_default : goal.returns-in_default
returns-in_default c =
    let total = length c.args.file.now in
    let rest = c.loop-found.rest.now in
    let none : segment_at rest ≡ Ok None = search rules in
    c.loop-found.invariant.stands c.loop-found.end (stands_end total (total - length rest) c.loop-found.end c.loop-found.begun rest c.loop-found.left none)

pub returns-in_default-2 : goal.returns-in_default-2
returns-in_default-2 c =
    let total = length c.args.file.now in
    let rest = c.loop-found.rest.now in
    let fault : segment_at rest ≡ Err c.in_default.field-0 = search rules in
    c.loop-found.invariant.stands c.loop-found.end (stands_failed total (total - length rest) c.loop-found.end c.loop-found.begun rest c.loop-found.left c.loop-found.end c.in_default.field-0 fault)
