use Rattle.std.proofs.Common.{◌++◌, [], ◌∷◌, ap, ◌∙◌, inl, inr}
use Rattle.t1_code.specs.Charstring.{number_bytes}
use Rattle.t1_code.proofs.Adding.{added_is, added_after}
use Rattle.t1_code.proofs.Spelling.{near_byte, far_above, far_below, wide}
use Rattle.t1_code.proofs.charstring.push_number.Goals as goal
use Rattle.t1_code.proofs.charstring.push_number.Goals.{else-number-geminus107-via-then-number-geminus107+else-number-le107, else-number-geminus107-via-else-number-geminus107}
use Rattle.t1_code.proofs.charstring.push_number.Goals.{else-number-ge108-via-then-number-ge108+else-number-le1131, else-number-ge108-via-else-number-ge108}
use Rattle.t1_code.proofs.charstring.push_number.Goals.{else-number-geminus1131-via-then-number-geminus1131+else-number-leminus108, else-number-geminus1131-via-else-number-geminus1131}

pub returns-then-number-le107-clause-value : goal.returns-then-number-le107-clause-value
returns-then-number-le107-clause-value c =
    c.in_ok-push.ensures.items ∙ ap (λ l. c.args.code.now.items ++ l) (near_byte c.args.number c.ranges.number c.if-number-geminus107.true c.if-number-le107.true)

pub returns-then-number-le1131-clause-value : goal.returns-then-number-le1131-clause-value
returns-then-number-le1131-clause-value c =
    added_is c.extend_from_slice.result c.args.code.now.items c.two_bytes_of.result (number_bytes c.args.number) c.extend_from_slice.new.self.items c.extend_from_slice.ensures.items
    (c.two_bytes_of.ensures ∙ far_above c.args.number c.ranges.number c.if-number-ge108.true c.if-number-le1131.true)

pub returns-then-number-leminus108-clause-value : goal.returns-then-number-leminus108-clause-value
returns-then-number-leminus108-clause-value c =
    let added = c.extend_from_slice-then-number-leminus108 in
    added_is added.result c.args.code.now.items c.two_bytes_of-then-number-leminus108.result (number_bytes c.args.number) added.new.self.items added.ensures.items
    (c.two_bytes_of-then-number-leminus108.ensures ∙ far_below c.args.number c.ranges.number c.if-number-geminus1131.true c.if-number-leminus108.true)

pub returns-clause-value : goal.returns-clause-value
returns-clause-value c =
    added_after c.extend_from_slice-3.result c.args.code.now.items (255 ∷ []) c.to_be_bytes.result (number_bytes c.args.number) c.extend_from_slice-2.new.self.items c.extend_from_slice-3.new.self.items
    c.extend_from_slice-3.ensures.items c.in_ok-extend_from_slice.ensures.items
    (ap (λ l. 255 ∷ l) c.to_be_bytes.ensures ∙ wide c.args.number c.ranges.number
    (elim c.else-number-geminus107.branch [
      | else-number-geminus107-via-then-number-geminus107+else-number-le107 w ↦ inr w.if-number-le107.false
      | else-number-geminus107-via-else-number-geminus107 w ↦ inl w.if-number-geminus107.false
    ])
    (elim c.else-number-ge108.branch [
      | else-number-ge108-via-then-number-ge108+else-number-le1131 w ↦ inr w.if-number-le1131.false
      | else-number-ge108-via-else-number-ge108 w ↦ inl w.if-number-ge108.false
    ])
    (elim c.else-number-geminus1131.branch [
      | else-number-geminus1131-via-then-number-geminus1131+else-number-leminus108 w ↦ inr w.if-number-leminus108.false
      | else-number-geminus1131-via-else-number-geminus1131 w ↦ inl w.if-number-geminus1131.false
    ]))
