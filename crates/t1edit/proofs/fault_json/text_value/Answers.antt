use Rattle.std.proofs.Common.{◌≡◌, ◌∙◌, ap, rules}
use Rattle.serde_json.specs.Data.{string}
use Rattle.t1_fault_texts.specs.Shown.{shown}
use Rattle.t1edit.proofs.ShownLaws.{shown_is_utf8}
use Rattle.t1edit.proofs.fault_json.text_value.Goals as goal

pub returns : goal.returns
returns c =
    let same : c.deref.result.now ≡ shown c.args.bytes.now = search rules in
    c.from.ensures ∙ ap string (c.in_ok-from_utf8_lossy.ensures.ok (rw same (shown_is_utf8 c.args.bytes.now)) ∙ same)
