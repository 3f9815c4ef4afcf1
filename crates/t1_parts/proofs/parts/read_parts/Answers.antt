use Rattle.std.proofs.Common.{◌≡◌, ◌+◌, ◌++◌, ◌∷◌, [], length, rules, ◌∙◌, ap, sym}
use Rattle.t1_text.specs.Lines.{lines}
use Rattle.t1_parts.specs.Encoding.{clear_check}
use Rattle.t1_parts.specs.Counts.{raised}
use Rattle.t1_parts.specs.Private.{private_items}
use Rattle.t1_parts.proofs.MadeSourceLaws.{made_is_read}
use Rattle.t1_parts.proofs.parts.read_parts.Goals as goal

pub returns : goal.returns
returns c =
    let parts = c.in_ok-parts.parts in
    let whole : c.push.new.self.items ≡ lines parts.clear.now ++ parts.eexec.now ∷ [] = search rules in
    let clear = c.deref.ensures.value ∙ whole in
    let size : length (lines parts.clear.now ++ parts.eexec.now ∷ []) ≡ length c.as_slice.result.now = ap length (sym whole) ∙ ap length (sym c.as_slice.ensures.value) in
    let items = ap (λ n. private_items (n + 1) (lines parts.private.now ++ parts.closefile.now ∷ [])) size ∙ c.in_ok-items.ensures in
    made_is_read _ _ _ _ _ _ c.in_ok-parts.ensures (ap clear_check (sym clear) ∙ sym c.in_ok-check_clear.ensures) items (sym c.in_ok-check_whole.ensures) whole
    (c.in_ok-raise.ensures.ok ∙ ap raised c.in_ok-items-2.ensures) c.in_ok-tail.ensures
