use Rattle.std.proofs.Common.{[], ◌∷◌, ◌++◌, ◌∙◌, ap, append_assoc, append-nil}
use Rattle.t1_frac.specs.Words.{words}
use Rattle.t1_frac.proofs.AppendLaws.{words_append}
use Rattle.t1_frac.proofs.OutcomeLaws.{on_err}
use Rattle.t1_frac.proofs.words.OwnedWords.push_line.Goals as goal

pub returns-clause-ok : goal.returns-clause-ok
returns-clause-ok c =
    let old = c.self.inside.bytes.items in
    let line = c.args.line.now in
    ap words (c.in_ok-extend_from_slice.ensures.items ∙ ap (λ t. t ++ line) (c.in_ok-push.ensures.items ∙ ap (λ t. t ++ 32 ∷ []) c.in_ok-reserve.ensures.items) ∙ append_assoc old (32 ∷ []) line)
    ∙ words_append old line
    ∙ ap (λ t. t ++ words line) c.self.view_is

pub returns-in_err-extend_from_slice-clause-err : goal.returns-in_err-extend_from_slice-clause-err
returns-in_err-extend_from_slice-clause-err c =
    let old = c.self.inside.bytes.items in
    let same = ap words (c.in_err-extend_from_slice.ensures.items ∙ c.in_ok-push.ensures.items ∙ ap (λ t. t ++ 32 ∷ []) c.in_ok-reserve.ensures.items) ∙ words_append old [] ∙ append-nil (words old) ∙ c.self.view_is in
    on_err c.from_residual-in_err-extend_from_slice.result same
