use Rattle.std.proofs.Common.{◌∙◌, ap, sym, cond, ◌+◌, Some, None, arith}
use Rattle.std.specs.List.{find}
use Rattle.std.specs.Option.{option_or}
use Rattle.t1_source.specs.Codes.{name_of_code, name_at}
use Rattle.t1_text.specs.Tokens.{is_token}
use Rattle.t1_font.specs.Names.{code_kept}
use Rattle.t1_font.proofs.Compiling.{or-none}
use Rattle.t1_font.proofs.Ordering.{codes_from, codes-end, code-first, code-more, code-next}
use Rattle.t1_font.proofs.codes.codes_of.Goals as goal

pub loop-code-init : goal.loop-code-init
loop-code-init c = λ g. ap (λ es. option_or (code_kept es g) (find (λ k. is_token g (name_of_code c.args.source.now k)) (codes_from 0))) c.new-codes.ensures.empty ∙ code-first (name_of_code c.args.source.now) g

pub loop-code-preserved : goal.loop-code-preserved
loop-code-preserved c = λ g.
    let names = name_of_code c.args.source.now in
    let code = c.loop-code.code in
    let kept = code_kept c.loop-code.codes.entries g in
    let rest = find (λ k. is_token g (names k)) (codes_from (code + 1)) in
    let table = c.names_by_code-names.result in
    ap (λ r. option_or r rest) (c.in_ok-add_name.ensures g ∙ ap (λ at. option_or kept (cond (is_token g (name_at table at)) (Some code) None)) c.from.ensures)
    ∙ code-more (is_token g (name_at table code)) code kept rest
    ∙ ap (λ name. option_or kept (cond (is_token g name) (Some code) rest)) (c.names_by_code-names.ensures code (omega arith))
    ∙ ap (option_or kept) (sym (code-next names g code (omega arith)))
    ∙ c.loop-code.invariant g

pub returns : goal.returns
returns c = λ g.
    let names = name_of_code c.args.source.now in
    let kept = code_kept c.loop-code.codes.entries g in
    or-none kept ∙ ap (λ ks. option_or kept (find (λ k. is_token g (names k)) ks)) (sym (codes-end c.loop-code.code (omega arith))) ∙ c.loop-code.invariant g
