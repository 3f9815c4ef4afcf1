use Rattle.std.proofs.Common.{◌≡◌, ◌∙◌, ◌<◌, ◌≤◌, [], ◌∷◌, ◌++◌, length, get_or, ap, rules}
use Rattle.std.specs.List.{position_or_len}
use Rattle.t1_faults.specs.GlyphRuns.{has_fault_code, seen_run, with_chain}
use Rattle.t1_faults.proofs.KeptLaws.{chain_more, fault_more}
use Rattle.t1_faults.proofs.met.add_run.Goals as goal

pub returns-then-at-len : goal.returns-then-at-len
returns-then-at-len c = λ runs same.
    let found = c.args.faults.now.items in
    let k = c.place_of_code-at.result in
    let r = seen_run c.args.run.now in
    let place : k ≡ position_or_len (has_fault_code r.failure.code) found = search rules in
    let within : k < length found = search rules in
    let there : c.index_mut.result.now ≡ get_or found k c.index_mut.result.now = search rules in
    chain_more r runs found k c.index_mut.result.now c.add_chain.new.fault same place within there (c.in_ok-add_chain.ensures ∙ ap (λ chain. with_chain chain c.index_mut.result.now) c.in_ok-chain.ensures)

pub returns : goal.returns
returns c = λ runs same.
    let found = c.args.faults.now.items in
    let k = c.place_of_code-at.result in
    let r = seen_run c.args.run.now in
    let place : k ≡ position_or_len (has_fault_code r.failure.code) found = search rules in
    let past : length found ≤ k = search rules in
    let items : c.push.new.self.items ≡ found ++ c.in_ok-first_fault.field-0 ∷ [] = search rules in
    items ∙ ap (λ f. found ++ f ∷ []) c.in_ok-first_fault.ensures ∙ fault_more r runs found k same place past
