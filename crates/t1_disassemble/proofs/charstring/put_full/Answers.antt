use Rattle.std.proofs.Common.{◌≤◌, List, ℕ, sym, subst, arith}
use Rattle.t1_code.specs.Writing.{Passes}
use Rattle.t1_code.proofs.Writing.{passing}
use Rattle.t1_disassemble.proofs.WaitingLaws.{none_due}
use Rattle.t1_disassemble.proofs.charstring.put_full.Goals as goal

pub returns-then-len-clause-text : goal.returns-then-len-clause-text
returns-then-len-clause-text g c =
    let a = c.args.outlet.now in
    let few : c.args.len ≤ 232 = omega arith in
    subst (λ (sent : List ℕ). Passes g.W.Write.contents a a sent) (sym (none_due c.args.len c.args.bytes.now few)) ((passing g.W.Write.contents).none a)
