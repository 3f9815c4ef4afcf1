use Rattle.std.proofs.Common.{List, ℕ, subst}
use Rattle.std.proofs.lemmas.Result.{err_from_is_err_and}
use Rattle.t1_code.specs.Writing.{Passes, Stops}
use Rattle.t1_code.proofs.Digits.{no_end, end_given}
use Rattle.t1_code.proofs.Writing.{passing}
use Rattle.t1_code.proofs.hexadecimal.HexLines.end_full.Goals as goal

pub returns-clause-text : goal.returns-clause-text
returns-clause-text g c =
    subst (λ (end : List ℕ). Passes g.W.Write.contents c.args.outlet.now c.put.new.self end)
    (end_given c.args.self.now.room c.if-self-gt0.false).0 c.in_ok-put.ensures

pub returns-clause-state : goal.returns-clause-state
returns-clause-state g c = (end_given c.args.self.now.room c.if-self-gt0.false).1

pub returns-then-self-gt0-clause-text : goal.returns-then-self-gt0-clause-text
returns-then-self-gt0-clause-text g c =
    let a = c.args.outlet.now in
    subst (λ (end : List ℕ). Passes g.W.Write.contents a a end) (no_end c.args.self.now.room c.if-self-gt0.true) ((passing g.W.Write.contents).none a)

pub returns-in_err-put-clause-text : goal.returns-in_err-put-clause-text
returns-in_err-put-clause-text g c =
    let p = err_from_is_err_and c.from_residual.result c.from_residual.ensures.1 in
    rw p.1 (subst (λ (end : List ℕ). Stops g.W.Write.contents c.args.outlet.now c.put.new.self end)
    (end_given c.args.self.now.room c.if-self-gt0.false).0 c.in_err-put.ensures)
