use Rattle.std.proofs.Common.{◌≤◌, ◌∙◌, arith, sym, ap, length, length-append}
use Rattle.std.proofs.lemmas.Result.{err_from_is_err_and}
use Rattle.t1_code.proofs.Writing.{writing, nothing_left, Written-all, Written-broken, Written-more}
use Rattle.t1_code.proofs.counted.Counted.put_all.Goals as goal

pub loop-rest-preserved : goal.loop-rest-preserved
loop-rest-preserved g c =
    let within : c.in_ok-count.count ≤ c.min.result = omega (arith, c.in_ok-count.ensures.taken, c.split_at.ensures.front_len) in
    record {
      written = rw c.split_at-in-loop-rest.ensures.back (Written-more g.W.Write.contents _ _ _ _ c.loop-rest.rest.now c.min.result c.in_ok-count.count c.loop-rest.invariant.written within (rw c.split_at.ensures.front at c.in_ok-count.ensures.bytes) c.in_ok-count.ensures.failures c.in_ok-count.ensures.turns);
      untouched = λ e. let w = c.loop-rest.invariant.written in absurd (omega (arith, ap length e, ap length w.1, length-append w.0 c.loop-rest.rest.now, c.in_ok-count.ensures.taken, c.split_at.ensures.front_len, c.min.ensures));
    }

pub returns-in_err-count-clause-text : goal.returns-in_err-count-clause-text
returns-in_err-count-clause-text g c =
    let p = err_from_is_err_and c.from_residual.result c.from_residual.ensures.1 in
    rw p.1 (Written-broken g.W.Write.contents c.args.self.now c.loop-rest.self c.put.new.self c.args.bytes.now c.loop-rest.rest.now c.loop-rest.invariant.written
    c.in_err-count.ensures.bytes c.in_err-count.ensures.failures c.in_err-count.ensures.turns)

pub returns-clause-text : goal.returns-clause-text
returns-clause-text g c =
    Written-all (writing g.W.Write.contents) c.args.self.now c.loop-rest.self c.args.bytes.now
    (rw (nothing_left c.loop-rest.rest.now (sym c.is_empty.ensures ∙ c.loop-rest-test.false)) at c.loop-rest.invariant.written)
