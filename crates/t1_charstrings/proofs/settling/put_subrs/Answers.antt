use Rattle.std.proofs.Common.{◌∙◌, arith, length}
use Rattle.std.specs.Prelude.{nat_eq}
use Rattle.t1_run.specs.Run.{Subr}
use Rattle.t1_charstrings.specs.Entries.{subr_charstring}
use Rattle.t1_font.proofs.Lookups.{none-found}
use Rattle.t1_charstrings.proofs.Batches.{all-put, on-ok, put-last}
use Rattle.t1_charstrings.proofs.settling.put_subrs.Goals as goal

pub loop-number-preserved : goal.loop-number-preserved
loop-number-preserved c =
    let was = c.loop-number.invariant in
    let reported = c.insert_subr-put.ensures in
    let some = c.in-Some.ensures in
    record {
      subrs = λ fits n.
          put-last (nat_eq n) c.loop-number.left.entries c.pop.new.self.entries c.in-Some.number c.in-Some.entry
          (subr_charstring c.loop-number.charstrings.subrs.entries n) (subr_charstring c.insert_subr-put.new.charstrings.subrs.entries n) some.entries
          (on-ok c.insert_subr-put.result (reported.succeeds (omega (arith, some.len, was.room fits))) reported.sets (Subr n))
          ∙ was.subrs fits n;
      room = λ fits. omega (arith, reported.room.0, some.len, was.room fits);
      glyphs = reported.room.1 ∙ was.glyphs;
    }

pub returns-clause-subrs : goal.returns-clause-subrs
returns-clause-subrs c = λ fits n.
    all-put (nat_eq n) c.loop-number.left.entries (subr_charstring c.loop-number.charstrings.subrs.entries n)
    (none-found c.pop.result (length c.loop-number.left.entries) c.in_default.is c.pop.ensures.found.1)
    ∙ c.loop-number.invariant.subrs fits n
