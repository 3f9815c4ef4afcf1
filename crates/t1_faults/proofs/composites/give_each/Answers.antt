use Rattle.std.proofs.Common.{◌≡◌, ◌∙◌, ◌<◌, length, get_or, arith, rules}
use Rattle.t1_faults.specs.GlyphRuns.{composites_kept}
use Rattle.t1_faults.proofs.CompositeLaws.{given_all, given_next}
use Rattle.t1_faults.proofs.composites.give_each.Goals as goal

pub loop-number-preserved : goal.loop-number-preserved
loop-number-preserved c =
    let composites = composites_kept c.args.composites.now.entries in
    let k = c.loop-number.number in
    let there : c.index_mut.result.now ≡ get_or c.loop-number.found.items k c.index_mut.result.now = search rules in
    let inside : k < length c.args.found.now.items = omega (arith, c.loop-number.invariant.count) in
    record {
      given =
          given_next composites k c.args.found.now.items c.loop-number.found.items c.in_ok-names.names c.index_mut.result.now c.give.new.fault inside
          c.loop-number.invariant.given there c.in_ok-names.ensures c.give.ensures;
      count = search rules;
    }

pub returns : goal.returns
returns c =
    c.loop-number.invariant.given
    ∙ given_all (composites_kept c.args.composites.now.entries) 0 c.loop-number.number c.args.found.now.items (omega (arith, c.loop-number.invariant.count))
