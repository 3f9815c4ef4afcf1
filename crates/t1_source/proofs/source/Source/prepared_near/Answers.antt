use Rattle.std.proofs.Common.{◌≡◌, true, Ok, rules}
use Rattle.t1_source.specs.Changes.{changed}
use Rattle.t1_source.specs.Editing.{edited}
use Rattle.t1_pairs.specs.Kerning.{are_pairs}
use Rattle.t1_source.proofs.WellFormedEditedLaws.{edited_well_formed, edited_pairs}
use Rattle.t1_source.proofs.source.Source.prepared_near.Goals as goal

pub returns-clause-serves : goal.returns-clause-serves
returns-clause-serves c =
    let now = c.args.self.now in
    let pairs = c.args.pairs.now in
    let made = changed c.in_ok-change.change now pairs in
    let e : edited now pairs c.args.edit.now ≡ Ok (made.0, made.1) = search rules in
    let kept : are_pairs pairs ≡ true = c.len-count.ensures.kept in
    record {
      fits = c.in_ok-change.ensures.fits;
      source = edited_well_formed now pairs c.args.edit.now made.0 made.1 c.kept_items-items.ensures.kept e;
      pairs = edited_pairs now pairs c.args.edit.now made.0 made.1 kept e;
    }
