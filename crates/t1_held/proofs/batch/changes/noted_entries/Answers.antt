use Rattle.std.proofs.Common.{◌∙◌, ◌++◌, ap, sym}
use Rattle.std.proofs.lemmas.List.{append_assoc}
use Rattle.std.specs.Prelude.{[], ◌∷◌, if◌then◌else◌}
use Rattle.t1_held.specs.Noting.{added_keys, all_bodies, kept_at, other_keys}
use Rattle.t1_held.proofs.Noting.{none-left}
use Rattle.t1_held.proofs.batch.changes.noted_entries.Goals as goal

pub loop-entry-preserved : goal.loop-entry-preserved
loop-entry-preserved c =
    let e = c.in-Some.entry in
    let rest = c.next.new.self.rest.items in
    let old = c.loop-entry.noted in
    let was = c.loop-entry.invariant in
    let reported = c.in_ok-note.ensures in
    let split = c.in-Some.ensures.steps.0 in
    record {
      bodies = λ k.
          ap (λ m. all_bodies rest m k) (λ j. λ x. reported.bodies x j)
          ∙ ap (λ l. all_bodies l (kept_at old.bodies) k) (sym split)
          ∙ was.bodies k;
      added =
          ap (λ l. l ++ added_keys rest) reported.added
          ∙ append_assoc old.added.items (if e.added then e.named ∷ [] else []) (added_keys rest)
          ∙ ap (λ l. old.added.items ++ added_keys l) (sym split)
          ∙ was.added;
      others =
          ap (λ l. l ++ other_keys rest) reported.others
          ∙ append_assoc old.others.items (if e.added then [] else e.named ∷ []) (other_keys rest)
          ∙ ap (λ l. old.others.items ++ other_keys l) (sym split)
          ∙ was.others;
    }

pub returns-clause-bodies : goal.returns-clause-bodies
returns-clause-bodies c = λ k.
    sym (ap (λ l. all_bodies l (kept_at c.loop-entry.noted.bodies) k) (none-left c.loop-entry.entry-iterator.rest.items (sym c.loop-entry.entry-iterator.rest.ok.0 ∙ c.in-None.ensures.steps.0))) ∙ c.loop-entry.invariant.bodies k
