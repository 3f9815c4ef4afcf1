use Rattle.std.proofs.Common.{sym, ◌∙◌}
use Rattle.t1_parts.proofs.SectionEndLaws.{single_front}
use Rattle.t1_parts.specs.Starts.{starts_from}
use Rattle.std.proofs.Common.{ap}
use Rattle.t1_parts.proofs.StartLaws.{starts_raised}
use Rattle.t1_parts.proofs.stretches.Stretches.raise_counts.Goals as goal

pub invariant_of-self : goal.invariant_of-self
invariant_of-self c = (
  λ on. single_front c.args.subrs c.args.glyphs c.args.end c.self.inside.stretches.items _ (c.self.invariant.0 on) c.raise_stretches.ensures,
  λ off. c.self.invariant.1 off ∙ starts_raised c.args.subrs c.args.glyphs 0 c.args.end c.self.inside.stretches.items ∙ ap (starts_from 0) (sym c.raise_stretches.ensures),
)
