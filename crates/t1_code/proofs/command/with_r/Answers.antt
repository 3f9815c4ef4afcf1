use Rattle.std.proofs.Common.{◌==◌, refl}
use Rattle.std.specs.Prelude.{codes}
use Rattle.t1_code.proofs.Commands.{last_decides, unnamed}
use Rattle.t1_code.proofs.command.with_r.Goals as goal

pub returns : goal.returns
returns c =
    last_decides (codes "return") c.args.text.now c.named-4.result
    (λ off. unnamed (λ b. b == 114) c.args.text.now c.requires refl (c.in_default.ensures, (c.in_default-named.ensures, (c.in_default-named-2.ensures, (off, tt))))) c.named-4.ensures
