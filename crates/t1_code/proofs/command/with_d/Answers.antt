use Rattle.std.proofs.Common.{◌==◌, refl}
use Rattle.std.specs.Prelude.{codes}
use Rattle.t1_code.proofs.Commands.{last_decides, unnamed}
use Rattle.t1_code.proofs.command.with_d.Goals as goal

pub returns : goal.returns
returns c =
    last_decides (codes "dotsection") c.args.text.now c.named-2.result
    (λ off. unnamed (λ b. b == 100) c.args.text.now c.requires refl (c.in_default.ensures, (off, tt))) c.named-2.ensures
