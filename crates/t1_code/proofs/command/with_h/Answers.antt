use Rattle.std.proofs.Common.{◌==◌, refl}
use Rattle.std.specs.Prelude.{codes}
use Rattle.t1_code.proofs.Commands.{last_decides, unnamed}
use Rattle.t1_code.proofs.command.with_h.Goals as goal

pub returns : goal.returns
returns c =
    last_decides (codes "hstem3") c.args.text.now c.named-6.result
    (λ off. unnamed (λ b. b == 104) c.args.text.now c.requires refl (c.in_default.ensures, (c.in_default-named.ensures, (c.in_default-named-2.ensures, (c.in_default-named-3.ensures, (c.in_default-named-4.ensures, (off, tt))))))) c.named-6.ensures
