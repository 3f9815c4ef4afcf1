use Rattle.std.proofs.Common.{◌==◌, not, ◌&&◌, refl}
use Rattle.std.specs.Prelude.{codes}
use Rattle.t1_code.proofs.Commands.{last_decides, unnamed}
use Rattle.t1_code.proofs.command.others.Goals as goal

pub returns : goal.returns
returns c =
    last_decides (codes "sbw") c.args.text.now c.named-5.result
    (λ off. unnamed (λ b. not (b == 99) && not (b == 100) && not (b == 104) && not (b == 114) && not (b == 118)) c.args.text.now c.requires refl (c.in_default.ensures, (c.in_default-named.ensures, (c.in_default-named-2.ensures, (c.in_default-named-3.ensures, (off, tt)))))) c.named-5.ensures
