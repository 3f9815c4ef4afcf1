use Rattle.std.proofs.Common.{refl}
use Rattle.t1_command_line.proofs.command_line.command.Goals as goal

pub returns : goal.returns
returns c =
    c.with_command.ensures _ _
    (c.with_command-program-7.ensures _ _
    (c.with_command-program-6.ensures _ _
    (c.with_command-program-5.ensures _ _
    (c.with_command-program-4.ensures _ _
    (c.with_command-program-3.ensures _ _ (c.with_command-program-2.ensures _ _ (c.with_command-program.ensures _ _ c.program_alone.ensures c.assemble.ensures refl) c.disassemble.ensures refl) c.measure.ensures refl)
    c.check.ensures
    refl)
    c.faults.ensures
    refl)
    c.notes.ensures
    refl)
    c.session.ensures
    refl)
    c.explain.ensures
    refl
