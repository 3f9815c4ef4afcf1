use Rattle.t1_command_line.proofs.command_line.disassemble.Goals as goal

pub returns : goal.returns
returns c =
    c.with_arg.ensures _ _
    (c.with_arg-with_output.ensures _ _ c.named-command.ensures c.output.ensures.rule c.output.ensures.local)
    c.font.ensures.rule
    c.font.ensures.local
