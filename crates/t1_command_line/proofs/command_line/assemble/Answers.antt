use Rattle.t1_command_line.proofs.command_line.assemble.Goals as goal

pub returns : goal.returns
returns c =
    c.of_source.ensures _
    (c.with_arg.ensures _ _ (c.with_arg-with_blocks.ensures _ _ c.named-command.ensures c.in_ok-blocks.ensures.rule c.in_ok-blocks.ensures.local) c.pfa.ensures.rule c.pfa.ensures.local)
