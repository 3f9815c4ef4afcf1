use Rattle.t1_command_line.proofs.command_line.explain.Goals as goal

pub returns : goal.returns
returns c =
    c.with_arg.ensures _ _
    (c.with_arg-with_code.ensures _ _ c.named-command.ensures c.code.ensures.rule c.code.ensures.local)
    c.place.ensures.rule
    c.place.ensures.local
