use Rattle.t1_command_line.proofs.command_line.session.Goals as goal

pub returns : goal.returns
returns c =
    c.with_arg.ensures _ _
    (c.with_arg-or_font.ensures _ _ (c.with_arg-with_kern.ensures _ _ c.named-command.ensures c.kern.ensures.rule c.kern.ensures.local) c.as_font.ensures.rule c.as_font.ensures.local)
    c.source.ensures.rule
    c.source.ensures.local
