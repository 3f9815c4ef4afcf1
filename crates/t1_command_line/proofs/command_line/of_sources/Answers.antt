use Rattle.t1_command_line.proofs.command_line.of_sources.Goals as goal

pub returns : goal.returns
returns c = λ before command.
    c.with_arg.ensures _ _
    (c.with_arg-or_fonts.ensures _ _ (c.with_arg-with_kern.ensures _ _ command c.kern.ensures.rule c.kern.ensures.local) c.as_font.ensures.rule c.as_font.ensures.local)
    c.sources.ensures.rule
    c.sources.ensures.local
