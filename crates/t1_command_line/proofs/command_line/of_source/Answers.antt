use Rattle.t1_command_line.proofs.command_line.of_source.Goals as goal

pub returns : goal.returns
returns c = λ before command.
    c.with_arg.ensures _ _
    (c.with_arg-with_output.ensures _ _ (c.with_arg-or_font.ensures _ _ command c.as_font.ensures.rule c.as_font.ensures.local) c.output.ensures.rule c.output.ensures.local)
    c.source.ensures.rule
    c.source.ensures.local
