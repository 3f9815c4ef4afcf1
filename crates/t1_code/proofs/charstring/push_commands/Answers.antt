use Rattle.std.proofs.Common.{◌≡◌, ℕ, ◌+◌, ◌<◌, List, [], ◌∷◌, ◌++◌, length, take, get_or, sym, ap, ◌∙◌, append_assoc, append-nil, arith}
use Rattle.std.proofs.lemmas.Grind.{flat_map-append}
use Rattle.std.proofs.lemmas.List.{take_all, take_more}
use Rattle.t1_code.specs.declared.command.Command.{Command}
use Rattle.t1_code.specs.Charstring.{charstring, command_bytes}
use Rattle.t1_code.proofs.charstring.push_commands.Goals as goal

-- the code of one command more
coded_more : (front before now : List ℕ) (commands : List Command) (i : ℕ) (d : Command) → i < length commands → before ≡ front ++ charstring (take i commands)
    → now ≡ before ++ command_bytes (get_or commands i d) → now ≡ front ++ charstring (take (i + 1) commands)
coded_more front before now commands i d inside e is =
    let next = get_or commands i d in
    let more : charstring (take (i + 1) commands) ≡ charstring (take i commands) ++ command_bytes next =
    ap charstring (take_more commands i d inside) ∙ flat_map-append command_bytes (take i commands) (next ∷ []) ∙ ap (λ l. charstring (take i commands) ++ l) (append-nil (command_bytes next)) in
    is ∙ ap (λ l. l ++ command_bytes next) e ∙ append_assoc front (charstring (take i commands)) (command_bytes next) ∙ ap (λ l. front ++ l) (sym more)

pub loop-command-preserved : goal.loop-command-preserved
loop-command-preserved c =
    coded_more c.args.code.now.items c.loop-command.code.items c.push_command.new.code.items c.args.commands.now c.loop-command.command-index _ c.loop-command-test.true
    c.loop-command.invariant c.in_ok-push_command.ensures.value

pub returns : goal.returns
returns c =
    c.loop-command.invariant ∙ ap (λ l. c.args.code.now.items ++ charstring l) (take_all c.loop-command.command-index c.args.commands.now c.loop-command-test.false)
