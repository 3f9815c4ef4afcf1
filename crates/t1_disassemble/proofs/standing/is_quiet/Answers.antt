use Rattle.std.proofs.Common.{◌≡◌, ◌∷◌, true, rules}
use Rattle.std.specs.List.{list_all}
use Rattle.t1_disassemble.specs.Stood.{is_other_byte}
use Rattle.t1_disassemble.proofs.StandingLaws.{line_quiet}
use Rattle.t1_disassemble.proofs.standing.is_quiet.Goals as goal

pub returns : goal.returns
returns c = λ part name h.
    let operator = c.args.operator.now in
    let first = c.in-Some.first.now in
    let more = c.in-Some._more.now in
    let e : operator ≡ first ∷ more = search rules in
    let all : list_all (is_other_byte first) c.args.line.now ≡ true = search (rules, h) in
    line_quiet operator first more part name c.args.line.now e all
