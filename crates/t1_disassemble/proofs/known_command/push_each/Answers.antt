use Rattle.std.proofs.Common.{◌≡◌, ◌+◌, ◌≤◌, [], ◌∷◌, ◌++◌, length, drop, Ok, ap, ◌∙◌, append-nil, subst, rules, arith}
use Rattle.std.proofs.lemmas.List.{nil_from_length}
use Rattle.std.specs.Vec.{vec_len, vec_capacity}
use Rattle.t1_disassemble.proofs.CommandLaws.{Read, one_read, more_fit, behind_more, front_more}
use Rattle.t1_disassemble.proofs.WordLaws.{no_words}
use Rattle.t1_disassemble.specs.Words.{words_of}
use Rattle.t1_disassemble.proofs.known_command.push_each.Goals as goal

pub loop-first-preserved : goal.loop-first-preserved
loop-first-preserved c =
    let old = c.args.others.now.items in
    let l = c.loop-first in
    let now = l.others.items in
    let command = c.in-Some-next_command.command in
    let found = c.in-Some-next_command.ensures in
    let items : c.push_reserved.new.self.items ≡ now ++ command ∷ [] = c.push_reserved.ensures.items in
    let rest : l.rest.now ≡ c.in-Some.first.now ∷ c.in-Some.after.now = search rules in
    let before = subst (Read c.args.code.now (drop (length old) now)) rest l.invariant.0 in
    let size = ap length rest in
    let room : vec_len c.push_reserved.new.self + length c.in-Some-next_command.left.now ≤ vec_capacity c.push_reserved.new.self =
    omega (arith, size, found.shorter, c.push_reserved.ensures.len, c.push_reserved.ensures.capacity, l.invariant.3) in
    rw (items, behind_more old now command l.invariant.2) (
      one_read c.args.code.now (drop (length old) now) c.in-Some.first.now c.in-Some.after.now c.in-Some-next_command.left.now command found.read before,
      more_fit (drop (length old) now) command l.invariant.1 found.fits,
      front_more old now command l.invariant.2,
      room,
    )

pub returns-clause-read : goal.returns-clause-read
returns-clause-read c = λ all.
    let nothing : c.loop-first.rest.now ≡ [] = nil_from_length _ (search rules) in
    c.loop-first.invariant.0 [] (ap words_of nothing ∙ no_words) ∙ ap Ok (append-nil _)
