use Rattle.std.proofs.Common.{◌≡◌, ◌++◌, ◌-◌, ◌≤◌, List, ℕ, OnOk, length, drop, ap, subst, ◌∙◌, arith}
use Rattle.t1_text.specs.Lines.{lines, joined}
use Rattle.t1_parts.specs.Parts.{tail_of}
use Rattle.t1_disassemble.proofs.Deciphering.{length_deciphered}
use Rattle.t1_disassemble.proofs.LastLaws.{last_tail}
use Rattle.t1_disassemble.proofs.disassembly.push_flat_tail.Goals as goal

pub returns-then-left-last : goal.returns-then-left-last
returns-then-left-last c = λ encrypted. λ h.
    let count = c.args.count in
    let last : c.args.last.now ≡ drop (length encrypted - 2048) encrypted = c.requires.last encrypted h in
    let size : length c.args.coded.now ≡ length encrypted = ap length h ∙ length_deciphered 55665 encrypted in
    let within : count ≤ length encrypted = omega (arith, size, c.requires.within) in
    let long : length c.args.last.now ≡ length (drop (length encrypted - 2048) encrypted) = ap length last in
    let reaches : length encrypted - count ≤ length (drop (length encrypted - 2048) encrypted) = omega (arith, size, long, c.if-left-last.true) in
    let past : c.past.result.now ≡ drop (length (drop (length encrypted - 2048) encrypted) - (length encrypted - count)) (drop (length encrypted - 2048) encrypted) =
    c.past.ensures ∙ ap (λ (l : List ℕ). drop (length l - (length c.args.coded.now - count)) l) last ∙ ap (λ n. drop (length (drop (length encrypted - 2048) encrypted) - (n - count)) (drop (length encrypted - 2048) encrypted)) size in
    subst (λ (t : List ℕ). OnOk c.push_tail.result (c.push_tail.new.text ≡ c.args.text.now ++ joined (tail_of (lines t)))) (past ∙ last_tail encrypted count within reaches) c.push_tail.ensures
