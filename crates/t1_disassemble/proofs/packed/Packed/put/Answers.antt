use Rattle.std.proofs.Common.{◌≡◌, ℕ, [], ◌∷◌, ◌++◌, List, take, drop, subst, rules}
use Rattle.std.proofs.lemmas.List.{nil_from_length}
use Rattle.std.proofs.lemmas.Result.{err_from_is_err_and}
use Rattle.t1_code.proofs.Writing.{passing, Written, Written-step, Written-fails, Written-last}
use Rattle.t1_disassemble.specs.declared.packed.Cut.{Cut}
use Rattle.t1_disassemble.specs.Packed.{packed_text}
use Rattle.t1_disassemble.specs.SoundWords.{code_lines}
use Rattle.t1_disassemble.proofs.PackedLaws.{packed_next}
use Rattle.t1_disassemble.proofs.packed.Packed.put.Goals as goal

-- what goes out first, and what is left then
abbrev put : List ℕ → List ℕ → Cut → List ℕ
put texts codes cut = take cut.lines texts ++ code_lines (take cut.code codes)

abbrev left : List ℕ → List ℕ → Cut → List Cut → List ℕ
left texts codes cut others = packed_text others (drop cut.lines texts) (drop cut.code codes)

pub returns-in_err-put_cut : goal.returns-in_err-put_cut
returns-in_err-put_cut g c =
    let l = c.loop-cut in
    let first : l.rest.now ≡ c.in-Some.cut.now ∷ c.in-Some.others.now = search rules in
    rw (err_from_is_err_and c.from_residual.result c.from_residual.ensures.1).1
    (Written-fails (passing g.W.Write.contents) c.args.outlet.now l.outlet c.put_cut.new.outlet c.args.self.now (put l.lines.now l.codes.now c.in-Some.cut.now) (left l.lines.now l.codes.now c.in-Some.cut.now c.in-Some.others.now)
    (subst (Written (passing g.W.Write.contents) c.args.outlet.now l.outlet c.args.self.now) (packed_next l.rest.now c.in-Some.others.now c.in-Some.cut.now l.lines.now l.codes.now first) l.invariant)
    c.in_err-put_cut.ensures)

pub loop-cut-preserved : goal.loop-cut-preserved
loop-cut-preserved g c =
    let l = c.loop-cut in
    let first : l.rest.now ≡ c.in-Some.cut.now ∷ c.in-Some.others.now = search rules in
    rw (c.past-lines.ensures, c.past-codes.ensures)
    (Written-step (passing g.W.Write.contents) c.args.outlet.now l.outlet c.put_cut.new.outlet c.args.self.now (put l.lines.now l.codes.now c.in-Some.cut.now) (left l.lines.now l.codes.now c.in-Some.cut.now c.in-Some.others.now)
    (subst (Written (passing g.W.Write.contents) c.args.outlet.now l.outlet c.args.self.now) (packed_next l.rest.now c.in-Some.others.now c.in-Some.cut.now l.lines.now l.codes.now first) l.invariant)
    c.in_ok-put_cut.ensures)

pub returns : goal.returns
returns g c =
    let l = c.loop-cut in
    let nothing : l.rest.now ≡ [] = nil_from_length _ (search rules) in
    Written-last (passing g.W.Write.contents) c.put.result c.args.outlet.now l.outlet c.put.new.self c.args.self.now _
    (subst (λ (cuts : List Cut). Written (passing g.W.Write.contents) c.args.outlet.now l.outlet c.args.self.now (packed_text cuts l.lines.now l.codes.now)) nothing l.invariant)
    c.put.ensures
