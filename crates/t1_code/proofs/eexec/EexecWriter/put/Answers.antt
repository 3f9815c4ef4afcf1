use Rattle.std.proofs.Common.{◌≡◌, ◌++◌, refl, sym, ap, ◌∙◌}
use Rattle.std.proofs.lemmas.List.{take-append-drop}
use Rattle.std.proofs.lemmas.Result.{err_from_is_err_and}
use Rattle.t1_code.specs.Eexec.{EexecState, enciphered, state_after}
use Rattle.t1_code.proofs.Carrying.{Carried-step, Carried-fails, Carried-all, Carried-end}
use Rattle.t1_code.proofs.Enciphering.{enciphering, none_enciphered, state_stays}
use Rattle.t1_code.proofs.Writing.{nothing_left}
use Rattle.t1_code.proofs.eexec.EexecWriter.put.Goals as goal

pub returns-clause-text : goal.returns-clause-text
returns-clause-text g c =
    let state : EexecState = record { key = c.loop-rest.self-inside.cipher; form = c.loop-rest.self-inside.form } in
    Carried-all g.W.Write.contents enciphering c.args.outlet.now c.loop-rest.outlet c.args.self.now state c.args.bytes.now c.loop-rest.rest.now
    c.loop-rest.invariant (ap (enciphered state) (nothing_left c.loop-rest.rest.now (sym c.is_empty.ensures ∙ c.loop-rest-test.false)) ∙ none_enciphered state)

pub returns-clause-state : goal.returns-clause-state
returns-clause-state g c =
    let state : EexecState = record { key = c.loop-rest.self-inside.cipher; form = c.loop-rest.self-inside.form } in
    Carried-end g.W.Write.contents enciphering c.args.outlet.now c.loop-rest.outlet c.args.self.now state c.args.bytes.now c.loop-rest.rest.now
    c.loop-rest.invariant (ap (state_after state) (nothing_left c.loop-rest.rest.now (sym c.is_empty.ensures ∙ c.loop-rest-test.false)) ∙ state_stays state)

pub returns-in_err-put-clause-text : goal.returns-in_err-put-clause-text
returns-in_err-put-clause-text g c =
    let p = err_from_is_err_and c.from_residual.result c.from_residual.ensures.1 in
    let state : EexecState = record { key = c.loop-rest.self-inside.cipher; form = c.loop-rest.self-inside.form } in
    let front = c.split_at.result.0.now in
    let after = c.split_at.result.1.now in
    let parts : c.loop-rest.rest.now ≡ front ++ after = rw (c.split_at.ensures.front, c.split_at.ensures.back) (sym (take-append-drop c.min.result c.loop-rest.rest.now)) in
    rw p.1 (Carried-fails g.W.Write.contents enciphering c.args.outlet.now c.loop-rest.outlet c.put.new.outlet
    c.args.self.now state c.args.bytes.now front after (rw parts at c.loop-rest.invariant) (rw c.encrypt_into-encrypted.ensures.bytes at c.in_err-put.ensures.text))

pub loop-rest-preserved : goal.loop-rest-preserved
loop-rest-preserved g c =
    let state : EexecState = record { key = c.loop-rest.self-inside.cipher; form = c.loop-rest.self-inside.form } in
    let front = c.split_at.result.0.now in
    let after = c.split_at.result.1.now in
    let parts : c.loop-rest.rest.now ≡ front ++ after = rw (c.split_at.ensures.front, c.split_at.ensures.back) (sym (take-append-drop c.min.result c.loop-rest.rest.now)) in
    Carried-step g.W.Write.contents enciphering c.args.outlet.now c.loop-rest.outlet c.put.new.outlet
    c.args.self.now state _ c.args.bytes.now front after (rw parts at c.loop-rest.invariant) (rw c.encrypt_into-encrypted.ensures.bytes at c.in_ok-put.ensures.text)
    (rw (c.encrypt_into-encrypted.ensures.key, c.in_ok-put.ensures.state, c.encrypt_into-encrypted.ensures.bytes) refl)
