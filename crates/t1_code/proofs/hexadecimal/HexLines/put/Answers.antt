use Rattle.std.proofs.Common.{◌+◌, [], ◌∷◌, get_or, drop, ap, arith}
use Rattle.std.proofs.lemmas.List.{drop_all, drop_more}
use Rattle.std.proofs.lemmas.Result.{err_from_is_err_and}
use Rattle.t1_code.specs.Hexadecimal.{in_lines, room_after}
use Rattle.t1_code.proofs.Carrying.{Carried-none, Carried-step, Carried-fails, Carried-all, Carried-end}
use Rattle.t1_code.proofs.Digits.{lining}
use Rattle.t1_code.proofs.hexadecimal.HexLines.put.Goals as goal

pub returns-in_err-put_byte-clause-text : goal.returns-in_err-put_byte-clause-text
returns-in_err-put_byte-clause-text g c =
    let bytes = c.args.bytes.now in
    let i = c.loop-byte.byte-index in
    let p = err_from_is_err_and c.from_residual.result c.from_residual.ensures.1 in
    rw p.1 (Carried-fails g.W.Write.contents lining c.args.outlet.now c.loop-byte.outlet c.put_byte.new.outlet
    c.args.self.now.room c.loop-byte.self.room bytes (get_or bytes i 0 ∷ []) (drop (i + 1) bytes) (rw (drop_more bytes i 0 (omega arith)) at c.loop-byte.invariant) c.in_err-put_byte.ensures.text)

pub loop-byte-preserved : goal.loop-byte-preserved
loop-byte-preserved g c =
    let bytes = c.args.bytes.now in
    let i = c.loop-byte.byte-index in
    Carried-step g.W.Write.contents lining c.args.outlet.now c.loop-byte.outlet c.put_byte.new.outlet
    c.args.self.now.room c.loop-byte.self.room c.put_byte.new.self.room bytes (get_or bytes i 0 ∷ []) (drop (i + 1) bytes) (rw (drop_more bytes i 0 (omega arith)) at c.loop-byte.invariant)
    c.in_ok-put_byte.ensures.text c.in_ok-put_byte.ensures.state

pub loop-byte-init : goal.loop-byte-init
loop-byte-init g c = Carried-none g.W.Write.contents lining c.args.outlet.now c.args.self.now.room c.args.bytes.now

pub returns-clause-text : goal.returns-clause-text
returns-clause-text g c =
    let bytes = c.args.bytes.now in
    let i = c.loop-byte.byte-index in
    Carried-all g.W.Write.contents lining c.args.outlet.now c.loop-byte.outlet c.args.self.now.room c.loop-byte.self.room bytes (drop i bytes)
    c.loop-byte.invariant (ap (in_lines c.loop-byte.self.room) (drop_all i bytes (omega arith)))

pub returns-clause-state : goal.returns-clause-state
returns-clause-state g c =
    let bytes = c.args.bytes.now in
    let i = c.loop-byte.byte-index in
    Carried-end g.W.Write.contents lining c.args.outlet.now c.loop-byte.outlet c.args.self.now.room c.loop-byte.self.room bytes (drop i bytes)
    c.loop-byte.invariant (ap (room_after c.loop-byte.self.room) (drop_all i bytes (omega arith)))
