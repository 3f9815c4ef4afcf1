use Rattle.std.proofs.Common.{◌≡◌, ◌++◌, [], refl, sym}
use Rattle.std.proofs.lemmas.List.{take-append-drop}
use Rattle.std.proofs.lemmas.Result.{err_from_is_err_and}
use Rattle.t1_code.proofs.Writing.{passing, Written-fails, Written-kept}
use Rattle.t1_code.proofs.outlet.Outlet.put_in_turns.Goals as goal

pub loop-rest-preserved : goal.loop-rest-preserved
loop-rest-preserved g c =
    let front = c.split_at.result.0.now in
    let after = c.split_at.result.1.now in
    let parts : c.loop-rest.rest.now ≡ front ++ after = rw (c.split_at.ensures.front, c.split_at.ensures.back) (sym (take-append-drop c.min.result c.loop-rest.rest.now)) in
    Written-kept g.W.Write.contents c.args.self.now c.loop-rest.self c.make_room.new.self (record { out = c.make_room.new.self.out; chunk = c.keep.new.self })
    c.args.bytes.now c.loop-rest.rest.now front after c.loop-rest.invariant parts c.in_ok-make_room.ensures.text refl c.keep.ensures

pub returns-in_err-make_room : goal.returns-in_err-make_room
returns-in_err-make_room g c =
    rw (err_from_is_err_and c.from_residual.result c.from_residual.ensures.1).1 (Written-fails (passing g.W.Write.contents) c.args.self.now c.loop-rest.self c.make_room.new.self
    c.args.bytes.now [] c.loop-rest.rest.now c.loop-rest.invariant c.in_err-make_room.ensures.text)
