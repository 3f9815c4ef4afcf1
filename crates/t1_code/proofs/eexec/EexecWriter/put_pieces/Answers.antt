use Rattle.std.proofs.Common.{◌≡◌, ◌<◌, ◌++◌, length, drop, refl, arith, [], ap, ◌∙◌, append-nil}
use Rattle.std.specs.List.{flat_map}
use Rattle.std.proofs.lemmas.List.{drop_all}
use Rattle.std.proofs.lemmas.Result.{err_from_is_err_and}
use Rattle.t1_code.specs.Parts.{slices_bytes, piece_text}
use Rattle.t1_code.specs.declared.parts.Piece.TheVariants.{Plain}
use Rattle.t1_code.proofs.Carrying.{Carried-step, Carried-fails, Carried-turn, Carried-turn-fails}
use Rattle.t1_code.proofs.Encrypting.{flat_map-drop}
use Rattle.t1_code.proofs.Enciphering.{enciphering}
use Rattle.t1_code.proofs.Writing.{passing, Written-last}
use Rattle.t1_code.proofs.eexec.EexecWriter.put_pieces.Goals as goal
use Rattle.t1_code.proofs.eexec.EexecWriter.put_pieces.Goals.{then-not-keep_all+in_ok-put_each, else-not-keep_all}

pub returns-in_err-pass : goal.returns-in_err-pass
returns-in_err-pass g c =
    let left = c.keep_all.ensures.left c.if-keep_all.false in
    let p = err_from_is_err_and c.from_residual.result c.from_residual.ensures.1 in
    rw p.1 (record {
      text = Carried-fails g.W.Write.contents enciphering c.args.outlet.now c.loop-piece.outlet c.pass.new.outlet
          c.args.self.now c.loop-piece.self (flat_map piece_text c.args.pieces.now) c.loop-piece.waiting (flat_map piece_text (drop c.loop-piece.piece-index c.args.pieces.now))
          c.loop-piece.invariant (rw left at c.in_err-pass.ensures.text);
    })

pub returns-in_err-put_each : goal.returns-in_err-put_each
returns-in_err-put_each g c =
    let inside : c.loop-piece.piece-index < length c.args.pieces.now = omega arith in
    let left = c.keep_all.ensures.left c.if-keep_all.false in
    let p = err_from_is_err_and c.from_residual-in_err-put_each.result c.from_residual-in_err-put_each.ensures.1 in
    let passed =
    Carried-step g.W.Write.contents enciphering c.args.outlet.now c.loop-piece.outlet c.pass.new.outlet
    c.args.self.now c.loop-piece.self c.pass.new.self (flat_map piece_text c.args.pieces.now) c.loop-piece.waiting (flat_map piece_text (drop c.loop-piece.piece-index c.args.pieces.now))
    c.loop-piece.invariant (rw left at c.in_ok-pass.ensures.text) (rw left at c.in_ok-pass.ensures.state) in
    rw p.1 (record {
      text = Carried-turn-fails g.W.Write.contents enciphering piece_text c.args.pieces.now c.loop-piece.piece-index _ (Plain (record { ref_ptr = (0, 0); now = [] })) inside refl
          c.args.outlet.now c.pass.new.outlet c.put_each.new.outlet c.args.self.now c.pass.new.self
          (flat_map piece_text c.args.pieces.now) passed (rw c.slices-slices.ensures at c.in_err-put_each.ensures.text);
    })

pub loop-piece-preserved : goal.loop-piece-preserved
loop-piece-preserved g c =
    let inside : c.loop-piece.piece-index < length c.args.pieces.now = omega arith in
    let left = c.keep_all.ensures.left c.if-keep_all.false in
    let passed =
    Carried-step g.W.Write.contents enciphering c.args.outlet.now c.loop-piece.outlet c.pass.new.outlet
    c.args.self.now c.loop-piece.self c.pass.new.self (flat_map piece_text c.args.pieces.now) c.loop-piece.waiting (flat_map piece_text (drop c.loop-piece.piece-index c.args.pieces.now))
    c.loop-piece.invariant (rw left at c.in_ok-pass.ensures.text) (rw left at c.in_ok-pass.ensures.state) in
    elim c.if-not-keep_all.branch [
      | then-not-keep_all+in_ok-put_each w ↦
          let none : c.keep_all-in-loop-piece.new.self ≡ [] = c.keep_all-in-loop-piece.ensures.left w.if-not-keep_all.true ∙ c.in_ok-pass.ensures.empty in
          let put =
          Carried-turn g.W.Write.contents enciphering piece_text c.args.pieces.now c.loop-piece.piece-index _ (Plain (record { ref_ptr = (0, 0); now = [] })) inside refl
          c.args.outlet.now c.pass.new.outlet w.put_each.new.outlet c.args.self.now c.pass.new.self w.put_each.new.self
          (flat_map piece_text c.args.pieces.now) passed (rw c.slices-slices.ensures at w.in_ok-put_each.ensures.text) (rw c.slices-slices.ensures at w.in_ok-put_each.ensures.state) in
          rw (w.self-is, w.outlet-is, none) put
      | else-not-keep_all w ↦
          let kept =
          c.keep_all-in-loop-piece.ensures.kept w.if-not-keep_all.false ∙ ap (λ l. l ++ slices_bytes c.slices-slices.result) c.in_ok-pass.ensures.empty ∙ c.slices-slices.ensures in
          let left_then = flat_map-drop piece_text c.args.pieces.now c.loop-piece.piece-index _ (Plain (record { ref_ptr = (0, 0); now = [] })) inside refl in
          rw (w.self-is, w.outlet-is, kept) (rw left_then at passed)
    ]

pub returns : goal.returns
returns g c =
    let ended : drop c.loop-piece.piece-index c.args.pieces.now ≡ [] = drop_all c.loop-piece.piece-index c.args.pieces.now (omega arith) in
    let last : c.loop-piece.waiting ++ flat_map piece_text (drop c.loop-piece.piece-index c.args.pieces.now) ≡ c.loop-piece.waiting =
    ap (λ l. c.loop-piece.waiting ++ flat_map piece_text l) ended ∙ append-nil c.loop-piece.waiting in
    record {
      text = Written-last (passing g.W.Write.contents) c.pass-2.result c.args.outlet.now c.loop-piece.outlet c.pass-2.new.outlet
          _ _ (rw last at c.loop-piece.invariant.written) c.pass-2.ensures.text;
    }
