use Rattle.std.proofs.Common.{◌<◌, ◌∷◌, [], get_or, length, arith}
use Rattle.std.proofs.lemmas.List.{drop_all}
use Rattle.std.proofs.lemmas.Result.{err_from_is_err_and}
use Rattle.t1_code.proofs.Writing.{passing, Written-step, Written-fails, Written-last}
use Rattle.t1_afm.specs.Lines.{word_text}
use Rattle.t1_afm.proofs.WrittenLines.{rest_is, no_word}
use Rattle.t1_afm.proofs.line.put_rest.Goals as goal

pub returns-in_err-put : goal.returns-in_err-put
returns-in_err-put g c =
    let ws = c.args.words.now in
    let i = c.loop-word.word-index in
    let inside : i < length ws = omega arith in
    rw (err_from_is_err_and c.from_residual.result c.from_residual.ensures.1).1
    (Written-fails (passing g.W.Write.contents) _ _ c.put.new.self _ (32 ∷ []) _ (rw (rest_is ws i inside) at c.loop-word.invariant) c.in_err-put.ensures)

pub returns-in_err-put_word : goal.returns-in_err-put_word
returns-in_err-put_word g c =
    let ws = c.args.words.now in
    let i = c.loop-word.word-index in
    let inside : i < length ws = omega arith in
    let b = c.put.new.self in
    let spaced = Written-step (passing g.W.Write.contents) _ _ b _ (32 ∷ []) _ (rw (rest_is ws i inside) at c.loop-word.invariant) c.in_ok-put.ensures in
    rw (err_from_is_err_and c.from_residual-in_err-put_word.result c.from_residual-in_err-put_word.ensures.1).1
    (Written-fails (passing g.W.Write.contents) _ b c.put_word.new.outlet _ (word_text (get_or ws i no_word)) _ spaced c.in_err-put_word.ensures)

pub loop-word-preserved : goal.loop-word-preserved
loop-word-preserved g c =
    let ws = c.args.words.now in
    let i = c.loop-word.word-index in
    let inside : i < length ws = omega arith in
    let b = c.put.new.self in
    let spaced = Written-step (passing g.W.Write.contents) _ _ b _ (32 ∷ []) _ (rw (rest_is ws i inside) at c.loop-word.invariant) c.in_ok-put.ensures in
    Written-step (passing g.W.Write.contents) _ b c.put_word.new.outlet _ (word_text (get_or ws i no_word)) _ spaced c.in_ok-put_word.ensures

pub returns : goal.returns
returns g c =
    let rest = rw (drop_all c.loop-word.word-index c.args.words.now (omega arith)) at c.loop-word.invariant in
    Written-last (passing g.W.Write.contents) c.put-2.result _ _ c.put-2.new.self _ (10 ∷ []) rest c.put-2.ensures
