use Rattle.std.proofs.Common.{◌≡◌, ℕ, List, [], ◌∷◌, ◌++◌, take, Ok, Err, refl, ap, ◌∙◌, subst, rules}
use Rattle.std.specs.Result.{MatchResult}
use Rattle.std.proofs.lemmas.List.{nil_from_length}
use Rattle.std.proofs.lemmas.Result.{err_from_is_err_and}
use Rattle.t1_code.specs.Writing.{Passes, Stops}
use Rattle.t1_code.proofs.Writing.{passing, Written, Written-none, Written-last}
use Rattle.t1_disassemble.specs.SoundWords.{code_lines, sound_words}
use Rattle.t1_disassemble.specs.Waiting.{left_of}
use Rattle.t1_disassemble.specs.Words.{printed_words}
use Rattle.t1_disassemble.specs.WordsOnto.{put_first}
use Rattle.t1_disassemble.proofs.PuttingLaws.{due_fails, word_put, word_not_put}
use Rattle.t1_disassemble.proofs.SoundWordLaws.{sound_none}
use Rattle.t1_disassemble.proofs.charstring.put_words.Goals as goal

pub loop-first-init : goal.loop-first-init
loop-first-init g c = (Written-none (passing g.W.Write.contents) c.args.outlet.now (code_lines c.args.code.now), search rules, search rules)

pub returns-in_err-left : goal.returns-in_err-left
returns-in_err-left g c =
    let l = c.loop-first in
    rw (err_from_is_err_and c.from_residual.result c.from_residual.ensures.1).1
    (due_fails g.W.Write.contents c.args.outlet.now l.outlet c.put_full.new.outlet (code_lines c.args.code.now) l.bytes l.len l.is_open
    (printed_words l.is_open (sound_words l.rest.now)) l.invariant.0 c.in_err-left.ensures.text)

pub returns-in_default-put : goal.returns-in_default-put
returns-in_default-put g c =
    let l = c.loop-first in
    let start = c.args.outlet.now in
    let mid = c.put_full.new.outlet in
    let new = c.put_last.new.outlet in
    let first : l.rest.now ≡ c.in-Some.first.now ∷ c.in-Some.after.now = search rules in
    let put : put_first (take (left_of l.len) l.bytes) l.is_open c.in-Some.first.now c.in-Some.after.now ≡ Err c.in_default-put.field-0 =
    subst (λ (n : ℕ). put_first (take n l.bytes) l.is_open c.in-Some.first.now c.in-Some.after.now ≡ Err c.in_default-put.field-0) c.in_ok-left.ensures.left c.in_default-put.ensures.value in
    let same : take c.in_ok-left.left c.put_word-put.new.bytes ++ printed_words l.is_open [] ≡ take (left_of l.len) l.bytes ++ printed_words l.is_open [] =
    rw (c.in_ok-left.ensures.left, c.in_default-put.ensures.kept) refl in
    Written-last (passing g.W.Write.contents) c.put_last.result start mid new (code_lines c.args.code.now) (take (left_of l.len) l.bytes ++ printed_words l.is_open [])
    (word_not_put g.W.Write.contents start l.outlet mid (code_lines c.args.code.now) l.bytes l.len l.is_open l.rest.now c.in-Some.after.now c.in-Some.first.now c.in_default-put.field-0 first l.invariant.0 c.in_ok-left.ensures.text put)
    (subst (λ (last : List ℕ). MatchResult c.put_last.result (λ done. Passes g.W.Write.contents mid new last) (λ error. Stops g.W.Write.contents mid new last)) same c.put_last.ensures)

pub loop-first-preserved : goal.loop-first-preserved
loop-first-preserved g c =
    let l = c.loop-first in
    let first : l.rest.now ≡ c.in-Some.first.now ∷ c.in-Some.after.now = search rules in
    let put : put_first (take (left_of l.len) l.bytes) l.is_open c.in-Some.first.now c.in-Some.after.now ≡ Ok (take c.in-Ok.end c.put_word-put.new.bytes, c.in-Ok.opened, c.in-Ok.others.now) =
    subst (λ (n : ℕ). put_first (take n l.bytes) l.is_open c.in-Some.first.now c.in-Some.after.now ≡ Ok (take c.in-Ok.end c.put_word-put.new.bytes, c.in-Ok.opened, c.in-Ok.others.now)) c.in_ok-left.ensures.left c.in-Ok.ensures.value in (
      word_put g.W.Write.contents c.args.outlet.now l.outlet c.put_full.new.outlet (code_lines c.args.code.now) l.bytes l.len l.is_open
          l.rest.now c.in-Some.after.now c.in-Some.first.now _ first l.invariant.0 c.in_ok-left.ensures.text put,
      c.in-Ok.ensures.within,
      c.put_word-put.ensures.size,
    )

pub returns : goal.returns
returns g c =
    let l = c.loop-first in
    let nothing : l.rest.now ≡ [] = nil_from_length _ (search rules) in
    Written-last (passing g.W.Write.contents) c.put_last-2.result c.args.outlet.now l.outlet c.put_last-2.new.outlet (code_lines c.args.code.now) _
    (subst (λ (ws : List (List ℕ)). Written (passing g.W.Write.contents) c.args.outlet.now l.outlet (code_lines c.args.code.now) (take l.len l.bytes ++ printed_words l.is_open ws)) (ap sound_words nothing ∙ sound_none) l.invariant.0)
    c.put_last-2.ensures
