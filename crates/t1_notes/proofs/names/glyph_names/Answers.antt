use Rattle.std.proofs.Common.{◌∙◌, ◌+◌, ◌||◌, suc, ap, sym, ◌∷◌, drop, drop-cons, add-one, drop_of_length-le}
use Rattle.t1_text.specs.Tokens.{is_token}
use Rattle.t1_notes.specs.GlyphNames.{opened_name}
use Rattle.t1_notes.specs.Tables.{is_among_names}
use Rattle.t1_notes.proofs.Naming.{names_kept, names_whole}
use Rattle.t1_notes.proofs.names.glyph_names.Goals as goal

pub loop-line-preserved : goal.loop-line-preserved
loop-line-preserved c =
    let heads = c.args.heads.now in
    let at = c.loop-line.line-index in
    let item = c.line-item.result in
    let left = drop-cons heads at item c.loop-line-test.true
    ∙ ap (λ l. l ∷ drop (suc at) heads) (sym c.line-item.is) ∙ ap (λ n. item ∷ drop n heads) (sym (add-one at)) in
    names_kept c.loop-line.names.keys c.put_opened.new.names.keys item (drop at heads) (drop (at + 1) heads) heads left
    (λ g. c.in_ok-put_opened.ensures g ∙ ap (λ text. is_among_names c.loop-line.names.keys g || is_token g (opened_name text)) c.bytes.ensures)
    c.loop-line.invariant

pub returns : goal.returns
returns c =
    names_whole c.loop-line.names.keys _ c.args.heads.now
    (drop_of_length-le c.args.heads.now {i = c.loop-line.line-index} c.loop-line-test.false) c.loop-line.invariant
