use Rattle.std.proofs.Common.{ap, Ok, ◌∙◌, arith}
use Rattle.std.proofs.lemmas.Result.{err_from_is_err_and}
use Rattle.t1_frac.specs.declared.fault.Place.TheVariants as places
use Rattle.t1_code.specs.Charstring.{charstring_of_words}
use Rattle.t1_code.proofs.Adding.{onto_nothing}
use Rattle.t1_font.proofs.PrivateLaws.{charstring_len, charstring_refused}
use Rattle.t1_font.proofs.line_lengths.charstring_len.Goals as goal

pub returns-in_err-assemble_onto : goal.returns-in_err-assemble_onto
returns-in_err-assemble_onto c =
    let p = err_from_is_err_and c.from_residual.result c.from_residual.ensures.1 in
    rw (p.1, p.2) (charstring_refused c.args.lead places.Nowhere c.args.words.now c.in_err-assemble_onto.field-0.0
    (rw (c.clear.ensures.items, onto_nothing (charstring_of_words c.args.words.now)) at c.in_err-assemble_onto.ensures.value))

pub returns : goal.returns
returns c =
    let known = charstring_len c.args.lead places.Nowhere c.args.words.now c.assemble_onto.new.code.items
    (rw (c.clear.ensures.items, onto_nothing (charstring_of_words c.args.words.now)) at c.in_ok-assemble_onto.ensures.value) in
    known.0 ∙ ap (λ n. Ok n) (omega (arith, known.1, c.from.ensures, c.len.ensures, c.saturating_add.ensures))
