use Rattle.std.proofs.Common.{◌≡◌, ◌∙◌, None, drop, option_map, ap, sym, refl, arith}
use Rattle.std.proofs.lemmas.List.{drop_all, get_or-replicate}
use Rattle.t1_code.specs.EncodingRows.{named_in}
use Rattle.t1_source.proofs.CodeLaws.{named_standard}
use Rattle.t1_source.proofs.codes.standard_names.Goals as goal

pub loop-rest-init : goal.loop-rest-init
loop-rest-init c =
    let table = c.standard_table-table.result.now in (
      omega arith,
      refl,
      λ code small. ap (option_map (λ n. n.now)) (get_or-replicate 256 code None None small) ∙ sym (ap (λ rows. named_in rows code) (drop_all _ table (omega arith))),
    )

pub returns : goal.returns
returns c = λ code small.
    let table = c.standard_table-table.result.now in
    let none : c.loop-rest.rest ≡ 0 = omega (arith, c.loop-rest-test.false) in
    c.loop-rest.invariant.2 code small ∙ ap (λ rest. named_in (drop rest table) code) none ∙ named_standard table code c.standard_table-table.ensures
