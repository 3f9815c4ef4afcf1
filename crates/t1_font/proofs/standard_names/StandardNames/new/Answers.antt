use Rattle.std.proofs.Common.{◌∙◌, ◌||◌, ◌+◌, ap, arith, drop, sym}
use Rattle.std.proofs.Math.Bool.{or-false}
use Rattle.std.proofs.lemmas.List.{drop_all}
use Rattle.std.specs.Str.{bytes_eq}
use Rattle.t1_font.specs.Names.{is_name_kept}
use Rattle.t1_font.proofs.StandardTable.{in_table, row-taken, table-standard}
use Rattle.t1_font.proofs.standard_names.StandardNames.new.Goals as goal

pub loop-name-preserved : goal.loop-name-preserved
loop-name-preserved c = λ g.
    let table = c.standard_table-table.result.now in
    let i = c.loop-name.name-index in
    let before = is_name_kept c.loop-name.names.keys g in
    ap (λ b. b || in_table (drop (i + 1) table) g) (c.in_ok-add_name.ensures g ∙ ap (λ name. before || bytes_eq g name) c.as_bytes.ensures.value)
    ∙ row-taken table i _ before g (omega arith) ∙ c.loop-name.invariant g

pub invariant_of-result : goal.invariant_of-result
invariant_of-result c =
    let table = c.standard_table-table.result.now in
    let names = c.loop-name.names.keys in
    record {
      all = λ g.
          sym (or-false (is_name_kept names g)) ∙ ap (λ rows. is_name_kept names g || in_table rows g) (sym (drop_all c.loop-name.name-index table (omega arith)))
          ∙ c.loop-name.invariant g ∙ table-standard table g c.standard_table-table.ensures;
    }
