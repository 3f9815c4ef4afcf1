use Rattle.std.proofs.Common.{◌∙◌, ap, sym}
use Rattle.std.specs.Str.{bytes_eq}
use Rattle.indexmap.proofs.CallerLemmas.{insert_entry-new}
use Rattle.t1_font.specs.Names.{code_kept}
use Rattle.t1_font.proofs.Compiling.{lookup-last, none-there}
use Rattle.t1_font.proofs.codes.add_code.Goals as goal

pub returns : goal.returns
returns c = λ g.
    let old = c.args.codes.now in
    let absent = none-there (code_kept old.entries c.args.name.now) (sym c.contains_key.ensures ∙ c.if-contains_key.false) in
    ap (λ es. code_kept es g) (c.in_ok-insert.ensures.entries ∙ insert_entry-new (λ x y. bytes_eq x.now y.now) old c.args.name c.args.code absent)
    ∙ lookup-last (λ k. bytes_eq g k.now) old.entries c.args.name c.args.code
