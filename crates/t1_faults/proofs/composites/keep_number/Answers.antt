use Rattle.std.proofs.Common.{◌∙◌, ap, sym, cond, None, Some}
use Rattle.std.specs.Option.{option_or}
use Rattle.std.specs.Str.{bytes_eq}
use Rattle.indexmap.proofs.CallerLemmas.{insert_entry-new}
use Rattle.t1_font.proofs.Compiling.{lookup-last, none-there}
use Rattle.t1_faults.specs.GlyphRuns.{number_kept}
use Rattle.t1_faults.proofs.composites.keep_number.Goals as goal

pub returns : goal.returns
returns c = λ g.
    let old = c.args.numbers.now in
    let name = c.args.name.now in
    let number = c.args.number in
    let key = c.in_ok-from_slice.field-0 in
    let absent = none-there (number_kept old.entries name) (sym c.contains_key.ensures ∙ c.if-contains_key.false) in
    ap (λ es. number_kept es g) (c.in_ok-insert.ensures.entries ∙ insert_entry-new (λ x y. bytes_eq x.items y.items) old key number (rw c.in_ok-from_slice.ensures.items absent))
    ∙ lookup-last (λ k. bytes_eq g k.items) old.entries key number
    ∙ ap (λ bytes. option_or (number_kept old.entries g) (cond (bytes_eq g bytes) (Some number) None)) c.in_ok-from_slice.ensures.items
