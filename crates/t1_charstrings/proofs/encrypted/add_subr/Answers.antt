use Rattle.std.proofs.Common.{◌∙◌, ap, sym, cond, None, Some}
use Rattle.std.specs.Prelude.{◌==◌, nat_eq}
use Rattle.std.specs.Option.{option_map, option_or}
use Rattle.t1_frac.specs.declared.fault.Place.TheVariants as places
use Rattle.t1_code.specs.Words.{commands}
use Rattle.t1_run.specs.Run.{Subr}
use Rattle.indexmap.proofs.CallerLemmas.{insert_entry-new}
use Rattle.t1_font.proofs.Compiling.{lookup-last, none-there, reported-ok}
use Rattle.t1_charstrings.specs.Entries.{encrypted, subr_charstring}
use Rattle.t1_charstrings.proofs.Gathered.{subr-there}
use Rattle.t1_charstrings.proofs.encrypted.add_subr.Goals as goal

pub returns-clause-kept : goal.returns-clause-kept
returns-clause-kept c = λ n.
    let old = c.args.subrs.now in
    let number = c.args.number in
    let body = c.in_ok-body.body in
    let entry = c.in_ok-entry.entry in
    let absent = none-there (subr_charstring old.entries number) (sym c.contains_key.ensures ∙ c.if-contains_key.false) in
    ap (λ es. subr_charstring es n) (c.in_ok-insert.ensures.entries ∙ insert_entry-new nat_eq old number entry absent)
    ∙ lookup-last (nat_eq n) old.entries number entry
    ∙ ap (λ e. option_or (subr_charstring old.entries n) (cond (n == number) (Some e) None)) c.in_ok-entry.ensures
    ∙ ap (option_or (subr_charstring old.entries n)) (subr-there c.args.lead n number body)
    ∙ ap (λ r. option_or (subr_charstring old.entries n) (option_map (encrypted c.args.lead (Subr n)) (cond (n == number) r None)))
    (sym (reported-ok (places.Subr number) (commands c.args.words.now) body c.in_ok-body.ensures))
