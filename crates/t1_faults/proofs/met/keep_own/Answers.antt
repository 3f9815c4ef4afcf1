use Rattle.std.proofs.Common.{◌∙◌, ap, sym, cond, None, Some}
use Rattle.std.specs.Option.{option_or}
use Rattle.std.specs.Str.{bytes_eq}
use Rattle.indexmap.proofs.CallerLemmas.{insert_entry-new}
use Rattle.t1_font.proofs.Compiling.{lookup-last, none-there}
use Rattle.t1_chain.specs.Machine.{failure_seen}
use Rattle.t1_faults.specs.GlyphRuns.{own_kept}
use Rattle.t1_faults.specs.Met.{run_fault}
use Rattle.t1_faults.proofs.met.keep_own.Goals as goal

pub returns : goal.returns
returns c = λ g.
    let old = c.args.faults.now in
    let name = c.args.name.now in
    let key = c.in_ok-from_slice.field-0 in
    let fault = c.in_ok-fault.fault in
    let absent = none-there (own_kept old.entries name) (sym c.contains_key.ensures ∙ c.if-contains_key.false) in
    ap (λ es. own_kept es g) (c.in_ok-insert.ensures.entries ∙ insert_entry-new (λ x y. bytes_eq x.items y.items) old key fault (rw c.in_ok-from_slice.ensures.items absent))
    ∙ lookup-last (λ k. bytes_eq g k.items) old.entries key fault
    ∙ ap (λ bytes. option_or (own_kept old.entries g) (cond (bytes_eq g bytes) (Some fault) None)) c.in_ok-from_slice.ensures.items
    ∙ ap (λ f. option_or (own_kept old.entries g) (cond (bytes_eq g name) (Some f) None))
    (c.in_ok-fault.ensures ∙ ap (λ chains. run_fault chains (failure_seen c.args.failure.now)) c.new.ensures)
