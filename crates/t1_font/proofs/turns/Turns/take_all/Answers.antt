use Rattle.std.proofs.Common.{◌≡◌, ◌∙◌, ◌∷◌, ◌++◌, [], ℕ, ap, sym, subst, filter}
use Rattle.std.specs.Prelude.{All}
use Rattle.std.proofs.lemmas.List.{append_assoc}
use Rattle.std.proofs.lemmas.List.Elements.{All-filter, All-head, All-tail}
use Rattle.std.specs.Option.{option_or}
use Rattle.std.proofs.lemmas.Result.{err_from_is_err_and}
use Rattle.t1_frac.specs.Outcome.{◌>>=◌, Refuses}
use Rattle.t1_parts.specs.Stretches.{stands_alone}
use Rattle.t1_run.specs.Run.{own}
use Rattle.t1_font.specs.Bodies.{bodies_check, body_check, subr_in, subr_among}
use Rattle.t1_font.specs.Glyphs.{glyph_names, name_in}
use Rattle.t1_font.specs.InTurn.{AreRows, IsFirstOfName, SubrsStandFirst}
use Rattle.t1_font.specs.Runs.{drawing_in}
use Rattle.t1_font.specs.ToRun.{font_to_run}
use Rattle.t1_font.specs.StoredSubrs.{subr_stored}
use Rattle.t1_font.proofs.AloneLaws.{checks_alone, first_alone, names_alone, subrs_alone}
use Rattle.t1_font.proofs.Compiling.{or-assoc}
use Rattle.t1_font.proofs.InTurnLaws.{names-known, refused-first, runs-as}
use Rattle.t1_font.proofs.SubrsFirst.{later}
use Rattle.t1_font.proofs.turns.Turns.take_all.Goals as goal

pub loop-item-init : goal.loop-item-init
loop-item-init g c =
    let items = c.args.items.now in
    let left = c.into_iter-item-iterator.result in
    let start : left ≡ filter stands_alone items = c.into_iter-item-iterator.ensures.into_iter_gives ∙ c.alone-item-items.ensures ∙ ap (filter stands_alone) c.iter.ensures.items in (
      tt,
      tt,
      record {
        firsts = subst (All (IsFirstOfName items)) (sym start) (All-filter stands_alone (IsFirstOfName items) items c.requires.firsts);
        order = subst SubrsStandFirst (sym start) (first_alone items c.requires.order);
        checked = ap bodies_check start ∙ checks_alone items;
        subrs = λ n. ap (λ r. option_or r (subr_among left n)) (c.requires.subrs n) ∙ ap (λ l. subr_among l n) start ∙ subrs_alone n items;
        done = [];
        names = ap glyph_names start ∙ names_alone items;
        rows = subst (AreRows (own (font_to_run items)) []) (sym c.requires.rows) tt;
        runs = λ g. ap (λ runs. drawing_in runs g) c.requires.runs;
      },
    )

pub take-requires-clause-known : goal.take-requires-clause-known
take-requires-clause-known g c = λ g. c.requires.names g ∙ names-known c.args.items.now g

pub take-requires-clause-first : goal.take-requires-clause-first
take-requires-clause-first g c =
    let items = c.args.items.now in
    All-head (IsFirstOfName items) c.in-Some.item.now c.next.new.self (subst (All (IsFirstOfName items)) c.in-Some.ensures.steps c.loop-item.invariant.2.firsts)

pub loop-item-preserved : goal.loop-item-preserved
loop-item-preserved g c =
    let items = c.args.items.now in
    let item = c.in-Some.item.now in
    let rest = c.next.new.self in
    let steps = c.in-Some.ensures.steps in
    let before = c.loop-item.invariant.2 in
    let subrs = subr_stored c.loop-item.self.subrs in
    let run = own (font_to_run items) in
    let left : (n : ℕ) → option_or (subrs n) (subr_among (item ∷ rest) n) ≡ subr_among items n = λ n. sym (ap (λ l. option_or (subrs n) (subr_among l n)) steps) ∙ before.subrs n in
    let order = subst SubrsStandFirst steps before.order in
    let as_font = runs-as items item rest subrs order left in
    let firsts = subst (All (IsFirstOfName items)) steps before.firsts in (
      tt,
      tt,
      record {
        firsts = All-tail (IsFirstOfName items) item rest firsts;
        order = later item rest order;
        checked = sym (ap (λ r. r >>= (λ _. bodies_check rest)) c.in_ok-take.ensures.checked) ∙ sym (ap bodies_check steps) ∙ before.checked;
        subrs = λ n.
            ap (λ r. option_or r (subr_among rest n)) (c.in_ok-take.ensures.subrs n) ∙ or-assoc (subrs n) (subr_in item n) (subr_among rest n) ∙ left n;
        done = before.done ++ name_in item;
        names = append_assoc before.done (name_in item) (glyph_names rest) ∙ sym (ap (λ l. before.done ++ glyph_names l) steps) ∙ before.names;
        rows = c.in_ok-take.ensures.rows run before.done as_font before.rows;
        runs = c.in_ok-take.ensures.runs run before.done as_font before.runs;
      },
    )

pub returns-in_err-take-clause-checked : goal.returns-in_err-take-clause-checked
returns-in_err-take-clause-checked g c =
    let item = c.in-Some.item.now in
    let rest = c.next.new.self in
    let whole = sym (ap bodies_check c.in-Some.ensures.steps) ∙ c.loop-item.invariant.2.checked in
    let refused = c.in_err-take.field-0.0 in
    let p = err_from_is_err_and c.from_residual.result c.from_residual.ensures.1 in
    rw (p.1, p.2) (subst (Refuses refused) whole (refused-first refused (body_check item) (bodies_check rest) c.in_err-take.ensures.checked))
