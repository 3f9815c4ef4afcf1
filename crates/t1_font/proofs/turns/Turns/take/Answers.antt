use Rattle.std.proofs.Common.{◌≡◌, ◌∙◌, append-nil, ap, refl, sym, subst}
use Rattle.t1_font.specs.InTurn.{AreRows, RunsAs, staying}
use Rattle.t1_font.specs.Runs.{drawing_in}
use Rattle.t1_run.specs.Run.{font}
use Rattle.t1_font.specs.ToRun.{glyph_to_run}
use Rattle.t1_font.specs.StoredSubrs.{subr_stored}
use Rattle.t1_font.proofs.Compiling.{on_ok, or-none}
use Rattle.t1_font.proofs.InTurnLaws.{rows-more, runs-more}
use Rattle.t1_font.proofs.turns.Turns.take.Goals as goal

pub returns-in_ok-push-in-Glyph-clause-rows : goal.returns-in_ok-push-in-Glyph-clause-rows
returns-in_ok-push-in-Glyph-clause-rows g c = λ run. λ gs. λ runs. λ before.
    let is = c.in-Glyph.is in
    let m = font (subr_stored c.args.self.now.subrs) (glyph_to_run c.args.items.now) in
    let own = subst (λ item. RunsAs item run m) is runs in
    rw (is, c.in_ok-push-in-Glyph.ensures)
    (rows-more run gs c.in-Glyph.name c.args.reported.now.rows c.in_ok-row-in-Glyph.row before
    (subst (λ name. Rattle.t1_font.specs.InTurn.IsRow run name c.in_ok-row-in-Glyph.row) c.as_slice.ensures
    (c.in_ok-row-in-Glyph.ensures.row run (subst (λ name. run name ≡ Rattle.t1_run.specs.Run.own m name) (sym c.as_slice.ensures) own))))

pub returns-in_ok-push-in-Glyph-clause-runs : goal.returns-in_ok-push-in-Glyph-clause-runs
returns-in_ok-push-in-Glyph-clause-runs g c = λ run. λ gs. λ runs. λ before. λ g.
    let is = c.in-Glyph.is in
    let m = font (subr_stored c.args.self.now.subrs) (glyph_to_run c.args.items.now) in
    let own = subst (λ item. RunsAs item run m) is runs in
    rw is
    (runs-more run gs c.in-Glyph.name g (drawing_in c.args.reported.now.runs g) (drawing_in c.glyph_turn.new.runs g) (before g)
    (rw (← c.as_slice.ensures) (c.in_ok-row-in-Glyph.ensures.kept run (subst (λ name. run name ≡ Rattle.t1_run.specs.Run.own m name) (sym c.as_slice.ensures) own) g)))

pub returns-in-Subr-clause-checked : goal.returns-in-Subr-clause-checked
returns-in-Subr-clause-checked g c = rw c.in-Subr.is c.add.ensures.checked

pub returns-in-Subr-clause-subrs : goal.returns-in-Subr-clause-subrs
returns-in-Subr-clause-subrs g c = rw c.in-Subr.is c.add.ensures.added

pub returns-in-Subr-clause-rows : goal.returns-in-Subr-clause-rows
returns-in-Subr-clause-rows g c = λ run. λ gs. λ runs. λ before.
    rw c.in-Subr.is (on_ok c.add.result (subst (λ names. AreRows run names c.args.reported.now.rows) (sym (append-nil gs)) before))

pub returns-in-Subr-clause-runs : goal.returns-in-Subr-clause-runs
returns-in-Subr-clause-runs g c = λ run. λ gs. λ runs. λ before.
    rw c.in-Subr.is (on_ok c.add.result (λ g. before g ∙ ap (λ names. staying run names g) (sym (append-nil gs))))

pub returns-in-Plain-clause-checked : goal.returns-in-Plain-clause-checked
returns-in-Plain-clause-checked g c = rw c.in-Plain.is refl

pub returns-in-Plain-clause-subrs : goal.returns-in-Plain-clause-subrs
returns-in-Plain-clause-subrs g c = rw c.in-Plain.is (λ n. or-none (subr_stored c.args.self.now.subrs n))

pub returns-in-Plain-clause-rows : goal.returns-in-Plain-clause-rows
returns-in-Plain-clause-rows g c = λ run. λ gs. λ runs. λ before. rw c.in-Plain.is (subst (λ names. AreRows run names c.args.reported.now.rows) (sym (append-nil gs)) before)

pub returns-in-Plain-clause-runs : goal.returns-in-Plain-clause-runs
returns-in-Plain-clause-runs g c = λ run. λ gs. λ runs. λ before. rw c.in-Plain.is (λ g. before g ∙ ap (λ names. staying run names g) (sym (append-nil gs)))

pub returns-in-Section-clause-checked : goal.returns-in-Section-clause-checked
returns-in-Section-clause-checked g c = rw c.in-Section.is refl

pub returns-in-Section-clause-subrs : goal.returns-in-Section-clause-subrs
returns-in-Section-clause-subrs g c = rw c.in-Section.is (λ n. or-none (subr_stored c.args.self.now.subrs n))

pub returns-in-Section-clause-rows : goal.returns-in-Section-clause-rows
returns-in-Section-clause-rows g c = λ run. λ gs. λ runs. λ before. rw c.in-Section.is (subst (λ names. AreRows run names c.args.reported.now.rows) (sym (append-nil gs)) before)

pub returns-in-Section-clause-runs : goal.returns-in-Section-clause-runs
returns-in-Section-clause-runs g c = λ run. λ gs. λ runs. λ before. rw c.in-Section.is (λ g. before g ∙ ap (λ names. staying run names g) (sym (append-nil gs)))
