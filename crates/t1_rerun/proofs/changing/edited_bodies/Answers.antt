use Rattle.std.proofs.Common.{◌≡◌, ◌∙◌, ◌+◌, [], ◌∷◌, ap, arith, drop, sym}
use Rattle.std.proofs.lemmas.List.{drop_all}
use Rattle.std.specs.Option.{option_or}
use Rattle.t1_run.specs.Overlay.{after_change}
use Rattle.t1_run.specs.Run.{Subr, Glyph}
use Rattle.t1_run.specs.RunKeys.{body_at}
use Rattle.t1_font.proofs.Compiling.{or-assoc, or-none}
use Rattle.t1_cache.specs.Bodies.{glyph_body, record_bodies, subr_body}
use Rattle.t1_font.proofs.Keys.{at-key}
use Rattle.t1_rerun.specs.declared.changing.EditedBodies.{EditedBodies}
use Rattle.t1_rerun.specs.Changing.{body_changed, edited_font, glyph_set, subr_set}
use Rattle.t1_rerun.proofs.ChangedBodies.{change-first, changed-first}
use Rattle.t1_rerun.proofs.changing.edited_bodies.Goals as goal

pub loop-change-preserved : goal.loop-change-preserved
loop-change-preserved c =
    let changes = c.args.changes.now in
    let i = c.loop-change.change-index in
    let change = c.change-item.result in
    let rest = drop (i + 1) changes in
    let split = change-first changes i change (omega arith) c.change-item.is in
    let subrs = subr_set c.loop-change.subrs.entries in
    let glyphs = glyph_set c.loop-change.glyphs.entries in
    record {
      subrs = λ n.
          ap (λ r. option_or r (body_changed rest (Subr n))) (c.in_ok-set_body.ensures.subrs n)
          ∙ or-assoc (subrs n) (body_changed (change ∷ []) (Subr n)) (body_changed rest (Subr n))
          ∙ ap (option_or (subrs n)) (sym (changed-first change rest (Subr n)))
          ∙ sym (ap (λ l. option_or (subrs n) (body_changed l (Subr n))) split) ∙ c.loop-change.invariant.subrs n;
      glyphs = λ g.
          ap (λ r. option_or r (body_changed rest (Glyph g))) (c.in_ok-set_body.ensures.glyphs g)
          ∙ or-assoc (glyphs g) (body_changed (change ∷ []) (Glyph g)) (body_changed rest (Glyph g))
          ∙ ap (option_or (glyphs g)) (sym (changed-first change rest (Glyph g)))
          ∙ sym (ap (λ l. option_or (glyphs g) (body_changed l (Glyph g))) split) ∙ c.loop-change.invariant.glyphs g;
    }

pub returns : goal.returns
returns c =
    let changes = c.args.changes.now in
    let records = c.args.records.now in
    let none = drop_all c.loop-change.change-index changes (omega arith) in
    let subrs = subr_set c.loop-change.subrs.entries in
    let glyphs = glyph_set c.loop-change.glyphs.entries in
    let made : EditedBodies = record { records = c.args.records; subrs = c.loop-change.subrs; glyphs = c.loop-change.glyphs } in
    at-key (λ k. body_at (edited_font made) k ≡ after_change (body_changed changes k) (body_at (record_bodies records) k))
    (λ n.
    ap (λ r. after_change r (subr_body records.subrs.entries n))
    (or-none (subrs n) ∙ sym (ap (λ l. option_or (subrs n) (body_changed l (Subr n))) none) ∙ c.loop-change.invariant.subrs n))
    (λ g.
    ap (λ r. after_change r (glyph_body records.glyphs.entries g))
    (or-none (glyphs g) ∙ sym (ap (λ l. option_or (glyphs g) (body_changed l (Glyph g))) none) ∙ c.loop-change.invariant.glyphs g))
