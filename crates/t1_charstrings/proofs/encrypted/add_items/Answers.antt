use Rattle.std.proofs.Common.{rules, ◌≡◌, [], ◌∙◌, ap, sym}
use Rattle.std.specs.Option.{option_map, option_or}
use Rattle.t1_run.specs.Run.{Subr, Glyph}
use Rattle.t1_run.specs.RunKeys.{body_at}
use Rattle.t1_font.specs.Bodies.{bodies, bodies_check, subr_among, glyph_among}
use Rattle.t1_font.proofs.Compiling.{or-none}
use Rattle.t1_font.proofs.Keys.{at-key}
use Rattle.t1_charstrings.specs.Entries.{encrypted, glyph_charstring, subr_charstring}
use Rattle.t1_charstrings.specs.Kept.{charstring_at}
use Rattle.t1_charstrings.proofs.AloneLaws.{bodies_alone, glyph_alone, subr_alone}
use Rattle.t1_charstrings.proofs.encrypted.add_items.Goals as goal

pub returns-in_err-add_item-clause-checked : goal.returns-in_err-add_item-clause-checked
returns-in_err-add_item-clause-checked c = rw (← bodies_alone c.args.items.now) (search rules)

pub returns-clause-checked : goal.returns-clause-checked
returns-clause-checked c =
    let none : c.loop-item.item-iterator ≡ [] = search rules in
    sym (bodies_alone c.args.items.now) ∙ sym c.loop-item.invariant.2 ∙ ap bodies_check none

pub returns-clause-kept : goal.returns-clause-kept
returns-clause-kept c =
    let items = c.args.items.now in
    let front = c.args.lead in
    let none : c.loop-item.item-iterator ≡ [] = search rules in
    let subrs = subr_charstring c.loop-item.charstrings.subrs.entries in
    let glyphs = glyph_charstring c.loop-item.charstrings.glyphs.entries in
    let were = c.args.charstrings.now in
    at-key (λ k. charstring_at c.loop-item.charstrings k ≡ option_or (charstring_at were k) (option_map (encrypted front k) (body_at (bodies items) k)))
    (λ n. or-none (subrs n) ∙ sym (ap (λ l. option_or (subrs n) (option_map (encrypted front (Subr n)) (subr_among l n))) none) ∙ c.loop-item.invariant.3 n
    ∙ ap (λ r. option_or (charstring_at were (Subr n)) (option_map (encrypted front (Subr n)) r)) (subr_alone n items))
    (λ g. or-none (glyphs g) ∙ sym (ap (λ l. option_or (glyphs g) (option_map (encrypted front (Glyph g)) (glyph_among l g))) none) ∙ c.loop-item.invariant.4 g
    ∙ ap (λ r. option_or (charstring_at were (Glyph g)) (option_map (encrypted front (Glyph g)) r)) (glyph_alone g items))
