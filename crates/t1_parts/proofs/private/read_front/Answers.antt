use Rattle.std.proofs.Common.{◌≡◌, ◌<◌, ◌∷◌, ℕ, List, IfOk, IfErr, MatchOption, length, take, sym, subst, arith, rules}
use Rattle.t1_frac.specs.Outcome.{Refuses}
use Rattle.t1_text.specs.Lines.{lines}
use Rattle.t1_text.proofs.CutLaws.{lines_within}
use Rattle.t1_parts.specs.Entries.{has_numbered}
use Rattle.t1_parts.specs.LineKinds.{IsOfKind}
use Rattle.t1_parts.specs.PlainRuns.{read_from}
use Rattle.t1_parts.specs.Sections.{is_subrs_line, is_glyphs_line}
use Rattle.t1_parts.proofs.LineKindLaws.{still_of_kind}
use Rattle.t1_parts.proofs.PlainRunLaws.{plain_read}
use Rattle.t1_parts.proofs.RunCutLaws.{some_lines}
use Rattle.t1_parts.proofs.private.read_front.Goals as goal

pub returns-in_default-clause-read : goal.returns-in_default-clause-read
returns-in_default-clause-read c =
    plain_read c.args.earlier c.in_ok-items.items c.args.number c.past_plain-count.result.0 c.args.bytes.now c.past_plain-count.result.1.now c.past_plain-count.ensures.cut c.past_plain-count.ensures.among c.in_ok-items.ensures

pub returns-in_default-clause-shorter : goal.returns-in_default-clause-shorter
returns-in_default-clause-shorter c =
    let none : length c.past_plain-count.result.1.now ≡ 0 = search rules in
    omega (arith, none, lines_within c.past_plain-count.result.1.now, some_lines c.args.bytes.now c.requires.some)

pub read_item-requires-clause-kind : goal.read_item-requires-clause-kind
read_item-requires-clause-kind c l ls first =
    let rest = c.past_plain-count.result.1.now in
    let subrs = has_numbered is_subrs_line c.args.earlier in
    let glyphs = has_numbered is_glyphs_line c.args.earlier in
    let next =
    subst
    (λ next. MatchOption next (length rest ≡ 0) (λ kind. (0 < length rest) × ((l : List ℕ) (ls : List (List ℕ)) → lines rest ≡ l ∷ ls → IsOfKind subrs glyphs l kind)))
    c.in-Some.is c.past_plain-count.ensures.next in
    let kind = next.1 l ls first in
    subst (λ all. IsOfKind (has_numbered is_subrs_line all) (has_numbered is_glyphs_line all) l c.in-Some.kind) (sym c.in_ok-items.ensures)
    (still_of_kind c.args.earlier c.args.number (take c.past_plain-count.result.0 (lines c.args.bytes.now)) l c.in-Some.kind kind)

pub returns-clause-read : goal.returns-clause-read
returns-clause-read c =
    let whole = plain_read c.args.earlier c.in_ok-items.items c.args.number c.past_plain-count.result.0 c.args.bytes.now c.past_plain-count.result.1.now c.past_plain-count.ensures.cut c.past_plain-count.ensures.among c.in_ok-items.ensures in
    subst (λ given. IfOk c.read_item.result (λ read. given ≡ read_from read.0 read.1 (lines read.2.now))) (sym whole) c.read_item.ensures.read

pub returns-clause-refused : goal.returns-clause-refused
returns-clause-refused c =
    let whole = plain_read c.args.earlier c.in_ok-items.items c.args.number c.past_plain-count.result.0 c.args.bytes.now c.past_plain-count.result.1.now c.past_plain-count.ensures.cut c.past_plain-count.ensures.among c.in_ok-items.ensures in
    subst (λ given. IfErr c.read_item.result (λ refusal. Refuses refusal given)) (sym whole) c.read_item.ensures.refused
