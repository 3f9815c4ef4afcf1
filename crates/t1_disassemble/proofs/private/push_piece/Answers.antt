use Rattle.std.proofs.Common.{◌≡◌, ℕ, ◌<◌, ◌+◌, List, length, drop, take, None, Some, Ok, sym, ap, ◌∙◌, rules, arith}
use Rattle.t1_text.specs.Tokens.{places_from}
use Rattle.t1_disassemble.specs.Front.{front_line}
use Rattle.t1_disassemble.specs.Opened.{opening_of}
use Rattle.t1_disassemble.specs.Opening.{first_opening}
use Rattle.t1_disassemble.specs.PieceLeft.{piece_of}
use Rattle.t1_disassemble.specs.PiecesOnto.{line_onto, entry_onto, entry_left}
use Rattle.t1_disassemble.specs.PrivateText.{source_line}
use Rattle.t1_disassemble.specs.Standing.{text_judged, entry_judged}
use Rattle.t1_disassemble.specs.Stood.{standing_of}
use Rattle.t1_disassemble.proofs.StandingLaws.{line_step, entry_step}
use Rattle.t1_disassemble.proofs.private.push_piece.Goals as goal

pub returns-in_default-clause-standing : goal.returns-in_default-clause-standing
returns-in_default-clause-standing g c =
    let operator = c.args.settings.now.operator.now in
    let lead = c.args.settings.now.lead in
    let bytes = c.args.bytes.now in
    let some : 0 < length bytes = search (rules, arith) in
    let none : first_opening operator (places_from 0 (front_line bytes)) ≡ None = search rules in
    let e : standing_of c.push_whole_line.new.standing ≡ text_judged operator lead c.args.waits (standing_of c.args.standing.now) (source_line operator bytes) = search rules in
    let text = g.T.Lines.text c.push_whole_line.new.text in
    let before = g.T.Lines.text c.args.text.now in
    let is : piece_of text c.in_ok-piece.piece ≡ line_onto operator before c.args.waits bytes = search rules in
    line_step operator text before bytes lead c.args.waits (standing_of c.args.standing.now) (standing_of c.push_whole_line.new.standing) c.in_ok-piece.piece some none is e

pub returns-clause-standing : goal.returns-clause-standing
returns-clause-standing g c =
    let operator = c.args.settings.now.operator.now in
    let lead = c.args.settings.now.lead in
    let bytes = c.args.bytes.now in
    let some : 0 < length bytes = search (rules, arith) in
    let o = opening_of c.in-Some.opening in
    let found : first_opening operator (places_from 0 (front_line bytes)) ≡ Some o = search rules in
    let s = standing_of c.args.standing.now in
    let t = standing_of c.judge_entry.new.self in
    let e : t ≡ entry_judged operator lead c.args.waits s (take o.at bytes) o.name =
    c.in_ok-judge_entry.ensures ∙ ap (λ (f : List ℕ). entry_judged operator lead c.args.waits s f o.name) c.up_to-front.ensures
    in
    let text = g.T.Lines.text c.push_front.new.text in
    let after = g.T.Lines.text c.push_entry.new.text in
    let is : entry_onto lead text o (drop (o.end + 1) bytes) ≡ Ok (entry_left after c.in_ok-rest.rest.now) = ap (entry_onto lead text o) (sym c.past-data.ensures) ∙ c.in_ok-rest.ensures in
    entry_step operator text after bytes c.in_ok-rest.rest.now lead c.args.waits s t o some found is e
