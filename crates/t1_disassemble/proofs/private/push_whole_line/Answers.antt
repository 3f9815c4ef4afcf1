use Rattle.std.proofs.Common.{◌≡◌, ◌<◌, ℕ, List, length, Some, sym, ap, subst}
use Rattle.t1_disassemble.specs.Heads.{head_over}
use Rattle.t1_disassemble.specs.HeadsFound.{head_of}
use Rattle.t1_disassemble.specs.PrivateText.{PieceRead}
use Rattle.t1_disassemble.proofs.HeadLaws.{piece_short}
use Rattle.t1_disassemble.proofs.private.push_whole_line.Goals as goal

pub returns-in-Some-clause-shorter : goal.returns-in-Some-clause-shorter
returns-in-Some-clause-shorter g c =
    let operator = c.args.settings.now.operator.now in
    let bytes = c.args.bytes.now in
    let head = head_of c.in-Some.head in
    let rest = c.in_ok-rest.rest.now in
    let found : head_over bytes ≡ Some head = sym c.in-Some.ensures.value in
    let short = piece_short operator bytes rest head c.requires.some found c.in_ok-rest.ensures.rest in
    subst (λ (l : List ℕ). length l < length bytes) (sym (ap PieceRead.rest c.in_ok-piece.ensures.value)) short
