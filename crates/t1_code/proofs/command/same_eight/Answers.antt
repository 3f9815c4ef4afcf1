use Rattle.std.proofs.Common.{rules, ◌≡◌, ◌∙◌, sym, ap, true, nat_eq}
use Rattle.std.specs.Int.{w64, from_le_bytes, to_le_bytes}
use Rattle.std.specs.Str.{bytes_eq}
use Rattle.std.proofs.lemmas.Bool.Decides.{same_from_decides, Decides-eqb}
use Rattle.std.proofs.lemmas.Nat.{le_bytes_8}
use Rattle.std.proofs.lemmas.Slice.Eq.{bytes_eq-Decides}
use Rattle.t1_code.proofs.command.same_eight.Goals as goal

-- each number gives its bytes back, so that equal numbers are of equal bytes
pub returns : goal.returns
returns c =
    let one = c.args.one.now in
    let other = c.args.other.now in
    let n = c.from_le_bytes.result in
    let m = c.from_le_bytes-2.result in
    let back : to_le_bytes w64 n ≡ one = le_bytes_8 one n (search rules) (search rules) c.from_le_bytes.ensures in
    let back-2 : to_le_bytes w64 m ≡ other = le_bytes_8 other m (search rules) (search rules) c.from_le_bytes-2.ensures in
    let same : nat_eq n m ≡ true → one ≡ other = λ e. sym back ∙ (ap (to_le_bytes w64) ((Decides-eqb n m).0 e) ∙ back-2) in
    let equal : one ≡ other → nat_eq n m ≡ true = λ e. (Decides-eqb n m).1 (c.from_le_bytes.ensures ∙ (ap (from_le_bytes w64) e ∙ sym c.from_le_bytes-2.ensures)) in
    same_from_decides (nat_eq n m) (bytes_eq one other) (same, equal) (bytes_eq-Decides one other)
