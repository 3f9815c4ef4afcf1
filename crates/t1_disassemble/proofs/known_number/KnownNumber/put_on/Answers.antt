use Rattle.std.proofs.Common.{◌≡◌, ◌≤◌, ◌∷◌, [], ◌++◌, ◌+◌, List, ℕ, if◌then◌else◌, length, take, sym, ap, subst, ◌∙◌, arith}
use Rattle.std.specs.Fmt.{decimal}
use Rattle.t1_disassemble.specs.KnownNumbers.{signed_digits}
use Rattle.t1_disassemble.proofs.NumberWords.{before_byte, signed_on}
use Rattle.t1_disassemble.proofs.known_number.KnownNumber.put_on.Goals as goal

pub returns-clause-front : goal.returns-clause-front
returns-clause-front c = λ is_open. λ blank.
    let number = c.self.inside in
    let end = c.put_digits-end.result in
    let minus = take c.put_minus-at.result c.put_minus-at.new.bytes in
    let put = c.put_digits-end.ensures in
    let digits : take end c.put_digits-end.new.bytes ≡ minus ++ decimal number.size =
    put.front ∙ ap (λ (l : List ℕ). minus ++ l) (ap (λ n. take n number.digits) c.from.ensures ∙ c.self.invariant.1) in
    let within : end ≤ length c.put_digits-end.new.bytes = omega (arith, put.size, put.end, c.put_minus-at.ensures.end, c.requires, c.self.invariant.0, c.from.ensures) in
    let blanked : take (end + 1) c.put_byte-blank.new.bytes ≡ take end c.put_digits-end.new.bytes ++ 32 ∷ [] =
    subst (λ n. take n c.put_byte-blank.new.bytes ≡ take end c.put_digits-end.new.bytes ++ 32 ∷ []) c.put_byte-blank.ensures.end c.put_byte-blank.ensures.front in
    let kept : take end c.put_byte-blank.new.bytes ≡ take end c.put_digits-end.new.bytes = before_byte end 32 c.put_digits-end.new.bytes c.put_byte-blank.new.bytes within blanked in
    subst (λ n. take end c.put_byte-blank.new.bytes ≡ take c.args.len c.args.bytes.now ++ (if is_open then 32 else 9) ∷ signed_digits c.args.is_negative n) c.self.view_is
    (kept ∙ signed_on number.size is_open c.args.is_negative (take c.args.len c.args.bytes.now) (take (c.args.len + 1) c.args.bytes.now) minus (take end c.put_digits-end.new.bytes) blank c.put_minus-at.ensures.front digits)

pub returns-clause-blank : goal.returns-clause-blank
returns-clause-blank c =
    let end = c.put_digits-end.result in
    let put = c.put_digits-end.ensures in
    let within : end ≤ length c.put_digits-end.new.bytes = omega (arith, put.size, put.end, c.put_minus-at.ensures.end, c.requires, c.self.invariant.0, c.from.ensures) in
    let blanked : take (end + 1) c.put_byte-blank.new.bytes ≡ take end c.put_digits-end.new.bytes ++ 32 ∷ [] =
    subst (λ n. take n c.put_byte-blank.new.bytes ≡ take end c.put_digits-end.new.bytes ++ 32 ∷ []) c.put_byte-blank.ensures.end c.put_byte-blank.ensures.front in
    blanked ∙ ap (λ (l : List ℕ). l ++ 32 ∷ []) (sym (before_byte end 32 c.put_digits-end.new.bytes c.put_byte-blank.new.bytes within blanked))
