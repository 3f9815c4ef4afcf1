use Rattle.std.proofs.Common.{◌≡◌, ◌-◌, List, ℕ, length, drop, ap, sym, ◌∙◌, rules}
use Rattle.t1_code.specs.Cipher.{cipher}
use Rattle.t1_disassemble.proofs.Deciphering.{cipher_deciphered}
use Rattle.t1_disassemble.proofs.disassembly.push_flat.Goals as goal

pub push_flat_tail-requires-clause-last : goal.push_flat_tail-requires-clause-last
push_flat_tail-requires-clause-last c = λ encrypted. λ h.
    let coded = c.args.coded.now in
    let same : coded ≡ encrypted = sym (cipher_deciphered 55665 coded) ∙ ap (cipher 55665) (sym c.decipher_private.ensures.bytes ∙ h) ∙ cipher_deciphered 55665 encrypted in
    let last : c.deref.result.now ≡ drop (length coded - 2048) coded = search rules in
    last ∙ ap (λ (l : List ℕ). drop (length l - 2048) l) same
