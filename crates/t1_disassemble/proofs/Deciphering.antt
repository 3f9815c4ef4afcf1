-- Encryption undone.
use Rattle.std.proofs.Common.{◌≡◌, ℕ, zero, suc, ◌+◌, ◌*◌, ◌/◌, ◌%◌, ◌^◌, List, [], ◌∷◌, ◌++◌, length, replicate, drop, refl, ap, ◌∙◌, arith}
use Rattle.std.specs.Prelude.{bit_xor}
use Rattle.std.specs.Int.Bits.{xor_assoc, xor_self, xor_zero_r}
use Rattle.t1_code.specs.Cipher.{cipher, next_key, key_after, eexec, encrypted_after, encrypted_charstring}
use Rattle.t1_disassemble.specs.Decipher.{deciphered, decrypted_after, decrypted_charstring, decrypted_private}

pub length_deciphered : (key : ℕ) (bytes : List ℕ) → length (deciphered key bytes) ≡ length bytes
length_deciphered key [] = refl
length_deciphered key (c ∷ cs) = ap suc (length_deciphered (next_key key c) cs)

twice : (a b : ℕ) → bit_xor (bit_xor a b) b ≡ a
twice a b = xor_assoc a b b ∙ ap (bit_xor a) (xor_self b) ∙ xor_zero_r a

-- each byte comes back
pub deciphered_cipher : (key : ℕ) (plain : List ℕ) → deciphered key (cipher key plain) ≡ plain
deciphered_cipher key [] = refl
deciphered_cipher key (p ∷ ps) =
    let c = bit_xor p (key / 256) in
    ap (λ b. b ∷ deciphered (next_key key c) (cipher (next_key key c) ps)) (twice p (key / 256)) ∙ ap (λ l. p ∷ l) (deciphered_cipher (next_key key c) ps)

-- each cipher byte comes back
pub cipher_deciphered : (key : ℕ) (encrypted : List ℕ) → cipher key (deciphered key encrypted) ≡ encrypted
cipher_deciphered key [] = refl
cipher_deciphered key (c ∷ cs) = rw (twice c (key / 256)) (ap (λ l. c ∷ l) (cipher_deciphered (next_key key c) cs))

-- what comes after a text goes on under the key that stands there
pub deciphered-append : (key : ℕ) (xs ys : List ℕ) → deciphered key (xs ++ ys) ≡ deciphered key xs ++ deciphered (key_after key xs) ys
deciphered-append key [] ys = refl
deciphered-append key (x ∷ xs) ys = ap (λ l. bit_xor x (key / 256) ∷ l) (deciphered-append (next_key key x) xs ys)

-- ---- the next key, and the one after it

pub key_from : (key c : ℕ) → ((key * 52845) % 2 ^ 32 + (c * 52845 + 22719)) % 2 ^ 32 % 65536 ≡ next_key (key % 65536) c
key_from key c = omega arith

pub key_past : (key c d : ℕ) → ((key * 39529) % 2 ^ 32 + (c * 39529 + (d * 52845 + 54290))) % 2 ^ 32 % 65536 ≡ next_key (next_key (key % 65536) c) d
key_past key c d = omega arith

drop_zeros : (lead : ℕ) (plain : List ℕ) → drop lead (replicate lead 0 ++ plain) ≡ plain
drop_zeros zero plain = refl
drop_zeros (suc lead) plain = drop_zeros lead plain

pub decrypted_encrypted : (key lead : ℕ) (plain : List ℕ) → decrypted_after key lead (encrypted_after key lead plain) ≡ plain
decrypted_encrypted key lead plain = ap (drop lead) (deciphered_cipher key (replicate lead 0 ++ plain)) ∙ drop_zeros lead plain

pub charstring_again : (lead : ℕ) (plain : List ℕ) → decrypted_charstring lead (encrypted_charstring lead plain) ≡ plain
charstring_again lead plain = decrypted_encrypted 4330 lead plain

pub private_again : (plain : List ℕ) → decrypted_private (eexec plain) ≡ plain
unfolding eexec
private_again plain = decrypted_encrypted 55665 4 plain
