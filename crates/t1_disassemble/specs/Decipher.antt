-- Charstring and eexec encryption undone (Type 1 Font Format, Chapter 7).
use Rattle.std.specs.Prelude.{ℕ, ◌/◌, List, [], ◌∷◌, drop, bit_xor}
use Rattle.t1_code.specs.Cipher.{next_key}

-- Type 1 Font Format, Chapter 7: each plain byte is the cipher byte under the high byte of the key that stands there
abbrev pub deciphered : ℕ → List ℕ → List ℕ
deciphered key [] = []
deciphered key (cipher ∷ ciphers) = bit_xor cipher (key / 256) ∷ deciphered (next_key key cipher) ciphers

-- Type 1 Font Format, Chapter 7: the plain bytes after so many leading bytes, whatever these are
abbrev pub decrypted_after : ℕ → ℕ → List ℕ → List ℕ
decrypted_after key lead bytes = drop lead (deciphered key bytes)

-- Type 1 Font Format, Chapter 7: a charstring, after as many leading bytes as lenIV says
abbrev pub decrypted_charstring : ℕ → List ℕ → List ℕ
decrypted_charstring lead bytes = decrypted_after 4330 lead bytes

-- Type 1 Font Format, Chapter 7: eexec, with four leading bytes
abbrev pub decrypted_private : List ℕ → List ℕ
decrypted_private bytes = decrypted_after 55665 4 bytes
