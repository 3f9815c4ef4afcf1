-- Charstring and eexec encryption (Type 1 Font Format, Chapter 7).
use Rattle.std.specs.Prelude.{◌≡◌, ℕ, ◌+◌, ◌*◌, ◌/◌, ◌%◌, ◌<◌, List, [], ◌∷◌, ◌++◌, length, take, replicate, fold, slice_index, bit_xor, Result, Ok}
use Rattle.t1_frac.specs.declared.fault.Code.{Code}
use Rattle.t1_frac.specs.Outcome.{◌>>=◌}
use Rattle.t1_code.specs.Charstring.{charstring_of_words}

-- Type 1 Font Format, Chapter 7: the key after a cipher byte
abbrev pub next_key : ℕ → ℕ → ℕ
next_key key cipher_byte = ((cipher_byte + key) * 52845 + 22719) % 65536

-- Type 1 Font Format, Chapter 7: the key after these cipher bytes
abbrev pub key_after : ℕ → List ℕ → ℕ
key_after key cipher_bytes = fold next_key key cipher_bytes

-- Type 1 Font Format, Chapter 7: each cipher byte is the plain byte under the high byte of the key that stands there
abbrev pub cipher : ℕ → List ℕ → List ℕ
cipher key [] = []
cipher key (plain ∷ plains) =
    bit_xor plain (key / 256) ∷ cipher (next_key key (bit_xor plain (key / 256))) plains

-- Type 1 Font Format, Chapter 7: the same, place by place: the key at a place is the one after the cipher bytes before it
pub record IsCipher (key : ℕ) (plain encrypted : List ℕ) : Type 0 where
  pub same_length : length encrypted ≡ length plain
  pub each : (i : ℕ) → i < length plain → slice_index encrypted i ≡ bit_xor (slice_index plain i) (key_after key (take i encrypted) / 256)

-- profile: the leading bytes of encrypted text are zeros
abbrev pub encrypted_after : ℕ → ℕ → List ℕ → List ℕ
encrypted_after key lead plain = cipher key (replicate lead 0 ++ plain)

-- Type 1 Font Format, Chapter 7
abbrev pub encrypted_charstring : ℕ → List ℕ → List ℕ
encrypted_charstring lead plain = encrypted_after 4330 lead plain

-- Type 1 Font Format, Chapter 7: eexec, with four leading bytes
unfoldable pub eexec : List ℕ → List ℕ
eexec plain = encrypted_after 55665 4 plain

-- Type 1 Font Format, Chapter 7: the encrypted charstring of a body's words, or the fault of the words
unfoldable pub encrypted_words : ℕ → List (List ℕ) → Result (List ℕ) Code
encrypted_words lead words = charstring_of_words words >>= λ plain. Ok (encrypted_charstring lead plain)
