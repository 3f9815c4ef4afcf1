-- The private text on its way into a file, encrypted in one of two forms.
use Rattle.std.specs.Prelude.{ℕ, List}
use Rattle.t1_code.specs.declared.eexec.EncryptedForm.{EncryptedForm}
use Rattle.t1_code.specs.declared.eexec.EncryptedForm.TheVariants.{Binary, Hexadecimal}
use Rattle.t1_code.specs.Cipher.{cipher, key_after}
use Rattle.t1_code.specs.Hexadecimal.{in_lines, room_after}
use Rattle.t1_code.specs.Segments.{in_segments, segmenting_after}

-- Type 1 Font Format, Chapter 7 (eexec): the encrypted text in its form, binary or hexadecimal
abbrev pub formed : EncryptedForm → List ℕ → List ℕ
formed (Binary s) bytes = in_segments s bytes
formed (Hexadecimal line) bytes = in_lines line.room bytes

-- word: where a form goes on after these bytes
abbrev pub form_after : EncryptedForm → List ℕ → EncryptedForm
form_after (Binary s) bytes = Binary (segmenting_after s bytes)
form_after (Hexadecimal line) bytes = Hexadecimal (record { room = room_after line.room bytes })

-- word: a form and the key that stands there
pub record EexecState : Type 0 where
  pub key : ℕ
  pub form : EncryptedForm

-- Type 1 Font Format, Chapter 7 (eexec): the private text, encrypted in its form
abbrev pub enciphered : EexecState → List ℕ → List ℕ
enciphered s plain = formed s.form (cipher s.key plain)

-- word: the key and the form after a text
abbrev pub state_after : EexecState → List ℕ → EexecState
state_after s plain = record { key = key_after s.key (cipher s.key plain); form = form_after s.form (cipher s.key plain) }
