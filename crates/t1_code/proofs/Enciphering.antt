-- The private text, encrypted in a form.
use Rattle.std.proofs.Common.{◌≡◌, ℕ, List, [], ◌∷◌, ◌++◌, refl, ap, ◌∙◌}
use Rattle.t1_code.specs.declared.eexec.EncryptedForm.{EncryptedForm}
use Rattle.t1_code.specs.declared.eexec.EncryptedForm.TheVariants.{Binary, Hexadecimal}
use Rattle.t1_code.specs.Cipher.{cipher, key_after, eexec}
use Rattle.t1_code.specs.Eexec.{EexecState, formed, form_after, enciphered, state_after}
use Rattle.t1_code.proofs.Carrying.{IsChange}
use Rattle.t1_code.proofs.Digits.{lining}
use Rattle.t1_code.proofs.Encrypting.{cipher-append, key_after-append}
use Rattle.t1_code.proofs.Segmenting.{cutting}

formed-append : (form : EncryptedForm) (xs ys : List ℕ) → formed form (xs ++ ys) ≡ formed form xs ++ formed (form_after form xs) ys
formed-append (Binary s) xs ys = cutting.join s xs ys
formed-append (Hexadecimal line) xs ys = lining.join line.room xs ys

form_after-append : (form : EncryptedForm) (xs ys : List ℕ) → form_after form (xs ++ ys) ≡ form_after (form_after form xs) ys
form_after-append (Binary s) xs ys = ap Binary (cutting.twice s xs ys)
form_after-append (Hexadecimal line) xs ys = ap (λ n. Hexadecimal (record { room = n })) (lining.twice line.room xs ys)

enciphered-append : (s : EexecState) (xs ys : List ℕ) → enciphered s (xs ++ ys) ≡ enciphered s xs ++ enciphered (state_after s xs) ys
enciphered-append s xs ys =
    ap (formed s.form) (cipher-append s.key xs ys) ∙ formed-append s.form (cipher s.key xs) (cipher (key_after s.key (cipher s.key xs)) ys)

state_after-append : (s : EexecState) (xs ys : List ℕ) → state_after s (xs ++ ys) ≡ state_after (state_after s xs) ys
state_after-append s xs ys =
    let next = key_after s.key (cipher s.key xs) in
    let form = form_after-append s.form (cipher s.key xs) (cipher next ys) in
    let key = key_after-append s.key (cipher s.key xs) (cipher next ys) in
    rw (cipher-append s.key xs ys) (rw (form, key) refl)

pub enciphering : IsChange enciphered state_after
enciphering = record { join = enciphered-append; twice = state_after-append }

-- no byte stays none, and the state as it is
pub none_enciphered : (s : EexecState) → enciphered s [] ≡ []
none_enciphered s = none s.form where
  none : (form : EncryptedForm) → formed form [] ≡ []
  none (Binary s) = refl
  none (Hexadecimal line) = refl

pub state_stays : (s : EexecState) → state_after s [] ≡ s
state_stays s = ap (λ form. record { key = s.key; form = form }) (stays s.form) where
  stays : (form : EncryptedForm) → form_after form [] ≡ form
  stays (Binary s) = refl
  stays (Hexadecimal line) = refl

abbrev pub zeros : List ℕ
zeros = 0 ∷ 0 ∷ 0 ∷ 0 ∷ []

-- the leading bytes go out first
pub eexec_parts : (form : EncryptedForm) (private : List ℕ) → formed form (eexec private)
    ≡ enciphered (record { key = 55665; form = form }) zeros ++ enciphered (state_after (record { key = 55665; form = form }) zeros) private
unfolding eexec
eexec_parts form private = enciphered-append (record { key = 55665; form = form }) zeros private
