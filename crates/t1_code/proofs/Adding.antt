-- Charstrings added after other code.
use Rattle.std.proofs.Common.{◌≡◌, ℕ, ◌++◌, ◌≤◌, List, [], length, take, Result, Ok, Err, refl, sym, ap, ◌∙◌, arith}
use Rattle.std.proofs.lemmas.List.{append_assoc, take-take, length-take, take_all, take_at}
use Rattle.std.specs.Prelude.{is_ok, if◌then◌else◌}
use Rattle.std.specs.Result.{OnOk}
use Rattle.t1_frac.specs.declared.fault.Code.{Code}
use Rattle.t1_code.specs.declared.command.Command.{Command}
use Rattle.t1_code.specs.Words.{command_then}
use Rattle.t1_frac.specs.Outcome.{◌>>=◌}
use Rattle.t1_code.specs.Charstring.{charstring, command_bytes}
use Rattle.t1_code.specs.Appending.{charstring_onto, onto}
use Rattle.t1_code.specs.Cipher.{cipher}

-- one more command
pub coded_step : (front : List ℕ) (command : Command) (rest : Result (List Command) Code)
    → charstring_onto (front ++ command_bytes command) rest ≡ charstring_onto front (command_then (Ok command) rest)
coded_step front command (Ok commands) = ap Ok (append_assoc front (command_bytes command) (charstring commands))
coded_step front command (Err code) = refl

-- what stood in front before stands in front still
pub front_grows : (a b c : List ℕ) → take (length a) b ≡ a → take (length b) c ≡ b → take (length a) c ≡ a
front_grows a b c p q =
    let long : length a ≤ length b = let cut = length-take (length a) b in let same = ap length p in omega (arith, cut, same) in
    sym (take-take (length a) (length b) c long) ∙ ap (take (length a)) q ∙ p

-- after no code
pub onto_nothing : (added : Result (List ℕ) Code) → onto [] added ≡ added
onto_nothing (Ok code) = refl
onto_nothing (Err fault) = refl

-- a charstring after its leading bytes, as the code encrypts it
pub encrypted_at : (front code : List ℕ) (key : ℕ) (plain : Result (List ℕ) Code) → onto front plain ≡ Ok code
    → (plain >>= λ bytes. Ok (cipher key (front ++ bytes))) ≡ Ok (cipher key code)
encrypted_at front code key (Ok bytes) e = let same : front ++ bytes ≡ code = cc in ap (λ l. Ok (cipher key l)) same
encrypted_at front code key (Err fault) e = absurd (cc)

-- bytes added by a call that may fail
pub added_value : {T E : Type 0} (r : Result T E) (old added now : List ℕ) → now ≡ (if is_ok r then old ++ added else old) → OnOk r (now ≡ old ++ added)
added_value (Ok done) old added now e = e
added_value (Err error) old added now e = tt

pub added_is : {T E : Type 0} (r : Result T E) (old added whole now : List ℕ) → now ≡ (if is_ok r then old ++ added else old) → added ≡ whole → OnOk r (now ≡ old ++ whole)
added_is (Ok done) old added whole now e is = e ∙ ap (λ l. old ++ l) is
added_is (Err error) old added whole now e is = tt

-- two of them, of which the second may fail
pub added_after : {T E : Type 0} (r : Result T E) (old first added whole mid now : List ℕ) → now ≡ (if is_ok r then mid ++ added else mid) → mid ≡ old ++ first → first ++ added ≡ whole → OnOk r (now ≡ old ++ whole)
added_after (Ok done) old first added whole mid now e m is = e ∙ ap (λ l. l ++ added) m ∙ append_assoc old first added ∙ ap (λ l. old ++ l) is
added_after (Err error) old first added whole mid now e m is = tt

pub added_front : {T E : Type 0} (r : Result T E) (old added now : List ℕ) → now ≡ (if is_ok r then old ++ added else old) → take (length old) now ≡ old
added_front (Ok done) old added now e = ap (take (length old)) e ∙ take_at old added (length old) refl
added_front (Err error) old added now e = ap (take (length old)) e ∙ take_all (length old) old (omega arith)
