-- What a call over whole files answers, and what it wrote by then.
use Rattle.std.specs.Prelude.{◌≡◌, ℕ, List, Option, Result, Ok, Err}
use Rattle.t1_frac.specs.declared.fault.Fault.{Fault}
use Rattle.t1_code.specs.Counted.{Tally, WritesAll, WritesFront}
use Rattle.t1_session.specs.declared.error.ServeError.{ServeError}
use Rattle.t1_session.specs.declared.error.ServeError.TheVariants as errors

-- profile: a call that writes what a definition gives: the whole text at Ok; a beginning of it and one failed call at
-- Write; nothing at Load, whose fault is the definition's, and nothing where memory ran out. It reads nothing.
abbrev pub Delivers : {W T : Type 0} → (W → Option (List ℕ)) → Tally W → Tally W → Result (List ℕ) Fault → Result T ServeError → Type 0
Delivers contents old new given (Ok done) = (whole : List ℕ) × (given ≡ Ok whole) × WritesAll contents old new whole
Delivers contents old new given (Err errors.Write) = (whole : List ℕ) × (given ≡ Ok whole) × WritesFront contents old new whole
Delivers contents old new given (Err (errors.Load fault)) = (given ≡ Err fault) × (new ≡ old)
Delivers contents old new given (Err errors.Memory) = new ≡ old
Delivers contents old new given (Err errors.Read) = ⊥
