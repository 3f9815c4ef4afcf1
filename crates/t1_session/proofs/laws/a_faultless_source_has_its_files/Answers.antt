use Rattle.std.proofs.Common.{◌≡◌, ℕ, Ok, List, Result, refl}
use Rattle.std.specs.Prelude.{IsOk}
use Rattle.t1_frac.specs.declared.fault.Fault.{Fault}
use Rattle.t1_session.proofs.StateLaws.{has_blocks, has_pfa}
use Rattle.t1_session.proofs.laws.a_faultless_source_has_its_files.Goals as goal

made-ok : (r : Result (List ℕ) Fault) → (made : List ℕ) × (r ≡ Ok made) → IsOk r
made-ok r made = rw made.1 refl

pub returns-clause-blocks : goal.returns-clause-blocks
returns-clause-blocks c = λ s size e. made-ok _ (has_blocks s size e)

pub returns-clause-pfa : goal.returns-clause-pfa
returns-clause-pfa c = λ s e. made-ok _ (has_pfa s e)
