-- The counts of a source whose file has no fault.
use Rattle.std.proofs.Common.{◌≡◌, Bool, true, false, Result, Ok, Err, refl, if◌then◌else◌}
use Rattle.std.specs.List.{list_all}
use Rattle.t1_frac.specs.declared.fault.Fault.{Fault}
use Rattle.t1_frac.specs.Outcome.{◌>>=◌}
use Rattle.t1_parts.specs.SourceParts.{SourceParts}
use Rattle.t1_source.specs.WellFormed.{is_counted}
use Rattle.t1_font.specs.Assembly.{counts_check, file_check, length_check}

passed : (b : Bool) (fault : Fault) → ◌≡◌ {A = Result (Unit {0}) Fault} (if b then Ok tt else Err fault) (Ok tt) → b ≡ true
passed true fault h = refl
passed false fault h = absurd (cc)

second-ok : (a b : Result (Unit {0}) Fault) → ◌≡◌ {A = Result (Unit {0}) Fault} (a >>= (λ x. b)) (Ok tt) → b ≡ Ok tt
second-ok (Ok x) b h = h
second-ok (Err fault) b h = absurd (cc)

pub counted-source : (s : SourceParts) → file_check s ≡ Ok tt → list_all is_counted s.items ≡ true
unfolding file_check
counted-source s h = passed (list_all is_counted s.items) _ (second-ok (length_check s) (counts_check s.items) h)
