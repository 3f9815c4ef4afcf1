-- The runs of the glyphs of a source, as the code holds them.
use Rattle.std.specs.Prelude.{ℕ, ◌+◌, nat_eq, Bool, ◌&&◌, if◌then◌else◌, List, [], ◌∷◌, ◌++◌, filter_map, Option, None, Some}
use Rattle.std.specs.List.{filter}
use Rattle.std.specs.Map.{lookup}
use Rattle.std.specs.Str.{bytes_eq}
use Rattle.std.specs.declared.vec.Vec.{Vec}
use denote.Enum.Bare.{sameb}
use Rattle.t1_frac.specs.contracts.fault.Code.{the_type}
use Rattle.t1_frac.specs.declared.fault.Code.{Code}
use Rattle.t1_font.specs.KeptBodies.{plain_bodies}
use Rattle.t1_chain.specs.Machine.{failure_seen}
use Rattle.t1_run.specs.RunKeys.{has_number}
use Rattle.t1_faults.specs.declared.call_chains.CallChain.{CallChain}
use Rattle.t1_faults.specs.declared.found.FoundFault.{FoundFault}
use Rattle.t1_faults.specs.declared.failed_run.FailedRun.{FailedRun as FailedFields}
use Rattle.t1_faults.specs.declared.glyph_runs.GlyphRuns.{GlyphRuns}
use Rattle.t1_faults.specs.declared.run_fault.RunFault.{RunFault}
use Rattle.t1_faults.specs.Composites.{OwnRuns, faulty_under, names_glyph, with_names}
use Rattle.t1_faults.specs.Failing.{Failures, told_by}
use Rattle.t1_chain.specs.GlyphFailures.{GlyphFailure}

-- word: whether the words of the Subr of this number have a fault
abbrev pub is_faulty : GlyphRuns → ℕ → Bool
is_faulty runs = has_number runs.faulty.keys

-- word: where and why the runs fail, and that is told
abbrev pub failures_of : GlyphRuns → Failures
failures_of runs = told_by (is_faulty runs) (plain_bodies runs.bodies)

-- word: a failed run as the definitions see it
abbrev pub seen_run : FailedFields → GlyphFailure
seen_run run = record { glyph = run.glyph; failure = failure_seen run.failure }

-- word: the fault that is kept for a glyph's own body
abbrev pub own_kept : {A : Type 0} → List (Vec ℕ A × RunFault) → List ℕ → Option RunFault
own_kept entries g = lookup (λ name. bytes_eq g name.items) entries

-- word: the faults that are kept, none where there are none
abbrev pub faults_kept : {A : Type 0} → Option (Vec RunFault A) → List RunFault
faults_kept None = []
faults_kept (Some faults) = faults.items

-- word: whether a fault has this code
abbrev pub has_fault_code : Code → RunFault → Bool
has_fault_code code fault = sameb the_type fault.code code

-- word: a fault with one chain more
abbrev pub with_chain : CallChain → RunFault → RunFault
with_chain chain fault = record fault { chains = fault.chains ++ chain ∷ [] }

-- word: whether a key is this word of this Subr
abbrev pub is_at : ℕ → ℕ → ℕ × ℕ → Bool
is_at n word key = nat_eq n key.0 && nat_eq word key.1

-- word: the faults that are kept for this word of this Subr
abbrev pub faults_kept_at : {A : Type 0} → List ((ℕ × ℕ) × Vec RunFault A) → ℕ → ℕ → List RunFault
faults_kept_at entries n word = faults_kept (lookup (is_at n word) entries)

-- word: the number that is kept for a glyph
abbrev pub number_kept : {A : Type 0} → List (Vec ℕ A × ℕ) → List ℕ → Option ℕ
number_kept entries g = lookup (λ name. bytes_eq g name.items) entries

-- word: the names that are kept, none where there are none
abbrev pub names_kept : Option (List (List ℕ)) → List (List ℕ)
names_kept None = []
names_kept (Some names) = names

-- word: the composites that are kept for the fault of this number
abbrev pub composites_kept : List (ℕ × List (List ℕ)) → ℕ → List (List ℕ)
composites_kept entries n = names_kept (lookup (nat_eq n) entries)

-- word: the number of the first of these faults that names a glyph; the first of them all has the number n
abbrev pub first_naming : ℕ → List FoundFault → List ℕ → Option ℕ
first_naming n [] g = None
first_naming n (fault ∷ faults) g = if names_glyph g fault then Some n else first_naming (n + 1) faults g

-- word: the composites among these glyphs that stand on a glyph with a fault and this number
abbrev pub composites_on : (List ℕ → Option ℕ) → OwnRuns → List (List ℕ) → ℕ → List (List ℕ)
composites_on numbers run glyphs n = filter (λ g. has_number (filter_map numbers (faulty_under run g)) n) glyphs

-- word: these faults, of which the first has the number n, each with the composites of its number
abbrev pub each_numbered : (ℕ → List (List ℕ)) → ℕ → List FoundFault → List FoundFault
each_numbered composites n [] = []
each_numbered composites n (fault ∷ faults) = with_names (composites n) fault ∷ each_numbered composites (n + 1) faults
