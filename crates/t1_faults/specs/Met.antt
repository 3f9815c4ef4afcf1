-- The faults that runs meet, each in the body where it stands.
use Rattle.std.specs.Prelude.{ℕ, Bool, nat_eq, not, is_none, ◌-◌, ◌&&◌, Option, None, List, [], ◌∷◌, length, map, filter_map, flat_map, option_map, slice_get}
use Rattle.std.specs.List.{filter, find, range_with_len}
use Rattle.std.specs.Option.{option_to_list}
use Rattle.std.specs.Str.{bytes_eq}
use denote.Enum.Bare.{sameb}
use Rattle.t1_frac.specs.contracts.fault.Code.{the_type}
use Rattle.t1_frac.specs.declared.fault.Place.{Place}
use Rattle.t1_frac.specs.declared.fault.Place.TheVariants as places
use Rattle.t1_chain.specs.declared.failure.Call.{Call}
use Rattle.t1_chain.specs.Failing.{Failure}
use Rattle.t1_chain.specs.GlyphFailures.{GlyphFailure}
use Rattle.t1_faults.specs.declared.call_chains.CallChain.{CallChain}
use Rattle.t1_faults.specs.declared.run_fault.RunFault.{RunFault}
use Rattle.t1_faults.specs.Entries.{Entry}
use Rattle.t1_faults.specs.Failing.{Failures}
use Rattle.t1_faults.specs.Openings.{is_this_number}

-- profile, faults: the run of an entry, where it is a glyph's and fails
abbrev pub failed_run : Failures → Place → Option GlyphFailure
failed_run failures (places.Glyph g) = option_map (λ failure. record { glyph = g; failure = failure }) (failures g)
failed_run failures place = None

-- profile, faults: the runs of these entries that fail, in their order
abbrev pub failed_runs : Failures → List Entry → List GlyphFailure
failed_runs failures es = filter_map (λ e. failed_run failures e.place) es

-- profile, faults: the Subr that the last of these calls entered
abbrev pub last_entered : List Call → Option ℕ
last_entered calls = option_map (λ call. call.subr) (slice_get calls (length calls - 1))

-- profile, faults: the fault of a run that fails so, with these chains
abbrev pub run_fault : List CallChain → Failure → RunFault
run_fault chains failure = record { word = failure.word; code = failure.code; detail = failure.detail; chains = chains }

-- ---- in a glyph's own body

-- profile, faults: whether this is the run of this glyph, and it fails in the glyph's own body
abbrev pub fails_in_glyph : List ℕ → GlyphFailure → Bool
fails_in_glyph g run = bytes_eq g run.glyph && is_none (last_entered run.failure.calls)

-- profile, faults: the fault that the run of this glyph met in the glyph's own body
abbrev pub own_fault : List GlyphFailure → List ℕ → Option RunFault
own_fault runs g = option_map (λ run. run_fault [] run.failure) (find (fails_in_glyph g) runs)

-- ---- in a Subr

-- profile, faults: a glyph whose run fails, and the Subrs that it had entered, in turn
abbrev pub chain_of : GlyphFailure → CallChain
chain_of run = record { glyph = run.glyph; subrs = map (λ call. call.subr) run.failure.calls }

-- profile, faults: whether a run fails in this Subr, at this word
abbrev pub fails_at_word : ℕ → ℕ → GlyphFailure → Bool
fails_at_word n word run = is_this_number n (last_entered run.failure.calls) && nat_eq word run.failure.word

-- profile, faults: whether two runs fail by one code
abbrev pub have_one_code : GlyphFailure → GlyphFailure → Bool
have_one_code run other = sameb the_type run.failure.code other.failure.code

-- profile, faults: of some runs the first one that fails by each code
abbrev pub first_by_code : List GlyphFailure → List GlyphFailure
first_by_code [] = []
first_by_code (run ∷ runs) = run ∷ filter (λ other. not (have_one_code run other)) (first_by_code runs)

-- profile, faults: the fault of one of some runs, with the chains of all that fail by its code
abbrev pub shared_fault : List GlyphFailure → GlyphFailure → RunFault
shared_fault runs run = run_fault (map chain_of (filter (have_one_code run) runs)) run.failure

-- profile, faults: the faults that some runs met at one word: one for each code
abbrev pub faults_by_code : List GlyphFailure → List RunFault
faults_by_code runs = map (shared_fault runs) (first_by_code runs)

-- profile, faults: the faults that runs met in this Subr, at this word
abbrev pub faults_at : List GlyphFailure → ℕ → ℕ → List RunFault
faults_at runs n word = faults_by_code (filter (fails_at_word n word) runs)

-- ---- in an entry

-- profile, faults: the faults that runs met in an entry of so many words: a glyph's own run in its body, all runs in a Subr, word by
-- word
abbrev pub met_in : (List ℕ → Option RunFault) → (ℕ → ℕ → List RunFault) → Place → ℕ → List RunFault
met_in in_glyph in_subr (places.Glyph g) count = option_to_list (in_glyph g)
met_in in_glyph in_subr (places.Subr n) count = flat_map (in_subr n) (range_with_len 0 count)
met_in in_glyph in_subr place count = []
