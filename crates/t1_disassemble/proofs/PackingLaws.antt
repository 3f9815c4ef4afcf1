-- The source of an encrypted part behind other lines is these and the source alone.
use Rattle.std.proofs.Common.{◌≡◌, ℕ, List, [], ◌++◌, Result, Ok, Err, sym, subst}
use Rattle.std.specs.Result.{MatchResult}
use Rattle.t1_frac.specs.Outcome.{◌>>=◌}
use Rattle.t1_disassemble.specs.declared.fault.FontFault.{FontFault}
use Rattle.t1_disassemble.specs.declared.fault.FontRefusal.{FontRefusal}
use Rattle.t1_disassemble.specs.declared.fault.FontRefusal.TheVariants as refusals
use Rattle.t1_disassemble.specs.Outcome.{GivesFont, RefusesFont}
use Rattle.t1_disassemble.specs.Disassembly.{coded_source}
use Rattle.t1_disassemble.specs.SegmentsRead.{FontParts}
use Rattle.t1_disassemble.specs.SourceOnto.{source_onto}
use Rattle.t1_disassemble.proofs.Sources.{source_same}

abbrev Behind : List ℕ → Result (List ℕ) FontFault → Result (List ℕ) FontFault → Type 0
Behind text all alone = MatchResult alone (λ l. all ≡ Ok (text ++ l)) (λ fault. all ≡ Err fault)

behind : (text : List ℕ) (parts : FontParts) (coded : List ℕ) → Behind text (source_onto text parts coded) (source_onto [] parts coded)
behind text parts coded = subst (Behind text (source_onto text parts coded)) (sym (source_same [] parts coded)) (from (coded_source parts coded) (source_same text parts coded)) where
  from : (alone : Result (List ℕ) FontFault) → source_onto text parts coded ≡ (alone >>= λ more. Ok (text ++ more)) → Behind text (source_onto text parts coded) (alone >>= λ more. Ok ([] ++ more))
  from (Ok more) e = e
  from (Err fault) e = e

pub behind_ok : (text : List ℕ) (parts : FontParts) (coded lines : List ℕ) → source_onto [] parts coded ≡ Ok lines → source_onto text parts coded ≡ Ok (text ++ lines)
behind_ok text parts coded lines h = subst (Behind text (source_onto text parts coded)) h (behind text parts coded)

pub behind_err : (text : List ℕ) (parts : FontParts) (coded : List ℕ) (fault : FontFault) → source_onto [] parts coded ≡ Err fault → source_onto text parts coded ≡ Err fault
behind_err text parts coded fault h = subst (Behind text (source_onto text parts coded)) h (behind text parts coded)

pub refused_behind : (text : List ℕ) (parts : FontParts) (coded : List ℕ) (refused : FontRefusal) → RefusesFont refused (source_onto [] parts coded) → RefusesFont refused (source_onto text parts coded)
refused_behind text parts coded refusals.Memory h = tt
refused_behind text parts coded (refusals.Fault fault) h = behind_err text parts coded fault h

pub error_behind : (text : List ℕ) (parts : FontParts) (coded : List ℕ) (result : Result (List ℕ) FontRefusal) (refused : FontRefusal) → result ≡ Err refused
    → GivesFont (λ l. l) result (source_onto [] parts coded) → GivesFont (λ l. l) result (source_onto text parts coded)
error_behind text parts coded result refused e h =
    subst (λ (r : Result (List ℕ) FontRefusal). GivesFont (λ (l : List ℕ). l) r (source_onto text parts coded)) (sym e)
    (refused_behind text parts coded refused (subst (λ (r : Result (List ℕ) FontRefusal). GivesFont (λ (l : List ℕ). l) r (source_onto [] parts coded)) e h))
