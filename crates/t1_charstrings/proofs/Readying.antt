-- What is ready of a source that was edited.
use Rattle.std.proofs.Common.{◌≡◌, ℕ, ap, ◌∙◌}
use Rattle.std.specs.Option.{option_map}
use Rattle.t1_parts.specs.LenIV.{lead}
use Rattle.t1_parts.specs.SourceParts.{SourceParts}
use Rattle.t1_run.specs.Run.{Subr, Glyph}
use Rattle.t1_run.specs.RunKeys.{body_at}
use Rattle.t1_frac.specs.declared.fault.Refusal.{Refusal}
use Rattle.t1_frac.specs.declared.fault.Refusal.TheVariants as refusals
use Rattle.t1_frac.specs.Outcome.{Refuses}
use Rattle.t1_font.specs.Assembly.{file_check}
use Rattle.t1_font.specs.Bodies.{bodies, bodies_check}
use Rattle.t1_font.proofs.LengthLaws.{body_fault_reported}
use Rattle.t1_charstrings.specs.declared.entries.Charstrings.{Charstrings}
use Rattle.t1_charstrings.specs.declared.settling.ReadyCharstrings.TheVariants as ready
use Rattle.t1_charstrings.specs.Changed.{AreSameCharstrings}
use Rattle.t1_charstrings.specs.Entries.{encrypted, glyph_charstring, subr_charstring}
use Rattle.t1_charstrings.specs.Kept.{AreEncrypted, charstring_at}
use Rattle.t1_font.specs.Lengths.{IsPrivateLen}
use Rattle.t1_charstrings.specs.Ready.{IsReadyLines}
use Rattle.t1_font.proofs.Keys.{at-key}

-- the same entries are the charstrings of the same source
pub unchanged : (s : SourceParts) (old new : Charstrings) → AreSameCharstrings old new → AreEncrypted s old → AreEncrypted s new
unchanged s old new same kept = record {
  sound = kept.sound;
  each = at-key (λ k. charstring_at new k ≡ option_map (encrypted (lead s) k) (body_at (bodies s.items) k))
      (λ n. ap (λ es. subr_charstring es n) same.0 ∙ kept.each (Subr n))
      (λ g. ap (λ es. glyph_charstring es g) same.1 ∙ kept.each (Glyph g));
}

-- all were encrypted anew
pub all_ready : (s : SourceParts) (old c : Charstrings) (len : ℕ) → AreEncrypted s c → IsPrivateLen s len
    → IsReadyLines s old (record { charstrings = ready.All c; len = len })
all_ready s old c len kept known = record { room = tt; kept = λ new same. unchanged s c new same kept; len = known }

-- the fault of a body is that of the file
pub bodies_refused : (s : SourceParts) (refused : Refusal) → Refuses refused (bodies_check s.items) → Refuses refused (file_check s)
bodies_refused s refusals.Memory h = tt
bodies_refused s (refusals.Fault fault) h = body_fault_reported s fault h
