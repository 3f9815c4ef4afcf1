-- What the prints of a session show.
use Rattle.std.specs.Prelude.{ℕ, List, Result, Ok}
use Rattle.t1_frac.specs.declared.fault.Fault.{Fault}
use Rattle.t1_pairs.specs.Kerning.{kern}
use Rattle.t1_parts.specs.Printing.{text}
use Rattle.t1_commands.specs.declared.print.Print.{Print}
use Rattle.t1_commands.specs.declared.print.Print.TheVariants as prints
use Rattle.t1_session.specs.FromScratch.{blocks_from_scratch, metrics_from_scratch, pfa_from_scratch, pfb_from_scratch, uses_from_scratch}
use Rattle.t1_session.specs.State.{SessionState}

-- word: the text that a print shows, in blocks of this size where it is in blocks
abbrev pub shown_file : SessionState → ℕ → Print → Result (List ℕ) Fault
shown_file s size prints.Source = Ok (text s.source)
shown_file s size prints.Kern = Ok (kern s.pairs)
shown_file s size prints.Pfb = pfb_from_scratch s
shown_file s size (prints.Blocks number) = blocks_from_scratch size s
shown_file s size prints.Pfa = pfa_from_scratch s
shown_file s size prints.Afm = metrics_from_scratch s
shown_file s size prints.Uses = uses_from_scratch s
