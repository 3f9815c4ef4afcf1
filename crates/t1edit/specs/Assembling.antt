-- The form of an assembled file.
use Rattle.std.specs.Prelude.{ℕ, Bool, true, false, List, Option, Some, None, Result, Ok, Err}
use Rattle.t1_frac.specs.declared.fault.Fault.{Fault}
use Rattle.t1_code.specs.Pfb.{whole_file}
use Rattle.t1_commands.specs.Blocks.{block_size}
use Rattle.t1_commands.specs.Commands.{number_of}
use Rattle.t1_session.specs.Files.{assembled, assembled_pfa}
use Rattle.t1edit.specs.declared.source_file.OutputForm.{OutputForm}
use Rattle.t1edit.specs.declared.source_file.OutputForm.TheVariants.{Pfb, Blocks, Pfa}
use Rattle.t1edit.specs.declared.status.Misuse.TheVariants.{BlockLength}
use Rattle.t1edit.specs.declared.status.Stop.{Stop}
use Rattle.t1edit.specs.declared.status.Stop.TheVariants.{Misused}

-- profile: the PFB file in blocks of this size, where there can be such
abbrev pub blocks_form : Option ℕ → Result OutputForm Stop
blocks_form (Some size) = Ok (Blocks size)
blocks_form None = Err (Misused BlockLength)

-- profile: the form that the options --pfa and --block N ask for
abbrev pub form : Bool → Option (List ℕ) → Result OutputForm Stop
form true block = Ok Pfa
form false None = Ok Pfb
form false (Some word) = blocks_form (block_size (number_of word))

-- profile: the file of the bytes of a source in a form, or the first fault
abbrev pub file_in_form : OutputForm → List ℕ → Result (List ℕ) Fault
file_in_form Pfb source = assembled whole_file source
file_in_form (Blocks size) source = assembled size source
file_in_form Pfa source = assembled_pfa source
