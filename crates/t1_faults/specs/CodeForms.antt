-- Entries, keys and faults, as the code has them.
use Rattle.t1_text.specs.Lines.{lines}
use Rattle.t1_faults.specs.declared.entry_text.EntryText.{EntryText}
use Rattle.t1_faults.specs.Entries.{Entry}
use Rattle.t1_faults.specs.declared.opening.Opened.{Opened}
use Rattle.t1_run.specs.Run.{Key, Subr, Glyph}
use Rattle.t1_faults.specs.declared.opening.Opened.TheVariants as opened
use Rattle.std.specs.Prelude.{None, Some, Option, Result, Ok, Err}
use Rattle.t1_frac.specs.declared.fault.Fault.{Fault}

-- word, places: an entry by the bytes from which it is read
abbrev pub entry_in_text : EntryText → Entry
entry_in_text e = record { place = e.place; number = e.number; line = e.line.now; later = lines e.later.now }

-- word: the key that the code has found
abbrev pub key_found : Opened → Key
key_found (opened.Subr n) = Subr n
key_found (opened.Glyph g) = Glyph g.now

-- word, faults: the fault that a check finds, where it finds one
abbrev pub fault_in : Result (Unit {0}) Fault → Option Fault
fault_in (Ok sound) = None
fault_in (Err fault) = Some fault
