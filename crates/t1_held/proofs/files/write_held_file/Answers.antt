use Rattle.t1_held.proofs.HeldLaws.{held_well}
use Rattle.t1_held.proofs.files.write_held_file.Goals as goal

pub write_kept_file-requires-clause-well : goal.write_kept_file-requires-clause-well
write_kept_file-requires-clause-well g c = held_well c.args.source.now c.args.held.now c.requires.held c.text_of_source_read.ensures

pub write_kept_file-requires-clause-kept : goal.write_kept_file-requires-clause-kept
write_kept_file-requires-clause-kept g c = c.requires.held.encrypted
