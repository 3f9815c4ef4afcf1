use Rattle.std.proofs.Common.{rules}
use Rattle.t1_source.specs.Editing.{edited}
use Rattle.t1_source.proofs.source.Source.found_change.Goals as goal

pub returns-in-ReplaceGlyph-clause-change : goal.returns-in-ReplaceGlyph-clause-change
unfolding edited
returns-in-ReplaceGlyph-clause-change c = search rules

pub returns-in-ReplaceGlyph-clause-fits : goal.returns-in-ReplaceGlyph-clause-fits
returns-in-ReplaceGlyph-clause-fits c = c.replacing_glyph.ensures.fits c.args.pairs.now

pub returns-in-AddGlyph-clause-change : goal.returns-in-AddGlyph-clause-change
unfolding edited
returns-in-AddGlyph-clause-change c = search rules

pub returns-in-AddGlyph-clause-fits : goal.returns-in-AddGlyph-clause-fits
returns-in-AddGlyph-clause-fits c = c.adding_glyph.ensures.fits c.args.pairs.now

pub returns-in-RemoveGlyph-clause-change : goal.returns-in-RemoveGlyph-clause-change
unfolding edited
returns-in-RemoveGlyph-clause-change c = search rules

pub returns-in-RemoveGlyph-clause-fits : goal.returns-in-RemoveGlyph-clause-fits
returns-in-RemoveGlyph-clause-fits c = c.removing_glyph.ensures.fits c.args.pairs.now

pub returns-in-ReplaceSubr-clause-change : goal.returns-in-ReplaceSubr-clause-change
unfolding edited
returns-in-ReplaceSubr-clause-change c = search rules

pub returns-in-ReplaceSubr-clause-fits : goal.returns-in-ReplaceSubr-clause-fits
returns-in-ReplaceSubr-clause-fits c = c.replacing_subr.ensures.fits c.args.pairs.now

pub returns-in-AddSubr-clause-change : goal.returns-in-AddSubr-clause-change
unfolding edited
returns-in-AddSubr-clause-change c = search rules

pub returns-in-AddSubr-clause-fits : goal.returns-in-AddSubr-clause-fits
returns-in-AddSubr-clause-fits c = c.adding_subr.ensures.fits c.args.pairs.now

pub returns-in-Encode-clause-change : goal.returns-in-Encode-clause-change
unfolding edited
returns-in-Encode-clause-change c = search rules

pub returns-in-Encode-clause-fits : goal.returns-in-Encode-clause-fits
returns-in-Encode-clause-fits c = c.encoding_code.ensures.fits c.args.pairs.now

pub returns-in-Unencode-clause-change : goal.returns-in-Unencode-clause-change
unfolding edited
returns-in-Unencode-clause-change c = search rules

pub returns-in-Unencode-clause-fits : goal.returns-in-Unencode-clause-fits
returns-in-Unencode-clause-fits c = c.unencoding_code.ensures.fits c.args.pairs.now

pub returns-in-LenIv-clause-change : goal.returns-in-LenIv-clause-change
unfolding edited
returns-in-LenIv-clause-change c = search rules

pub returns-in-LenIv-clause-fits : goal.returns-in-LenIv-clause-fits
returns-in-LenIv-clause-fits c = c.putting_lead.ensures.fits c.args.pairs.now

pub returns-in-Kern-clause-change : goal.returns-in-Kern-clause-change
unfolding edited
returns-in-Kern-clause-change c = search rules

pub returns-in-Kern-clause-fits : goal.returns-in-Kern-clause-fits
returns-in-Kern-clause-fits c = c.kerning_pair.ensures.fits c.args.self.now

pub returns-in-Unkern-clause-change : goal.returns-in-Unkern-clause-change
unfolding edited
returns-in-Unkern-clause-change c = search rules

pub returns-in-Unkern-clause-fits : goal.returns-in-Unkern-clause-fits
returns-in-Unkern-clause-fits c = c.unkerning_pair.ensures.fits c.args.self.now
