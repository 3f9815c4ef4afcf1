-- Notes as lines of text.
use Rattle.std.specs.Prelude.{ℕ, List, ◌++◌, codes, decimal, flat_map}
use Rattle.t1_notes.specs.declared.note.Note.{Note}
use Rattle.t1_notes.specs.declared.note.NoteKind.{NoteKind}
use Rattle.t1_notes.specs.declared.note.NoteKind.TheVariants.{ByteOrderMark, FirstLine, EncodedName, Count, PlainEntry, NoNotdef, NoEntry, AfterEnd, ValuesLeft, WideCoordinate, NegativeWidth, OpenPath, NoSuchGlyph, UnusedSubr, FontBox, WideGlyph}

-- profile, notes: the name of a kind
abbrev pub kind_name : NoteKind → List ℕ
kind_name ByteOrderMark = codes "byte-order-mark"
kind_name FirstLine = codes "first-line"
kind_name EncodedName = codes "encoded-name"
kind_name Count = codes "count"
kind_name PlainEntry = codes "plain-entry"
kind_name NoNotdef = codes "no-notdef"
kind_name NoEntry = codes "no-entry"
kind_name AfterEnd = codes "after-end"
kind_name ValuesLeft = codes "values-left"
kind_name WideCoordinate = codes "wide-coordinate"
kind_name NegativeWidth = codes "negative-width"
kind_name OpenPath = codes "open-path"
kind_name NoSuchGlyph = codes "no-such-glyph"
kind_name UnusedSubr = codes "unused-subr"
kind_name FontBox = codes "font-box"
kind_name WideGlyph = codes "wide-glyph"

-- profile, notes: what a kind says, in a few words
abbrev pub kind_text : NoteKind → List ℕ
kind_text ByteOrderMark = codes "a byte order mark, at which programs refuse the font"
kind_text FirstLine = codes "the text begins with neither %!PS-AdobeFont nor %!FontType1"
kind_text EncodedName = codes "the encoding names a glyph that isn't there"
kind_text Count = codes "the count is higher than the entries need"
kind_text PlainEntry = codes "a line that looks like an entry and opens none"
kind_text NoNotdef = codes "no glyph is called .notdef"
kind_text NoEntry = codes "a line that belongs to no glyph; a glyph begins with /NAME { on one line"
kind_text AfterEnd = codes "a glyph after the end of the glyphs, where no program looks for it"
kind_text ValuesLeft = codes "a command has more values in front of it than it takes"
kind_text WideCoordinate = codes "a command has a value past 16000, which old interpreters may not take"
kind_text NegativeWidth = codes "the width is below 0"
kind_text OpenPath = codes "a path isn't closed before a move or the end of the glyph"
kind_text NoSuchGlyph = codes "a pair names a glyph that isn't there"
kind_text UnusedSubr = codes "no glyph's run enters the Subr"
kind_text FontBox = codes "FontBBox isn't the box around the glyphs"
kind_text WideGlyph = codes "the glyph reaches past 16000, which old interpreters may not take"

-- profile, notes: where a note on a file of this name stands
abbrev pub note_place_text : List ℕ → Note → List ℕ
note_place_text file note = file ++ (codes ":" ++ (decimal note.line ++ (codes ":" ++ decimal note.column)))

-- profile, notes: a note on a file of this name, as a line
abbrev pub note_text : List ℕ → Note → List ℕ
note_text file note = note_place_text file note ++ (codes ": note " ++ (kind_name note.kind ++ (codes ": " ++ (kind_text note.kind ++ codes "\n"))))

-- profile, notes: notes on a file of this name, a line each
abbrev pub notes_text : List ℕ → List Note → List ℕ
notes_text file notes = flat_map (note_text file) notes
