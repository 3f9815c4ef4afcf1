-- The keys of the entries that edits name.
use Rattle.std.specs.Prelude.{ℤ, pos, negsuc, List, [], ◌∷◌}
use Rattle.t1_source.specs.declared.edit.Edit.{Edit}
use Rattle.t1_source.specs.declared.edit.Edit.TheVariants.{ReplaceGlyph, AddGlyph, RemoveGlyph, ReplaceSubr, AddSubr, RemoveSubr, Encode, Unencode, LenIv, Kern, Unkern}
use Rattle.t1_run.specs.Run.{Key, Subr, Glyph}

-- profile: the key of a Subr, which no negative number has
abbrev pub subr_key : ℤ → List Key
subr_key (pos n) = Subr n ∷ []
subr_key (negsuc n) = []

-- profile: what an edit replaces, adds or removes; nothing where it edits slots, lenIV or pairs alone
abbrev pub named : Edit → List Key
named (ReplaceGlyph g body) = Glyph g ∷ []
named (AddGlyph g body) = Glyph g ∷ []
named (RemoveGlyph g) = Glyph g ∷ []
named (ReplaceSubr n body) = subr_key n
named (AddSubr n body) = subr_key n
named (RemoveSubr n) = subr_key n
named (Encode code g) = []
named (Unencode code) = []
named (LenIv n) = []
named (Kern left right value) = []
named (Unkern left right) = []
