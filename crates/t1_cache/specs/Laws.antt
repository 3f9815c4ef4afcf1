-- Why it is enough to judge the stale glyphs.
use Rattle.std.specs.Prelude.{◌≡◌, ◌&&◌, ℕ, Bool, true, false, Option, Some, List, [], ◌∷◌, ◌++◌, filter, length, Result, Ok}
use Rattle.std.specs.List.{AllByRecursion, list_any}
use Rattle.std.specs.Str.{bytes_eq}
use Rattle.t1_parts.specs.declared.item.Item.{Item}
use Rattle.t1_parts.specs.declared.item.Item.TheVariants as items
use Rattle.t1_parts.specs.Counts.{raised}
use Rattle.t1_run.specs.Footprint.{Includes}
use Rattle.t1_frac.specs.declared.fault.Code.{Code}
use Rattle.t1_frac.specs.declared.fault.Fault.{Fault}
use Rattle.t1_frac.specs.Outcome.{◌>>=◌}
use Rattle.t1_source.specs.declared.edit.Edit.{Edit}
use Rattle.t1_pairs.specs.declared.pairs.Pair.{Pair}
use Rattle.t1_source.specs.Editing.{edited}
use Rattle.t1_source.specs.WellFormed.{IsWellFormed}
use Rattle.t1_parts.specs.SourceParts.{SourceParts}
use Rattle.t1_run.specs.Run.{Key, Subr, Glyph, Drawing, own}
use Rattle.t1_run.specs.Composite.{outline_within, outline}
use Rattle.t1_code.specs.declared.command.Command.{Command}
use Rattle.t1_font.specs.Bodies.{bodies}
use Rattle.t1_font.specs.Glyphs.{Glyph as Reported, glyphs, glyph_names}
use Rattle.t1_cache.specs.Edited.{IsEditedAt, names_after, is_stale, stale}
use Rattle.t1_cache.specs.EditKeys.{named}

-- word: whether glyphs have no fault, or their first one
abbrev pub fault_check : {X : Type 0} → Result X Fault → Result (Unit {0}) Fault
fault_check r = r >>= λ _. Ok tt

-- word: the first fault of the glyphs of an edited source is that of its stale glyphs
abbrev pub FirstFaultLaw : Type 0
FirstFaultLaw =
    (keys : List Key) (old new : SourceParts) (was : List Reported) → IsEditedAt keys old new → glyphs (bodies old.items) (glyph_names old.items) ≡ Ok was
    → fault_check (glyphs (bodies new.items) (glyph_names new.items)) ≡ fault_check (glyphs (bodies new.items) (stale old keys new))

-- word: an entry's key is among these
abbrev pub IsKeyAmong : List Key → Item → Type 0
IsKeyAmong keys (items.Subr n words closing) = Includes keys (Subr n)
IsKeyAmong keys (items.Glyph g words closing) = Includes keys (Glyph g)
IsKeyAmong keys (items.Plain line) = Unit {0}
IsKeyAmong keys (items.Section before n after) = Unit {0}

-- word: entries of these keys in the place of others of these keys, with the counts raised, edit a source at the keys
abbrev pub MiddleLaw : Type 0
MiddleLaw =
    (keys : List Key) (old new : SourceParts) (a xs ys b : List Item) → AllByRecursion (IsKeyAmong keys) xs → AllByRecursion (IsKeyAmong keys) ys
    → old.items ≡ a ++ (xs ++ b) → new.items ≡ raised (a ++ (ys ++ b)) → IsEditedAt keys old new

-- word: each of the eleven edits changes a source at the key that it names, and nowhere else
abbrev pub EditLaw : Type 0
EditLaw = (s : SourceParts) (k : List Pair) (edit : Edit) (made : SourceParts) (ps : List Pair) → edited s k edit ≡ Ok (made, ps) → IsEditedAt (named edit) s made

-- word: each edit leaves the names of the glyphs in their order, with a new one after them, or without one
abbrev pub NamesLaw : Type 0
NamesLaw =
    (s : SourceParts) (k : List Pair) (edit : Edit) (made : SourceParts) (ps : List Pair) → IsWellFormed s → edited s k edit ≡ Ok (made, ps)
    → glyph_names made.items ≡ names_after edit (glyph_names s.items)

-- word: edits taken in turn edit a source at the keys of all
abbrev pub TurnLaw : Type 0
TurnLaw = (ks ls : List Key) (a b c : SourceParts) → IsEditedAt ks a b → IsEditedAt ls b c → IsEditedAt (ks ++ ls) a c

-- word: each name stands there once
abbrev pub AreDistinct : List (List ℕ) → Type 0
AreDistinct [] = Unit {0}
AreDistinct (g ∷ names) = (list_any (bytes_eq g) names ≡ false) × AreDistinct names

-- word: no two glyphs of a source that was read or edited bear the same name
abbrev pub DistinctLaw : Type 0
DistinctLaw = (s : SourceParts) → IsWellFormed s → AreDistinct (glyph_names s.items)

-- word: names that were found, each once, are as many as the glyphs that pass, where they are these glyphs
abbrev pub CountLaw : Type 0
CountLaw =
    (names found : List (List ℕ)) (p : List ℕ → Bool) → AreDistinct names → AreDistinct found
    → ((g : List ℕ) → list_any (bytes_eq g) found ≡ (list_any (bytes_eq g) names && p g)) → length found ≡ length (filter p names)

-- word: where each glyph of the edited font has its run, made again where it is stale and kept where it isn't, the
-- outlines by these runs are those of the edited font
abbrev pub NewestLaw : Type 0
NewestLaw =
    (keys : List Key) (old new : SourceParts) (was : List Reported) → IsEditedAt keys old new → glyphs (bodies old.items) (glyph_names old.items) ≡ Ok was
    → (run : List ℕ → Option (Result Drawing Code))
    → ((g : List ℕ) (body : List Command) → (bodies new.items).glyphs g ≡ Some body → is_stale old keys g ≡ true → run g ≡ own (bodies new.items) g)
    → ((g : List ℕ) (body : List Command) → (bodies new.items).glyphs g ≡ Some body → is_stale old keys g ≡ false → run g ≡ own (bodies old.items) g)
    → (g : List ℕ) (body : List Command) → (bodies new.items).glyphs g ≡ Some body
    → (run g ≡ own (bodies new.items) g) × (outline_within run 4 g ≡ outline (bodies new.items) g)
