-- Glyphs that are compiled, run and measured one after another, so that no body of a glyph is stored.
use Rattle.std.specs.Prelude.{◌≡◌, true, false, ◌&&◌, ◌||◌, ℕ, Bool, List, [], ◌∷◌, Option, None, Some, Result, Ok, Err, is_some, if◌then◌else◌, ◌++◌}
use Rattle.std.specs.List.{list_any}
use Rattle.std.specs.Str.{bytes_eq}
use Rattle.t1_frac.specs.declared.fault.Code.{Code}
use Rattle.t1_parts.specs.declared.item.Item.{Item}
use Rattle.t1_parts.specs.declared.item.Item.TheVariants as items
use Rattle.t1_code.specs.Encoding.{is_standard_name}
use Rattle.t1_code.specs.Words.{commands}
use Rattle.t1_run.specs.Run.{FontBodies, Drawing, font, own}
use Rattle.t1_font.specs.declared.source_bodies.SourceBodies.{SourceBodies}
use Rattle.t1_font.specs.declared.in_turn.Row.{Row}
use Rattle.t1_font.specs.declared.in_turn.Row.TheVariants as rows
use Rattle.t1_font.specs.Glyphs.{glyph_names}
use Rattle.t1_font.specs.ToRun.{commands_or_none, font_to_run, glyph_to_run}
use Rattle.t1_font.specs.StoredSubrs.{subr_stored}
use Rattle.t1_run.specs.declared.outline.Composite.{Composite}
use Rattle.t1_run.specs.Composite.{HasStandardParts}
use Rattle.t1_font.specs.MeasuredGlyphs.{glyph_metrics_at}
use Rattle.t1_font.specs.Runs.{NamedRun, drawing_in}
use Rattle.t1_source.specs.Editing.{is_subr_entry}

-- word: what a run asks for: the Subrs that are compiled so far, and the glyphs of the items
abbrev pub source_font : SourceBodies → FontBodies
source_font source = font (subr_stored source.subrs.now) (glyph_to_run source.items.now)

-- ---- what stays of a run

-- word: the run ended with parts
abbrev pub is_composite : Option (Result Drawing Code) → Bool
is_composite (Some (Ok drawing)) = is_some drawing.composite
is_composite _ = false

-- word: a run stays where its glyph may be a part of a composite, or is one
abbrev pub may_be_part : List ℕ → Option (Result Drawing Code) → Bool
may_be_part g run = is_standard_name g || is_composite run

-- word: the runs that stay among those of some glyphs
abbrev pub staying : (List ℕ → Option (Result Drawing Code)) → List (List ℕ) → List ℕ → Option (Result Drawing Code)
staying run names g = if list_any (bytes_eq g) names && may_be_part g (run g) then run g else None

-- word: what is reported of a glyph at its turn: its metrics, its fault, or that it is measured later, by its run, which stays
abbrev pub IsRow : (List ℕ → Option (Result Drawing Code)) → List ℕ → Row → Type 0
IsRow run name (rows.Measured glyph) = glyph_metrics_at run name ≡ Ok glyph
IsRow run name (rows.Waiting waiting) = (waiting.now ≡ name) × (may_be_part name (run name) ≡ true)
IsRow run name (rows.Faulty faulty code) = (faulty.now ≡ name) × (glyph_metrics_at run name ≡ Err code)

-- word: the same of these glyphs, in their order
abbrev pub AreRows : (List ℕ → Option (Result Drawing Code)) → List (List ℕ) → List Row → Type 0
AreRows run [] [] = Unit {0}
AreRows run (name ∷ names) (row ∷ rows) = IsRow run name row × AreRows run names rows
AreRows run [] (row ∷ rows) = ⊥
AreRows run (name ∷ names) [] = ⊥

-- word: what was made of items: what is reported of each glyph at its turn, and the runs that stay
pub record AreTurnsOf (items : List Item) (reported : List Row) (kept : List NamedRun) : Type 0 where
  pub rows : AreRows (own (font_to_run items)) (glyph_names items) reported
  pub runs : (g : List ℕ) → drawing_in kept g ≡ staying (own (font_to_run items)) (glyph_names items) g

-- word: the run of an item that is a glyph is its own run in this font; nothing is said of another item
abbrev pub RunsAs : Item → (List ℕ → Option (Result Drawing Code)) → FontBodies → Type 0
RunsAs (items.Glyph name words closing) run m = run name ≡ own m name
RunsAs _ run m = Unit {0}

-- word: what is run of a glyph's words is the body of the first glyph of its name
abbrev pub IsFirstOfName : List Item → Item → Type 0
IsFirstOfName all (items.Glyph name words closing) = glyph_to_run all name ≡ Some (commands_or_none (commands words))
IsFirstOfName all _ = Unit {0}

-- word: the parts of all composites have names of StandardEncoding
abbrev pub HaveStandardParts : (List ℕ → Option (Result Drawing Code)) → Type 0
HaveStandardParts run = (g : List ℕ) (d : Drawing) (c : Composite) → run g ≡ Some (Ok d) → d.composite ≡ Some c → HasStandardParts c

-- word: the runs that stay are there, the parts of composites have names of StandardEncoding, and no other glyph was run
pub record RunsStay (run : List ℕ → Option (Result Drawing Code)) (names : List (List ℕ)) (runs : List NamedRun) : Type 0 where
  pub kept : (g : List ℕ) → drawing_in runs g ≡ staying run names g
  pub parts : HaveStandardParts run
  pub absent : (g : List ℕ) → list_any (bytes_eq g) names ≡ false → run g ≡ None

-- word: no Subr stands after a glyph
abbrev pub SubrsStandFirst : List Item → Type 0
SubrsStandFirst all = (a b : List Item) (g : List ℕ) (words : List (List ℕ)) (closing : List ℕ) → all ≡ a ++ items.Glyph g words closing ∷ b → list_any is_subr_entry b ≡ false
