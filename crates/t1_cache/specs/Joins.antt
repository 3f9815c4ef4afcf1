-- Which glyphs keep their run, and the users of a font after edits.
use Rattle.std.specs.Prelude.{◌≡◌, ◌&&◌, ◌||◌, not, ℕ, Bool, true, false, List, Ok, None, Some}
use Rattle.t1_code.specs.declared.command.Command.{Command}
use Rattle.t1_run.specs.declared.outline.Segment.{Segment}
use Rattle.t1_run.specs.Run.{FontBodies, Key, own}
use Rattle.t1_run.specs.RunKeys.{body_at, key_eq}
use Rattle.t1_run.specs.Composite.{outline}
use Rattle.t1_run.specs.Touched.{SameBut, is_touched, is_user, AreStale}
use Rattle.t1_parts.specs.SourceParts.{SourceParts}
use Rattle.t1_font.specs.Bodies.{bodies}
use Rattle.t1_font.specs.Glyphs.{Glyph as Reported}
use Rattle.t1_font.specs.SourceChecks.{source_glyphs}
use Rattle.t1_cache.specs.declared.records.Records.{Records}
use Rattle.t1_cache.specs.Tables.{AreTables}
use Rattle.t1_cache.specs.Users.{lists, has_pair, Pairs}

-- word: each glyph that is there draws
abbrev pub AllDraw : FontBodies → Type 0
AllDraw m = (g : List ℕ) (body : List Command) → m.glyphs g ≡ Some body → (o : List Segment) × (outline m g ≡ Ok o)

-- word: of a source without a fault, each glyph that is there draws
abbrev pub AllDrawLaw : Type 0
AllDrawLaw = (s : SourceParts) (reported : List Reported) → source_glyphs s ≡ Ok reported → AllDraw (bodies s.items)

-- word: of a font without a fault, a glyph that isn't stale has the same own run in the edited font, or none in both
abbrev pub KeptRunLaw : Type 0
KeptRunLaw =
    (keys : List Key) (m n : FontBodies) → SameBut keys m n → AllDraw m → (names : List ℕ → Bool) → AreStale m keys names
    → (g : List ℕ) → names g ≡ false → own n g ≡ own m g

-- word: of a font without a fault, the glyphs of the edited font that were found are those that the edits touch
abbrev pub StaleFoundLaw : Type 0
StaleFoundLaw =
    (keys : List Key) (m n : FontBodies) → SameBut keys m n → AllDraw m → (names : List ℕ → Bool) → AreStale m keys names
    → (g : List ℕ) (body : List Command) → n.glyphs g ≡ Some body → names g ≡ is_touched m keys g

-- word: each stale glyph leaves what its old run used
abbrev pub AreLeaves : FontBodies → (List ℕ → Bool) → Pairs → Type 0
AreLeaves m names leaves = (k : Key) (g : List ℕ) → has_pair leaves k g ≡ (names g && is_user k (own m g))

-- word: tables that stale glyphs left by their old runs, and joined by their new ones, are those of the edited font
abbrev pub JoinsLaw : Type 0
JoinsLaw =
    (keys : List Key) (m n : FontBodies) → SameBut keys m n → AllDraw m → (names : List ℕ → Bool) → AreStale m keys names
    → (old new : Records) (leaves joins : Pairs) → AreTables m old → AreLeaves m names leaves → AreLeaves n names joins
    → ((k : Key) (g : List ℕ) → lists new k g ≡ ((lists old k g && not (has_pair leaves k g)) || has_pair joins k g))
    → AreTables n new

-- word: tables without users that all glyphs joined by their runs are those of the font
abbrev pub FirstTablesLaw : Type 0
FirstTablesLaw =
    (m : FontBodies) (names : List ℕ → Bool) → ((g : List ℕ) (body : List Command) → m.glyphs g ≡ Some body → names g ≡ true)
    → (old new : Records) (leaves joins : Pairs) → ((k : Key) (g : List ℕ) → lists old k g ≡ false) → AreLeaves m names joins
    → ((k : Key) (g : List ℕ) → lists new k g ≡ ((lists old k g && not (has_pair leaves k g)) || has_pair joins k g))
    → AreTables m new

-- word: tables of a font stay so without the users of what the font doesn't have
abbrev pub LessTablesLaw : Type 0
LessTablesLaw =
    (m : FontBodies) (key : Key) → body_at m key ≡ None → (old new : Records) → AreTables m old
    → ((k : Key) (g : List ℕ) → lists new k g ≡ (lists old k g && not (key_eq k key))) → AreTables m new
