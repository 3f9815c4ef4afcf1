-- Which glyphs edits of a font touch, by the Subrs and glyphs that they name.
use Rattle.std.specs.Prelude.{◌≡◌, ℕ, zero, suc, Bool, true, false, ◌||◌, List, Option, Some, None, Result, Ok, Err}
use Rattle.std.specs.List.{list_any}
use Rattle.std.specs.Str.{bytes_eq}
use Rattle.t1_frac.specs.declared.fault.Code.{Code}
use Rattle.t1_run.specs.declared.outline.Composite.{Composite}
use Rattle.t1_run.specs.declared.outline.Segment.{Segment}
use Rattle.t1_run.specs.Run.{FontBodies, Key, Subr, Glyph, Drawing, own}
use Rattle.t1_run.specs.Composite.{outline}
use Rattle.t1_run.specs.Footprint.{Includes, SameAt, uses, asks}

-- profile: outside these keys both fonts have the same bodies
pub record SameBut (keys : List Key) (m n : FontBodies) : Type 0 where
  pub same : (k : Key) → (Includes keys k → ⊥) → SameAt m n k

-- profile: the key is that of the glyph
abbrev pub is_key_of : List ℕ → Key → Bool
is_key_of g (Subr n) = false
is_key_of g (Glyph h) = bytes_eq g h

-- profile: the glyph is among the keys
abbrev pub is_named : List Key → List ℕ → Bool
is_named keys g = list_any (is_key_of g) keys

-- profile: the glyph is named, or its own run used a key; a glyph that was not there is named where it is added
abbrev pub meets_run : List Key → List ℕ → Option (Result Drawing Code) → Bool
meets_run keys g None = is_named keys g
meets_run keys g (Some (Err code)) = true
meets_run keys g (Some (Ok d)) = list_any (uses g d) keys

-- profile: the base or the accent of a composite passes the test
abbrev pub meets_part : (List ℕ → Bool) → Option Composite → Bool
meets_part p None = false
meets_part p (Some c) = p c.base || p c.accent

-- profile: so does a part of what a run draws
abbrev pub meets_parts : (List ℕ → Bool) → Option (Result Drawing Code) → Bool
meets_parts p None = false
meets_parts p (Some (Err code)) = false
meets_parts p (Some (Ok d)) = meets_part p d.composite

-- profile: the glyph is named, or its own run used a key, or a part of it did, where parts nest so deep
abbrev pub touched_within : ℕ → FontBodies → List Key → List ℕ → Bool
touched_within zero m keys g = meets_run keys g (own m g)
touched_within (suc depth) m keys g = meets_run keys g (own m g) || meets_parts (touched_within depth m keys) (own m g)

-- profile: the glyphs that edits at these keys touch: those that they name; those whose own run entered a Subr that they
-- name; the composites on any of these, four deep
unfoldable pub is_touched : FontBodies → List Key → List ℕ → Bool
is_touched m keys g = touched_within 4 m keys g

-- profile: a glyph that draws and isn't touched has the same run and draws the same in the edited font
abbrev pub UntouchedLaw : Type 0
UntouchedLaw =
    (keys : List Key) (m n : FontBodies) → SameBut keys m n → (g : List ℕ) (o : List Segment) → outline m g ≡ Ok o → is_touched m keys g ≡ false
    → (own n g ≡ own m g) × (outline n g ≡ outline m g)

-- ---- by the tables of users

-- profile: a run without a fault entered the Subr, or stands on the glyph
abbrev pub is_user : Key → Option (Result Drawing Code) → Bool
is_user key None = false
is_user key (Some (Err code)) = false
is_user key (Some (Ok d)) = asks d.composite d.entered key

-- profile: the key is the glyph, or the glyph is a user of it
abbrev pub is_met : FontBodies → List ℕ → Key → Bool
is_met m g key = is_key_of g key || is_user key (own m g)

-- profile: names that are closed: those of glyphs that use a key, and of the composites on any of them
pub record IsClosed (m : FontBodies) (keys : List Key) (has : List ℕ → Bool) : Type 0 where
  pub seeds : (g : List ℕ) → list_any (is_met m g) keys ≡ true → has g ≡ true
  pub users : (p u : List ℕ) → has p ≡ true → is_user (Glyph p) (own m u) ≡ true → has u ≡ true

-- profile: names that were found through the tables of users alone: each is a seed or a composite on another
pub data Found (m : FontBodies) (keys : List Key) : List ℕ → Type 0 where
  Seed : (g : List ℕ) → list_any (is_met m g) keys ≡ true → Found m keys g
  User : (p u : List ℕ) → Found m keys p → is_user (Glyph p) (own m u) ≡ true → Found m keys u

-- profile: the names are the stale ones: closed, and each found
pub record AreStale (m : FontBodies) (keys : List Key) (names : List ℕ → Bool) : Type 0 where
  pub closed : IsClosed m keys names
  pub found : (g : List ℕ) → names g ≡ true → Found m keys g

-- profile: of the glyphs that draw, those that are found by users are those that are touched
abbrev pub FoundByUsersLaw : Type 0
FoundByUsersLaw =
    (m : FontBodies) (keys : List Key) (has : List ℕ → Bool) → IsClosed m keys has → ((g : List ℕ) → has g ≡ true → Found m keys g)
    → (g : List ℕ) (o : List Segment) → outline m g ≡ Ok o → has g ≡ is_touched m keys g
