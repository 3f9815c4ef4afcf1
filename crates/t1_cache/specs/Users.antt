-- The users of Subrs and glyphs, as their records list them.
use Rattle.std.specs.Prelude.{◌≡◌, ◌≤◌, ◌&&◌, ℕ, Bool, false, nat_eq, List, map, Option, Some, None}
use Rattle.std.specs.List.{list_any, count_by}
use Rattle.std.specs.Map.{lookup}
use Rattle.std.specs.Option.{option_map}
use Rattle.std.specs.Str.{bytes_eq}
use Rattle.std.specs.declared.alloc.Global.{Global}
use Rattle.std.specs.declared.vec.Vec.{Vec}
use Rattle.indexmap.specs.IndexSet.{IndexSet, spare}
use Rattle.t1_code.specs.declared.command.Command.{Command}
use Rattle.t1_run.specs.Run.{Key, Subr, Glyph}
use Rattle.t1_run.specs.RunKeys.{key_eq}
use Rattle.t1_extent.specs.Kept.{TracedRun}
use Rattle.t1_afm.specs.declared.bbox.BBox.{BBox}
use Rattle.t1_cache.specs.declared.records.GlyphRecord.{GlyphRecord}
use Rattle.t1_cache.specs.declared.records.SubrRecord.{SubrRecord}
use Rattle.t1_cache.specs.declared.records.Records.{Records}
use Rattle.t1_font.specs.declared.owned_key.OwnedKey.{OwnedKey}
use Rattle.t1_font.specs.OwnedKeys.{key_of}

-- word: a name is among these
abbrev pub is_name_among : {K : Type 0} → (K → List ℕ) → List K → List ℕ → Bool
is_name_among name ks g = list_any (λ k. bytes_eq g (name k)) ks

-- word: the names that a record lists, and how many more fit in with no allocation
pub record UserSet : Type 0 where
  pub names : List (Vec ℕ Global)
  pub room : ℕ

-- word: the names of a set, and its room
abbrev pub users_of : {S : Type 0} → IndexSet (Vec ℕ Global) S → UserSet
users_of s = record { names = s.keys; room = spare s }

-- word: the users of the Subr of this number
abbrev pub subr_users : List (ℕ × SubrRecord) → ℕ → Option UserSet
subr_users entries n = option_map (λ r. users_of r.users) (lookup (nat_eq n) entries)

-- word: the users of the glyph of this name
abbrev pub glyph_users : List (Vec ℕ Global × GlyphRecord) → List ℕ → Option UserSet
glyph_users entries g = option_map (λ r. users_of r.users) (lookup (λ key. bytes_eq g key.items) entries)

-- word: the users of a Subr or a glyph that has a record
abbrev pub users_at : Records → Key → Option UserSet
users_at r (Subr n) = subr_users r.subrs.entries n
users_at r (Glyph g) = glyph_users r.glyphs.entries g

-- word: a glyph is among these users; none is, where there is no record
abbrev pub among : Option UserSet → List ℕ → Bool
among None u = false
among (Some users) u = is_name_among (λ name. name.items) users.names u

-- word: the record of a Subr or a glyph lists a glyph as a user
abbrev pub lists : Records → Key → List ℕ → Bool
lists r key u = among (users_at r key) u

-- word: so many users more fit in with no allocation; none, where there is no record
abbrev pub HasUserRoom : ℕ → Option UserSet → Type 0
HasUserRoom count None = count ≡ 0
HasUserRoom count (Some users) = count ≤ users.room

-- ---- records without their users

-- word: the record of a Subr, its users aside
pub record SubrRest : Type 0 where
  pub number : ℕ
  pub body : List Command

-- word: the record of a glyph, its users aside
pub record GlyphRest : Type 0 where
  pub name : List ℕ
  pub body : List Command
  pub run : TracedRun
  pub bbox : Option BBox

-- word: all records, their users aside
pub record Rest : Type 0 where
  pub subrs : List SubrRest
  pub glyphs : List GlyphRest

-- word: an entry of the table of Subrs, its users aside
abbrev pub subr_rest : ℕ × SubrRecord → SubrRest
subr_rest e = record { number = e.0; body = e.1.body }

-- word: an entry of the table of glyphs, its users aside
abbrev pub glyph_rest : Vec ℕ Global × GlyphRecord → GlyphRest
glyph_rest e = record { name = e.0.items; body = e.1.body; run = e.1.run; bbox = e.1.bbox }

-- word: both tables, their users aside
abbrev pub rest_of : Records → Rest
rest_of r = record { subrs = map subr_rest r.subrs.entries; glyphs = map glyph_rest r.glyphs.entries }

-- ---- users that leave and join

-- word: the glyph of a key is among these names
abbrev pub is_key_among : List (Vec ℕ Global) → Key → Bool
is_key_among names (Subr n) = false
is_key_among names (Glyph g) = is_name_among (λ name. name.items) names g

-- word: Subrs and glyphs, each with a glyph that leaves or joins its users
abbrev pub Pairs : Type 0
Pairs = List (OwnedKey × Vec ℕ Global)

-- word: how many of these pairs are of this key
abbrev pub pairs_of_key : Pairs → Key → ℕ
pairs_of_key pairs k = count_by (λ p. key_eq k (key_of p.0)) pairs

-- word: whether one of these pairs is of this key and this glyph
abbrev pub has_pair : Pairs → Key → List ℕ → Bool
has_pair pairs k u = list_any (λ p. key_eq k (key_of p.0) && bytes_eq u p.1.items) pairs
