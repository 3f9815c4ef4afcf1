-- Who uses the Subrs and glyphs of a session, as contracts see it.
use Rattle.std.specs.Prelude.{◌≡◌, ℕ, Bool, false, nat_eq, List, Option, Some, None, map}
use Rattle.std.specs.List.{list_any}
use Rattle.std.specs.Map.{lookup}
use Rattle.std.specs.Str.{bytes_eq}
use Rattle.std.specs.declared.alloc.Global.{Global}
use Rattle.std.specs.declared.vec.Vec.{Vec}
use Rattle.t1_parts.specs.SourceParts.{SourceParts}
use Rattle.t1_run.specs.Run.{Key, Subr, Glyph, own}
use Rattle.t1_run.specs.Touched.{is_user}
use Rattle.t1_font.specs.Bodies.{bodies}
use Rattle.t1_cache.specs.declared.records.GlyphRecord.{GlyphRecord}
use Rattle.t1_cache.specs.declared.records.Records.{Records}
use Rattle.t1_cache.specs.declared.records.SubrRecord.{SubrRecord}

-- profile: the names of the users of each Subr, by its number, and of each glyph, by its name
pub record UserTable : Type 0 where
  pub subrs : List (ℕ × List (List ℕ))
  pub glyphs : List (List ℕ × List (List ℕ))

-- profile: the names that a record lists
abbrev pub names_listed : List (Vec ℕ Global) → List (List ℕ)
names_listed names = map (λ name. name.items) names

-- profile: the table that records keep
abbrev pub user_table : Records → UserTable
user_table r = record {
  subrs = map (λ (e : ℕ × SubrRecord). (e.0, names_listed e.1.users.keys)) r.subrs.entries;
  glyphs = map (λ (e : Vec ℕ Global × GlyphRecord). (e.0.items, names_listed e.1.users.keys)) r.glyphs.entries;
}

-- profile: the row of a Subr or a glyph, where it has one
abbrev pub users_row : UserTable → Key → Option (List (List ℕ))
users_row table (Subr n) = lookup (nat_eq n) table.subrs
users_row table (Glyph g) = lookup (bytes_eq g) table.glyphs

-- profile: a glyph is among these users; none is, where there is no row
abbrev pub is_among_users : Option (List (List ℕ)) → List ℕ → Bool
is_among_users None user = false
is_among_users (Some users) user = list_any (bytes_eq user) users

-- profile: the users of a Subr are exactly the glyphs whose own run from scratch enters it, and those of a glyph the
-- glyphs whose own run stands on it
abbrev pub AreUsers : SourceParts → UserTable → Type 0
AreUsers s table = (k : Key) (g : List ℕ) → is_among_users (users_row table k) g ≡ is_user k (own (bodies s.items) g)
