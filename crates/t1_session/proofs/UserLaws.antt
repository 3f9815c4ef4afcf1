-- The table of users that contracts see, and that of the records.
use Rattle.std.proofs.Common.{◌≡◌, ◌∷◌, [], ◌∙◌, ap, refl, List, Option, None, Some, inl, inr, ℕ, map, nat_eq, option_map}
use Rattle.std.specs.List.{list_any}
use Rattle.std.specs.Map.{lookup}
use Rattle.std.specs.Str.{bytes_eq}
use Rattle.std.specs.declared.alloc.Global.{Global}
use Rattle.std.specs.declared.vec.Vec.{Vec}
use Rattle.std.proofs.lemmas.Bool.{cases_Bool}
use Rattle.std.proofs.lemmas.Map.Made.{lookup-map_values}
use Rattle.t1_parts.specs.SourceParts.{SourceParts}
use Rattle.t1_run.specs.Run.{Key, Subr, Glyph}
use Rattle.t1_cache.specs.Users.{UserSet, among, users_at as recorded_at, users_of}
use Rattle.t1_cache.specs.declared.records.GlyphRecord.{GlyphRecord}
use Rattle.t1_cache.specs.declared.records.Records.{Records}
use Rattle.t1_cache.specs.declared.records.SubrRecord.{SubrRecord}
use Rattle.t1_rerun.specs.Right.{IsRight}
use Rattle.t1_session.specs.Users.{AreUsers, is_among_users, names_listed, user_table, users_row}

-- the names of a set, as a row has them
row-has : (g : List ℕ) (names : List (Vec ℕ Global)) → list_any (bytes_eq g) (names_listed names) ≡ list_any (λ (k : Vec ℕ Global). bytes_eq g k.items) names
row-has g [] = refl
row-has g (name ∷ names) = rw (row-has g names) refl

row-among : (found : Option UserSet) (g : List ℕ) → is_among_users (option_map (λ (set : UserSet). names_listed set.names) found) g ≡ among found g
row-among None g = refl
row-among (Some set) g = row-has g set.names

-- the row of a glyph, by its name
glyph-row : (g : List ℕ) (entries : List (Vec ℕ Global × GlyphRecord))
    → lookup (bytes_eq g) (map (λ (e : Vec ℕ Global × GlyphRecord). (e.0.items, names_listed e.1.users.keys)) entries)
    ≡ option_map (λ (r : GlyphRecord). names_listed r.users.keys) (lookup (λ (key : Vec ℕ Global). bytes_eq g key.items) entries)
glyph-row g [] = refl
glyph-row g (e ∷ entries) =
    elim (cases_Bool (bytes_eq g e.0.items)) [
      | inl same ↦ rw same refl
      | inr other ↦ rw other (glyph-row g entries)
    ]

twice : {A B C : Type 0} (f : A → B) (h : B → C) (o : Option A) → option_map (λ a. h (f a)) o ≡ option_map h (option_map f o)
twice f h None = refl
twice f h (Some a) = refl

row-is : (records : Records) (k : Key) → users_row (user_table records) k ≡ option_map (λ (set : UserSet). names_listed set.names) (recorded_at records k)
row-is records (Subr n) =
    lookup-map_values (λ (r : SubrRecord). names_listed r.users.keys) (nat_eq n) records.subrs.entries
    ∙ twice (λ (r : SubrRecord). users_of r.users) (λ (set : UserSet). names_listed set.names) (lookup (nat_eq n) records.subrs.entries)
row-is records (Glyph g) =
    glyph-row g records.glyphs.entries
    ∙ twice (λ (r : GlyphRecord). users_of r.users) (λ (set : UserSet). names_listed set.names) (lookup (λ (key : Vec ℕ Global). bytes_eq g key.items) records.glyphs.entries)

pub users_right : (s : SourceParts) (records : Records) → IsRight s records → AreUsers s (user_table records)
users_right s records right k g =
    ap (λ (row : Option (List (List ℕ))). is_among_users row g) (row-is records k) ∙ row-among (recorded_at records k) g ∙ right.users k g
