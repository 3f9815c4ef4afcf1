-- Names closed through the tables are the stale ones.
use Rattle.std.proofs.Common.{◌≡◌, ℕ, Bool, List, [], ◌∷◌, map, refl, sym, ap, ◌∙◌}
use Rattle.std.specs.Prelude.{◌||◌}
use Rattle.std.specs.List.{list_any}
use Rattle.t1_run.specs.Run.{FontBodies, Glyph}
use Rattle.t1_run.specs.Touched.{is_key_of, is_met, Found as FoundAmong, Seed as SeedAmong, User as UserAmong, AreStale}
use Rattle.t1_font.specs.declared.owned_key.OwnedKey.{OwnedKey}
use Rattle.t1_cache.specs.declared.records.Records.{Records}
use Rattle.t1_cache.specs.Found.{Reached, Seed, User, Closes}
use Rattle.t1_cache.specs.Tables.{is_seed, AreTables}
use Rattle.t1_cache.specs.Users.{among, glyph_users}
use Rattle.t1_font.specs.OwnedKeys.{key_of}

module _ (m : FontBodies) (records : Records) (tables : AreTables m records) where
  seeds-met : (g : List ℕ) (edits : List OwnedKey) → list_any (is_seed records g) edits ≡ list_any (is_met m g) (map key_of edits)
  seeds-met g [] = refl
  seeds-met g (edit ∷ edits) =
      ap (λ b. (is_key_of g (key_of edit) || b) || list_any (is_seed records g) edits) (tables (key_of edit) g)
      ∙ ap (λ b. is_met m g (key_of edit) || b) (seeds-met g edits)

  module _ (edits : List OwnedKey) (seed : List ℕ → Bool) (seeds : (g : List ℕ) → seed g ≡ list_any (is_seed records g) edits) where
    met : (g : List ℕ) → seed g ≡ list_any (is_met m g) (map key_of edits)
    met g = seeds g ∙ seeds-met g edits

    found-there : (g : List ℕ) → Reached seed (λ p. among (glyph_users records.glyphs.entries p)) g → FoundAmong m (map key_of edits) g
    found-there g (Seed _ h) = SeedAmong g (sym (met g) ∙ h)
    found-there g (User p _ r h) = UserAmong p g (found-there p r) (sym (tables (Glyph p) g) ∙ h)

    pub stale-closed : (names : List ℕ → Bool) → Closes seed (λ p. among (glyph_users records.glyphs.entries p)) names → AreStale m (map key_of edits) names
    stale-closed names closes = record {
      closed = record {
        seeds = λ g h. closes.seeds g (met g ∙ h);
        users = λ p u there h. closes.users p u there (tables (Glyph p) u ∙ h);
      };
      found = λ g h. found-there g (closes.reached g h);
    }
