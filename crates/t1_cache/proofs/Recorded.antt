-- The runs of the records are those of the font.
use Rattle.std.proofs.Common.{◌≡◌, ℕ, Bool, true, false, cond, List, [], ◌∷◌, map, refl, sym, ◌∙◌, ap, Option, Some, None}
use Rattle.std.specs.Prelude.{Ok, ◌||◌}
use Rattle.std.specs.List.{AllByRecursion, list_any}
use Rattle.std.specs.Option.{option_map}
use Rattle.std.specs.Str.{bytes_eq}
use Rattle.std.specs.declared.alloc.Global.{Global}
use Rattle.std.specs.declared.vec.Vec.{Vec}
use Rattle.t1_code.specs.declared.command.Command.{Command}
use Rattle.t1_run.specs.Run.{FontBodies, own}
use Rattle.t1_font.specs.Bodies.{bodies}
use Rattle.t1_font.specs.Glyphs.{glyph_names}
use Rattle.t1_cache.specs.declared.records.GlyphRecord.{GlyphRecord}
use Rattle.t1_cache.specs.Kept.{RecordedLaw}
use Rattle.t1_cache.specs.Recorded.{IsFromScratch, kept_of}
use Rattle.t1_cache.specs.Renewed.{record_of}
use Rattle.t1_cache.proofs.NamesThere.{names_there}
use Rattle.t1_font.proofs.Lookups.{bytes_tell}
use Rattle.t1_font.proofs.Measuring.{own-none}
use Rattle.t1_cache.proofs.Renewing.{glyphs-of, names_kept, scratch-all}

recorded : (m : FontBodies) (g : List ℕ) (entries : List (Vec ℕ Global × GlyphRecord)) → AllByRecursion (IsFromScratch m) (map kept_of entries)
    → (list_any (bytes_eq g) (map (λ k. k.name) (map kept_of entries)) ≡ false → own m g ≡ None)
    → option_map (λ (r : GlyphRecord). Ok r.run.drawing) (record_of entries g) ≡ own m g
recorded m g [] all absent = sym (absent refl)
recorded m g (e ∷ entries) all absent = by (bytes_eq g e.0.items) refl (λ h. recorded m g entries all.1 h) where
  by : (b : Bool) → bytes_eq g e.0.items ≡ b
      → ((list_any (bytes_eq g) (map (λ k. k.name) (map kept_of entries)) ≡ false → own m g ≡ None) → option_map (λ (r : GlyphRecord). Ok r.run.drawing) (record_of entries g) ≡ own m g)
      → option_map (λ (r : GlyphRecord). Ok r.run.drawing) (cond b (Some e.1) (record_of entries g)) ≡ own m g
  by true on rest = sym (ap (own m) (bytes_tell.same g e.0.items on) ∙ all.0.run)
  by false off rest = rest (λ none. absent (ap (λ b. b || list_any (bytes_eq g) (map (λ k. k.name) (map kept_of entries))) off ∙ none))

pub runs_recorded : RecordedLaw
runs_recorded s records keeps g =
    recorded (bodies s.items) g records.glyphs.entries
    (scratch-all (bodies s.items) (glyph_names s.items) keeps.glyphs (map kept_of records.glyphs.entries) (glyphs-of s keeps.glyphs keeps.faultless) keeps.from_scratch)
    absent
  where
    by : (b : Option (List Command)) → (bodies s.items).glyphs g ≡ b → list_any (bytes_eq g) (glyph_names s.items) ≡ false → own (bodies s.items) g ≡ None
    by None e none = own-none (bodies s.items) g e
    by (Some body) e none = let never : true ≡ false = sym ((names_there s).named g body e) ∙ none in absurd (cc)

    absent : list_any (bytes_eq g) (map (λ k. k.name) (map kept_of records.glyphs.entries)) ≡ false → own (bodies s.items) g ≡ None
    absent none = by ((bodies s.items).glyphs g) refl (ap (list_any (bytes_eq g)) (sym (names_kept s (map kept_of records.glyphs.entries) keeps)) ∙ none)
