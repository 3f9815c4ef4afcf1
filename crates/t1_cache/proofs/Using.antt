-- What the runs of records use.
use Rattle.std.proofs.Common.{◌≡◌, ℕ, Bool, true, false, List, refl, sym, ap, ◌∙◌, Option, Some, None}
use Rattle.std.specs.Prelude.{Ok, ◌||◌, ◌&&◌}
use Rattle.std.specs.Option.{option_map}
use Rattle.std.specs.Str.{bytes_eq}
use Rattle.std.proofs.lemmas.Slice.Eq.{bytes_eq-Decides}
use Rattle.t1_run.specs.Footprint.{asks}
use Rattle.t1_run.specs.Run.{Key}
use Rattle.t1_run.specs.Touched.{is_user}
use Rattle.t1_cache.specs.declared.records.GlyphRecord.{GlyphRecord}
use Rattle.t1_cache.specs.declared.records.Records.{Records}
use Rattle.t1_cache.specs.Renewed.{record_of, recorded_run}

-- a glyph without a record uses nothing
pub none-used : (records : Records) (k : Key) (u name : List ℕ) → None ≡ record_of records.glyphs.entries name → bytes_eq u name ≡ true
    → is_user k (recorded_run records u) ≡ false
none-used records k u name h e =
    ap (λ g. is_user k (recorded_run records g)) ((bytes_eq-Decides u name).0 e)
    ∙ ap (λ (r : Option GlyphRecord). is_user k (option_map (λ x. Ok x.run.drawing) r)) (sym h)

-- a glyph with a record uses what its run asked for
pub run-used : (records : Records) (k : Key) (u name : List ℕ) (r : GlyphRecord) → Some r ≡ record_of records.glyphs.entries name → bytes_eq u name ≡ true
    → is_user k (recorded_run records u) ≡ asks r.run.drawing.composite r.run.drawing.entered k
run-used records k u name r h e =
    ap (λ g. is_user k (recorded_run records g)) ((bytes_eq-Decides u name).0 e)
    ∙ ap (λ (x : Option GlyphRecord). is_user k (option_map (λ x. Ok x.run.drawing) x)) (sym h)

-- one more glyph, by what it uses
pub glyph-more : (had used asked e : Bool) → (e ≡ true → used ≡ asked) → ((had && used) || (asked && e)) ≡ ((had || e) && used)
glyph-more had used asked true same = rw (same refl) (turn had asked) where
  turn : (h a : Bool) → ((h && a) || (a && true)) ≡ ((h || true) && a)
  turn true true = refl
  turn true false = refl
  turn false true = refl
  turn false false = refl
glyph-more true true true false same = refl
glyph-more true true false false same = refl
glyph-more true false true false same = refl
glyph-more true false false false same = refl
glyph-more false used true false same = refl
glyph-more false used false false same = refl

-- one more glyph that uses nothing
pub none-more : (had used e : Bool) → (e ≡ true → used ≡ false) → (had && used) ≡ ((had || e) && used)
none-more true used e same = refl
none-more false used true same = sym (same refl)
none-more false used false same = refl
