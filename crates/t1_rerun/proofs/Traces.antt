-- Records whose runs keep their traces.
use Rattle.std.proofs.Common.{◌≡◌, ℕ, Bool, true, false, List, [], ◌∷◌, refl, ap, subst, ◌∙◌, Some, cond, map}
use Rattle.std.specs.Prelude.{◌&&◌}
use Rattle.std.specs.List.{list_all}
use Rattle.std.specs.Str.{bytes_eq}
use Rattle.std.specs.declared.alloc.Global.{Global}
use Rattle.std.specs.declared.vec.Vec.{Vec}
use Rattle.std.proofs.lemmas.Bool.{and_parts}
use Rattle.t1_parts.specs.SourceParts.{SourceParts}
use Rattle.t1_extent.specs.Kept.{traces}
use Rattle.t1_font.specs.Glyphs.{Glyph as Reported}
use Rattle.t1_cache.specs.declared.records.GlyphRecord.{GlyphRecord}
use Rattle.t1_cache.specs.declared.records.Records.{Records}
use Rattle.t1_cache.specs.Kept.{keep_traces, without_serial, shown_from}
use Rattle.t1_cache.specs.Renewed.{record_of}
use Rattle.t1_cache.specs.Recorded.{RecordedGlyph, kept_of}
use Rattle.t1_rerun.specs.Right.{IsRight}
use Rattle.t1_run.proofs.Asked.{bytes_same}

-- the run of a record that is found keeps its trace
pub found_trace : (es : List (Vec ℕ Global × GlyphRecord)) (g : List ℕ) (r : GlyphRecord)
    → list_all (λ (k : RecordedGlyph). traces k.name k.run) (map kept_of es) ≡ true → record_of es g ≡ Some r → traces g r.run ≡ true
found_trace [] g r h e = absurd (cc)
found_trace (x ∷ es) g r h e =
    let both = and_parts (traces x.0.items x.1.run) (list_all (λ (k : RecordedGlyph). traces k.name k.run) (map kept_of es)) h in
    by (bytes_eq g x.0.items) refl both.0 (found_trace es g r both.1) e
  where
    by : (b : Bool) → bytes_eq g x.0.items ≡ b → traces x.0.items x.1.run ≡ true → (record_of es g ≡ Some r → traces g r.run ≡ true)
        → cond b (Some x.1) (record_of es g) ≡ Some r → traces g r.run ≡ true
    by true same here later h =
        let is : x.1 ≡ r = cc in
        subst (λ k. traces g k.run ≡ true) is (ap (λ n. traces n x.1.run) (bytes_same g x.0.items same) ∙ here)
    by false other here later h = later h

all-traced : (ks : List RecordedGlyph) (ts : List Reported) → map without_serial ks ≡ map shown_from ts → list_all (λ (k : RecordedGlyph). traces k.name k.run) ks ≡ true
all-traced [] ts e = refl
all-traced (k ∷ ks) [] e = absurd (cc)
all-traced (k ∷ ks) (t ∷ ts) e =
    let first : without_serial k ≡ shown_from t = cc in
    let rest : map without_serial ks ≡ map shown_from ts = cc in
    ap (λ b. b && list_all (λ (x : RecordedGlyph). traces x.name x.run) ks) (ap (λ s. s.keeps_trace) first) ∙ all-traced ks ts rest

-- right records keep their traces
pub right_traces : (s : SourceParts) (records : Records) → IsRight s records → keep_traces records ≡ true
right_traces s records right = all-traced (map kept_of records.glyphs.entries) right.kept.glyphs right.kept.from_scratch
