-- Records that are renewed in their places.
use Rattle.std.proofs.Common.{◌≡◌, ℕ, Bool, true, false, cond, List, [], ◌∷◌, map, refl, ap, ◌∙◌, Option, Some, None, inl, inr}
use Rattle.std.specs.Map.{set_value}
use Rattle.std.specs.Str.{bytes_eq}
use Rattle.std.specs.declared.alloc.Global.{Global}
use Rattle.std.specs.declared.vec.Vec.{Vec}
use Rattle.std.proofs.lemmas.Bool.{cases_Bool}
use Rattle.t1_extent.specs.Kept.{TracedRun}
use Rattle.t1_afm.specs.declared.bbox.BBox.{BBox}
use Rattle.t1_cache.specs.declared.records.GlyphRecord.{GlyphRecord}
use Rattle.t1_cache.specs.Renewed.{record_of, with_run}
use Rattle.t1_cache.specs.Recorded.{kept_of}

over-cond : (b : Bool) (xs ys : List (Vec ℕ Global × GlyphRecord)) → map kept_of (cond b xs ys) ≡ cond b (map kept_of xs) (map kept_of ys)
over-cond true xs ys = refl
over-cond false xs ys = refl

pub with-put : (es : List (Vec ℕ Global × GlyphRecord)) (name : List ℕ) (now : GlyphRecord)
    → map kept_of (set_value (λ k. bytes_eq name k.items) es now) ≡ with_run name now.run now.bbox (map kept_of es)
with-put [] name now = refl
with-put (e ∷ es) name now =
    over-cond (bytes_eq name e.0.items) ((e.0, now) ∷ es) (e ∷ set_value (λ k. bytes_eq name k.items) es now)
    ∙ ap (λ l. cond (bytes_eq name e.0.items) (kept_of (e.0, now) ∷ map kept_of es) (kept_of e ∷ l)) (with-put es name now)

pub with-none : (es : List (Vec ℕ Global × GlyphRecord)) (name : List ℕ) (run : TracedRun) (box : Option BBox) → None ≡ record_of es name
    → map kept_of es ≡ with_run name run box (map kept_of es)
with-none [] name run box h = refl
with-none (e ∷ es) name run box h =
    elim (cases_Bool (bytes_eq name e.0.items)) [
      | inl on ↦
          let never : None ≡ Some e.1 = h ∙ ap (λ b. cond b (Some e.1) (record_of es name)) on in
          absurd (cc)
      | inr off ↦
          let h' : None ≡ record_of es name = h ∙ ap (λ b. cond b (Some e.1) (record_of es name)) off in
          rw off (ap (λ l. kept_of e ∷ l) (with-none es name run box h'))
    ]
