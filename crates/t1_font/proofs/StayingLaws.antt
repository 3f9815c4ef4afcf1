-- Glyphs are measured by the runs that stay as by all runs.
use Rattle.std.proofs.Common.{◌≡◌, ◌∙◌, ℕ, zero, suc, true, false, cond, List, Option, Some, None, refl, sym, ap, inl, inr}
use Rattle.std.specs.Prelude.{Result, Ok, Err, ◌||◌, ◌&&◌}
use Rattle.std.specs.List.{list_any}
use Rattle.std.specs.Str.{bytes_eq}
use Rattle.std.proofs.lemmas.Bool.{cases_Bool}
use Rattle.t1_frac.specs.declared.fault.Code.{Code}
use Rattle.t1_frac.specs.declared.fault.Code.TheVariants.{F46}
use Rattle.t1_frac.specs.Outcome.{◌>>=◌}
use Rattle.t1_code.specs.Encoding.{is_standard_name}
use Rattle.t1_run.specs.declared.outline.Composite.{Composite}
use Rattle.t1_run.specs.declared.outline.Segment.{Segment}
use Rattle.t1_run.specs.Composite.{HasStandardParts, outline_within, drawn, with_parts, joined_outline}
use Rattle.t1_run.specs.Run.{Drawing}
use Rattle.t1_font.specs.InTurn.{may_be_part, staying, is_composite, HaveStandardParts}
use Rattle.t1_font.specs.Glyphs.{glyph_of}
use Rattle.t1_font.specs.MeasuredGlyphs.{glyph_metrics, glyph_metrics_at}

module _ (run other : List ℕ → Option (Result Drawing Code)) (parts : HaveStandardParts run)
    (alike : (g : List ℕ) → is_standard_name g ≡ true → other g ≡ run g) where
  -- two maps that agree at a name and at all names of StandardEncoding have the same outline there
  pub same-outline : (depth : ℕ) (name : List ℕ) → other name ≡ run name → outline_within other depth name ≡ outline_within run depth name
  same-outline zero name same = ap (λ r. drawn (λ part. Err F46) r) same
  same-outline (suc depth) name same =
      ap (λ r. drawn (outline_within other depth) r) same ∙ by (λ n. λ e. same-outline depth n e) (run name) refl where
        composed : ((n : List ℕ) → other n ≡ run n → outline_within other depth n ≡ outline_within run depth n) → (d : Drawing) (c : Option Composite)
            → ((made : Composite) → c ≡ Some made → HasStandardParts made) → with_parts (outline_within other depth) c d ≡ with_parts (outline_within run depth) c d
        composed below d None h = refl
        composed below d (Some c) h =
            let has = h c refl in
            let base = below c.base (alike c.base has.base) in
            let accent = below c.accent (alike c.accent has.accent) in
            ap (λ (b : Result (List Segment) Code). b >>= (λ base. outline_within other depth c.accent >>= (λ accent. joined_outline d base accent))) base
            ∙ ap (λ (a : Result (List Segment) Code). outline_within run depth c.base >>= (λ base. a >>= (λ accent. joined_outline d base accent))) accent

        by : ((n : List ℕ) → other n ≡ run n → outline_within other depth n ≡ outline_within run depth n) → (r : Option (Result Drawing Code))
            → run name ≡ r → drawn (outline_within other depth) r ≡ drawn (outline_within run depth) r
        by below None e = refl
        by below (Some (Err code)) e = refl
        by below (Some (Ok d)) e = composed below d d.composite (λ made. λ is. parts name d made e is)

  pub same-metrics : (name : List ℕ) → other name ≡ run name → glyph_metrics_at other name ≡ glyph_metrics_at run name
  unfolding glyph_metrics_at
  same-metrics name same =
      ap (λ r. glyph_of name r (outline_within other 4 name) >>= (λ glyph. Ok (glyph_metrics glyph))) same
      ∙ ap (λ o. glyph_of name (run name) o >>= (λ glyph. Ok (glyph_metrics glyph))) (same-outline 4 name same)

-- a run that stays is among those that do
stays-there : (run : List ℕ → Option (Result Drawing Code)) (names : List (List ℕ)) (g : List ℕ) → (list_any (bytes_eq g) names ≡ false → run g ≡ None)
    → may_be_part g (run g) ≡ true → staying run names g ≡ run g
stays-there run names g absent stay =
    elim (cases_Bool (list_any (bytes_eq g) names)) [
      | inl there ↦ ap (λ b. cond (b && may_be_part g (run g)) (run g) None) there ∙ ap (λ b. cond b (run g) None) stay
      | inr gone ↦ ap (λ b. cond (b && may_be_part g (run g)) (run g) None) gone ∙ sym (absent gone)
    ]

standard-stays : (g : List ℕ) (r : Option (Result Drawing Code)) → is_standard_name g ≡ true → may_be_part g r ≡ true
standard-stays g r h = ap (λ b. b || is_composite r) h

-- so a glyph whose run stays has the same metrics by them
pub staying_metrics : (run : List ℕ → Option (Result Drawing Code)) (names : List (List ℕ)) (name : List ℕ) → HaveStandardParts run
    → ((g : List ℕ) → list_any (bytes_eq g) names ≡ false → run g ≡ None) → may_be_part name (run name) ≡ true
    → glyph_metrics_at (staying run names) name ≡ glyph_metrics_at run name
staying_metrics run names name parts absent stay =
    same-metrics run (staying run names) parts (λ g. λ h. stays-there run names g (absent g) (standard-stays g (run g) h)) name (stays-there run names name (absent name) stay)
