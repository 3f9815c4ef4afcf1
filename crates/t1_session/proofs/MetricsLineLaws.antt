-- The line of a glyph in the AFM file, by its record.
use Rattle.std.proofs.Common.{◌≡◌, ◌∙◌, ℕ, Bool, true, false, cond, ◌||◌, List, [], ◌∷◌, ◌++◌, append_assoc, map, Option, Some, None, option_map, refl, ap, sym, subst, inl, inr}
use Rattle.std.specs.Prelude.{Result, Ok, Err, nat_eq, codes, flat_map, if◌then◌else◌}
use Rattle.std.specs.Fmt.{signed_decimal}
use Rattle.std.specs.List.{find, list_any, range_with_len}
use Rattle.std.specs.Option.{option_eq, option_or}
use Rattle.std.specs.Str.{bytes_eq}
use Rattle.std.specs.declared.alloc.Global.{Global}
use Rattle.std.specs.declared.vec.Vec.{Vec}
use Rattle.std.proofs.lemmas.Bool.{cases_Bool, eq-eqb}
use Rattle.std.proofs.lemmas.List.Folds.{find-append}
use Rattle.t1_frac.specs.declared.fault.Code.{Code}
use Rattle.t1_frac.specs.declared.fault.Fault.{Fault}
use Rattle.t1_frac.specs.declared.fault.Place.TheVariants.{Nowhere}
use Rattle.t1_frac.specs.Outcome.{reported_at, ◌>>=◌}
use Rattle.t1_text.specs.Tokens.{is_token}
use Rattle.t1_parts.specs.SourceParts.{SourceParts}
use Rattle.t1_parts.specs.Reading.{standard}
use Rattle.t1_pairs.specs.declared.pairs.Pair.{Pair}
use Rattle.t1_code.specs.Encoding.{standard_name}
use Rattle.t1_parts.specs.Encoding.{slots}
use Rattle.t1_source.specs.Codes.{code_of, lowest_code, slot_name}
use Rattle.t1_run.proofs.Asked.{bytes_same}
use Rattle.t1_afm.specs.Box.{united}
use Rattle.t1_afm.specs.declared.metrics.CharMetric.{CharMetric}
use Rattle.t1_afm.specs.Afm.{char_line, char_named, code_number, line_text, rest_text, sides, width_words}
use Rattle.t1_font.specs.declared.glyph_metrics.GlyphMetrics.{GlyphMetrics}
use Rattle.t1_font.specs.declared.glyph_metrics.PlacedParts.{PlacedParts}
use Rattle.t1_font.specs.FontMetrics.{metrics_of}
use Rattle.t1_font.specs.Glyphs.{placed_parts_of}
use Rattle.t1_font.specs.MeasuredGlyphs.{MeasuredFont}
use Rattle.t1_font.specs.Metrics.{all_codes, char_of, coded, in_code_order}
use Rattle.t1_font.specs.SourceChecks.{measured_source}
use Rattle.t1_cache.specs.declared.records.GlyphRecord.{GlyphRecord}
use Rattle.t1_cache.specs.Kept.{KeepsAll}
use Rattle.t1_cache.specs.Renewed.{record_of}
use Rattle.t1_cache.specs.Recorded.{kept_of}
use Rattle.t1_cache.proofs.Names.{bytes_equiv}
use Rattle.t1_rerun.specs.Measured.{kept_metrics}
use Rattle.t1_rerun.proofs.Reporting.{font_of, metrics-right}
use Rattle.t1_session.specs.Queries.{metrics_line}
use Rattle.t1_session.specs.RecordedLines.{after_width, before_width, recorded_char, recorded_line}

-- ---- the line

-- what stands before the width, the width, and what stands after it
pub line_is : (c : CharMetric) (width : List ℕ)
    → ((words : List (List ℕ)) → width ++ rest_text words ≡ rest_text (width_words c.wx c.wy ++ words))
    → (before_width c.code ++ width) ++ rest_text (after_width c) ≡ line_text (char_line c)
line_is c width h =
    let digits = signed_decimal (code_number c.code) in
    append_assoc (before_width c.code) width (rest_text (after_width c))
    ∙ ap (λ t. before_width c.code ++ t) (h (after_width c))
    ∙ ap (λ t. codes "C " ++ t) (append_assoc digits (codes " ;") (rest_text (width_words c.wx c.wy ++ after_width c)))
    ∙ ap (λ l. codes "C " ++ (digits ++ (codes " ;" ++ rest_text l)))
    (sym (append_assoc (width_words c.wx c.wy) (codes ";" ∷ codes "N" ∷ c.name ∷ codes ";" ∷ codes "B" ∷ sides c.bbox) (codes ";" ∷ [])))

-- ---- the glyph of a name, in the order of codes

-- the code is one of all, or there is none
abbrev IsPlaced : Option ℕ → Type 0
IsPlaced code = (list_any (λ k. option_eq nat_eq code (Some k)) all_codes || option_eq nat_eq code None) ≡ true

either : {A : Type 0} (b c : Bool) (v : Option A) → option_or (cond b v None) (cond c v None) ≡ cond (b || c) v None
either true true None = refl
either true false None = refl
either true c (Some x) = refl
either false c v = refl

neither : {A : Type 0} (b : Bool) → ◌≡◌ {A = Option A} None (cond b None None)
neither true = refl
neither false = refl

module _ (code_in : List ℕ → Option ℕ) (name : List ℕ) where
  abbrev is_named : CharMetric → Bool
  is_named c = bytes_eq c.name name

  -- among the glyphs of the code that the name has the glyph of the name is found, and among no others
  coded-finds : (code : Option ℕ) (ms : List GlyphMetrics)
      → find is_named (coded code (map (char_of code_in) ms)) ≡ cond (option_eq nat_eq (code_in name) code) (find is_named (map (char_of code_in) ms)) None
  coded-finds code [] = neither (option_eq nat_eq (code_in name) code)
  coded-finds code (m ∷ ms) =
      elim (cases_Bool (bytes_eq m.name name)) [
        | inl here ↦
            let same : m.name ≡ name = bytes_same m.name name here in
            elim (cases_Bool (option_eq nat_eq (code_in name) code)) [
              | inl on ↦
                  let at : option_eq nat_eq (code_in m.name) code ≡ true = ap (λ g. option_eq nat_eq (code_in g) code) same ∙ on in
                  rw (at, on, here) refl
              | inr off ↦
                  let none : option_eq nat_eq (code_in m.name) code ≡ false = ap (λ g. option_eq nat_eq (code_in g) code) same ∙ off in
                  rw (none, off) (coded-finds code ms ∙ ap (λ b. cond b (find is_named (map (char_of code_in) ms)) None) off)
            ]
        | inr other ↦
            elim (cases_Bool (option_eq nat_eq (code_in m.name) code)) [
              | inl on ↦ rw (on, other) (coded-finds code ms)
              | inr off ↦ rw (off, other) (coded-finds code ms)
            ]
      ]

  codes-find : (ms : List GlyphMetrics) (ks : List ℕ)
      → find is_named (flat_map (λ k. coded (Some k) (map (char_of code_in) ms)) ks)
      ≡ cond (list_any (λ k. option_eq nat_eq (code_in name) (Some k)) ks) (find is_named (map (char_of code_in) ms)) None
  codes-find ms [] = refl
  codes-find ms (k ∷ ks) =
      let chars = map (char_of code_in) ms in
      let v = find is_named chars in
      find-append is_named (coded (Some k) chars) (flat_map (λ k. coded (Some k) chars) ks)
      ∙ ap (λ o. option_or o (find is_named (flat_map (λ k. coded (Some k) chars) ks))) (coded-finds (Some k) ms)
      ∙ ap (option_or (cond (option_eq nat_eq (code_in name) (Some k)) v None)) (codes-find ms ks)
      ∙ either (option_eq nat_eq (code_in name) (Some k)) (list_any (λ k. option_eq nat_eq (code_in name) (Some k)) ks) v

  ordered-finds : (ms : List GlyphMetrics) → IsPlaced (code_in name) → char_named name (in_code_order (map (char_of code_in) ms)) ≡ char_named name (map (char_of code_in) ms)
  ordered-finds ms placed =
      let chars = map (char_of code_in) ms in
      let v = find is_named chars in
      let some = list_any (λ k. option_eq nat_eq (code_in name) (Some k)) all_codes in
      let none = option_eq nat_eq (code_in name) None in
      find-append is_named (flat_map (λ k. coded (Some k) chars) all_codes) (coded None chars)
      ∙ ap (λ o. option_or o (find is_named (coded None chars))) (codes-find ms all_codes)
      ∙ ap (option_or (cond some v None)) (coded-finds None ms)
      ∙ either some none v
      ∙ ap (λ b. cond b v None) placed

-- ---- the code of a name is one of all

or-true : (b : Bool) → (b || true) ≡ true
or-true true = refl
or-true false = refl

found-among : (q : ℕ → Bool) (x : ℕ) (ks : List ℕ) → find q ks ≡ Some x → list_any (λ k. nat_eq x k) ks ≡ true
found-among q x [] e = absurd (cc)
found-among q x (k ∷ ks) e =
    elim (cases_Bool (q k)) [
      | inl on ↦
          let at : ◌≡◌ {A = Option ℕ} (Some k) (Some x) = rw on at e in
          let same : x ≡ k = cc in
          let here : nat_eq x k ≡ true = eq-eqb x k same in
          rw here refl
      | inr off ↦
          let later : find q ks ≡ Some x = rw off at e in
          ap (λ b. nat_eq x k || b) (found-among q x ks later) ∙ or-true (nat_eq x k)
    ]

none-placed : IsPlaced None
none-placed = or-true (list_any (λ k. option_eq nat_eq None (Some k)) all_codes)

lowest-placed : (names : ℕ → Option (List ℕ)) (g : List ℕ) → IsPlaced (lowest_code names g)
unfolding lowest_code all_codes
lowest-placed names g = by (find (λ code. is_token g (names code)) (range_with_len 0 256)) refl where
  by : (r : Option ℕ) → find (λ code. is_token g (names code)) (range_with_len 0 256) ≡ r
      → (list_any (λ k. option_eq nat_eq r (Some k)) (range_with_len 0 256) || option_eq nat_eq r None) ≡ true
  by None e = or-true (list_any (λ k. false) (range_with_len 0 256))
  by (Some x) e = ap (λ b. b || false) (found-among (λ code. is_token g (names code)) x (range_with_len 0 256) e)

code-placed : (s : SourceParts) (g : List ℕ) → IsPlaced (code_of s g)
code-placed s g = by (bytes_eq g (codes ".notdef")) (standard s) where
  by : (b c : Bool) → IsPlaced (if b then None else (if c then lowest_code standard_name g else lowest_code (slot_name (slots s.clear)) g))
  by true c = none-placed
  by false true = lowest-placed standard_name g
  by false false = lowest-placed (slot_name (slots s.clear)) g

-- ---- the glyph of a name, by the records

module _ (s : SourceParts) (name : List ℕ) where
  abbrev Finds : List (Vec ℕ Global × GlyphRecord) → List GlyphMetrics → Type 0
  Finds entries ms = char_named name (map (char_of (code_of s)) ms) ≡ option_map (recorded_char s name) (record_of entries name)

  -- what is reported of a record, by its parts
  abbrev reported : Vec ℕ Global × GlyphRecord → Option PlacedParts → GlyphMetrics
  reported e parts = record { name = e.0.items; width = e.1.run.drawing.width; entered = e.1.run.drawing.entered; parts = parts; bbox = e.1.bbox }

  first-finds : (e : Vec ℕ Global × GlyphRecord) (entries : List (Vec ℕ Global × GlyphRecord)) (parts : Option PlacedParts) (ms : List GlyphMetrics)
      → Finds entries ms → Finds (e ∷ entries) (reported e parts ∷ ms)
  first-finds e entries parts ms h =
      elim (cases_Bool (bytes_eq e.0.items name)) [
        | inl here ↦
            let turned : bytes_eq name e.0.items ≡ true = bytes_equiv.symm name e.0.items ∙ here in
            let same : e.0.items ≡ name = bytes_same e.0.items name here in
            rw (here, turned) (ap (λ g. Some (recorded_char s g e.1)) same)
        | inr other ↦
            let turned : bytes_eq name e.0.items ≡ false = bytes_equiv.symm name e.0.items ∙ other in
            rw (other, turned) h
      ]

  recorded-finds : (entries : List (Vec ℕ Global × GlyphRecord)) (ms : List GlyphMetrics) → kept_metrics (map kept_of entries) ≡ Ok ms → Finds entries ms
  recorded-finds [] ms h = let same : [] ≡ ms = cc in subst (Finds []) same refl
  recorded-finds (e ∷ entries) ms h = by (recorded-finds entries) (placed_parts_of e.1.run.drawing.bearing e.1.run.drawing.composite) (kept_metrics (map kept_of entries)) refl h where
    by : ((ms : List GlyphMetrics) → kept_metrics (map kept_of entries) ≡ Ok ms → Finds entries ms)
        → (parts : Result (Option PlacedParts) Code) (rest : Result (List GlyphMetrics) Code) → kept_metrics (map kept_of entries) ≡ rest
        → ((parts >>= (λ a. Ok (reported e a))) >>= (λ m. rest >>= (λ others. Ok (m ∷ others)))) ≡ Ok ms → Finds (e ∷ entries) ms
    by below (Err code) rest is h = absurd (cc)
    by below (Ok parts) (Err code) is h = absurd (cc)
    by below (Ok parts) (Ok others) is h =
        let same : reported e parts ∷ others ≡ ms = cc in
        subst (Finds (e ∷ entries)) same (first-finds e entries parts others (below others is))

twice : {A B C : Type 0} (f : A → B) (h : B → C) (o : Option A) → option_map h (option_map f o) ≡ option_map (λ a. h (f a)) o
twice f h None = refl
twice f h (Some a) = refl

-- by right records, the line of a glyph in the AFM file is that of its record
pub line_recorded : (s : SourceParts) (pairs : List Pair) (font : MeasuredFont) (entries : List (Vec ℕ Global × GlyphRecord)) (name : List ℕ)
    → KeepsAll s (map kept_of entries) → measured_source s ≡ Ok font → metrics_line name (metrics_of s pairs font) ≡ recorded_line s name (record_of entries name)
line_recorded s pairs font entries name kept known = by (kept_metrics (map kept_of entries)) refl (metrics-right s entries kept ∙ known) where
  by : (r : Result (List GlyphMetrics) Code) → kept_metrics (map kept_of entries) ≡ r → (reported_at Nowhere r >>= font_of) ≡ Ok font
      → metrics_line name (metrics_of s pairs font) ≡ recorded_line s name (record_of entries name)
  by (Err code) is h = absurd (cc)
  by (Ok ms) is h =
      let made : MeasuredFont = record { metrics = ms; font_box = united (map (λ m. m.bbox) ms) } in
      let given : ◌≡◌ {A = Result MeasuredFont Fault} (Ok made) (Ok font) = h in
      let same : made ≡ font = cc in
      subst (λ f. metrics_line name (metrics_of s pairs f) ≡ recorded_line s name (record_of entries name)) same
      (ap (option_map (λ c. line_text (char_line c))) (ordered-finds (code_of s) name ms (code-placed s name) ∙ recorded-finds s name entries ms is)
      ∙ twice (recorded_char s name) (λ c. line_text (char_line c)) (record_of entries name))
