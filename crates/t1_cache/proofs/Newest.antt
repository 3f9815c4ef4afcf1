-- Outlines by kept runs and by runs made again are those of the edited font.
use Rattle.std.proofs.Common.{◌≡◌, ℕ, zero, suc, Bool, true, false, cond, List, [], ◌∷◌, refl, sym, ◌∙◌, ap, inl, inr, Option, Some, None}
use Rattle.std.specs.Prelude.{Result, Ok, Err}
use Rattle.std.specs.List.{AllByRecursion}
use Rattle.std.specs.Option.{option_or}
use Rattle.std.specs.Result.{result_ok}
use Rattle.std.specs.Str.{bytes_eq}
use Rattle.std.proofs.lemmas.Bool.{cases_Bool, or_parts}
use Rattle.std.proofs.lemmas.Slice.Eq.{bytes_eq-Decides}
use Rattle.t1_frac.specs.Outcome.{◌>>=◌}
use Rattle.t1_frac.specs.declared.fault.Code.{Code}
use Rattle.t1_frac.specs.declared.fault.Code.TheVariants.{F46}
use Rattle.t1_code.specs.declared.command.Command.{Command}
use Rattle.t1_code.specs.Words.{commands}
use Rattle.t1_parts.specs.declared.item.Item.{Item}
use Rattle.t1_parts.specs.declared.item.Item.TheVariants as items
use Rattle.t1_run.specs.declared.outline.Composite.{Composite}
use Rattle.t1_run.specs.declared.outline.Segment.{Segment}
use Rattle.t1_run.specs.Composite.{joined_outline, with_parts, drawn, outline_within, outline}
use Rattle.t1_run.specs.Footprint.{Includes, HasParts}
use Rattle.t1_run.specs.Run.{FontBodies, Key, Glyph, Drawing, own}
use Rattle.t1_run.proofs.Asked.{parts_there}
use Rattle.t1_font.specs.Bodies.{bodies, glyph_among}
use Rattle.t1_font.specs.Glyphs.{glyph_names}
use Rattle.t1_run.specs.Touched.{is_key_of, is_named}
use Rattle.t1_run.proofs.Untouched.{untouched_kept}
use Rattle.t1_cache.specs.Edited.{is_stale}
use Rattle.t1_cache.specs.Laws.{NewestLaw}
use Rattle.t1_cache.proofs.Judging.{IsFine, fine-reported, unnamed, drew}

-- ---- runs that are those of a font give its outlines

parts-same : (m : FontBodies) (part part' : List ℕ → Result (List Segment) Code) → ((p : List ℕ) (b : List Command) → m.glyphs p ≡ Some b → part p ≡ part' p)
    → (c : Option Composite) (d : Drawing) → HasParts m c → with_parts part c d ≡ with_parts part' c d
parts-same m part part' same None d h = refl
parts-same m part part' same (Some c) d h =
    ap (λ r. r >>= (λ base. part c.accent >>= (λ accent. joined_outline d base accent))) (same c.base h.0.0 h.0.1)
    ∙ ap (λ r. part' c.base >>= (λ base. r >>= (λ accent. joined_outline d base accent))) (same c.accent h.1.0 h.1.1)

by-run : (m : FontBodies) (part part' : List ℕ → Result (List Segment) Code) → ((p : List ℕ) (b : List Command) → m.glyphs p ≡ Some b → part p ≡ part' p)
    → (r : Option (Result Drawing Code)) → ((d : Drawing) → r ≡ Some (Ok d) → HasParts m d.composite) → drawn part r ≡ drawn part' r
by-run m part part' same None has = refl
by-run m part part' same (Some (Err code)) has = refl
by-run m part part' same (Some (Ok d)) has = parts-same m part part' same d.composite d (has d refl)

within-same : (m : FontBodies) (run : List ℕ → Option (Result Drawing Code)) → ((g : List ℕ) (b : List Command) → m.glyphs g ≡ Some b → run g ≡ own m g)
    → (depth : ℕ) (g : List ℕ) (b : List Command) → m.glyphs g ≡ Some b → outline_within run depth g ≡ outline_within (own m) depth g
within-same m run same zero g b there = ap (drawn (λ part. Err F46)) (same g b there)
within-same m run same (suc depth) g b there =
    ap (drawn (outline_within run depth)) (same g b there)
    ∙ by-run m (outline_within run depth) (outline_within (own m) depth) (within-same m run same depth) (own m g) (λ d e. parts_there m g d e)

-- ---- what holds of all glyphs holds of one that has a body

found-cond : (P : List ℕ → Type 0) (g name : List ℕ) (t : Bool) (own : Option (List Command)) (rest : Option (List Command)) (b : List Command)
    → (t ≡ true → P g) → (rest ≡ Some b → P g) → option_or (cond t own None) rest ≡ Some b → P g
found-cond P g name true own rest b here below e = here refl
found-cond P g name false own rest b here below e = below e

pub found : (P : List ℕ → Type 0) (g : List ℕ) (b : List Command) (is : List Item) → AllByRecursion P (glyph_names is) → glyph_among is g ≡ Some b → P g
found P g b [] h e = absurd (cc)
found P g b (items.Plain l ∷ is) h e = found P g b is h e
found P g b (items.Section c k a ∷ is) h e = found P g b is h e
found P g b (items.Subr m ws c ∷ is) h e = found P g b is h e
found P g b (items.Glyph name ws c ∷ is) h e =
    found-cond P g name (bytes_eq g name) (result_ok (commands ws)) (glyph_among is g) b
    (λ t. rw ((bytes_eq-Decides g name).0 t) h.0) (found P g b is h.1) e

-- a glyph that isn't named is none of the keys
pub not-key : (keys : List Key) (g : List ℕ) → is_named keys g ≡ false → Includes keys (Glyph g) → ⊥
not-key [] g h i = i
not-key (k ∷ keys) g h (inl e) =
    let h' = (or_parts (is_key_of g k) (is_named keys g) h).0 in
    let here : is_key_of g k ≡ true = ap (is_key_of g) e ∙ (bytes_eq-Decides g g).1 refl in
    let never : true ≡ false = sym here ∙ h' in
    absurd (cc)
not-key (k ∷ keys) g h (inr i) = not-key keys g (or_parts (is_key_of g k) (is_named keys g) h).1 i

pub newest_drawn : NewestLaw
unfolding outline
newest_drawn keys old new was edit e run again kept g body there =
    (runs g body there, within-same (bodies new.items) run runs 4 g body there) where
      fine : AllByRecursion (IsFine (own (bodies old.items)) (outline (bodies old.items))) (glyph_names old.items)
      fine = fine-reported (own (bodies old.items)) (outline (bodies old.items)) (glyph_names old.items) was e

      runs : (h : List ℕ) (b : List Command) → (bodies new.items).glyphs h ≡ Some b → run h ≡ own (bodies new.items) h
      runs h b here =
          elim (cases_Bool (is_stale old keys h)) [
            | inl stale ↦ again h b here stale
            | inr fresh ↦
                let same = edit.bodies.same (Glyph h) (not-key keys h (unnamed (bodies old.items) keys h fresh)) in
                let well = found (IsFine (own (bodies old.items)) (outline (bodies old.items))) h b old.items fine (same ∙ here) in
                let drawn = drew h (own (bodies old.items) h) (outline (bodies old.items) h) well.0 well.1 in
                kept h b here fresh ∙ sym (untouched_kept keys (bodies old.items) (bodies new.items) edit.bodies h drawn.0 drawn.1 fresh).0
          ]
