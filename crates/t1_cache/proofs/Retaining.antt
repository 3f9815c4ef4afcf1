-- Records of which some are kept, in one pass.
use Rattle.std.proofs.Common.{Vec, Global, ◌≡◌, ℕ, Bool, true, false, cond, filter, length, map, not, List, [], ◌∷◌, refl, sym, ap, ◌∙◌, Option, Some, None}
use Rattle.std.specs.Map.{lookup}
use Rattle.std.specs.Option.{option_map}
use Rattle.std.specs.Str.{bytes_eq}
use Rattle.t1_cache.specs.declared.records.GlyphRecord.{GlyphRecord}
use Rattle.t1_cache.specs.Recorded.{RecordedGlyph, kept_of}
use Rattle.t1_cache.specs.Users.{is_name_among}
use Rattle.t1_font.proofs.Lookups.{bytes_tell}

-- ---- what is left

-- a look-up among those that aren't gone
lookup-left : {R : Type 0} (gone : List ℕ → Bool) (g : List ℕ) (es : List (Vec ℕ Global × R))
    → lookup (λ k. bytes_eq g k.items) (filter (λ e. not (gone e.0.items)) es) ≡ cond (gone g) None (lookup (λ k. bytes_eq g k.items) es)
lookup-left {R} gone g [] = none (gone g) where
  none : (b : Bool) → None ≡ cond {A = Option R} b None None
  none true = refl
  none false = refl
lookup-left {R} gone g (e ∷ es) = by (bytes_eq g e.0.items) refl (gone e.0.items) refl (lookup-left gone g es) where
  left : List (Vec ℕ Global × R)
  left = filter (λ e. not (gone e.0.items)) es

  was : Option R
  was = lookup (λ k. bytes_eq g k.items) es

  by : (b : Bool) → bytes_eq g e.0.items ≡ b → (c : Bool) → gone e.0.items ≡ c → lookup (λ k. bytes_eq g k.items) left ≡ cond (gone g) None was
      → lookup (λ k. bytes_eq g k.items) (cond (not c) (e ∷ left) left) ≡ cond (gone g) None (cond b (Some e.1) was)
  by true on true out rest =
      let its : gone g ≡ true = ap gone (bytes_tell.same g e.0.items on) ∙ out in
      rest ∙ ap (λ t. cond t None was) its ∙ sym (ap (λ t. cond t None (Some e.1)) its)
  by true on false out rest =
      let its : gone g ≡ false = ap gone (bytes_tell.same g e.0.items on) ∙ out in
      ap (λ t. cond t (Some e.1) (lookup (λ k. bytes_eq g k.items) left)) on ∙ sym (ap (λ t. cond t None (Some e.1)) its)
  by false off true out rest = rest
  by false off false out rest = ap (λ t. cond t (Some e.1) (lookup (λ k. bytes_eq g k.items) left)) off ∙ rest

-- what is read of those that aren't gone
pub reads-left : {R X : Type 0} (read : R → X) (gone : List ℕ → Bool) (g : List ℕ) (es : List (Vec ℕ Global × R))
    → option_map read (lookup (λ k. bytes_eq g k.items) (filter (λ e. not (gone e.0.items)) es)) ≡ cond (gone g) None (option_map read (lookup (λ k. bytes_eq g k.items) es))
reads-left read gone g es = ap (option_map read) (lookup-left gone g es) ∙ none (gone g) where
  none : (b : Bool) → option_map read (cond b None (lookup (λ k. bytes_eq g k.items) es)) ≡ cond b None (option_map read (lookup (λ k. bytes_eq g k.items) es))
  none true = refl
  none false = refl

pub kept-left : (gone : List ℕ → Bool) (es : List (Vec ℕ Global × GlyphRecord)) → map kept_of (filter (λ e. not (gone e.0.items)) es) ≡ filter (λ k. not (gone k.name)) (map kept_of es)
kept-left gone [] = refl
kept-left gone (e ∷ es) = by (gone e.0.items) (kept-left gone es) where
  by : (b : Bool) → map kept_of (filter (λ e. not (gone e.0.items)) es) ≡ filter (λ k. not (gone k.name)) (map kept_of es)
      → map kept_of (cond (not b) (e ∷ filter (λ e. not (gone e.0.items)) es) (filter (λ e. not (gone e.0.items)) es))
      ≡ cond (not b) (kept_of e ∷ filter (λ k. not (gone k.name)) (map kept_of es)) (filter (λ k. not (gone k.name)) (map kept_of es))
  by true rest = rest
  by false rest = ap (λ l. kept_of e ∷ l) rest

-- ---- nothing is gone

no-items : {X : Type 0} (xs : List X) → length xs ≡ 0 → xs ≡ []
no-items [] e = refl
no-items (x ∷ xs) e = absurd (cc)

all-left : (ks : List RecordedGlyph) → ks ≡ filter (λ k. true) ks
all-left [] = refl
all-left (k ∷ ks) = ap (λ l. k ∷ l) (all-left ks)

pub kept-all : (names : List (Vec ℕ Global)) → length names ≡ 0 → (ks : List RecordedGlyph) → ks ≡ filter (λ k. not (is_name_among (λ name. name.items) names k.name)) ks
kept-all names e ks = all-left ks ∙ ap (λ ns. filter (λ k. not (is_name_among (λ name. name.items) ns k.name)) ks) (sym (no-items names e))
