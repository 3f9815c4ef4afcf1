-- The glyphs that are found are the stale ones of the edited source, and the newest runs are its runs.
use Rattle.std.proofs.Common.{◌≡◌, ℕ, Bool, true, false, cond, List, [], ◌∷◌, map, filter, refl, sym, ◌∙◌, ap, Option, Some, None}
use Rattle.std.specs.Prelude.{Result, Ok, ◌||◌}
use Rattle.std.specs.List.{AllByRecursion, list_any}
use Rattle.std.specs.Option.{option_or}
use Rattle.std.specs.Str.{bytes_eq}
use Rattle.std.proofs.lemmas.Bool.{or_left, or_right}
use Rattle.t1_frac.specs.declared.fault.Code.{Code}
use Rattle.t1_code.specs.declared.command.Command.{Command}
use Rattle.t1_parts.specs.declared.item.Item.{Item}
use Rattle.t1_parts.specs.SourceParts.{SourceParts}
use Rattle.t1_run.specs.Composite.{outline, outline_within}
use Rattle.t1_run.specs.Run.{FontBodies, Key, Glyph, Drawing, own, own_of}
use Rattle.t1_run.specs.Touched.{is_named, meets_run, meets_parts, touched_within, is_touched, AreStale}
use Rattle.t1_run.proofs.Agreeing.{own_same}
use Rattle.t1_run.proofs.FoundByUsers.{found_are_touched}
use Rattle.t1_font.specs.Bodies.{bodies, glyph_among}
use Rattle.t1_font.specs.KeptBodies.{SameBodies}
use Rattle.t1_font.specs.Glyphs.{Glyph as Reported, glyph_names}
use Rattle.t1_font.specs.SourceChecks.{source_glyphs}
use Rattle.t1_run.proofs.Asked.{bytes_self}
use Rattle.t1_font.proofs.Measuring.{own-none}
use Rattle.t1_cache.specs.declared.records.Records.{Records}
use Rattle.t1_cache.specs.Edited.{IsEditedAt, is_stale, stale}
use Rattle.t1_cache.specs.Kept.{without_serial, shown_from}
use Rattle.t1_cache.specs.Renewed.{recorded_run}
use Rattle.t1_cache.specs.Recorded.{kept_of}
use Rattle.t1_cache.proofs.Drawing.{all_draw}
use Rattle.t1_cache.proofs.Newest.{found as at-glyph, newest_drawn, not-key}
use Rattle.t1_cache.proofs.Recorded.{runs_recorded}
use Rattle.t1_cache.proofs.Renewing.{glyphs-of}
use Rattle.t1_cache.proofs.Lists.{all-weaken}
use Rattle.t1_cache.proofs.Filtering.{among-off, among-passing, filter-agreed}
use Rattle.t1_cache.proofs.Joining.{met-all}
use Rattle.t1_rerun.specs.Newest.{newest_among}

-- ---- lists and tests

pub all-among : (xs ys : List (List ℕ)) → ((x : List ℕ) → list_any (bytes_eq x) xs ≡ true → list_any (bytes_eq x) ys ≡ true)
    → AllByRecursion (λ x. list_any (bytes_eq x) ys ≡ true) xs
all-among [] ys h = tt
all-among (x ∷ xs) ys h =
    (h x (or_left (bytes_eq x x) (list_any (bytes_eq x) xs) (bytes_self x)), all-among xs ys (λ y e. h y (or_right (bytes_eq y x) (list_any (bytes_eq y) xs) e)))

-- a glyph with a body is among the names
pub glyph-among : (items : List Item) (g : List ℕ) (b : List Command) → glyph_among items g ≡ Some b → list_any (bytes_eq g) (glyph_names items) ≡ true
glyph-among items g b e =
    at-glyph (λ x. list_any (bytes_eq x) (glyph_names items) ≡ true) g b items (all-among (glyph_names items) (glyph_names items) (λ x h. h)) e

-- ---- keys

pub some-own : (m : FontBodies) (g : List ℕ) (b : List Command) → m.glyphs g ≡ Some b → (r : Result Drawing Code) × (own m g ≡ Some r)
unfolding own
some-own m g b e = (_, ap (own_of m) e)

named-touched : (m : FontBodies) (keys : List Key) (g : List ℕ) → m.glyphs g ≡ None → is_named keys g ≡ true → is_touched m keys g ≡ true
unfolding is_touched
named-touched m keys g e h =
    ap (λ r. meets_run keys g r || meets_parts (touched_within 3 m keys) r) (own-none m g e)
    ∙ or_left (is_named keys g) false h

-- ---- an edited source

module _ (keys : List Key) (old new : SourceParts) (reported : List Reported) (edit : IsEditedAt keys old new) (was : source_glyphs old ≡ Ok reported) where
  -- a glyph of the edited source is found where it is stale
  found-stale : (found : List ℕ → Bool) → AreStale (bodies old.items) keys found → (g : List ℕ) (b : List Command) → (bodies new.items).glyphs g ≡ Some b
      → found g ≡ is_stale old keys g
  found-stale found stale g b there = by ((bodies old.items).glyphs g) refl where
    m : FontBodies
    m = bodies old.items

    named : (t : Bool) → is_named keys g ≡ t → m.glyphs g ≡ None → found g ≡ is_stale old keys g
    named true h e = stale.closed.seeds g (met-all m g keys h) ∙ sym (named-touched m keys g e h)
    named false h e =
        let same = edit.bodies.same (Glyph g) (not-key keys g h) in
        let never : ◌≡◌ {A = Option (List Command)} None (Some b) = sym e ∙ same ∙ there in
        absurd (cc)

    by : (body : Option (List Command)) → m.glyphs g ≡ body → found g ≡ is_stale old keys g
    by None e = named (is_named keys g) refl e
    by (Some body) e =
        let drew = all_draw old reported was g body e in
        found_are_touched m keys found stale.closed stale.found g drew.0 drew.1

  -- those found, in the order of the edited source, are its stale glyphs
  pub stale-is : (found : List ℕ → Bool) → AreStale (bodies old.items) keys found
      → AllByRecursion (λ g. (b : List Command) × ((bodies new.items).glyphs g ≡ Some b)) (glyph_names new.items)
      → filter found (glyph_names new.items) ≡ stale old keys new
  stale-is found stale there =
      filter-agreed found (is_stale old keys) (glyph_names new.items)
      (all-weaken (λ g. (b : List Command) × ((bodies new.items).glyphs g ≡ Some b)) (λ g. found g ≡ is_stale old keys g)
      (λ g h. found-stale found stale g h.0 h.1) (glyph_names new.items) there)

-- ---- the runs of records

pub own-body : (m : FontBodies) (g : List ℕ) (r : Result Drawing Code) → own m g ≡ Some r → (b : List Command) × (m.glyphs g ≡ Some b)
own-body m g r e = by (m.glyphs g) refl where
  by : (body : Option (List Command)) → m.glyphs g ≡ body → (b : List Command) × (m.glyphs g ≡ Some b)
  by None h = let never : ◌≡◌ {A = Option (Result Drawing Code)} None (Some r) = sym (own-none m g h) ∙ e in absurd (cc)
  by (Some b) h = (b, h)

module _ (keys : List Key) (old new : SourceParts) (reported : List Reported) (edit : IsEditedAt keys old new) (was : source_glyphs old ≡ Ok reported)
    (records : Records) (kept : map without_serial (map kept_of records.glyphs.entries) ≡ map shown_from reported) where
  -- the run of a glyph's record, or none, is that of the font
  pub recorded-own : (g : List ℕ) → recorded_run records g ≡ own (bodies old.items) g
  recorded-own = runs_recorded old records (record { glyphs = reported; faultless = was; from_scratch = kept })

  module _ (m : FontBodies) (bodies-are : SameBodies m (bodies new.items)) where
    pub own-is : (g : List ℕ) → own m g ≡ own (bodies new.items) g
    own-is g = sym (own_same m (bodies new.items) g (record { same = λ key i. bodies-are key })).0

    -- the newest runs, and the outlines by them, are those of the edited font
    pub newest-is : (g : List ℕ) (b : List Command) → (bodies new.items).glyphs g ≡ Some b
        → (newest_among m (stale old keys new) records g ≡ own (bodies new.items) g)
        × (outline_within (newest_among m (stale old keys new) records) 4 g ≡ outline (bodies new.items) g)
    newest-is = newest_drawn keys old new reported edit (glyphs-of old reported was) (newest_among m (stale old keys new) records) again fresh where
      again : (g : List ℕ) (b : List Command) → (bodies new.items).glyphs g ≡ Some b → is_stale old keys g ≡ true
          → newest_among m (stale old keys new) records g ≡ own (bodies new.items) g
      again g b there on =
          let s = some-own (bodies new.items) g b there in
          ap (λ t. option_or (cond t (own m g) None) (recorded_run records g))
          (among-passing (is_stale old keys) g (glyph_names new.items) (glyph-among new.items g b there) on)
          ∙ ap (λ r. option_or r (recorded_run records g)) (own-is g ∙ s.1)
          ∙ sym s.1

      fresh : (g : List ℕ) (b : List Command) → (bodies new.items).glyphs g ≡ Some b → is_stale old keys g ≡ false
          → newest_among m (stale old keys new) records g ≡ own (bodies old.items) g
      fresh g b there off =
          ap (λ t. option_or (cond t (own m g) None) (recorded_run records g)) (among-off (is_stale old keys) g (glyph_names new.items) off)
          ∙ recorded-own g
