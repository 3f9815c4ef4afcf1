-- The names of the glyphs after each edit.
use Rattle.std.proofs.Common.{◌≡◌, ℕ, Bool, true, false, cond, not, ℤ, pos, negsuc, Ok, List, [], ◌∷◌, ◌++◌, length, filter, append_assoc, refl, sym, subst, ◌∙◌, ap}
use Rattle.std.specs.Prelude.{◌||◌}
use Rattle.std.specs.List.{list_any, insert, remove, slice_set}
use Rattle.std.specs.Str.{bytes_eq}
use Rattle.std.proofs.lemmas.Bool.{or_parts, or_right}
use Rattle.std.proofs.lemmas.Slice.Eq.{bytes_eq-Decides}
use Rattle.t1_source.specs.declared.edit.Edit.TheVariants.{ReplaceGlyph, AddGlyph, RemoveGlyph, ReplaceSubr, AddSubr, RemoveSubr, Encode, Unencode, LenIv, Kern, Unkern}
use Rattle.t1_parts.specs.declared.item.Item.{Item}
use Rattle.t1_parts.specs.declared.item.Item.TheVariants as items
use Rattle.t1_parts.specs.SourceParts.{SourceParts}
use Rattle.t1_parts.specs.Counts.{glyphs_needed, is_glyph_entry, raised, subrs_needed}
use Rattle.t1_parts.specs.Entries.{is_glyph}
use Rattle.t1_parts.specs.Sections.{is_glyphs_line}
use Rattle.t1_source.specs.Editing.{through_last, among_glyphs_items, replaced_glyph, added_glyph, removed_glyph, edited}
use Rattle.t1_source.specs.WellFormed.{IsWellFormed}
use Rattle.t1_source.proofs.WellFormedEditedLaws.{source_given}
use Rattle.t1_source.proofs.ItemPlaceLaws.{insert_there, last_of, position_first, removed_there, set_there, through_place}
use Rattle.t1_run.specs.Run.{Key}
use Rattle.t1_run.specs.Touched.{is_named}
use Rattle.t1_font.specs.Glyphs.{glyph_names}
use Rattle.t1_cache.specs.Edited.{IsEditedAt}
use Rattle.t1_cache.specs.EditKeys.{subr_key}
use Rattle.t1_cache.specs.Laws.{AreDistinct, NamesLaw}
use Rattle.t1_cache.proofs.Accepted.{glyph_at, last_glyph, new_glyph, added_glyph-made, removed_glyph-made, replaced_glyph-made}
use Rattle.t1_cache.proofs.Distinct.{names_distinct}
use Rattle.t1_cache.proofs.Edits.{edits_named}
use Rattle.t1_cache.proofs.Middles.{names-raised}

names-append : (a b : List Item) → glyph_names (a ++ b) ≡ glyph_names a ++ glyph_names b
names-append [] b = refl
names-append (items.Plain l ∷ a) b = names-append a b
names-append (items.Section c n d ∷ a) b = names-append a b
names-append (items.Subr n ws c ∷ a) b = names-append a b
names-append (items.Glyph g ws c ∷ a) b = ap (λ names. g ∷ names) (names-append a b)

-- counts have no names
names-of : (s made : SourceParts) (xs : List Item) → made.items ≡ raised xs → glyph_names made.items ≡ glyph_names xs
names-of s made xs is = ap glyph_names is ∙ names-raised (subrs_needed xs) (glyphs_needed xs) xs

-- the entry of a glyph bears its name
name-here : (g : List ℕ) (x : Item) (b : List Item) → is_glyph g x ≡ true → glyph_names (x ∷ b) ≡ g ∷ glyph_names b
name-here g (items.Plain l) b h = absurd (cc)
name-here g (items.Section c n d) b h = absurd (cc)
name-here g (items.Subr n ws c) b h = absurd (cc)
name-here g (items.Glyph name ws c) b h = ap (λ n. n ∷ glyph_names b) (sym ((bytes_eq-Decides g name).0 h))

-- ---- edits that name no glyph

all-pass : (keys : List Key) (names : List (List ℕ)) → ((g : List ℕ) → is_named keys g ≡ false) → filter (λ g. not (is_named keys g)) names ≡ names
all-pass keys [] none = refl
all-pass keys (g ∷ names) none =
    ap (λ b. cond (not b) (g ∷ filter (λ g. not (is_named keys g)) names) (filter (λ g. not (is_named keys g)) names)) (none g)
    ∙ ap (λ l. g ∷ l) (all-pass keys names none)

names-same : (keys : List Key) (s made : SourceParts) → ((g : List ℕ) → is_named keys g ≡ false) → IsEditedAt keys s made → glyph_names made.items ≡ glyph_names s.items
names-same keys s made none edit =
    sym (all-pass keys (glyph_names made.items) none) ∙ sym edit.order ∙ all-pass keys (glyph_names s.items) none

no-subr : (n : ℤ) (g : List ℕ) → is_named (subr_key n) g ≡ false
no-subr (pos n) g = refl
no-subr (negsuc n) g = refl

-- ---- edits of a glyph

names-replaced : (s : SourceParts) (g body : List ℕ) (made : SourceParts) → replaced_glyph s g body ≡ Ok made → glyph_names made.items ≡ glyph_names s.items
names-replaced s g body made e =
    let put = replaced_glyph-made s g body made e in
    let y : Item = glyph_at s g body put.at in
    let f = position_first (is_glyph g) s.items put.at put.there in
    let a = f.found.before in
    let x = f.found.here in
    let b = f.found.after in
    names-of s made (a ++ y ∷ b) (put.are ∙ ap raised (ap (λ t. slice_set t put.at y) f.found.whole ∙ set_there a x b put.at y f.place))
    ∙ names-append a (y ∷ b)
    ∙ ap (λ l. glyph_names a ++ l) (sym (name-here g x b f.found.passes))
    ∙ sym (names-append a (x ∷ b))
    ∙ ap glyph_names (sym f.found.whole)

none-after : (b : List Item) → list_any among_glyphs_items b ≡ false → glyph_names b ≡ []
unfolding among_glyphs_items
none-after [] h = refl
none-after (items.Plain l ∷ b) h = none-after b h
none-after (items.Section c n d ∷ b) h = none-after b (or_parts (is_glyphs_line (items.Section c n d)) (list_any among_glyphs_items b) h).1
none-after (items.Subr n ws c ∷ b) h = none-after b h
none-after (items.Glyph g ws c ∷ b) h = absurd (cc)

among-lines : (is : List Item) → list_any is_glyphs_line is ≡ true → list_any among_glyphs_items is ≡ true
unfolding among_glyphs_items
among-lines [] h = h
among-lines (i ∷ is) h = by (is_glyphs_line i) refl h (among-lines is) where
  by : (b : Bool) → is_glyphs_line i ≡ b → (b || list_any is_glyphs_line is) ≡ true → (list_any is_glyphs_line is ≡ true → list_any among_glyphs_items is ≡ true)
      → list_any among_glyphs_items (i ∷ is) ≡ true
  by true on h rest = ap (λ x. (is_glyph_entry i || x) || list_any among_glyphs_items is) on ∙ left (is_glyph_entry i) where
    left : (a : Bool) → ((a || true) || list_any among_glyphs_items is) ≡ true
    left true = refl
    left false = refl
  by false off h rest = or_right (is_glyph_entry i || is_glyphs_line i) (list_any among_glyphs_items is) (rest h)

names-nil : (names : List (List ℕ)) → names ++ [] ≡ names
names-nil [] = refl
names-nil (g ∷ names) = ap (λ l. g ∷ l) (names-nil names)

names-added : (s : SourceParts) (g body : List ℕ) (made : SourceParts) → IsWellFormed s → added_glyph s g body ≡ Ok made → glyph_names made.items ≡ glyph_names s.items ++ g ∷ []
names-added s g body made well e =
    let y : Item = new_glyph s g body in
    let at = last_glyph s in
    let r = last_of among_glyphs_items s.items (among-lines s.items well.items.section) in
    let a = r.found.before in
    let x = r.found.here in
    let b = r.found.after in
    let front : List Item = a ++ x ∷ [] in
    let split : s.items ≡ front ++ b = r.found.whole ∙ sym (append_assoc a (x ∷ []) b) in
    let there : at ≡ length front = ap (through_last among_glyphs_items) r.found.whole ∙ through_place among_glyphs_items a x b r.found.passes r.none in
    let none : glyph_names b ≡ [] = none-after b r.none in
    names-of s made (front ++ y ∷ b) ((added_glyph-made s g body made e).are ∙ ap raised (ap (λ t. insert t at y) split ∙ insert_there front b at y there))
    ∙ names-append front (y ∷ b)
    ∙ ap (λ l. glyph_names front ++ g ∷ l) none
    ∙ ap (λ l. l ++ g ∷ []) (sym (names-nil (glyph_names front)) ∙ ap (λ l. glyph_names front ++ l) (sym none) ∙ sym (names-append front b) ∙ ap glyph_names (sym split))

-- names of which none is this
no-others : (g : List ℕ) (ys : List (List ℕ)) → list_any (bytes_eq g) ys ≡ false → filter (λ name. not (bytes_eq g name)) ys ≡ ys
no-others g [] h = refl
no-others g (y ∷ ys) h = by (bytes_eq g y) (list_any (bytes_eq g) ys) h (no-others g ys) where
  by : (a b : Bool) → (a || b) ≡ false → (b ≡ false → filter (λ name. not (bytes_eq g name)) ys ≡ ys)
      → cond (not a) (y ∷ filter (λ name. not (bytes_eq g name)) ys) (filter (λ name. not (bytes_eq g name)) ys) ≡ y ∷ ys
  by true b h rest = absurd (cc)
  by false b h rest = ap (λ l. y ∷ l) (rest h)

-- names of which one stands once, without it
but-there : (g : List ℕ) (xs ys : List (List ℕ)) → AreDistinct (xs ++ g ∷ ys) → filter (λ name. not (bytes_eq g name)) (xs ++ g ∷ ys) ≡ xs ++ ys
but-there g [] ys d =
    ap (λ b. cond (not b) (g ∷ filter (λ name. not (bytes_eq g name)) ys) (filter (λ name. not (bytes_eq g name)) ys)) ((bytes_eq-Decides g g).1 refl)
    ∙ no-others g ys d.0
but-there g (x ∷ xs) ys d =
    ap (λ b. cond (not b) (x ∷ filter (λ name. not (bytes_eq g name)) (xs ++ g ∷ ys)) (filter (λ name. not (bytes_eq g name)) (xs ++ g ∷ ys))) (apart (bytes_eq g x) refl)
    ∙ ap (λ l. x ∷ l) (but-there g xs ys d.1)
  where
    among : (zs : List (List ℕ)) → list_any (bytes_eq x) (zs ++ g ∷ ys) ≡ false → bytes_eq x g ≡ false
    among [] h = (or_parts (bytes_eq x g) (list_any (bytes_eq x) ys) h).0
    among (z ∷ zs) h = among zs (or_parts (bytes_eq x z) (list_any (bytes_eq x) (zs ++ g ∷ ys)) h).1

    apart : (b : Bool) → bytes_eq g x ≡ b → bytes_eq g x ≡ false
    apart true on =
        let same : bytes_eq x g ≡ true = (bytes_eq-Decides x g).1 (sym ((bytes_eq-Decides g x).0 on)) in
        let never : true ≡ false = sym same ∙ among xs d.0 in
        absurd (cc)
    apart false off = off

names-removed : (s : SourceParts) (g : List ℕ) (made : SourceParts) → IsWellFormed s → removed_glyph s g ≡ Ok made
    → glyph_names made.items ≡ filter (λ name. not (bytes_eq g name)) (glyph_names s.items)
names-removed s g made well e =
    let out = removed_glyph-made s g made e in
    let f = position_first (is_glyph g) s.items out.at out.there in
    let a = f.found.before in
    let x = f.found.here in
    let b = f.found.after in
    let all : glyph_names s.items ≡ glyph_names a ++ g ∷ glyph_names b =
    ap glyph_names f.found.whole ∙ names-append a (x ∷ b) ∙ ap (λ l. glyph_names a ++ l) (name-here g x b f.found.passes) in
    names-of s made (a ++ b) (out.are ∙ ap raised (ap (λ t. remove t out.at) f.found.whole ∙ removed_there a x b out.at f.place))
    ∙ names-append a b
    ∙ sym (ap (filter (λ name. not (bytes_eq g name))) all ∙ but-there g (glyph_names a) (glyph_names b) (subst AreDistinct all (names_distinct s well)))

-- ---- all edits

pub names_edited : NamesLaw
unfolding edited
names_edited s k (ReplaceGlyph g body) made ps well e = names-replaced s g body made (source_given k ps (replaced_glyph s g body) made e)
names_edited s k (AddGlyph g body) made ps well e = names-added s g body made well (source_given k ps (added_glyph s g body) made e)
names_edited s k (RemoveGlyph g) made ps well e = names-removed s g made well (source_given k ps (removed_glyph s g) made e)
names_edited s k (ReplaceSubr n body) made ps well e = names-same (subr_key n) s made (no-subr n) (edits_named s k (ReplaceSubr n body) made ps e)
names_edited s k (AddSubr n body) made ps well e = names-same (subr_key n) s made (no-subr n) (edits_named s k (AddSubr n body) made ps e)
names_edited s k (RemoveSubr n) made ps well e = names-same (subr_key n) s made (no-subr n) (edits_named s k (RemoveSubr n) made ps e)
names_edited s k (Encode code g) made ps well e = names-same [] s made (λ g. refl) (edits_named s k (Encode code g) made ps e)
names_edited s k (Unencode code) made ps well e = names-same [] s made (λ g. refl) (edits_named s k (Unencode code) made ps e)
names_edited s k (LenIv n) made ps well e = names-same [] s made (λ g. refl) (edits_named s k (LenIv n) made ps e)
names_edited s k (Kern left right v) made ps well e = names-same [] s made (λ g. refl) (edits_named s k (Kern left right v) made ps e)
names_edited s k (Unkern left right) made ps well e = names-same [] s made (λ g. refl) (edits_named s k (Unkern left right) made ps e)
