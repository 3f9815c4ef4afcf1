-- The body at the key that an edit names.
use Rattle.std.proofs.Common.{◌≡◌, ℕ, Bool, true, false, cond, ℤ, Ok, Option, Some, None, List, [], ◌∷◌, ◌++◌, take, drop, codes, refl, sym, subst, ◌∙◌, ap, inl, inr}
use Rattle.std.specs.Prelude.{◌||◌}
use Rattle.std.specs.List.{list_any, position, insert, remove, slice_set}
use Rattle.std.specs.Option.{option_or}
use Rattle.std.specs.Result.{result_ok}
use Rattle.std.proofs.lemmas.Bool.{eqb-true, or_parts}
use Rattle.std.proofs.lemmas.List.{take-append-drop}
use Rattle.std.proofs.lemmas.List.Folds.{list_any-append}
use Rattle.std.proofs.lemmas.Slice.Eq.{bytes_eq-Decides}
use Rattle.t1_code.specs.Words.{commands}
use Rattle.t1_code.specs.declared.command.Command.{Command}
use Rattle.t1_source.specs.declared.edit.Edit.TheVariants.{ReplaceGlyph, AddGlyph, RemoveGlyph, ReplaceSubr, AddSubr, RemoveSubr, Encode, Unencode, LenIv, Kern, Unkern}
use Rattle.t1_parts.specs.declared.item.Item.{Item}
use Rattle.t1_parts.specs.declared.item.Item.TheVariants as items
use Rattle.t1_parts.specs.SourceParts.{SourceParts}
use Rattle.t1_parts.specs.Counts.{glyphs_needed, is_glyph_entry, raised, subrs_needed}
use Rattle.t1_parts.specs.Entries.{is_glyph, is_subr}
use Rattle.t1_source.specs.Editing.{number_up_to, body_words, closing_at, closing_among, is_subr_entry, replaced_glyph, added_glyph, removed_glyph, replaced_subr, added_subr, removed_subr, edited}
use Rattle.t1_source.specs.WellFormed.{IsWellFormed, Stand, Stands}
use Rattle.t1_source.proofs.WellFormedEditedLaws.{source_given}
use Rattle.t1_source.proofs.ItemPlaceLaws.{before_last, position_first, removed_there, set_there}
use Rattle.t1_source.proofs.StandLaws.{stand_back}
use Rattle.t1_source.proofs.WellFormedEntryLaws.{any_last, any_first}
use Rattle.t1_run.specs.Run.{Key, Subr, Glyph}
use Rattle.t1_run.specs.RunKeys.{body_at}
use Rattle.t1_run.specs.Footprint.{Includes}
use Rattle.t1_run.proofs.Asked.{eq_self}
use Rattle.t1_font.specs.Bodies.{bodies, glyph_among, glyph_in, subr_among, subr_in}
use Rattle.t1_cache.specs.EditKeys.{subr_key}
use Rattle.t1_cache.specs.Overlay.{BodyLaw}
use Rattle.t1_cache.proofs.Accepted.{glyph_at, last_glyph, last_subr, new_glyph, new_subr, subr_at, added_glyph-made, added_subr-made, removed_glyph-made, removed_subr-made, replaced_glyph-made, replaced_subr-made}
use Rattle.t1_cache.proofs.Edits.{key-of}
use Rattle.t1_cache.proofs.Middles.{glyph-raised, subr-raised}
use Rattle.t1_font.proofs.Lookups.{bytes_tell}

-- ---- the first body of some items

abbrev Reads : Type 0
Reads = Item → Option (List Command)

first : Reads → List Item → Option (List Command)
first f [] = None
first f (i ∷ is) = option_or (f i) (first f is)

-- an item that fails the test has no body
abbrev Needs : (Item → Bool) → Reads → Type 0
Needs test f = (i : Item) → test i ≡ false → f i ≡ None

first-past : (test : Item → Bool) (f : Reads) → Needs test f → (a b : List Item) → list_any test a ≡ false → first f (a ++ b) ≡ first f b
unfolding first
first-past test f needs [] b h = refl
first-past test f needs (i ∷ a) b h =
    let h' = or_parts (test i) (list_any test a) h in
    ap (λ r. option_or r (first f (a ++ b))) (needs i h'.0) ∙ first-past test f needs a b h'.1

first-none : (test : Item → Bool) (f : Reads) → Needs test f → (b : List Item) → list_any test b ≡ false → first f b ≡ None
unfolding first
first-none test f needs [] h = refl
first-none test f needs (i ∷ b) h =
    let h' = or_parts (test i) (list_any test b) h in
    ap (λ r. option_or r (first f b)) (needs i h'.0) ∙ first-none test f needs b h'.1

first-here : (test : Item → Bool) (f : Reads) → Needs test f → (a : List Item) (y : Item) (b : List Item) → list_any test a ≡ false → list_any test b ≡ false
    → first f (a ++ y ∷ b) ≡ f y
unfolding first
first-here test f needs a y b before after =
    first-past test f needs a (y ∷ b) before ∙ ap (option_or (f y)) (first-none test f needs b after) ∙ alone (f y)
  where
    alone : (r : Option (List Command)) → option_or r None ≡ r
    alone None = refl
    alone (Some body) = refl

first-out : (test : Item → Bool) (f : Reads) → Needs test f → (a b : List Item) → list_any test a ≡ false → list_any test b ≡ false → first f (a ++ b) ≡ None
first-out test f needs a b before after = first-past test f needs a b before ∙ first-none test f needs b after

glyph-needs : (g : List ℕ) → Needs (is_glyph g) (λ i. glyph_in i g)
glyph-needs g (items.Plain l) h = refl
glyph-needs g (items.Section c n d) h = refl
glyph-needs g (items.Subr n ws c) h = refl
glyph-needs g (items.Glyph name ws c) h = ap (λ b. cond b (result_ok (commands ws)) None) h

subr-needs : (n : ℕ) → Needs (is_subr n) (λ i. subr_in i n)
subr-needs n (items.Plain l) h = refl
subr-needs n (items.Section c k d) h = refl
subr-needs n (items.Subr m ws c) h = ap (λ b. cond b (result_ok (commands ws)) None) h
subr-needs n (items.Glyph name ws c) h = refl

glyph-first : (g : List ℕ) (is : List Item) → glyph_among is g ≡ first (λ i. glyph_in i g) is
unfolding first
glyph-first g [] = refl
glyph-first g (i ∷ is) = ap (option_or (glyph_in i g)) (glyph-first g is)

subr-first : (n : ℕ) (is : List Item) → subr_among is n ≡ first (λ i. subr_in i n) is
unfolding first
subr-first n [] = refl
subr-first n (i ∷ is) = ap (option_or (subr_in i n)) (subr-first n is)

glyph-made : (g : List ℕ) (made : SourceParts) (xs : List Item) → made.items ≡ raised xs → (bodies made.items).glyphs g ≡ first (λ i. glyph_in i g) xs
glyph-made g made xs is = ap (λ t. glyph_among t g) is ∙ glyph-raised (subrs_needed xs) (glyphs_needed xs) xs g ∙ glyph-first g xs

subr-made : (n : ℕ) (made : SourceParts) (xs : List Item) → made.items ≡ raised xs → (bodies made.items).subrs n ≡ first (λ i. subr_in i n) xs
subr-made n made xs is = ap (λ t. subr_among t n) is ∙ subr-raised (subrs_needed xs) (glyphs_needed xs) xs n ∙ subr-first n xs

glyph-own : (g : List ℕ) (ws : List (List ℕ)) (closing : List ℕ) → glyph_in (items.Glyph g ws closing) g ≡ result_ok (commands ws)
glyph-own g ws closing = ap (λ b. cond b (result_ok (commands ws)) None) (bytes_tell.itself g)

subr-own : (n : ℕ) (ws : List (List ℕ)) (closing : List ℕ) → subr_in (items.Subr n ws closing) n ≡ result_ok (commands ws)
subr-own n ws closing = ap (λ b. cond b (result_ok (commands ws)) None) (eq_self n)

-- ---- an entry's key stands once

abbrev Once : (Item → Bool) → Type 0
Once test = (earlier : List Item) (i : Item) → Stands earlier i → test i ≡ true → list_any test earlier ≡ false

glyph-once : (g : List ℕ) → Once (is_glyph g)
glyph-once g earlier (items.Plain l) h on = absurd (cc)
glyph-once g earlier (items.Section c n d) h on = absurd (cc)
glyph-once g earlier (items.Subr n ws c) h on = absurd (cc)
glyph-once g earlier (items.Glyph name ws c) h on = ap (λ x. list_any (is_glyph x) earlier) ((bytes_eq-Decides g name).0 on) ∙ h.1

subr-once : (n : ℕ) → Once (is_subr n)
subr-once n earlier (items.Plain l) h on = absurd (cc)
subr-once n earlier (items.Section c k d) h on = absurd (cc)
subr-once n earlier (items.Subr m ws c) h on = ap (λ x. list_any (is_subr x) earlier) (eqb-true n m on) ∙ h.2
subr-once n earlier (items.Glyph name ws c) h on = absurd (cc)

none-later : (test : Item → Bool) → Once test → (earlier is : List Item) → list_any test earlier ≡ true → Stand earlier is → list_any test is ≡ false
none-later test once earlier [] there h = refl
none-later test once earlier (i ∷ is) there h = by (test i) refl (none-later test once (earlier ++ i ∷ []) is (any_first test earlier i there) h.1) where
  by : (b : Bool) → test i ≡ b → list_any test is ≡ false → (b || list_any test is) ≡ false
  by true on rest = let never : true ≡ false = sym there ∙ once earlier i h.0 on in absurd (cc)
  by false off rest = rest

none-following : (test : Item → Bool) → Once test → ((l : List ℕ) → test (items.Plain l) ≡ false) → (s : SourceParts) → IsWellFormed s
    → (a : List Item) (x : Item) (b : List Item) → s.items ≡ a ++ x ∷ b → test x ≡ true → list_any test b ≡ false
none-following test once plain s well a x b whole on =
    let p = well.items in
    let split = before_last test p.inner (items.Plain p.closefile) a x b (plain p.closefile) on (sym p.whole ∙ whole) in
    let stand : Stand [] (a ++ x ∷ split.0) = subst (Stand []) split.2 p.stand in
    let none = none-later test once (a ++ x ∷ []) split.0 (any_last test a x on) (stand_back [] a (x ∷ split.0) stand).1 in
    ap (list_any test) split.1 ∙ list_any-append test split.0 (items.Plain p.closefile ∷ [])
    ∙ ap (λ b. b || (test (items.Plain p.closefile) || false)) none ∙ ap (λ b. b || false) (plain p.closefile)

-- ---- entries replaced, put in and taken out

put-body : (test : Item → Bool) (f : Reads) → Needs test f → Once test → ((l : List ℕ) → test (items.Plain l) ≡ false) → (s : SourceParts) → IsWellFormed s
    → (at : ℕ) (y : Item) → position test s.items ≡ Some at → first f (slice_set s.items at y) ≡ f y
put-body test f needs once plain s well at y there =
    let p = position_first test s.items at there in
    let a = p.found.before in
    let x = p.found.here in
    let b = p.found.after in
    ap (first f) (ap (λ t. slice_set t at y) p.found.whole ∙ set_there a x b at y p.place)
    ∙ first-here test f needs a y b p.first (none-following test once plain s well a x b p.found.whole p.found.passes)

out-body : (test : Item → Bool) (f : Reads) → Needs test f → Once test → ((l : List ℕ) → test (items.Plain l) ≡ false) → (s : SourceParts) → IsWellFormed s
    → (at : ℕ) → position test s.items ≡ Some at → first f (remove s.items at) ≡ None
out-body test f needs once plain s well at there =
    let p = position_first test s.items at there in
    let a = p.found.before in
    let x = p.found.here in
    let b = p.found.after in
    ap (first f) (ap (λ t. remove t at) p.found.whole ∙ removed_there a x b at p.place)
    ∙ first-out test f needs a b p.first (none-following test once plain s well a x b p.found.whole p.found.passes)

in-body : (test : Item → Bool) (f : Reads) → Needs test f → (is : List Item) (at : ℕ) (y : Item) → list_any test is ≡ false → first f (insert is at y) ≡ f y
in-body test f needs is at y none =
    let parts = or_parts (list_any test (take at is)) (list_any test (drop at is))
    (sym (list_any-append test (take at is) (drop at is)) ∙ ap (list_any test) (take-append-drop at is) ∙ none) in
    first-here test f needs (take at is) y (drop at is) parts.0 parts.1

one-key : (P : Key → Type 0) (k : Key) → P k → (key : Key) → Includes (k ∷ []) key → P key
one-key P k h key (inl e) = subst P e h
one-key P k h key (inr i) = absurd i

glyph-replaced : (s : SourceParts) (g body : List ℕ) (made : SourceParts) → IsWellFormed s → replaced_glyph s g body ≡ Ok made
    → (bodies made.items).glyphs g ≡ result_ok (commands (body_words body))
glyph-replaced s g body made well e =
    let put = replaced_glyph-made s g body made e in
    let y : ℕ → Item = glyph_at s g body in
    glyph-made g made (slice_set s.items put.at (y put.at)) put.are
    ∙ put-body (is_glyph g) (λ i. glyph_in i g) (glyph-needs g) (glyph-once g) (λ l. refl) s well put.at (y put.at) put.there
    ∙ glyph-own g (body_words body) (closing_at put.at s.items)

glyph-added : (s : SourceParts) (g body : List ℕ) (made : SourceParts) → added_glyph s g body ≡ Ok made → (bodies made.items).glyphs g ≡ result_ok (commands (body_words body))
glyph-added s g body made e =
    let new = added_glyph-made s g body made e in
    let y : Item = new_glyph s g body in
    glyph-made g made (insert s.items (last_glyph s) y) new.are
    ∙ in-body (is_glyph g) (λ i. glyph_in i g) (glyph-needs g) s.items (last_glyph s) y new.fresh
    ∙ glyph-own g (body_words body) (closing_among is_glyph_entry (codes "noaccess def") s.items)

glyph-removed : (s : SourceParts) (g : List ℕ) (made : SourceParts) → IsWellFormed s → removed_glyph s g ≡ Ok made → (bodies made.items).glyphs g ≡ None
glyph-removed s g made well e =
    let out = removed_glyph-made s g made e in
    glyph-made g made (remove s.items out.at) out.are
    ∙ out-body (is_glyph g) (λ i. glyph_in i g) (glyph-needs g) (glyph-once g) (λ l. refl) s well out.at out.there

-- the Subr of a number that is in range
subr-body-at : (v : ℤ) (n : ℕ) (made : SourceParts) (body : Option (List Command)) → number_up_to 32000 v ≡ Ok n → (bodies made.items).subrs n ≡ body
    → (key : Key) → Includes (subr_key v) key → body_at (bodies made.items) key ≡ body
subr-body-at v n made body number is key among =
    one-key (λ k. body_at (bodies made.items) k ≡ body) (Subr n) is key (subst (λ keys. Includes keys key) (sym (key-of v n number)) among)

subr-replaced : (s : SourceParts) (v : ℤ) (body : List ℕ) (made : SourceParts) → IsWellFormed s → replaced_subr s v body ≡ Ok made
    → (key : Key) → Includes (subr_key v) key → body_at (bodies made.items) key ≡ result_ok (commands (body_words body))
subr-replaced s v body made well e =
    let its = replaced_subr-made s v body made e in
    let n = its.n in
    let put = its.made in
    let y : ℕ → Item = subr_at s body n in
    subr-body-at v n made (result_ok (commands (body_words body))) its.within
    (subr-made n made (slice_set s.items put.at (y put.at)) put.are
    ∙ put-body (is_subr n) (λ i. subr_in i n) (subr-needs n) (subr-once n) (λ l. refl) s well put.at (y put.at) put.there
    ∙ subr-own n (body_words body) (closing_at put.at s.items))

subr-added : (s : SourceParts) (v : ℤ) (body : List ℕ) (made : SourceParts) → added_subr s v body ≡ Ok made
    → (key : Key) → Includes (subr_key v) key → body_at (bodies made.items) key ≡ result_ok (commands (body_words body))
subr-added s v body made e =
    let its = added_subr-made s v body made e in
    let n = its.n in
    let y : Item = new_subr s body n in
    subr-body-at v n made (result_ok (commands (body_words body))) its.within
    (subr-made n made (insert s.items (last_subr s) y) its.made.are
    ∙ in-body (is_subr n) (λ i. subr_in i n) (subr-needs n) s.items (last_subr s) y its.made.fresh
    ∙ subr-own n (body_words body) (closing_among is_subr_entry (codes "noaccess put") s.items))

subr-removed : (s : SourceParts) (v : ℤ) (made : SourceParts) → IsWellFormed s → removed_subr s v ≡ Ok made
    → (key : Key) → Includes (subr_key v) key → body_at (bodies made.items) key ≡ None
subr-removed s v made well e =
    let its = removed_subr-made s v made e in
    let n = its.n in
    let out = its.made in
    subr-body-at v n made None its.within
    (subr-made n made (remove s.items out.at) out.are
    ∙ out-body (is_subr n) (λ i. subr_in i n) (subr-needs n) (subr-once n) (λ l. refl) s well out.at out.there)

-- ---- all edits

pub body_edited : BodyLaw
unfolding edited
body_edited s k (ReplaceGlyph g body) made ps well e key i =
    one-key (λ x. body_at (bodies made.items) x ≡ result_ok (commands (body_words body))) (Glyph g)
    (glyph-replaced s g body made well (source_given k ps (replaced_glyph s g body) made e)) key i
body_edited s k (AddGlyph g body) made ps well e key i =
    one-key (λ x. body_at (bodies made.items) x ≡ result_ok (commands (body_words body))) (Glyph g)
    (glyph-added s g body made (source_given k ps (added_glyph s g body) made e)) key i
body_edited s k (RemoveGlyph g) made ps well e key i =
    one-key (λ x. body_at (bodies made.items) x ≡ None) (Glyph g) (glyph-removed s g made well (source_given k ps (removed_glyph s g) made e)) key i
body_edited s k (ReplaceSubr n body) made ps well e key i = subr-replaced s n body made well (source_given k ps (replaced_subr s n body) made e) key i
body_edited s k (AddSubr n body) made ps well e key i = subr-added s n body made (source_given k ps (added_subr s n body) made e) key i
body_edited s k (RemoveSubr n) made ps well e key i = subr-removed s n made well (source_given k ps (removed_subr s n) made e) key i
body_edited s k (Encode code g) made ps well e key i = absurd i
body_edited s k (Unencode code) made ps well e key i = absurd i
body_edited s k (LenIv n) made ps well e key i = absurd i
body_edited s k (Kern left right v) made ps well e key i = absurd i
body_edited s k (Unkern left right) made ps well e key i = absurd i
