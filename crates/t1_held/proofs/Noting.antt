-- The entries that edits name, each taken out once.
use Rattle.std.proofs.Common.{◌≡◌, ℕ, Bool, true, false, cond, not, List, [], ◌∷◌, ◌++◌, map, filter, reverse, length, arith, Option, None, Some, is_some, refl, sym, ◌∙◌, ap, subst}
use Rattle.std.specs.Prelude.{◌||◌, ◌&&◌}
use Rattle.std.specs.List.{list_any, AllByRecursion}
use Rattle.std.specs.Option.{option_or, option_to_list}
use Rattle.std.specs.Str.{bytes_eq}
use Rattle.std.specs.Cmp.{both_ways}
use Rattle.std.proofs.Math.Bool.{and-false, or-false}
use Rattle.std.proofs.lemmas.Bool.{or_from, or_parts}
use Rattle.std.proofs.lemmas.List.{append_assoc, append-nil, map-append, reverse-append}
use Rattle.std.proofs.lemmas.List.Elements.{filter-append}
use Rattle.std.proofs.lemmas.List.Folds.{list_any-append}
use Rattle.t1_code.specs.declared.command.Command.{Command}
use Rattle.t1_parts.specs.SourceParts.{SourceParts}
use Rattle.t1_run.specs.Run.{Key, Subr, Glyph}
use Rattle.t1_run.specs.RunKeys.{key_eq}
use Rattle.t1_run.specs.Touched.{is_key_of}
use Rattle.t1_run.proofs.Within.{each-append}
use Rattle.t1_font.specs.OwnedKeys.{key_of}
use Rattle.t1_font.specs.declared.owned_key.OwnedKey.{OwnedKey}
use Rattle.t1_font.specs.declared.owned_key.OwnedKey.TheVariants as named
use Rattle.t1_font.proofs.Keys.{key-itself, key-same}
use Rattle.t1_cache.proofs.Filtering.{filter-both, filter-same, passed}
use Rattle.t1_cache.proofs.Lists.{all-weaken}
use Rattle.t1_rerun.specs.declared.entry_change.EntryChange.{EntryChange}
use Rattle.t1_rerun.specs.Settled.{changed_keys, last_glyph, last_glyphs, AreDistinctKeys}
use Rattle.t1_rerun.specs.Steps.{entry_change}
use Rattle.t1_held.specs.declared.batch.entries.EditedEntry.{EditedEntry}
use Rattle.t1_held.specs.Batch.{body_of, entry_edit, keys, EntryEdit}
use Rattle.t1_held.specs.Drafting.{added_last_first, last_body, names_back}
use Rattle.t1_held.specs.Noting.{added_keys, after_taken, all_bodies, all_taken, other_keys, taken_at, with_body, without_key, Kept}

-- ---- keys

key-sym : (j k : Key) → key_eq j k ≡ key_eq k j
key-sym j k =
    both_ways (key_eq j k) (key_eq k j) (λ on. ap (key_eq k) (key-same j k on) ∙ key-itself k) (λ on. ap (key_eq j) (key-same k j on) ∙ key-itself j)

without-at : (key k : Key) (m : Kept) → without_key key m k ≡ cond (key_eq k key) None (m k)
without-at key k m = ap (λ b. cond b None (m k)) (key-sym key k)

gone : (key : Key) (m : Kept) → without_key key m key ≡ None
gone key m = ap (λ b. cond b None (m key)) (key-itself key)

abbrev pub has_key : Key → List OwnedKey → Bool
has_key k ds = list_any (key_eq k) (map key_of ds)

abbrev pub has_change : Key → List EntryChange → Bool
has_change k cs = list_any (key_eq k) (changed_keys cs)

-- ---- the last body of each entry

pub bodies-last : (es : List EditedEntry) (m : Kept) (k : Key) → all_bodies es m k ≡ option_or (last_body (map entry_edit es) k) (m k)
bodies-last [] m k = refl
bodies-last (e ∷ es) m k =
    bodies-last es (with_body (key_of e.named) (body_of e.after) m) k
    ∙ by (last_body (map entry_edit es) k) (key_eq k (key_of e.named))
  where
    by : (r : Option (Option (List Command))) (b : Bool)
        → option_or r (cond b (Some (body_of e.after)) (m k)) ≡ option_or (option_or r (cond b (Some (body_of e.after)) None)) (m k)
    by (Some x) b = refl
    by None true = refl
    by None false = refl

-- an entry that an edit names has a last body
pub last-named : (es : List EntryEdit) (k : Key) → is_some (last_body es k) ≡ list_any (key_eq k) (keys es)
last-named [] k = refl
last-named (e ∷ es) k = by (last_body es k) (key_eq k e.key) (last-named es k) where
  by : (r : Option (Option (List Command))) (b : Bool) → is_some r ≡ list_any (key_eq k) (keys es)
      → is_some (option_or r (cond b (Some (body_of e.after)) None)) ≡ (b || list_any (key_eq k) (keys es))
  by (Some x) true h = refl
  by (Some x) false h = h
  by None true h = refl
  by None false h = h

-- ---- the entries of the edits that add one, and of the others

pub added-or-other : (es : List EditedEntry) (k : Key) → list_any (key_eq k) (keys (map entry_edit es)) ≡ (has_key k (added_keys es) || has_key k (other_keys es))
added-or-other [] k = refl
added-or-other (e ∷ es) k = by e.added (added-or-other es k) where
  turned : (x a b : Bool) → (x || (a || b)) ≡ (a || (x || b))
  turned true true b = refl
  turned true false b = refl
  turned false a b = refl

  or-front : (a b c : Bool) → c ≡ (a || b) → ((key_eq k (key_of e.named) || c) ≡ (a || (key_eq k (key_of e.named) || b)))
  or-front a b c h = ap (λ x. key_eq k (key_of e.named) || x) h ∙ turned (key_eq k (key_of e.named)) a b

  or-first : (x a b c : Bool) → c ≡ (a || b) → (x || c) ≡ ((x || a) || b)
  or-first true a b c h = refl
  or-first false a b c h = h

  by : (added : Bool) → list_any (key_eq k) (keys (map entry_edit es)) ≡ (has_key k (added_keys es) || has_key k (other_keys es))
      → (key_eq k (key_of e.named) || list_any (key_eq k) (keys (map entry_edit es)))
      ≡ (has_key k (cond added (e.named ∷ []) [] ++ added_keys es) || has_key k (cond added [] (e.named ∷ []) ++ other_keys es))
  by true h = or-first (key_eq k (key_of e.named)) (has_key k (added_keys es)) (has_key k (other_keys es)) (list_any (key_eq k) (keys (map entry_edit es))) h
  by false h = or-front (has_key k (added_keys es)) (has_key k (other_keys es)) (list_any (key_eq k) (keys (map entry_edit es))) h

added-listed : (es : List EditedEntry) → map key_of (added_keys es) ≡ keys (filter (λ e. e.added) (map entry_edit es))
added-listed [] = refl
added-listed (e ∷ es) = by e.added (added-listed es) where
  by : (added : Bool) → map key_of (added_keys es) ≡ keys (filter (λ e. e.added) (map entry_edit es))
      → map key_of (cond added (e.named ∷ []) [] ++ added_keys es)
      ≡ keys (cond added (entry_edit e ∷ filter (λ e. e.added) (map entry_edit es)) (filter (λ e. e.added) (map entry_edit es)))
  by true later = ap (λ l. key_of e.named ∷ l) later
  by false later = later

pub added-any : (es : List EditedEntry) (k : Key) → list_any (λ x. x.added && key_eq k x.key) (map entry_edit es) ≡ has_key k (added_keys es)
added-any [] k = refl
added-any (e ∷ es) k = by e.added (added-any es k) where
  by : (b : Bool) → list_any (λ x. x.added && key_eq k x.key) (map entry_edit es) ≡ has_key k (added_keys es)
      → ((b && key_eq k (key_of e.named)) || list_any (λ x. x.added && key_eq k x.key) (map entry_edit es)) ≡ has_key k (cond b (e.named ∷ []) [] ++ added_keys es)
  by true later = ap (λ b. key_eq k (key_of e.named) || b) later
  by false later = later

map-reverse : {X Y : Type 0} (f : X → Y) (xs : List X) → map f (reverse xs) ≡ reverse (map f xs)
map-reverse f [] = refl
map-reverse f (x ∷ xs) =
    ap (map f) (reverse-append (x ∷ []) xs) ∙ map-append f (reverse xs) (x ∷ [])
    ∙ ap (λ l. l ++ f x ∷ []) (map-reverse f xs) ∙ sym (reverse-append (f x ∷ []) (map f xs))

-- the entries of the edits that add one, the last one first
pub added-back : (es : List EditedEntry) → map key_of (reverse (added_keys es)) ≡ added_last_first (map entry_edit es)
added-back es = map-reverse key_of (added_keys es) ∙ ap reverse (added-listed es)

any-reverse : {X : Type 0} (p : X → Bool) (xs : List X) → list_any p (reverse xs) ≡ list_any p xs
any-reverse p [] = refl
any-reverse p (x ∷ xs) =
    ap (list_any p) (reverse-append (x ∷ []) xs) ∙ list_any-append p (reverse xs) (x ∷ [])
    ∙ ap (λ b. b || (p x || false)) (any-reverse p xs) ∙ by (list_any p xs) (p x)
  where
    by : (a b : Bool) → (a || (b || false)) ≡ (b || a)
    by true true = refl
    by true false = refl
    by false true = refl
    by false false = refl

pub has-reverse : (k : Key) (ds : List OwnedKey) → has_key k (reverse ds) ≡ has_key k ds
has-reverse k ds = ap (list_any (key_eq k)) (map-reverse key_of ds) ∙ any-reverse (key_eq k) (map key_of ds)

pub change-reverse : (k : Key) (cs : List EntryChange) → has_change k (reverse cs) ≡ has_change k cs
change-reverse k cs = ap (list_any (key_eq k)) (map-reverse (λ c. key_of c.named) cs) ∙ any-reverse (key_eq k) (changed_keys cs)

pub moved-reverse : (p : EntryChange → Bool) (cs : List EntryChange) → list_any p (reverse cs) ≡ list_any p cs
moved-reverse p cs = any-reverse p cs

pub all-reverse : {X : Type 0} (P : X → Type 0) (xs : List X) → AllByRecursion P xs → AllByRecursion P (reverse xs)
all-reverse P [] h = tt
all-reverse P (x ∷ xs) h = subst (AllByRecursion P) (sym (reverse-append (x ∷ []) xs)) (each-append P (reverse xs) (x ∷ []) (all-reverse P xs h.1) (h.0, tt))

-- ---- one entry more is taken out

-- none are left
pub none-left : {X : Type 0} (xs : List X) → length xs ≡ 0 → xs ≡ []
none-left [] none = refl
none-left (x ∷ xs) none = absurd (omega (arith, none))

pub taken-more : (moved : Bool) (d : OwnedKey) (ds : List OwnedKey) (m n : Kept) (done new : List EntryChange) (change : Option EntryChange)
    → change ≡ taken_at (m (key_of d)) d moved → ((k : Key) → n k ≡ without_key (key_of d) m k) → new ≡ done ++ option_to_list change
    → done ++ all_taken m moved (d ∷ ds) ≡ new ++ all_taken n moved ds
taken-more moved d ds m n done new change is left gathered =
    sym (append_assoc done (option_to_list (taken_at (m (key_of d)) d moved)) (all_taken (without_key (key_of d) m) moved ds))
    ∙ ap (λ c. (done ++ option_to_list c) ++ all_taken (without_key (key_of d) m) moved ds) (sym is)
    ∙ ap (λ l. l ++ all_taken (without_key (key_of d) m) moved ds) (sym gathered)
    ∙ ap (λ s. new ++ all_taken s moved ds) (sym (λ j. λ k. left k j))

pub left-more : (d : OwnedKey) (ds : List OwnedKey) (m n : Kept) → ((k : Key) → n k ≡ without_key (key_of d) m k) → (k : Key)
    → after_taken ds n k ≡ after_taken (d ∷ ds) m k
left-more d ds m n left k = ap (λ s. after_taken ds s k) (λ j. λ x. left x j)

-- ---- which entries are taken out

pub taken-any : (k : Key) (moved : Bool) (ds : List OwnedKey) (m : Kept) → has_change k (all_taken m moved ds) ≡ (is_some (m k) && has_key k ds)
taken-any k moved [] m = sym (and-false (is_some (m k)))
taken-any k moved (d ∷ ds) m =
    by (m (key_of d)) refl (taken-any k moved ds (without_key (key_of d) m) ∙ ap (λ r. is_some r && has_key k ds) (without-at (key_of d) k m))
  where
    left : Bool
    left = has_change k (all_taken (without_key (key_of d) m) moved ds)

    missed : m (key_of d) ≡ None → (b : Bool) → key_eq k (key_of d) ≡ b → (is_some (cond b None (m k)) && has_key k ds) ≡ (is_some (m k) && (b || has_key k ds))
    missed none true on = sym (ap (λ r. is_some r && true) (ap m (key-same k (key_of d) on) ∙ none))
    missed none false off = refl

    found : (body : Option (List Command)) → m (key_of d) ≡ Some body → (b : Bool) → key_eq k (key_of d) ≡ b
        → (b || (is_some (cond b None (m k)) && has_key k ds)) ≡ (is_some (m k) && (b || has_key k ds))
    found body some true on = sym (ap (λ r. is_some r && true) (ap m (key-same k (key_of d) on) ∙ some))
    found body some false off = refl

    by : (r : Option (Option (List Command))) → m (key_of d) ≡ r → left ≡ (is_some (cond (key_eq k (key_of d)) None (m k)) && has_key k ds)
        → has_change k (option_to_list (taken_at r d moved) ++ all_taken (without_key (key_of d) m) moved ds)
        ≡ (is_some (m k) && (key_eq k (key_of d) || has_key k ds))
    by None none rest = rest ∙ missed none (key_eq k (key_of d)) refl
    by (Some body) some rest = ap (λ x. key_eq k (key_of d) || x) rest ∙ found body some (key_eq k (key_of d)) refl

-- what is left is what was kept and isn't among them
pub left-at : (ds : List OwnedKey) (m : Kept) (k : Key) → after_taken ds m k ≡ cond (has_key k ds) None (m k)
left-at [] m k = refl
left-at (d ∷ ds) m k =
    left-at ds (without_key (key_of d) m) k ∙ ap (cond (has_key k ds) None) (without-at (key_of d) k m) ∙ by (key_eq k (key_of d)) (has_key k ds)
  where
    by : (b has : Bool) → cond has None (cond b None (m k)) ≡ cond (b || has) None (m k)
    by true true = refl
    by true false = refl
    by false has = refl

pub taken-distinct : (moved : Bool) (ds : List OwnedKey) (m : Kept) → AreDistinctKeys (changed_keys (all_taken m moved ds))
taken-distinct moved [] m = tt
taken-distinct moved (d ∷ ds) m = by (m (key_of d)) (taken-distinct moved ds (without_key (key_of d) m)) where
  first : has_change (key_of d) (all_taken (without_key (key_of d) m) moved ds) ≡ false
  first = taken-any (key_of d) moved ds (without_key (key_of d) m) ∙ ap (λ r. is_some r && has_key (key_of d) ds) (gone (key_of d) m)

  by : (r : Option (Option (List Command))) → AreDistinctKeys (changed_keys (all_taken (without_key (key_of d) m) moved ds))
      → AreDistinctKeys (changed_keys (option_to_list (taken_at r d moved) ++ all_taken (without_key (key_of d) m) moved ds))
  by None rest = rest
  by (Some body) rest = (first, rest)

-- keys that are apart stand together once
pub distinct-both : (ks ls : List Key) → AreDistinctKeys ks → AreDistinctKeys ls → ((k : Key) → list_any (key_eq k) ls ≡ true → list_any (key_eq k) ks ≡ false)
    → AreDistinctKeys (ks ++ ls)
distinct-both [] ls d e apart = e
distinct-both (k ∷ ks) ls d e apart = (
  list_any-append (key_eq k) ks ls ∙ or_from (list_any (key_eq k) ks) (list_any (key_eq k) ls) d.0 (out (list_any (key_eq k) ls) refl),
  distinct-both ks ls d.1 e (λ j there. (or_parts (key_eq j k) (list_any (key_eq j) ks) (apart j there)).1),
)
  where
    out : (b : Bool) → list_any (key_eq k) ls ≡ b → list_any (key_eq k) ls ≡ false
    out false off = off
    out true on =
        let never : true ≡ false = sym (ap (λ b. b || list_any (key_eq k) ks) (key-itself k)) ∙ apart k on in
        absurd (cc)

pub distinct-reverse : (ks : List Key) → AreDistinctKeys ks → AreDistinctKeys (reverse ks)
distinct-reverse [] d = tt
distinct-reverse (k ∷ ks) d =
    subst AreDistinctKeys (sym (reverse-append (k ∷ []) ks))
    (distinct-both (reverse ks) (k ∷ []) (distinct-reverse ks d.1) (refl, tt)
    (λ j there. any-reverse (key_eq j) ks ∙ ap (λ x. list_any (key_eq x) ks) (key-same j k (sym (or-false (key_eq j k)) ∙ there)) ∙ d.0))

pub changes-distinct : (cs : List EntryChange) → AreDistinctKeys (changed_keys cs) → AreDistinctKeys (changed_keys (reverse cs))
changes-distinct cs d = subst AreDistinctKeys (sym (map-reverse (λ c. key_of c.named) cs)) (distinct-reverse (changed_keys cs) d)

-- an entry that is taken out, with what was kept of it
pub record IsTaken (m : Kept) (moved : Bool) (c : EntryChange) : Type 0 where
  pub body : m (key_of c.named) ≡ Some c.body
  pub moves : c.moved ≡ moved

pub each-taken : (moved : Bool) (ds : List OwnedKey) (m : Kept) → AllByRecursion (IsTaken m moved) (all_taken m moved ds)
each-taken moved [] m = tt
each-taken moved (d ∷ ds) m =
    by (m (key_of d)) refl
    (all-weaken (IsTaken (without_key (key_of d) m) moved) (IsTaken m moved) lifted (all_taken (without_key (key_of d) m) moved ds) (each-taken moved ds (without_key (key_of d) m)))
  where
    lifted : (c : EntryChange) → IsTaken (without_key (key_of d) m) moved c → IsTaken m moved c
    lifted c h = record { body = still (key_eq (key_of c.named) (key_of d)) (sym (without-at (key_of d) (key_of c.named) m) ∙ h.body); moves = h.moves } where
      still : (b : Bool) → cond b None (m (key_of c.named)) ≡ Some c.body → m (key_of c.named) ≡ Some c.body
      still true e = absurd (cc)
      still false e = e

    by : (r : Option (Option (List Command))) → m (key_of d) ≡ r → AllByRecursion (IsTaken m moved) (all_taken (without_key (key_of d) m) moved ds)
        → AllByRecursion (IsTaken m moved) (option_to_list (taken_at r d moved) ++ all_taken (without_key (key_of d) m) moved ds)
    by None none rest = rest
    by (Some body) some rest = (record { body = some; moves = refl }, rest)

-- ---- which of them moved

pub moved-any : (g : List ℕ) (moved : Bool) (cs : List EntryChange) → AllByRecursion (λ c. c.moved ≡ moved) cs
    → list_any (λ c. c.moved && is_key_of g (key_of c.named)) cs ≡ (moved && list_any (is_key_of g) (changed_keys cs))
moved-any g moved [] h = sym (and-false moved)
moved-any g moved (c ∷ cs) h =
    ap (λ b. (b && is_key_of g (key_of c.named)) || list_any (λ c. c.moved && is_key_of g (key_of c.named)) cs) h.0
    ∙ ap (λ b. (moved && is_key_of g (key_of c.named)) || b) (moved-any g moved cs h.1)
    ∙ by moved
  where
    by : (b : Bool) → ((b && is_key_of g (key_of c.named)) || (b && list_any (is_key_of g) (changed_keys cs))) ≡ (b && (is_key_of g (key_of c.named) || list_any (is_key_of g) (changed_keys cs)))
    by true = refl
    by false = refl

-- ---- the glyphs that stand last

pub last-append : (old : SourceParts) (cs ds : List EntryChange) → last_glyphs old (cs ++ ds) ≡ last_glyphs old cs ++ last_glyphs old ds
last-append old [] ds = refl
last-append old (c ∷ cs) ds =
    ap (λ l. last_glyph old c.moved c.body c.named ++ l) (last-append old cs ds)
    ∙ sym (append_assoc (last_glyph old c.moved c.body c.named) (last_glyphs old cs) (last_glyphs old ds))

pub none-last : (old : SourceParts) (cs : List EntryChange) → AllByRecursion (λ c. last_glyph old c.moved c.body c.named ≡ []) cs → last_glyphs old cs ≡ []
none-last old [] h = refl
none-last old (c ∷ cs) h = ap (λ l. l ++ last_glyphs old cs) h.0 ∙ none-last old cs h.1

-- a body is kept
abbrev pub has_body : Option (Option (List Command)) → Bool
has_body (Some (Some body)) = true
has_body (Some None) = false
has_body None = false

-- those that an edit added, by their names
pub names-last : (old : SourceParts) (ds : List OwnedKey) (m : Kept)
    → last_glyphs old (reverse (all_taken m true ds)) ≡ filter (λ g. has_body (m (Glyph g))) (names_back (map key_of ds))
names-last old [] m = refl
names-last old (d ∷ ds) m = one d (m (key_of d)) refl (names-last old ds (without_key (key_of d) m)) where
  put : (d : OwnedKey) (r : Option (Option (List Command))) (rest : List EntryChange)
      → last_glyphs old (reverse (option_to_list (taken_at r d true) ++ rest)) ≡ last_glyphs old (reverse rest) ++ last_glyphs old (option_to_list (taken_at r d true))
  put d None rest = sym (append-nil (last_glyphs old (reverse rest)))
  put d (Some body) rest = ap (last_glyphs old) (reverse-append (entry_change d body true ∷ []) rest) ∙ last-append old (reverse rest) (entry_change d body true ∷ [])

  alone : (g : List ℕ) (r : Option (Option (List Command))) → last_glyphs old (option_to_list (taken_at r (named.Glyph g) true)) ≡ cond (has_body r) (g ∷ []) []
  alone g None = refl
  alone g (Some None) = refl
  alone g (Some (Some body)) = refl

  no-name : (n : ℕ) (r : Option (Option (List Command))) → last_glyphs old (option_to_list (taken_at r (named.Subr n) true)) ≡ []
  no-name n None = refl
  no-name n (Some None) = refl
  no-name n (Some (Some body)) = refl

  kept : (g x : List ℕ) (b : Bool) → bytes_eq g x ≡ b → has_body (without_key (Glyph g) m (Glyph x)) ≡ (not b && has_body (m (Glyph x)))
  kept g x true on = ap (λ b. has_body (cond b None (m (Glyph x)))) on
  kept g x false off = ap (λ b. has_body (cond b None (m (Glyph x)))) off

  one : (d : OwnedKey) (r : Option (Option (List Command))) → m (key_of d) ≡ r
      → last_glyphs old (reverse (all_taken (without_key (key_of d) m) true ds)) ≡ filter (λ g. has_body (without_key (key_of d) m (Glyph g))) (names_back (map key_of ds))
      → last_glyphs old (reverse (option_to_list (taken_at (m (key_of d)) d true) ++ all_taken (without_key (key_of d) m) true ds))
      ≡ filter (λ g. has_body (m (Glyph g))) (names_back (key_of d ∷ map key_of ds))
  one (named.Subr n) r is rest =
      put (named.Subr n) (m (Subr n)) (all_taken (without_key (Subr n) m) true ds)
      ∙ ap (λ l. last_glyphs old (reverse (all_taken (without_key (Subr n) m) true ds)) ++ l) (no-name n (m (Subr n)))
      ∙ append-nil (last_glyphs old (reverse (all_taken (without_key (Subr n) m) true ds)))
      ∙ rest
  one (named.Glyph g) r is rest =
      put (named.Glyph g) (m (Glyph g)) (all_taken (without_key (Glyph g) m) true ds)
      ∙ ap (λ l. last_glyphs old (reverse (all_taken (without_key (Glyph g) m) true ds)) ++ l) (alone g (m (Glyph g)))
      ∙ ap (λ l. l ++ cond (has_body (m (Glyph g))) (g ∷ []) [])
      (rest ∙ filter-same (λ x. has_body (without_key (Glyph g) m (Glyph x))) (λ x. not (bytes_eq g x) && has_body (m (Glyph x))) (names_back (map key_of ds))
      (λ x. kept g x (bytes_eq g x) refl)
      ∙ sym (filter-both (λ x. not (bytes_eq g x)) (λ x. has_body (m (Glyph x))) (names_back (map key_of ds))))
      ∙ sym (filter-append (λ x. has_body (m (Glyph x))) (filter (λ x. not (bytes_eq g x)) (names_back (map key_of ds))) (g ∷ []))

-- a glyph whose name stands there is among the keys
pub named-back : (g : List ℕ) (ks : List Key) → list_any (bytes_eq g) (names_back ks) ≡ true → list_any (key_eq (Glyph g)) ks ≡ true
named-back g [] h = absurd (cc)
named-back g (Subr n ∷ ks) h = named-back g ks h
named-back g (Glyph x ∷ ks) h = by (bytes_eq g x) refl (λ there. named-back g ks there) where
  others : List (List ℕ)
  others = filter (λ y. not (bytes_eq x y)) (names_back ks)

  by : (b : Bool) → bytes_eq g x ≡ b → (list_any (bytes_eq g) (names_back ks) ≡ true → list_any (key_eq (Glyph g)) ks ≡ true)
      → (bytes_eq g x || list_any (key_eq (Glyph g)) ks) ≡ true
  by true on later = ap (λ b. b || list_any (key_eq (Glyph g)) ks) on
  by false off later =
      ap (λ b. b || list_any (key_eq (Glyph g)) ks) off
      ∙ later (passed (λ y. not (bytes_eq x y)) g (names_back ks)
      (sym (or-false (list_any (bytes_eq g) others)) ∙ ap (λ b. list_any (bytes_eq g) others || (b || false)) (sym off)
      ∙ sym (list_any-append (bytes_eq g) others (x ∷ [])) ∙ h))
