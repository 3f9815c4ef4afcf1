-- The parts of a private text: the section lines, the charstrings, and what stands beside them.
use Rattle.std.proofs.Common.{◌≡◌, ◌+◌, ◌-◌, ◌^◌, ◌<◌, min, ℕ, Bool, true, false, cond, List, [], ◌∷◌, ◌++◌, map, length, length-append, is_none, is_some, refl, sym, ap, subst, ◌∙◌, Option, None, Some, Result, Ok, Err, arith}
use Rattle.std.specs.Prelude.{◌||◌, ◌&&◌, decimal, nat_eq, sum_by}
use Rattle.std.specs.List.{list_any}
use Rattle.std.specs.Option.{option_map, option_or}
use Rattle.std.specs.Result.{result_ok}
use Rattle.std.specs.Str.{bytes_eq}
use Rattle.std.specs.declared.alloc.Global.{Global}
use Rattle.std.specs.declared.vec.Vec.{Vec}
use Rattle.std.proofs.lemmas.List.Folds.{list_any-append}
use Rattle.std.proofs.lemmas.List.Sums.{sum_by-cons}
use Rattle.t1_frac.specs.Ascii.{line_feed, space}
use Rattle.t1_frac.specs.declared.fault.Code.{Code}
use Rattle.t1_frac.specs.declared.fault.Fault.{Fault}
use Rattle.t1_frac.specs.declared.fault.Place.{Place}
use Rattle.t1_frac.specs.declared.fault.Place.TheVariants as places
use Rattle.t1_frac.specs.Outcome.{reported_at, ◌>>=◌}
use Rattle.t1_code.specs.declared.command.Command.{Command}
use Rattle.t1_code.specs.Pfb.{closing_text}
use Rattle.t1_code.specs.Words.{commands}
use Rattle.t1_parts.specs.declared.item.Item.{Item}
use Rattle.t1_parts.specs.declared.item.Item.TheVariants as items
use Rattle.t1_parts.specs.LenIV.{lead}
use Rattle.t1_parts.specs.Operator.{operator}
use Rattle.t1_parts.specs.SourceParts.{SourceParts}
use Rattle.t1_source.specs.WellFormed.{IsWellFormed, Stand}
use Rattle.t1_run.specs.Run.{Key, Subr, Glyph}
use Rattle.t1_run.specs.RunKeys.{body_at, key_eq}
use Rattle.t1_font.specs.Assembly.{file_check, private_text}
use Rattle.t1_font.specs.Bodies.{bodies, bodies_check, body_check, glyph_in, subr_in, words_check}
use Rattle.t1_font.specs.Lengths.{IsPrivateLen}
use Rattle.t1_font.specs.OwnedKeys.{key_of}
use Rattle.t1_font.specs.declared.owned_key.OwnedKey.{OwnedKey}
use Rattle.t1_font.proofs.Lookups.{bytes_tell, numbers_tell}
use Rattle.t1_charstrings.specs.declared.edited.EditedEntries.{EditedEntries}
use Rattle.t1_charstrings.specs.declared.entries.Charstrings.{Charstrings}
use Rattle.t1_charstrings.specs.Batch.{is_gone, text_by, AreEdits, AreOnce}
use Rattle.t1_charstrings.specs.Beside.{all_beside, bare_length, beside, edited_keys, glyph_keys, kept_keys, subr_keys}
use Rattle.t1_charstrings.specs.Entries.{KeptCharstring, encrypted, glyph_charstring, subr_charstring}
use Rattle.t1_charstrings.specs.Kept.{charstring_at}
use Rattle.t1_charstrings.specs.Lines.{kept_entry_line}
use Rattle.t1_charstrings.specs.Sums.{has_key, section_line, section_lines_text}
use Rattle.t1_charstrings.proofs.Adding.{key-first, last-any, none-later}
use Rattle.t1_charstrings.proofs.Batches.{fresh_by, old-stays}
use Rattle.t1_charstrings.proofs.Entered.{len_small}
use Rattle.t1_charstrings.proofs.Entering.{body_in, first-body, none-there}
use Rattle.t1_charstrings.proofs.KeySums.{each-same, exchange, once-both, within-all, Covers}
use Rattle.t1_charstrings.proofs.Texts.{both_fine, text_by_is, Serves}
use Rattle.t1_charstrings.proofs.Totals.{same-ok}

-- ---- the keys of the entries among items

abbrev item-keys : List Item → List Key
item-keys [] = []
item-keys (items.Plain l ∷ is) = item-keys is
item-keys (items.Section before n after ∷ is) = item-keys is
item-keys (items.Subr n ws closing ∷ is) = Subr n ∷ item-keys is
item-keys (items.Glyph g ws closing ∷ is) = Glyph g ∷ item-keys is

any-item : (k : Key) (is : List Item) → list_any (key_eq k) (item-keys is) ≡ list_any (has_key k) is
any-item k [] = refl
any-item (Subr m) (items.Plain l ∷ is) = any-item (Subr m) is
any-item (Glyph f) (items.Plain l ∷ is) = any-item (Glyph f) is
any-item (Subr m) (items.Section before n after ∷ is) = any-item (Subr m) is
any-item (Glyph f) (items.Section before n after ∷ is) = any-item (Glyph f) is
any-item (Subr m) (items.Subr n ws closing ∷ is) = ap (λ b. nat_eq m n || b) (any-item (Subr m) is)
any-item (Glyph f) (items.Subr n ws closing ∷ is) = any-item (Glyph f) is
any-item (Subr m) (items.Glyph g ws closing ∷ is) = any-item (Subr m) is
any-item (Glyph f) (items.Glyph g ws closing ∷ is) = ap (λ b. bytes_eq f g || b) (any-item (Glyph f) is)

-- no later item has the key of one
none-after : (k : Key) (earlier : List Item) (i : Item) (is : List Item) (last : List ℕ) → Stand earlier (i ∷ is) → has_key k i ≡ true
    → list_any (key_eq k) (item-keys (is ++ items.Plain last ∷ [])) ≡ false
none-after k earlier i is last h on =
    let first = last-any (has_key k) earlier i false (key-first k earlier i h.0 on) ∙ ap (λ b. b || false) on in
    any-item k (is ++ items.Plain last ∷ []) ∙ none-later k (earlier ++ i ∷ []) is last first h.1

once-items : (earlier is : List Item) (last : List ℕ) → Stand earlier is → AreOnce (item-keys (is ++ items.Plain last ∷ []))
once-items earlier [] last h = tt
once-items earlier (items.Plain l ∷ is) last h = once-items (earlier ++ items.Plain l ∷ []) is last h.1
once-items earlier (items.Section before n after ∷ is) last h = once-items (earlier ++ items.Section before n after ∷ []) is last h.1
once-items earlier (items.Subr n ws closing ∷ is) last h = (
  none-after (Subr n) earlier (items.Subr n ws closing) is last h (numbers_tell.itself n),
  once-items (earlier ++ items.Subr n ws closing ∷ []) is last h.1,
)
once-items earlier (items.Glyph g ws closing ∷ is) last h = (
  none-after (Glyph g) earlier (items.Glyph g ws closing) is last h (bytes_tell.itself g),
  once-items (earlier ++ items.Glyph g ws closing ∷ []) is last h.1,
)

once-source : (s : SourceParts) → IsWellFormed s → AreOnce (item-keys s.items)
once-source s well =
    let p = well.items in
    subst (λ is. AreOnce (item-keys is)) (sym p.whole) (once-items [] p.inner p.closefile p.stand)

-- ---- the line of an entry, by its closing text

entry-parts : (o closing : List ℕ) (kept : Option KeptCharstring) → is_some kept ≡ true
    → length (kept_entry_line o closing kept) ≡ length (kept_entry_line o [] kept) + length (closing_text closing)
entry-parts o closing None is = absurd (cc)
entry-parts o closing (Some kept) is =
    let front = kept.head ++ space ∷ decimal (length kept.charstring) ++ space ∷ o ++ space ∷ kept.charstring in
    let end = line_feed ∷ [] in
    let with : length (kept_entry_line o closing (Some kept)) ≡ length front + length (closing_text closing) + length end =
    length-append (front ++ closing_text closing) end ∙ ap (λ n. n + length end) (length-append front (closing_text closing)) in
    let without : length (kept_entry_line o [] (Some kept)) ≡ length front + 0 + length end =
    length-append (front ++ []) end ∙ ap (λ n. n + length end) (length-append front []) in
    omega (arith, with, without)

-- ---- an entry without a fault has a body

read-ok : (place : Place) (r : Result (List Command) Code) → ◌≡◌ {A = Result (Unit {0}) Fault} (reported_at place r >>= λ _. Ok tt) (Ok tt) → is_some (result_ok r) ≡ true
read-ok place (Ok body) h = refl
read-ok place (Err code) h = absurd (cc)

subr-body : (n : ℕ) (ws : List (List ℕ)) (closing : List ℕ) → body_check (items.Subr n ws closing) ≡ Ok tt → is_some (subr_in (items.Subr n ws closing) n) ≡ true
unfolding words_check
subr-body n ws closing h =
    ap (λ b. is_some (cond b (result_ok (commands ws)) None)) (numbers_tell.itself n) ∙ read-ok (places.Subr n) (commands ws) h

glyph-body : (g : List ℕ) (ws : List (List ℕ)) (closing : List ℕ) → body_check (items.Glyph g ws closing) ≡ Ok tt
    → is_some (glyph_in (items.Glyph g ws closing) g) ≡ true
unfolding words_check
glyph-body g ws closing h =
    ap (λ b. is_some (cond b (result_ok (commands ws)) None)) (bytes_tell.itself g) ∙ read-ok (places.Glyph g) (commands ws) h

some-first : {X : Type 0} (a b : Option X) → is_some a ≡ true → is_some (option_or a b) ≡ true
some-first (Some x) b h = refl
some-first None b h = absurd (cc)

some-later : {X : Type 0} (a b : Option X) → is_some b ≡ true → is_some (option_or a b) ≡ true
some-later (Some x) b h = refl
some-later None b h = h

-- ---- the parts

-- at the key of each body something is kept
abbrev IsThere : (Key → Option KeptCharstring) → List Item → Type 0
IsThere at is = (k : Key) → is_some (body_at (bodies is) k) ≡ true → is_some (at k) ≡ true

rest-there : (at : Key → Option KeptCharstring) (i : Item) (is : List Item) → IsThere at (i ∷ is) → IsThere at is
rest-there at i is there k h =
    there k (ap is_some (first-body k i is) ∙ some-later (body_in k i) (body_at (bodies is) k) h)

first-there : (at : Key → Option KeptCharstring) (k : Key) (i : Item) (is : List Item) → IsThere at (i ∷ is) → is_some (body_in k i) ≡ true → is_some (at k) ≡ true
first-there at k i is there h =
    there k (ap is_some (first-body k i is) ∙ some-first (body_in k i) (body_at (bodies is) k) h)

text-parts : (at : Key → Option KeptCharstring) (o : List ℕ) (is : List Item) → bodies_check is ≡ Ok tt → IsThere at is
    → length (text_by at o is) ≡ all_beside is + (length (section_lines_text is) + sum_by (bare_length at o) (item-keys is))
text-parts at o [] sound there = omega arith
text-parts at o (items.Plain l ∷ is) sound there =
    let i = items.Plain l in
    let checks = both_fine (body_check i) (bodies_check is) sound in
    let rest = text-parts at o is checks.1 (rest-there at i is there) in
    omega (arith, rest, length-append (l ++ line_feed ∷ []) (text_by at o is), length-append l (line_feed ∷ []), sum_by-cons beside i is)
text-parts at o (items.Section before n after ∷ is) sound there =
    let i = items.Section before n after in
    let checks = both_fine (body_check i) (bodies_check is) sound in
    let rest = text-parts at o is checks.1 (rest-there at i is there) in
    omega (arith, rest, length-append (section_line i) (text_by at o is), length-append (section_line i) (section_lines_text is), sum_by-cons beside i is)
text-parts at o (items.Subr n ws closing ∷ is) sound there =
    let i = items.Subr n ws closing in
    let checks = both_fine (body_check i) (bodies_check is) sound in
    let rest = text-parts at o is checks.1 (rest-there at i is there) in
    let line = entry-parts o closing (at (Subr n)) (first-there at (Subr n) i is there (subr-body n ws closing checks.0)) in
    omega (
      arith,
      rest,
      line,
      length-append (kept_entry_line o closing (at (Subr n))) (text_by at o is),
      sum_by-cons beside i is,
      sum_by-cons (bare_length at o) (Subr n) (item-keys is),
    )
text-parts at o (items.Glyph g ws closing ∷ is) sound there =
    let i = items.Glyph g ws closing in
    let checks = both_fine (body_check i) (bodies_check is) sound in
    let rest = text-parts at o is checks.1 (rest-there at i is there) in
    let line = entry-parts o closing (at (Glyph g)) (first-there at (Glyph g) i is there (glyph-body g ws closing checks.0)) in
    omega (
      arith,
      rest,
      line,
      length-append (kept_entry_line o closing (at (Glyph g))) (text_by at o is),
      sum_by-cons beside i is,
      sum_by-cons (bare_length at o) (Glyph g) (item-keys is),
    )

-- ---- the private text of a source

-- the charstrings of its bodies
abbrev own-at : SourceParts → Key → Option KeptCharstring
own-at s k = option_map (encrypted (lead s) k) (body_at (bodies s.items) k)

some-map : {X Y : Type 0} (f : X → Y) (a : Option X) → is_some a ≡ true → is_some (option_map f a) ≡ true
some-map f (Some x) h = refl
some-map f None h = absurd (cc)

own-there : (s : SourceParts) → IsThere (own-at s) s.items
own-there s k h = some-map (encrypted (lead s) k) (body_at (bodies s.items) k) h

own-serves : (s : SourceParts) → Serves (lead s) s.items (own-at s)
own-serves s k body there = ap (option_map (encrypted (lead s) k)) there

own-covers : (s : SourceParts) (o : List ℕ) → Covers (bare_length (own-at s) o) (item-keys s.items)
own-covers s o k off =
    ap (λ r. length (kept_entry_line o [] (option_map (encrypted (lead s) k) r))) (none-there k s.items (sym (any-item k s.items) ∙ off))

-- how long it is
source-parts : (s : SourceParts) → IsWellFormed s → bodies_check s.items ≡ Ok tt → (o : List ℕ) → operator s ≡ o
    → (private_text (lead s) (operator s) s.items ≡ Ok (text_by (own-at s) (operator s) s.items))
    × (length (text_by (own-at s) (operator s) s.items) ≡ all_beside s.items + (length (section_lines_text s.items) + sum_by (bare_length (own-at s) o) (item-keys s.items)))
source-parts s well sound o named = (
  text_by_is s (own-at s) well sound (own-serves s),
  ap (λ name. length (text_by (own-at s) name s.items)) named ∙ text-parts (own-at s) o s.items sound (own-there s),
)

-- where it isn't too long to be counted
known-parts : (s : SourceParts) (n : ℕ) → IsWellFormed s → bodies_check s.items ≡ Ok tt → IsPrivateLen s n → n < 2 ^ 64 - 1
    → n ≡ all_beside s.items + (length (section_lines_text s.items) + sum_by (bare_length (own-at s) (operator s)) (item-keys s.items))
known-parts s n well sound known small =
    let parts = source-parts s well sound (operator s) refl in
    let same = ap (λ (t : List ℕ). length t) (same-ok known.0 (text_by (own-at s) (operator s) s.items) (sym known.1 ∙ parts.0)) in
    omega (arith, known.2, same, small, parts.1)

-- ---- the keys of entries that edits name

subrs-there : (n : ℕ) (es : List (ℕ × KeptCharstring)) → list_any (key_eq (Subr n)) (subr_keys es) ≡ is_some (subr_charstring es n)
subrs-there n [] = refl
subrs-there n (e ∷ es) = by (nat_eq n e.0) (subrs-there n es) where
  by : (b : Bool) → list_any (key_eq (Subr n)) (subr_keys es) ≡ is_some (subr_charstring es n)
      → (b || list_any (key_eq (Subr n)) (subr_keys es)) ≡ is_some (cond b (Some e.1) (subr_charstring es n))
  by true rest = refl
  by false rest = rest

glyphs-there : (g : List ℕ) (es : List (Vec ℕ Global × KeptCharstring)) → list_any (key_eq (Glyph g)) (glyph_keys es) ≡ is_some (glyph_charstring es g)
glyphs-there g [] = refl
glyphs-there g (e ∷ es) = by (bytes_eq g e.0.items) (glyphs-there g es) where
  by : (b : Bool) → list_any (key_eq (Glyph g)) (glyph_keys es) ≡ is_some (glyph_charstring es g)
      → (b || list_any (key_eq (Glyph g)) (glyph_keys es)) ≡ is_some (cond b (Some e.1) (glyph_charstring es g))
  by true rest = refl
  by false rest = rest

no-glyph : (n : ℕ) (es : List (Vec ℕ Global × KeptCharstring)) → list_any (key_eq (Subr n)) (glyph_keys es) ≡ false
no-glyph n [] = refl
no-glyph n (e ∷ es) = no-glyph n es

no-subr : (g : List ℕ) (es : List (ℕ × KeptCharstring)) → list_any (key_eq (Glyph g)) (subr_keys es) ≡ false
no-subr g [] = refl
no-subr g (e ∷ es) = no-subr g es

or-none : (b : Bool) → (b || false) ≡ b
or-none true = refl
or-none false = refl

-- a key is among those of what is kept where something is kept at it
kept-there : (c : Charstrings) (k : Key) → list_any (key_eq k) (kept_keys c) ≡ is_some (charstring_at c k)
kept-there c (Subr n) =
    list_any-append (key_eq (Subr n)) (subr_keys c.subrs.entries) (glyph_keys c.glyphs.entries)
    ∙ ap (λ b. list_any (key_eq (Subr n)) (subr_keys c.subrs.entries) || b) (no-glyph n c.glyphs.entries)
    ∙ or-none (list_any (key_eq (Subr n)) (subr_keys c.subrs.entries))
    ∙ subrs-there n c.subrs.entries
kept-there c (Glyph g) =
    list_any-append (key_eq (Glyph g)) (subr_keys c.subrs.entries) (glyph_keys c.glyphs.entries)
    ∙ ap (λ b. b || list_any (key_eq (Glyph g)) (glyph_keys c.glyphs.entries)) (no-subr g c.subrs.entries)
    ∙ glyphs-there g c.glyphs.entries

subr-alone : (es : List (ℕ × KeptCharstring)) (gs : List (Vec ℕ Global × KeptCharstring)) (k : Key)
    → list_any (key_eq k) (subr_keys es) ≡ true → list_any (key_eq k) (glyph_keys gs) ≡ false
subr-alone es gs (Subr n) among = no-glyph n gs
subr-alone es gs (Glyph g) among = let never : false ≡ true = sym (no-subr g es) ∙ among in absurd (cc)

gone-there : (gone : List OwnedKey) (k : Key) → list_any (key_eq k) (map key_of gone) ≡ is_gone gone k
gone-there [] k = refl
gone-there (g ∷ gone) k = ap (λ b. key_eq k (key_of g) || b) (gone-there gone k)

edited-there : (entries : EditedEntries) (k : Key) → list_any (key_eq k) (edited_keys entries) ≡ (is_some (charstring_at entries.fresh k) || is_gone entries.gone.items k)
edited-there entries k =
    list_any-append (key_eq k) (kept_keys entries.fresh) (map key_of entries.gone.items)
    ∙ ap (λ b. b || list_any (key_eq k) (map key_of entries.gone.items)) (kept-there entries.fresh k)
    ∙ ap (λ b. is_some (charstring_at entries.fresh k) || b) (gone-there entries.gone.items k)

-- ---- what is fresh or gone at a key

-- nothing is both
not-both : {X Y : Type 0} (f : X → Y) (named gone : Bool) (body : Option X) (fresh : Option Y) → fresh ≡ cond named (option_map f body) None
    → gone ≡ (named && is_none body) → is_some fresh ≡ true → gone ≡ false
not-both f true gone (Some b) fresh fresh_is gone_is some = gone_is
not-both f true gone None fresh fresh_is gone_is some = let never : false ≡ true = sym (ap is_some fresh_is) ∙ some in absurd (cc)
not-both f false gone body fresh fresh_is gone_is some = gone_is

-- what is neither isn't named
not-named : {X Y : Type 0} (f : X → Y) (named gone : Bool) (body : Option X) (fresh : Option Y) → fresh ≡ cond named (option_map f body) None
    → gone ≡ (named && is_none body) → (is_some fresh || gone) ≡ false → named ≡ false
not-named f true gone (Some b) fresh fresh_is gone_is off =
    let never : true ≡ false = sym (ap (λ o. is_some o || gone) fresh_is) ∙ off in absurd (cc)
not-named f true gone None fresh fresh_is gone_is off =
    let never : true ≡ false = sym (ap (λ o. is_some o || gone) fresh_is ∙ gone_is) ∙ off in absurd (cc)
not-named f false gone body fresh fresh_is gone_is off = refl

-- what is fresh or gone has its own charstring afresh
is-named : {X Y : Type 0} (f : X → Y) (named gone : Bool) (body : Option X) (fresh : Option Y) → fresh ≡ cond named (option_map f body) None
    → gone ≡ (named && is_none body) → (is_some fresh || gone) ≡ true → fresh ≡ option_map f body
is-named f true gone body fresh fresh_is gone_is on = fresh_is
is-named f false gone body fresh fresh_is gone_is on =
    let never : false ≡ true = sym (ap (λ o. is_some o || gone) fresh_is ∙ gone_is) ∙ on in absurd (cc)

-- ---- the private text of a batch

module _ (s made : SourceParts) (c : Charstrings) (entries : EditedEntries) (edits : AreEdits s made c entries) (front : lead made ≡ lead s) where
  fresh-at : (k : Key) → charstring_at entries.fresh k ≡ cond (list_any (key_eq k) edits.keys) (own-at made k) None
  fresh-at = fresh_by edits front

  pub once_edited : AreOnce (subr_keys entries.fresh.subrs.entries) → AreOnce (glyph_keys entries.fresh.glyphs.entries) → AreOnce (edited_keys entries)
  once_edited subrs glyphs =
      once-both (kept_keys entries.fresh) (map key_of entries.gone.items)
      (once-both (subr_keys entries.fresh.subrs.entries) (glyph_keys entries.fresh.glyphs.entries) subrs glyphs (subr-alone entries.fresh.subrs.entries entries.fresh.glyphs.entries))
      edits.once
      (λ k among.
      gone-there entries.gone.items k
      ∙ not-both (encrypted (lead made) k) (list_any (key_eq k) edits.keys) (is_gone entries.gone.items k) (body_at (bodies made.items) k) (charstring_at entries.fresh k)
      (fresh-at k) (edits.gone k) (sym (kept-there entries.fresh k) ∙ among))

  -- at the other keys both are the same
  others-same : (o : List ℕ) (k : Key) → list_any (key_eq k) (edited_keys entries) ≡ false → bare_length (own-at s) o k ≡ bare_length (own-at made) o k
  others-same o k off =
      let unnamed = not-named (encrypted (lead made) k) (list_any (key_eq k) edits.keys) (is_gone entries.gone.items k) (body_at (bodies made.items) k)
      (charstring_at entries.fresh k) (fresh-at k) (edits.gone k) (sym (edited-there entries k) ∙ off) in
      ap (λ r. length (kept_entry_line o [] r)) (sym (edits.edit.kept.each k) ∙ old-stays edits.keys s made c (edits.edit, front) k unnamed)

  -- at these the edited source's are the fresh ones
  fresh-same : (o : List ℕ) (k : Key) → list_any (key_eq k) (edited_keys entries) ≡ true
      → bare_length (charstring_at entries.fresh) o k ≡ bare_length (own-at made) o k
  fresh-same o k on =
      ap (λ r. length (kept_entry_line o [] r))
      (is-named (encrypted (lead made) k) (list_any (key_eq k) edits.keys) (is_gone entries.gone.items k) (body_at (bodies made.items) k)
      (charstring_at entries.fresh k) (fresh-at k) (edits.gone k) (sym (edited-there entries k) ∙ on))

  old-same : (o : List ℕ) (ks : List Key) → sum_by (bare_length (charstring_at c) o) ks ≡ sum_by (bare_length (own-at s) o) ks
  old-same o ks = each-same (bare_length (charstring_at c) o) (bare_length (own-at s) o) ks (λ k among. ap (λ r. length (kept_entry_line o [] r)) (edits.edit.kept.each k))

  -- how long it is, by the old one's
  pub batch_known : IsWellFormed s → file_check s ≡ Ok tt → operator made ≡ operator s
      → AreOnce (subr_keys entries.fresh.subrs.entries) → AreOnce (glyph_keys entries.fresh.glyphs.entries)
      → (n m : ℕ) → IsPrivateLen s n → m + all_beside s.items ≡ n + all_beside made.items
      → (old new sections made_sections len : ℕ)
      → old ≡ min (sum_by (bare_length (charstring_at c) (operator s)) (edited_keys entries)) (2 ^ 64 - 1)
      → new ≡ min (sum_by (bare_length (charstring_at entries.fresh) (operator s)) (edited_keys entries)) (2 ^ 64 - 1)
      → sections ≡ min (length (section_lines_text s.items)) (2 ^ 64 - 1)
      → made_sections ≡ min (length (section_lines_text made.items)) (2 ^ 64 - 1)
      → len ≡ min (min (((m - sections) - old) + made_sections) (2 ^ 64 - 1) + new) (2 ^ 64 - 1)
      → IsPrivateLen made len
  batch_known well file named subrs glyphs n m known kept old new sections made_sections len old_is new_is sections_are made_sections_are len_is =
      let o = operator s in
      let ds = edited_keys entries in
      let f = bare_length (own-at s) o in
      let g = bare_length (own-at made) o in
      let once = once_edited subrs glyphs in
      let one = once-source s well in
      let two = once-source made edits.edit.well in
      let small = len_small s n file known in
      let was = known-parts s n well edits.edit.kept.sound known small in
      let is = source-parts made edits.edit.well edits.edit.sound o named in
      let sums = exchange f g ds (item-keys s.items) (item-keys made.items) once one two (own-covers s o) (own-covers made o) (others-same o) in
      let less = within-all f ds (item-keys s.items) once one (own-covers s o) in
      let olds = old-same o ds in
      let news = each-same (bare_length (charstring_at entries.fresh) o) g ds (fresh-same o) in
      let whole : len ≡ min (length (text_by (own-at made) (operator made) made.items)) (2 ^ 64 - 1) =
      omega (arith, is.1, was, sums, less, olds, news, small, kept, old_is, new_is, sections_are, made_sections_are, len_is) in
      (text_by (own-at made) (operator made) made.items, is.0, whole)
