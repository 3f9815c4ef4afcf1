-- A source into which an entry is put, whose key no other has.
use Rattle.std.proofs.Common.{◌≡◌, ◌+◌, ◌-◌, ◌^◌, ◌≤◌, min, max, ℕ, zero, suc, true, false, cond, List, [], ◌∷◌, ◌++◌, map, length, length-append, filter_map, refl, sym, ap, subst, ◌∙◌, Some, Ok, arith, None}
use Rattle.std.specs.Prelude.{◌||◌, ◌&&◌, Err}
use Rattle.std.specs.List.{insert, list_all, list_any}
use Rattle.std.proofs.lemmas.List.Sums.{sum_by-cons}
use Rattle.t1_frac.specs.declared.fault.Code.TheVariants.{F23}
use Rattle.t1_frac.specs.declared.fault.Place.TheVariants.{Nowhere}
use Rattle.t1_frac.specs.Outcome.{fault_at}
use Rattle.t1_parts.specs.declared.item.Item.{Item}
use Rattle.t1_parts.specs.declared.item.Item.TheVariants as items
use Rattle.t1_parts.specs.Counts.{glyphs_needed, is_glyph_entry, raised_item, subrs_needed}
use Rattle.t1_parts.specs.Items.{is_entry}
use Rattle.t1_parts.specs.LenIV.{lead, first_lead, said_lead}
use Rattle.t1_parts.specs.Operator.{operator}
use Rattle.t1_parts.specs.SourceParts.{SourceParts}
use Rattle.t1_source.specs.Editing.{with_items}
use Rattle.t1_source.specs.WellFormed.{IsWellFormed, is_counted}
use Rattle.t1_source.proofs.WellFormedSourceLaws.{raised_said}
use Rattle.t1_run.specs.Run.{Key, Subr, Glyph}
use Rattle.t1_run.specs.RunKeys.{body_at}
use Rattle.t1_font.specs.Assembly.{counts_check, file_check}
use Rattle.t1_font.specs.Bodies.{bodies, bodies_check}
use Rattle.t1_charstrings.specs.declared.entries.Charstrings.{Charstrings}
use Rattle.t1_charstrings.specs.Batch.{AreFresh, IsEditOf}
use Rattle.t1_charstrings.specs.Entries.{encrypted}
use Rattle.t1_charstrings.specs.Kept.{AreEncrypted}
use Rattle.t1_font.specs.Lengths.{IsPrivateLen}
use Rattle.t1_charstrings.specs.Lines.{kept_line, kept_lines_text}
use Rattle.t1_charstrings.specs.Raising.{is_raised_counted, raised_check, raised_text}
use Rattle.t1_charstrings.specs.Ready.{edited_len, new_len}
use Rattle.t1_charstrings.specs.Sums.{AreEdited, has_key, item_at, section_line, section_lines_text}
use Rattle.t1_charstrings.proofs.Adding.{alone, text-both, Alone}
use Rattle.t1_charstrings.proofs.Entered.{entered, len_small, merged, merged-line, over-sets, IsEntered}
use Rattle.t1_font.proofs.Checking.{raised-checks}
use Rattle.t1_charstrings.proofs.Entering.{check-insert, insert-other, insert-own, lead-insert, other_kept, raised-bodies, IsOther}
use Rattle.t1_charstrings.proofs.Texts.{kept_text_is}
use Rattle.t1_charstrings.proofs.Totals.{insert_sum, len-of}

-- ---- what is needed with an item more

pub glyphs_first : (i : Item) (is : List Item) → glyphs_needed (i ∷ is) ≡ cond (is_glyph_entry i) 1 0 + glyphs_needed is
glyphs_first i is = sum_by-cons (λ y. cond (is_glyph_entry y) 1 0) i is

abbrev need : Item → ℕ
need (items.Subr n ws closing) = n + 1
need _ = 0

zero-less : (k : ℕ) → k ≡ max 0 k
zero-less k = omega arith

subrs-cons : (i : Item) (is : List Item) → subrs_needed (i ∷ is) ≡ max (need i) (subrs_needed is)
subrs-cons (items.Plain l) is = zero-less (subrs_needed is)
subrs-cons (items.Section before n after) is = zero-less (subrs_needed is)
subrs-cons (items.Subr n ws closing) is = refl
subrs-cons (items.Glyph g ws closing) is = zero-less (subrs_needed is)

pub subrs-inserted : (is : List Item) (at : ℕ) (x : Item) → at ≤ length is → subrs_needed (insert is at x) ≡ subrs_needed (x ∷ is)
subrs-inserted is zero x within = refl
subrs-inserted [] (suc at) x within = absurd (omega (arith, within))
subrs-inserted (i ∷ is) (suc at) x within =
    let rest = subrs-inserted is at x (omega (arith, within)) in
    omega (arith, rest, subrs-cons i (insert is at x), subrs-cons x is, subrs-cons x (i ∷ is), subrs-cons i is)

pub glyphs-inserted : (is : List Item) (at : ℕ) (x : Item) → at ≤ length is → glyphs_needed (insert is at x) ≡ glyphs_needed (x ∷ is)
glyphs-inserted is zero x within = refl
glyphs-inserted [] (suc at) x within = absurd (omega (arith, within))
glyphs-inserted (i ∷ is) (suc at) x within =
    let rest = glyphs-inserted is at x (omega (arith, within)) in
    omega (arith, rest, glyphs_first i (insert is at x), glyphs_first x is, glyphs_first x (i ∷ is), glyphs_first i is)

-- ---- raised items

has-raised : (subrs glyphs : ℕ) (key : Key) (i : Item) → has_key key (raised_item subrs glyphs i) ≡ has_key key i
has-raised subrs glyphs (Subr n) (items.Plain l) = refl
has-raised subrs glyphs (Glyph g) (items.Plain l) = refl
has-raised subrs glyphs (Subr n) (items.Section before count after) = refl
has-raised subrs glyphs (Glyph g) (items.Section before count after) = refl
has-raised subrs glyphs (Subr n) (items.Subr m ws closing) = refl
has-raised subrs glyphs (Glyph g) (items.Subr m ws closing) = refl
has-raised subrs glyphs (Subr n) (items.Glyph f ws closing) = refl
has-raised subrs glyphs (Glyph g) (items.Glyph f ws closing) = refl

any-raised : (subrs glyphs : ℕ) (key : Key) (is : List Item) → list_any (has_key key) (map (raised_item subrs glyphs) is) ≡ list_any (has_key key) is
any-raised subrs glyphs key [] = refl
any-raised subrs glyphs key (i ∷ is) = rw (has-raised subrs glyphs key i, any-raised subrs glyphs key is) refl

at-inserted : (subrs glyphs : ℕ) (key : Key) (is : List Item) (at : ℕ) (x : Item) → at ≤ length is
    → has_key key (item_at (map (raised_item subrs glyphs) (insert is at x)) at) ≡ has_key key x
at-inserted subrs glyphs key is zero x within = has-raised subrs glyphs key x
at-inserted subrs glyphs key [] (suc at) x within = absurd (omega (arith, within))
at-inserted subrs glyphs key (i ∷ is) (suc at) x within = at-inserted subrs glyphs key is at x (omega (arith, within))

none-other : (subrs glyphs : ℕ) (key : Key) (is : List Item) (at : ℕ) (x : Item) → at ≤ length is
    → Alone (has_key key) at (map (raised_item subrs glyphs) (insert is at x)) → list_any (has_key key) is ≡ false
none-other subrs glyphs key is zero x within h = sym (any-raised subrs glyphs key is) ∙ h
none-other subrs glyphs key [] (suc at) x within h = absurd (omega (arith, within))
none-other subrs glyphs key (i ∷ is) (suc at) x within h =
    ap (λ b. b || list_any (has_key key) is) (sym (has-raised subrs glyphs key i) ∙ h.0) ∙ none-other subrs glyphs key is at x (omega (arith, within)) h.1

no-raised-section : (subrs glyphs : ℕ) (key : Key) (i : Item) → has_key key i ≡ true → section_line (raised_item subrs glyphs i) ≡ []
no-raised-section subrs glyphs (Subr n) (items.Section before count after) on = absurd (cc)
no-raised-section subrs glyphs (Glyph g) (items.Section before count after) on = absurd (cc)
no-raised-section subrs glyphs key (items.Plain l) on = refl
no-raised-section subrs glyphs key (items.Subr n ws closing) on = refl
no-raised-section subrs glyphs key (items.Glyph g ws closing) on = refl

raised-all : (subrs glyphs : ℕ) (is : List Item) → section_lines_text (map (raised_item subrs glyphs) is) ≡ raised_text subrs glyphs is
raised-all subrs glyphs [] = refl
raised-all subrs glyphs (i ∷ is) = ap (λ t. section_line (raised_item subrs glyphs i) ++ t) (raised-all subrs glyphs is)

raised-sections : (subrs glyphs : ℕ) (is : List Item) (at : ℕ) (x : Item) → at ≤ length is → section_line (raised_item subrs glyphs x) ≡ []
    → section_lines_text (map (raised_item subrs glyphs) (insert is at x)) ≡ raised_text subrs glyphs is
raised-sections subrs glyphs is zero x within none = ap (λ l. l ++ section_lines_text (map (raised_item subrs glyphs) is)) none ∙ raised-all subrs glyphs is
raised-sections subrs glyphs [] (suc at) x within none = absurd (omega (arith, within))
raised-sections subrs glyphs (i ∷ is) (suc at) x within none =
    ap (λ t. section_line (raised_item subrs glyphs i) ++ t) (raised-sections subrs glyphs is at x (omega (arith, within)) none)

counted-raised : (subrs glyphs : ℕ) (key : Key) (i : Item) → has_key key i ≡ true → is_counted (raised_item subrs glyphs i) ≡ true
counted-raised subrs glyphs (Subr n) (items.Section before count after) on = absurd (cc)
counted-raised subrs glyphs (Glyph g) (items.Section before count after) on = absurd (cc)
counted-raised subrs glyphs key (items.Plain l) on = refl
counted-raised subrs glyphs key (items.Subr n ws closing) on = refl
counted-raised subrs glyphs key (items.Glyph g ws closing) on = refl

pub counted-all : (subrs glyphs : ℕ) (is : List Item) → list_all is_counted (map (raised_item subrs glyphs) is) ≡ list_all (is_raised_counted subrs glyphs) is
counted-all subrs glyphs [] = refl
counted-all subrs glyphs (i ∷ is) = ap (λ b. is_counted (raised_item subrs glyphs i) && b) (counted-all subrs glyphs is)

counted-inserted : (subrs glyphs : ℕ) (is : List Item) (at : ℕ) (x : Item) → at ≤ length is → is_counted (raised_item subrs glyphs x) ≡ true
    → list_all is_counted (map (raised_item subrs glyphs) (insert is at x)) ≡ list_all (is_raised_counted subrs glyphs) is
counted-inserted subrs glyphs is zero x within on = ap (λ b. b && list_all is_counted (map (raised_item subrs glyphs) is)) on ∙ counted-all subrs glyphs is
counted-inserted subrs glyphs [] (suc at) x within on = absurd (omega (arith, within))
counted-inserted subrs glyphs (i ∷ is) (suc at) x within on =
    ap (λ b. is_counted (raised_item subrs glyphs i) && b) (counted-inserted subrs glyphs is at x (omega (arith, within)) on)

-- the section lines aren't longer than the text
sections-within : (c : Charstrings) (o : List ℕ) (is : List Item) → length (section_lines_text is) ≤ length (kept_lines_text c o is)
sections-within c o [] = omega arith
sections-within c o (i ∷ is) = by i (sections-within c o is) where
  by : (i : Item) → length (section_lines_text is) ≤ length (kept_lines_text c o is) → length (section_lines_text (i ∷ is)) ≤ length (kept_lines_text c o (i ∷ is))
  by (items.Plain l) h = omega (arith, h, text-both c o (items.Plain l) is)
  by (items.Section before n after) h =
      omega (arith, h, text-both c o (items.Section before n after) is, length-append (section_line (items.Section before n after)) (section_lines_text is))
  by (items.Subr n ws closing) h = omega (arith, h, text-both c o (items.Subr n ws closing) is)
  by (items.Glyph g ws closing) h = omega (arith, h, text-both c o (items.Glyph g ws closing) is)

-- ---- the source with an entry more

module _ (s : SourceParts) (c : Charstrings) (at : ℕ) (item : Item) (well : IsWellFormed s) (within : at ≤ length s.items) (kept : AreEncrypted s c)
    (subrs glyphs : ℕ) (subrs_is : subrs ≡ subrs_needed (item ∷ s.items)) (glyphs_is : glyphs ≡ glyphs_needed (item ∷ s.items)) where
  made-items : (with_items s (insert s.items at item)).items ≡ map (raised_item subrs glyphs) (insert s.items at item)
  made-items =
      ap (λ n. map (raised_item n (glyphs_needed (insert s.items at item))) (insert s.items at item)) (subrs-inserted s.items at item within ∙ sym subrs_is)
      ∙ ap (λ n. map (raised_item subrs n) (insert s.items at item)) (glyphs-inserted s.items at item within ∙ sym glyphs_is)

  none-has : IsWellFormed (with_items s (insert s.items at item)) → (key : Key) → has_key key item ≡ true → list_any (has_key key) s.items ≡ false
  none-has well_made key on =
      let there = ap (λ is. has_key key (item_at is at)) made-items ∙ at-inserted subrs glyphs key s.items at item within ∙ on in
      none-other subrs glyphs key s.items at item within
      (subst (Alone (has_key key) at) made-items (alone (with_items s (insert s.items at item)) key at well_made there))

  insert-entered : is_entry item ≡ true → bodies_check (with_items s (insert s.items at item)).items ≡ Ok tt → IsEntered item
  insert-entered is sound =
      entered item is
      (sym (check-insert s.items at item within kept.sound) ∙ sym (raised-checks subrs glyphs (insert s.items at item)) ∙ ap bodies_check (sym made-items) ∙ sound)

  insert-source : IsWellFormed (with_items s (insert s.items at item)) → (e : IsEntered item) → IsOther e.key (Some e.body) s (with_items s (insert s.items at item))
  insert-source well_made e =
      let more = insert s.items at item in
      record {
        front = ap (λ is. first_lead (filter_map said_lead is)) made-items
            ∙ ap first_lead (raised_said subrs glyphs more ∙ lead-insert e.key s.items at item within e.has);
        sound = ap bodies_check made-items ∙ raised-checks subrs glyphs more ∙ check-insert s.items at item within kept.sound ∙ e.check;
        own = ap (λ is. body_at (bodies is) e.key) made-items ∙ raised-bodies subrs glyphs e.key more
            ∙ insert-own e.key s.items at item e.body within (none-has well_made e.key e.has) e.own;
        others = λ k off. ap (λ is. body_at (bodies is) k) made-items ∙ raised-bodies subrs glyphs k more
            ∙ insert-other k e.key s.items at item within e.has off;
      }

  -- lenIV stays
  pub insert_front : is_entry item ≡ true → IsWellFormed (with_items s (insert s.items at item)) → bodies_check (with_items s (insert s.items at item)).items ≡ Ok tt
      → lead (with_items s (insert s.items at item)) ≡ lead s
  insert_front is well_made sound = (insert-source well_made (insert-entered is sound)).front

  -- the length of the private text with it
  pub insert_known : (keys : List Key) (fresh : Charstrings) → IsEditOf keys s (with_items s (insert s.items at item)) c
      → AreFresh (lead (with_items s (insert s.items at item))) keys (with_items s (insert s.items at item)) fresh → is_entry item ≡ true
      → (n len : ℕ) → IsPrivateLen s n → file_check s ≡ Ok tt → len ≡ edited_len n fresh c s None (Some item) (Some (record { subrs = subrs; glyphs = glyphs }))
      → IsPrivateLen (with_items s (insert s.items at item)) len
  insert_known keys fresh edit are is n len known faultless len_is =
      let made = with_items s (insert s.items at item) in
      let e = insert-entered is edit.sound in
      let other = insert-source edit.well e in
      let new = merged fresh c in
      let entry = Some (encrypted (lead s) e.key e.body) in
      let sets = over-sets keys s made c fresh (edit, other.front) are e.key e.body other in
      let small = len_small s n faultless known in
      let edited : AreEdited e.key entry s made c new =
      record { well = well; well_made = edit.well; kept = kept; kept_made = other_kept e.key (Some e.body) s made other c new kept sets; sets = sets } in
      let b = length (kept_line new (operator s) item) in
      let t = length (section_lines_text s.items) in
      let r = length (section_lines_text made.items) in
      let all = len-of s c n (kept_text_is s c well kept) known small in
      let less = sections-within c (operator s) s.items in
      let text = ap (λ (t : List ℕ). length t) (merged-line fresh c (operator s) item) in
      let sections : r ≡ length (raised_text subrs glyphs s.items) =
      ap (λ is. length (section_lines_text is)) made-items
      ∙ ap (λ (t : List ℕ). length t) (raised-sections subrs glyphs s.items at item within (no-raised-section subrs glyphs e.key item e.has)) in
      let sum : (((n - t) + b) + r) + t ≡ (n + b) + r = omega (arith, all, less) in
      let lines : len ≡ min (min (((n - 0) - min t (2 ^ 64 - 1)) + new_len fresh c s item) (2 ^ 64 - 1)
      + min (length (raised_text subrs glyphs s.items)) (2 ^ 64 - 1)) (2 ^ 64 - 1) = len_is in
      let whole : len ≡ min (((n - t) + b) + r) (2 ^ 64 - 1) = omega (arith, lines, text, sections, all, less, small) in
      subst (IsPrivateLen made) (sym whole)
      (insert_sum e.key entry s made c new edited at item within (none-has edit.well e.key e.has) e.has refl
      n (((n - t) + b) + r) known small sum)

  -- its counts are those that are raised
  pub insert_counts : is_entry item ≡ true → bodies_check (with_items s (insert s.items at item)).items ≡ Ok tt
      → counts_check (with_items s (insert s.items at item)).items ≡ raised_check subrs glyphs s.items
  insert_counts is sound =
      let e = insert-entered is sound in
      ap counts_check made-items
      ∙ ap (λ b. cond b (Ok tt) (Err (fault_at Nowhere F23))) (counted-inserted subrs glyphs s.items at item within (counted-raised subrs glyphs e.key item e.has))
