-- The private text of a source in which an entry is put in the place of another, or taken out.
use Rattle.std.proofs.Common.{◌≡◌, ◌-◌, ◌+◌, ◌^◌, ◌<◌, ◌≤◌, min, ℕ, zero, suc, Bool, true, false, cond, not, List, [], ◌∷◌, ◌++◌, length, filter, filter_map, refl, sym, ap, subst, ◌∙◌, Option, None, Some, Result, Ok, Err, inl, inr, arith}
use Rattle.std.specs.Prelude.{nat_eq}
use Rattle.std.specs.List.{list_all, list_any, remove, slice_set}
use Rattle.std.specs.Map.{lookup}
use Rattle.std.specs.Option.{option_map, option_or}
use Rattle.std.specs.Result.{result_ok}
use Rattle.std.specs.Str.{bytes_eq}
use Rattle.std.specs.declared.alloc.Global.{Global}
use Rattle.std.specs.declared.vec.Vec.{Vec}
use Rattle.std.proofs.lemmas.Bool.Decides.{leb_tells}
use Rattle.indexmap.specs.IndexMap.{hasher_of, spare}
use Rattle.indexmap.specs.Layout.{hash_map}
use Rattle.t1_frac.specs.declared.fault.Fault.{Fault}
use Rattle.t1_frac.specs.declared.fault.Place.TheVariants as places
use Rattle.t1_frac.specs.Outcome.{reported_at, ◌>>=◌}
use Rattle.t1_code.specs.declared.command.Command.{Command}
use Rattle.t1_code.specs.Words.{commands}
use Rattle.t1_code.proofs.Encrypting.{length-eexec}
use Rattle.t1_parts.specs.declared.item.Item.{Item}
use Rattle.t1_parts.specs.declared.item.Item.TheVariants as items
use Rattle.t1_parts.specs.Items.{is_entry}
use Rattle.t1_parts.specs.LenIV.{lead, first_lead, said_lead}
use Rattle.t1_parts.specs.Operator.{operator}
use Rattle.t1_parts.specs.SourceParts.{SourceParts}
use Rattle.t1_source.specs.Changes.{IsInPlaceOf}
use Rattle.t1_source.specs.Editing.{with_items}
use Rattle.t1_source.specs.WellFormed.{IsWellFormed, is_counted}
use Rattle.t1_source.proofs.ChangeLaws.{raised_put, raised_removed}
use Rattle.t1_source.proofs.EditedCountLaws.{set_counted}
use Rattle.t1_run.specs.Run.{Key, Subr, Glyph}
use Rattle.t1_run.specs.RunKeys.{body_at, key_eq}
use Rattle.t1_font.specs.Assembly.{counts_check, file_check, length_check}
use Rattle.t1_font.specs.Bodies.{bodies, bodies_check, body_check, words_check}
use Rattle.t1_font.proofs.Compiling.{reported-ok}
use Rattle.t1_font.proofs.Counted.{counted-source}
use Rattle.t1_font.proofs.LengthLaws.{long_reported}
use Rattle.t1_charstrings.specs.declared.entries.Charstrings.{Charstrings}
use Rattle.t1_charstrings.specs.Batch.{item_line_by, fresh_over, AreFresh, IsBatchOf, IsEditOf}
use Rattle.t1_charstrings.specs.Changed.{Sets}
use Rattle.t1_charstrings.specs.Entries.{KeptCharstring, encrypted}
use Rattle.t1_charstrings.specs.Kept.{AreEncrypted, charstring_at}
use Rattle.t1_font.specs.Lengths.{IsPrivateLen}
use Rattle.t1_charstrings.specs.Lines.{kept_entry_line, kept_line, kept_lines_text}
use Rattle.t1_charstrings.specs.Ready.{edited_len, new_len, old_len}
use Rattle.t1_charstrings.specs.Sums.{AreEdited, has_key, item_at}
use Rattle.t1_charstrings.proofs.Adding.{alone, text-both}
use Rattle.t1_charstrings.proofs.Batches.{over-serves}
use Rattle.t1_charstrings.proofs.Entering.{body_in, check-put, check-remove, counted-entry, counted-remove, lead-put, lead-remove, other_kept, put-other, put-own, remove-other, remove-own, IsOther}
use Rattle.t1_font.proofs.Keys.{at-key, key-same}
use Rattle.t1_font.proofs.Lookups.{bytes_tell, lookup-but, numbers_tell}
use Rattle.t1_charstrings.proofs.Texts.{kept_text_is}
use Rattle.t1_charstrings.proofs.Totals.{len-of, put_sum, remove_sum}

-- ---- an entry whose body has no fault

pub record IsEntered (item : Item) : Type 0 where
  pub key : Key
  pub body : List Command
  pub has : has_key key item ≡ true
  pub own : body_in key item ≡ Some body
  pub check : body_check item ≡ Ok tt

compiled : {A : Type 0} (r : Result A Fault) → ◌≡◌ {A = Result (Unit {0}) Fault} (r >>= λ _. Ok tt) (Ok tt) → (a : A) × (r ≡ Ok a)
compiled (Ok a) h = (a, refl)
compiled (Err fault) h = absurd (cc)

pub entered : (item : Item) → is_entry item ≡ true → body_check item ≡ Ok tt → IsEntered item
unfolding words_check
entered (items.Plain l) is check = absurd (cc)
entered (items.Section before count after) is check = absurd (cc)
entered (items.Subr n ws closing) is check =
    let body = compiled (reported_at (places.Subr n) (commands ws)) check in
    record {
      key = Subr n;
      body = body.0;
      has = numbers_tell.itself n;
      own = ap (λ b. cond b (result_ok (commands ws)) None) (numbers_tell.itself n) ∙ reported-ok (places.Subr n) (commands ws) body.0 body.1;
      check = check;
    }
entered (items.Glyph g ws closing) is check =
    let body = compiled (reported_at (places.Glyph g) (commands ws)) check in
    record {
      key = Glyph g;
      body = body.0;
      has = bytes_tell.itself g;
      own = ap (λ b. cond b (result_ok (commands ws)) None) (bytes_tell.itself g) ∙ reported-ok (places.Glyph g) (commands ws) body.0 body.1;
      check = check;
    }

-- ---- fresh charstrings over the old ones

lookup-both : {K X : Type 0} (test : K → Bool) (a b : List (K × X)) → lookup test (a ++ b) ≡ option_or (lookup test a) (lookup test b)
lookup-both test [] b = refl
lookup-both test (e ∷ a) b = by (test e.0) (lookup-both test a b) where
  by : (t : Bool) → lookup test (a ++ b) ≡ option_or (lookup test a) (lookup test b)
      → cond t (Some e.1) (lookup test (a ++ b)) ≡ option_or (cond t (Some e.1) (lookup test a)) (lookup test b)
  by true rest = refl
  by false rest = rest

abbrev pub merged : Charstrings → Charstrings → Charstrings
merged fresh c = record {
  subrs = hash_map (fresh.subrs.entries ++ c.subrs.entries) (hasher_of c.subrs) (spare c.subrs);
  glyphs = hash_map (fresh.glyphs.entries ++ c.glyphs.entries) (hasher_of c.glyphs) (spare c.glyphs);
}

merged-at : (fresh c : Charstrings) (k : Key) → charstring_at (merged fresh c) k ≡ fresh_over fresh c k
merged-at fresh c (Subr n) = lookup-both (nat_eq n) fresh.subrs.entries c.subrs.entries
merged-at fresh c (Glyph g) = lookup-both (λ key. bytes_eq g key.items) fresh.glyphs.entries c.glyphs.entries

pub merged-line : (fresh c : Charstrings) (o : List ℕ) (i : Item) → kept_line (merged fresh c) o i ≡ item_line_by (fresh_over fresh c) o i
merged-line fresh c o (items.Plain l) = refl
merged-line fresh c o (items.Section before count after) = refl
merged-line fresh c o (items.Subr n ws closing) = ap (kept_entry_line o closing) (merged-at fresh c (Subr n))
merged-line fresh c o (items.Glyph g ws closing) = ap (kept_entry_line o closing) (merged-at fresh c (Glyph g))

module _ (keys : List Key) (s made : SourceParts) (c fresh : Charstrings) (batch : IsBatchOf keys s made c) (are : AreFresh (lead made) keys made fresh) where
  -- fresh charstrings over the old ones change what is kept at the one key where the sources differ
  pub over-sets : (key : Key) (body : List Command) → IsOther key (Some body) s made → Sets key (Some (encrypted (lead s) key body)) c (merged fresh c)
  over-sets key body other k = merged-at fresh c k ∙ by (key_eq k key) refl where
    stays : (there : Option (List Command)) → body_at (bodies made.items) k ≡ there → charstring_at c k ≡ option_map (encrypted (lead made) k) there
        → fresh_over fresh c k ≡ charstring_at c k
    stays (Some b) there old = over-serves keys s made c batch fresh are k b there ∙ sym old
    stays None there old =
        ap (λ f. option_or f (charstring_at c k))
        (are k ∙ ap (λ r. cond (list_any (key_eq k) keys) (option_map (encrypted (lead made) k) r) None) there ∙ nothing (list_any (key_eq k) keys))
      where
        nothing : (b : Bool) → ◌≡◌ {A = Option KeptCharstring} (cond b None None) None
        nothing true = refl
        nothing false = refl

    by : (b : Bool) → key_eq k key ≡ b → fresh_over fresh c k ≡ cond b (Some (encrypted (lead s) key body)) (charstring_at c k)
    by true on =
        let is : k ≡ key = key-same k key on in
        over-serves keys s made c batch fresh are k body (ap (body_at (bodies made.items)) is ∙ other.own)
        ∙ ap (λ n. Some (encrypted n k body)) other.front ∙ ap (λ j. Some (encrypted (lead s) j body)) is
    by false off =
        stays (body_at (bodies made.items) k) refl
        (batch.0.kept.each k ∙ ap (option_map (encrypted (lead s) k)) (sym (other.others k off))
        ∙ ap (λ n. option_map (encrypted n k) (body_at (bodies made.items) k)) (sym other.front))

-- ---- an entry that is taken out

record IsLeft (item : Item) (c : Charstrings) : Type 0 where
  pub key : Key
  pub has : has_key key item ≡ true
  pub new : Charstrings
  pub sets : Sets key None c new

left : (item : Item) (c : Charstrings) → is_entry item ≡ true → IsLeft item c
left (items.Plain l) c is = absurd (cc)
left (items.Section before count after) c is = absurd (cc)
left (items.Subr n ws closing) c is =
    let made : Charstrings = record c { subrs = hash_map (filter (λ e. not (nat_eq n e.0)) c.subrs.entries) (hasher_of c.subrs) (spare c.subrs) } in
    record {
      key = Subr n;
      has = numbers_tell.itself n;
      new = made;
      sets = at-key (λ k. charstring_at made k ≡ cond (key_eq k (Subr n)) None (charstring_at c k)) (λ m. lookup-but nat_eq numbers_tell (λ k. k) n m c.subrs.entries) (λ g. refl);
    }
left (items.Glyph g ws closing) c is =
    let made : Charstrings = record c { glyphs = hash_map (filter (λ e. not (bytes_eq g e.0.items)) c.glyphs.entries) (hasher_of c.glyphs) (spare c.glyphs) } in
    record {
      key = Glyph g;
      has = bytes_tell.itself g;
      new = made;
      sets = at-key (λ k. charstring_at made k ≡ cond (key_eq k (Glyph g)) None (charstring_at c k)) (λ m. refl)
          (λ f. lookup-but bytes_eq bytes_tell (λ (k : Vec ℕ Global). k.items) g f c.glyphs.entries);
    }

-- ---- lengths

ok-first : (a b : Result (Unit {0}) Fault) → (a >>= λ _. b) ≡ Ok tt → a ≡ Ok tt
ok-first (Ok tt) b h = refl
ok-first (Err fault) b h = absurd (cc)

-- the private text of a source without a fault is short
pub len_small : (s : SourceParts) (n : ℕ) → file_check s ≡ Ok tt → IsPrivateLen s n → n < 2 ^ 64 - 1
unfolding file_check
len_small s n faultless known =
    let text = known.0 in
    let short = ok-first (length_check s) (counts_check s.items) faultless in
    elim (leb_tells (length text) (2 ^ 32)) [
      | inl h ↦ omega (arith, h.1, known.2)
      | inr h ↦ let long = long_reported s text known.1 (omega (arith, h.1, length-eexec text)) in let never = sym short ∙ long in absurd (cc)
    ]

-- a line isn't longer than the text
line-within : (c : Charstrings) (o : List ℕ) (is : List Item) (at : ℕ) → at < length is → length (kept_line c o (item_at is at)) ≤ length (kept_lines_text c o is)
line-within c o [] at within = absurd (omega (arith, within))
line-within c o (i ∷ is) zero within = omega (arith, text-both c o i is)
line-within c o (i ∷ is) (suc at) within = omega (arith, text-both c o i is, line-within c o is at (omega (arith, within)))

-- ---- the file of a source

pub file_ok : (s : SourceParts) → length_check s ≡ Ok tt → list_all is_counted s.items ≡ true → file_check s ≡ Ok tt
unfolding file_check
file_ok s short counted = rw (short, counted) refl

pub length_refused : (s : SourceParts) (fault : Fault) → length_check s ≡ Err fault → file_check s ≡ Err fault
unfolding file_check
length_refused s fault h = ap (λ r. r >>= λ checked. counts_check s.items) h

pub counts_refused : (s : SourceParts) (fault : Fault) → length_check s ≡ Ok tt → counts_check s.items ≡ Err fault → file_check s ≡ Err fault
unfolding file_check
counts_refused s fault short h = ap (λ r. r >>= λ checked. counts_check s.items) short ∙ h

pub file_passed : (s : SourceParts) → length_check s ≡ Ok tt → counts_check s.items ≡ Ok tt → file_check s ≡ Ok tt
unfolding file_check
file_passed s short counts = ap (λ r. r >>= λ checked. counts_check s.items) short ∙ counts

place-has : (key : Key) (i x : Item) → IsInPlaceOf i x → has_key key x ≡ true → has_key key i ≡ true
place-has (Subr k) (items.Subr m ws c) (items.Subr n vs d) same on = ap (nat_eq k) same ∙ on
place-has (Glyph k) (items.Subr m ws c) (items.Subr n vs d) same on = absurd (cc)
place-has (Subr k) (items.Glyph g ws c) (items.Glyph h vs d) same on = absurd (cc)
place-has (Glyph k) (items.Glyph g ws c) (items.Glyph h vs d) same on = ap (bytes_eq k) same ∙ on
place-has (Subr k) (items.Plain l) (items.Plain m) same on = absurd (cc)
place-has (Glyph k) (items.Plain l) (items.Plain m) same on = absurd (cc)
place-has key (items.Plain l) (items.Section b n a) same on = absurd same
place-has key (items.Plain l) (items.Subr n vs d) same on = absurd same
place-has key (items.Plain l) (items.Glyph h vs d) same on = absurd same
place-has key (items.Section b n a) x same on = absurd same
place-has key (items.Subr m ws c) (items.Plain l) same on = absurd same
place-has key (items.Subr m ws c) (items.Section b n a) same on = absurd same
place-has key (items.Subr m ws c) (items.Glyph h vs d) same on = absurd same
place-has key (items.Glyph g ws c) (items.Plain l) same on = absurd same
place-has key (items.Glyph g ws c) (items.Section b n a) same on = absurd same
place-has key (items.Glyph g ws c) (items.Subr n vs d) same on = absurd same

-- ---- an entry in the place of another

module _ (s : SourceParts) (c : Charstrings) (at : ℕ) (item : Item) (well : IsWellFormed s) (within : at < length s.items) (kept : AreEncrypted s c)
    (place : IsInPlaceOf (item_at s.items at) item) where
  put-items : (with_items s (slice_set s.items at item)).items ≡ slice_set s.items at item
  put-items = raised_put s.items at item within place well.items.counts

  put-entered : is_entry item ≡ true → bodies_check (with_items s (slice_set s.items at item)).items ≡ Ok tt → IsEntered item
  put-entered is sound = entered item is (sym (check-put s.items at item within kept.sound) ∙ ap bodies_check (sym put-items) ∙ sound)

  put-other-source : (e : IsEntered item) → IsOther e.key (Some e.body) s (with_items s (slice_set s.items at item))
  put-other-source e =
      let was = place-has e.key (item_at s.items at) item place e.has in
      record {
        front = ap (λ is. first_lead (filter_map said_lead is)) put-items ∙ ap first_lead (lead-put e.key s.items at item within was e.has);
        sound = ap bodies_check put-items ∙ check-put s.items at item within kept.sound ∙ e.check;
        own = ap (λ is. body_at (bodies is) e.key) put-items ∙ put-own e.key s.items at item e.body within (alone s e.key at well was) e.own;
        others = λ k off. ap (λ is. body_at (bodies is) k) put-items ∙ put-other k e.key s.items at item within was e.has off;
      }

  -- lenIV stays
  pub put_front : is_entry item ≡ true → bodies_check (with_items s (slice_set s.items at item)).items ≡ Ok tt
      → lead (with_items s (slice_set s.items at item)) ≡ lead s
  put_front is sound = (put-other-source (put-entered is sound)).front

  -- the length of the private text with it
  pub put_known : (keys : List Key) (fresh : Charstrings) → IsEditOf keys s (with_items s (slice_set s.items at item)) c
      → AreFresh (lead (with_items s (slice_set s.items at item))) keys (with_items s (slice_set s.items at item)) fresh → is_entry item ≡ true
      → (n len : ℕ) → IsPrivateLen s n → file_check s ≡ Ok tt → len ≡ edited_len n fresh c s (Some at) (Some item) None
      → IsPrivateLen (with_items s (slice_set s.items at item)) len
  put_known keys fresh edit are is n len known faultless len_is =
      let made = with_items s (slice_set s.items at item) in
      let e = put-entered is edit.sound in
      let other = put-other-source e in
      let was = place-has e.key (item_at s.items at) item place e.has in
      let new = merged fresh c in
      let entry = Some (encrypted (lead s) e.key e.body) in
      let sets = over-sets keys s made c fresh (edit, other.front) are e.key e.body other in
      let small = len_small s n faultless known in
      let edited : AreEdited e.key entry s made c new =
      record { well = well; well_made = edit.well; kept = kept; kept_made = other_kept e.key (Some e.body) s made other c new kept sets; sets = sets } in
      let a = length (kept_line c (operator s) (item_at s.items at)) in
      let b = length (kept_line new (operator s) item) in
      let all = len-of s c n (kept_text_is s c well kept) known small in
      let less = line-within c (operator s) s.items at within in
      let text = ap (λ (t : List ℕ). length t) (merged-line fresh c (operator s) item) in
      let sum : ((n - a) + b) + a ≡ n + b = omega (arith, all, less) in
      let lines : len ≡ min ((n - old_len c s at) + new_len fresh c s item) (2 ^ 64 - 1) = len_is in
      let whole : len ≡ min ((n - a) + b) (2 ^ 64 - 1) = omega (arith, lines, text, all, less, small) in
      subst (IsPrivateLen made) (sym whole) (put_sum e.key entry s made c new edited at item within was e.has refl n ((n - a) + b) known small sum)

  -- no count is too long
  pub put_counted : is_entry item ≡ true → bodies_check (with_items s (slice_set s.items at item)).items ≡ Ok tt → file_check s ≡ Ok tt
      → list_all is_counted (with_items s (slice_set s.items at item)).items ≡ true
  put_counted is sound faultless =
      let e = put-entered is sound in
      ap (list_all is_counted) put-items ∙ set_counted s.items at item (counted-entry e.key item e.has) (counted-source s faultless)

-- ---- an entry that is taken out

module _ (s : SourceParts) (c : Charstrings) (at : ℕ) (well : IsWellFormed s) (within : at < length s.items) (kept : AreEncrypted s c)
    (is : is_entry (item_at s.items at) ≡ true) where
  left-items : (with_items s (remove s.items at)).items ≡ remove s.items at
  left-items = raised_removed s.items at well.items.counts

  left-source : (e : IsLeft (item_at s.items at) c) → IsOther e.key None s (with_items s (remove s.items at))
  left-source e =
      record {
        front = ap (λ is. first_lead (filter_map said_lead is)) left-items ∙ ap first_lead (lead-remove e.key s.items at within e.has);
        sound = ap bodies_check left-items ∙ check-remove s.items at within kept.sound;
        own = ap (λ is. body_at (bodies is) e.key) left-items ∙ remove-own e.key s.items at within (alone s e.key at well e.has);
        others = λ k off. ap (λ is. body_at (bodies is) k) left-items ∙ remove-other k e.key s.items at within e.has off;
      }

  -- lenIV stays
  pub left_front : lead (with_items s (remove s.items at)) ≡ lead s
  left_front = (left-source (left (item_at s.items at) c is)).front

  -- the length of the private text without it
  pub left_known : IsWellFormed (with_items s (remove s.items at)) → (fresh : Charstrings) (n len : ℕ) → IsPrivateLen s n → file_check s ≡ Ok tt
      → len ≡ edited_len n fresh c s (Some at) None None → IsPrivateLen (with_items s (remove s.items at)) len
  left_known well_made fresh n len known faultless len_is =
      let made = with_items s (remove s.items at) in
      let e = left (item_at s.items at) c is in
      let small = len_small s n faultless known in
      let edited : AreEdited e.key None s made c e.new =
      record { well = well; well_made = well_made; kept = kept; kept_made = other_kept e.key None s made (left-source e) c e.new kept e.sets; sets = e.sets } in
      let a = length (kept_line c (operator s) (item_at s.items at)) in
      let all = len-of s c n (kept_text_is s c well kept) known small in
      let less = line-within c (operator s) s.items at within in
      let sum : (n - a) + a ≡ n = omega (arith, all, less) in
      let lines : len ≡ min ((n - old_len c s at) + 0) (2 ^ 64 - 1) = len_is in
      let whole : len ≡ min (n - a) (2 ^ 64 - 1) = omega (arith, lines, all, less, small) in
      subst (IsPrivateLen made) (sym whole) (remove_sum e.key None s made c e.new edited at within e.has refl n (n - a) known small sum)

  -- no count is too long
  pub left_counted : file_check s ≡ Ok tt → list_all is_counted (with_items s (remove s.items at)).items ≡ true
  left_counted faultless = ap (list_all is_counted) left-items ∙ counted-remove s.items at within (counted-source s faultless)
