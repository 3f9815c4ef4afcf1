-- A source in which an entry is put in the place of another, put in or taken out.
use Rattle.std.proofs.Common.{◌≡◌, ◌<◌, ◌≤◌, ℕ, zero, suc, Bool, true, false, cond, List, [], ◌∷◌, map, length, filter_map, refl, sym, ap, ◌∙◌, Option, None, Some, Result, Ok, Err, arith}
use Rattle.std.specs.Prelude.{nat_eq}
use Rattle.std.specs.List.{insert, list_all, list_any, remove, slice_set}
use Rattle.std.specs.Option.{option_map, option_or}
use Rattle.std.specs.Result.{result_ok}
use Rattle.std.specs.Str.{bytes_eq}
use Rattle.std.proofs.lemmas.Bool.{and_from, and_parts, or_parts}
use Rattle.t1_frac.specs.declared.fault.Fault.{Fault}
use Rattle.t1_frac.specs.Outcome.{◌>>=◌}
use Rattle.t1_code.specs.declared.command.Command.{Command}
use Rattle.t1_code.specs.Words.{commands}
use Rattle.t1_parts.specs.declared.item.Item.{Item}
use Rattle.t1_parts.specs.declared.item.Item.TheVariants as items
use Rattle.t1_parts.specs.Counts.{raised_item}
use Rattle.t1_parts.specs.LenIV.{lead, said_lead}
use Rattle.t1_parts.specs.SourceParts.{SourceParts}
use Rattle.t1_source.specs.WellFormed.{is_counted}
use Rattle.t1_run.specs.Run.{Key, Subr, Glyph}
use Rattle.t1_run.specs.RunKeys.{body_at, key_eq}
use Rattle.t1_font.specs.Bodies.{bodies, bodies_check, body_check, glyph_in, subr_in}
use Rattle.t1_charstrings.specs.declared.entries.Charstrings.{Charstrings}
use Rattle.t1_charstrings.specs.Changed.{Sets}
use Rattle.t1_charstrings.specs.Entries.{encrypted}
use Rattle.t1_charstrings.specs.Kept.{AreEncrypted, charstring_at}
use Rattle.t1_charstrings.specs.Sums.{has_key, item_at}
use Rattle.t1_charstrings.proofs.Adding.{Alone}
use Rattle.t1_font.proofs.Lookups.{bytes_tell, numbers_tell}
use Rattle.t1_font.proofs.Keys.{key-same}
use Rattle.t1_charstrings.proofs.Texts.{both_fine}

-- an item's body, where it is the entry of this key
abbrev pub body_in : Key → Item → Option (List Command)
body_in (Subr n) i = subr_in i n
body_in (Glyph g) i = glyph_in i g

pub first-body : (k : Key) (i : Item) (is : List Item) → body_at (bodies (i ∷ is)) k ≡ option_or (body_in k i) (body_at (bodies is) k)
first-body (Subr n) i is = refl
first-body (Glyph g) i is = refl

not-own : (k : Key) (i : Item) → has_key k i ≡ false → body_in k i ≡ None
not-own (Subr n) (items.Plain l) h = refl
not-own (Glyph g) (items.Plain l) h = refl
not-own (Subr n) (items.Section before count after) h = refl
not-own (Glyph g) (items.Section before count after) h = refl
not-own (Subr n) (items.Subr m ws closing) h = ap (λ b. cond b (result_ok (commands ws)) None) h
not-own (Glyph g) (items.Subr m ws closing) h = refl
not-own (Subr n) (items.Glyph g ws closing) h = refl
not-own (Glyph f) (items.Glyph g ws closing) h = ap (λ b. cond b (result_ok (commands ws)) None) h

-- an entry of one key isn't one of another
other-key : (k key : Key) (i : Item) → has_key key i ≡ true → key_eq k key ≡ false → has_key k i ≡ false
other-key (Subr m) (Subr n) (items.Subr p ws closing) on off = ap (nat_eq m) (sym (numbers_tell.same n p on)) ∙ off
other-key (Subr m) (Glyph g) (items.Subr p ws closing) on off = absurd (cc)
other-key (Glyph g) key (items.Subr p ws closing) on off = refl
other-key (Glyph m) (Glyph n) (items.Glyph p ws closing) on off = ap (bytes_eq m) (sym (bytes_tell.same n p on)) ∙ off
other-key (Glyph m) (Subr n) (items.Glyph p ws closing) on off = absurd (cc)
other-key (Subr n) key (items.Glyph p ws closing) on off = refl
other-key (Subr n) key (items.Plain l) on off = refl
other-key (Glyph g) key (items.Plain l) on off = refl
other-key (Subr n) key (items.Section before count after) on off = refl
other-key (Glyph g) key (items.Section before count after) on off = refl

past : (k : Key) (i : Item) (is : List Item) → has_key k i ≡ false → body_at (bodies (i ∷ is)) k ≡ body_at (bodies is) k
past k i is off = first-body k i is ∙ ap (λ r. option_or r (body_at (bodies is) k)) (not-own k i off)

here : (k : Key) (i : Item) (is : List Item) (b : List Command) → body_in k i ≡ Some b → body_at (bodies (i ∷ is)) k ≡ Some b
here k i is b h = first-body k i is ∙ ap (λ r. option_or r (body_at (bodies is) k)) h

following : (k : Key) (i : Item) (is js : List Item) → body_at (bodies is) k ≡ body_at (bodies js) k → body_at (bodies (i ∷ is)) k ≡ body_at (bodies (i ∷ js)) k
following k i is js h = first-body k i is ∙ ap (option_or (body_in k i)) h ∙ sym (first-body k i js)

pub none-there : (k : Key) (is : List Item) → list_any (has_key k) is ≡ false → body_at (bodies is) k ≡ None
none-there (Subr n) [] h = refl
none-there (Glyph g) [] h = refl
none-there k (i ∷ is) h = let h' = or_parts (has_key k i) (list_any (has_key k) is) h in past k i is h'.0 ∙ none-there k is h'.1

-- ---- the bodies

pub put-own : (key : Key) (is : List Item) (at : ℕ) (x : Item) (b : List Command) → at < length is → Alone (has_key key) at is → body_in key x ≡ Some b
    → body_at (bodies (slice_set is at x)) key ≡ Some b
put-own key [] at x b within alone h = absurd (omega (arith, within))
put-own key (i ∷ is) zero x b within alone h = here key x is b h
put-own key (i ∷ is) (suc at) x b within alone h = past key i (slice_set is at x) alone.0 ∙ put-own key is at x b (omega (arith, within)) alone.1 h

pub put-other : (k key : Key) (is : List Item) (at : ℕ) (x : Item) → at < length is → has_key key (item_at is at) ≡ true → has_key key x ≡ true → key_eq k key ≡ false
    → body_at (bodies (slice_set is at x)) k ≡ body_at (bodies is) k
put-other k key [] at x within was on off = absurd (omega (arith, within))
put-other k key (i ∷ is) zero x within was on off = past k x is (other-key k key x on off) ∙ sym (past k i is (other-key k key i was off))
put-other k key (i ∷ is) (suc at) x within was on off = following k i (slice_set is at x) is (put-other k key is at x (omega (arith, within)) was on off)

pub remove-own : (key : Key) (is : List Item) (at : ℕ) → at < length is → Alone (has_key key) at is → body_at (bodies (remove is at)) key ≡ None
remove-own key [] at within alone = absurd (omega (arith, within))
remove-own key (i ∷ is) zero within alone = none-there key is alone
remove-own key (i ∷ is) (suc at) within alone = past key i (remove is at) alone.0 ∙ remove-own key is at (omega (arith, within)) alone.1

pub remove-other : (k key : Key) (is : List Item) (at : ℕ) → at < length is → has_key key (item_at is at) ≡ true → key_eq k key ≡ false
    → body_at (bodies (remove is at)) k ≡ body_at (bodies is) k
remove-other k key [] at within was off = absurd (omega (arith, within))
remove-other k key (i ∷ is) zero within was off = sym (past k i is (other-key k key i was off))
remove-other k key (i ∷ is) (suc at) within was off = following k i (remove is at) is (remove-other k key is at (omega (arith, within)) was off)

pub insert-own : (key : Key) (is : List Item) (at : ℕ) (x : Item) (b : List Command) → at ≤ length is → list_any (has_key key) is ≡ false → body_in key x ≡ Some b
    → body_at (bodies (insert is at x)) key ≡ Some b
insert-own key is zero x b within none h = here key x is b h
insert-own key [] (suc at) x b within none h = absurd (omega (arith, within))
insert-own key (i ∷ is) (suc at) x b within none h =
    let h' = or_parts (has_key key i) (list_any (has_key key) is) none in
    past key i (insert is at x) h'.0 ∙ insert-own key is at x b (omega (arith, within)) h'.1 h

pub insert-other : (k key : Key) (is : List Item) (at : ℕ) (x : Item) → at ≤ length is → has_key key x ≡ true → key_eq k key ≡ false
    → body_at (bodies (insert is at x)) k ≡ body_at (bodies is) k
insert-other k key is zero x within on off = past k x is (other-key k key x on off)
insert-other k key [] (suc at) x within on off = absurd (omega (arith, within))
insert-other k key (i ∷ is) (suc at) x within on off = following k i (insert is at x) is (insert-other k key is at x (omega (arith, within)) on off)

raised-body : (subrs glyphs : ℕ) (k : Key) (i : Item) → body_in k (raised_item subrs glyphs i) ≡ body_in k i
raised-body subrs glyphs (Subr n) (items.Plain l) = refl
raised-body subrs glyphs (Glyph g) (items.Plain l) = refl
raised-body subrs glyphs (Subr n) (items.Section before count after) = refl
raised-body subrs glyphs (Glyph g) (items.Section before count after) = refl
raised-body subrs glyphs (Subr n) (items.Subr m ws closing) = refl
raised-body subrs glyphs (Glyph g) (items.Subr m ws closing) = refl
raised-body subrs glyphs (Subr n) (items.Glyph f ws closing) = refl
raised-body subrs glyphs (Glyph g) (items.Glyph f ws closing) = refl

pub raised-bodies : (subrs glyphs : ℕ) (k : Key) (is : List Item) → body_at (bodies (map (raised_item subrs glyphs) is)) k ≡ body_at (bodies is) k
raised-bodies subrs glyphs k [] = refl
raised-bodies subrs glyphs k (i ∷ is) =
    first-body k (raised_item subrs glyphs i) (map (raised_item subrs glyphs) is)
    ∙ ap (λ r. option_or r (body_at (bodies (map (raised_item subrs glyphs) is)) k)) (raised-body subrs glyphs k i)
    ∙ ap (option_or (body_in k i)) (raised-bodies subrs glyphs k is) ∙ sym (first-body k i is)

-- ---- their faults

then-ok : (a b : Result (Unit {0}) Fault) → b ≡ Ok tt → (a >>= λ _. b) ≡ a
then-ok (Ok tt) b h = h
then-ok (Err fault) b h = refl

after-ok : (i : Item) (rest : Result (Unit {0}) Fault) → body_check i ≡ Ok tt → (body_check i >>= λ _. rest) ≡ rest
after-ok i rest h = ap (λ r. r >>= λ _. rest) h

pub check-put : (is : List Item) (at : ℕ) (x : Item) → at < length is → bodies_check is ≡ Ok tt → bodies_check (slice_set is at x) ≡ body_check x
check-put [] at x within sound = absurd (omega (arith, within))
check-put (i ∷ is) zero x within sound = then-ok (body_check x) (bodies_check is) (both_fine (body_check i) (bodies_check is) sound).1
check-put (i ∷ is) (suc at) x within sound =
    let h = both_fine (body_check i) (bodies_check is) sound in
    after-ok i (bodies_check (slice_set is at x)) h.0 ∙ check-put is at x (omega (arith, within)) h.1

pub check-insert : (is : List Item) (at : ℕ) (x : Item) → at ≤ length is → bodies_check is ≡ Ok tt → bodies_check (insert is at x) ≡ body_check x
check-insert is zero x within sound = then-ok (body_check x) (bodies_check is) sound
check-insert [] (suc at) x within sound = absurd (omega (arith, within))
check-insert (i ∷ is) (suc at) x within sound =
    let h = both_fine (body_check i) (bodies_check is) sound in
    after-ok i (bodies_check (insert is at x)) h.0 ∙ check-insert is at x (omega (arith, within)) h.1

pub check-remove : (is : List Item) (at : ℕ) → at < length is → bodies_check is ≡ Ok tt → bodies_check (remove is at) ≡ Ok tt
check-remove [] at within sound = absurd (omega (arith, within))
check-remove (i ∷ is) zero within sound = (both_fine (body_check i) (bodies_check is) sound).1
check-remove (i ∷ is) (suc at) within sound =
    let h = both_fine (body_check i) (bodies_check is) sound in
    after-ok i (bodies_check (remove is at)) h.0 ∙ check-remove is at (omega (arith, within)) h.1

-- ---- lenIV

no-lead : (key : Key) (i : Item) → has_key key i ≡ true → said_lead i ≡ None
no-lead (Subr n) (items.Plain l) on = absurd (cc)
no-lead (Glyph g) (items.Plain l) on = absurd (cc)
no-lead key (items.Section before count after) on = refl
no-lead key (items.Subr n ws closing) on = refl
no-lead key (items.Glyph g ws closing) on = refl

says : (i : Item) (is : List Item) → said_lead i ≡ None → filter_map said_lead (i ∷ is) ≡ filter_map said_lead is
says i is none = rw none refl

says-after : (i : Item) (is js : List Item) → filter_map said_lead is ≡ filter_map said_lead js → filter_map said_lead (i ∷ is) ≡ filter_map said_lead (i ∷ js)
says-after i is js h = rw h refl

pub lead-put : (key : Key) (is : List Item) (at : ℕ) (x : Item) → at < length is → has_key key (item_at is at) ≡ true → has_key key x ≡ true
    → filter_map said_lead (slice_set is at x) ≡ filter_map said_lead is
lead-put key [] at x within was on = absurd (omega (arith, within))
lead-put key (i ∷ is) zero x within was on = says x is (no-lead key x on) ∙ sym (says i is (no-lead key i was))
lead-put key (i ∷ is) (suc at) x within was on = says-after i (slice_set is at x) is (lead-put key is at x (omega (arith, within)) was on)

pub lead-remove : (key : Key) (is : List Item) (at : ℕ) → at < length is → has_key key (item_at is at) ≡ true
    → filter_map said_lead (remove is at) ≡ filter_map said_lead is
lead-remove key [] at within was = absurd (omega (arith, within))
lead-remove key (i ∷ is) zero within was = sym (says i is (no-lead key i was))
lead-remove key (i ∷ is) (suc at) within was = says-after i (remove is at) is (lead-remove key is at (omega (arith, within)) was)

pub lead-insert : (key : Key) (is : List Item) (at : ℕ) (x : Item) → at ≤ length is → has_key key x ≡ true
    → filter_map said_lead (insert is at x) ≡ filter_map said_lead is
lead-insert key is zero x within on = says x is (no-lead key x on)
lead-insert key [] (suc at) x within on = absurd (omega (arith, within))
lead-insert key (i ∷ is) (suc at) x within on = says-after i (insert is at x) is (lead-insert key is at x (omega (arith, within)) on)

-- ---- counts

pub counted-remove : (is : List Item) (at : ℕ) → at < length is → list_all is_counted is ≡ true → list_all is_counted (remove is at) ≡ true
counted-remove [] at within h = absurd (omega (arith, within))
counted-remove (i ∷ is) zero within h = (and_parts (is_counted i) (list_all is_counted is) h).1
counted-remove (i ∷ is) (suc at) within h =
    let p = and_parts (is_counted i) (list_all is_counted is) h in
    and_from (is_counted i) (list_all is_counted (remove is at)) p.0 (counted-remove is at (omega (arith, within)) p.1)

pub counted-entry : (key : Key) (i : Item) → has_key key i ≡ true → is_counted i ≡ true
counted-entry (Subr n) (items.Section before count after) on = absurd (cc)
counted-entry (Glyph g) (items.Section before count after) on = absurd (cc)
counted-entry key (items.Plain l) on = refl
counted-entry key (items.Subr n ws closing) on = refl
counted-entry key (items.Glyph g ws closing) on = refl

-- ---- a source that differs at one key

-- the other source has this body, or none, at the key, and else the same ones
pub record IsOther (key : Key) (body : Option (List Command)) (s made : SourceParts) : Type 0 where
  pub front : lead made ≡ lead s
  pub sound : bodies_check made.items ≡ Ok tt
  pub own : body_at (bodies made.items) key ≡ body
  pub others : (k : Key) → key_eq k key ≡ false → body_at (bodies made.items) k ≡ body_at (bodies s.items) k

pub other_kept : (key : Key) (body : Option (List Command)) (s made : SourceParts) → IsOther key body s made → (old new : Charstrings) → AreEncrypted s old
    → Sets key (option_map (encrypted (lead s) key) body) old new → AreEncrypted made new
other_kept key body s made is old new kept sets = record {
  sound = is.sound;
  each = λ k. sets k ∙ by k (key_eq k key) refl;
} where
  by : (k : Key) (b : Bool) → key_eq k key ≡ b
      → cond b (option_map (encrypted (lead s) key) body) (charstring_at old k) ≡ option_map (encrypted (lead made) k) (body_at (bodies made.items) k)
  by k true on =
      ap (option_map (encrypted (lead s) key)) (sym is.own) ∙ ap (λ j. option_map (encrypted (lead s) j) (body_at (bodies made.items) j)) (sym (key-same k key on))
      ∙ ap (λ n. option_map (encrypted n k) (body_at (bodies made.items) k)) (sym is.front)
  by k false off =
      kept.each k ∙ ap (option_map (encrypted (lead s) k)) (sym (is.others k off))
      ∙ ap (λ n. option_map (encrypted n k) (body_at (bodies made.items) k)) (sym is.front)
