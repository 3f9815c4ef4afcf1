-- The items of a source that edits make, in three parts.
use Rattle.std.proofs.Common.{◌≡◌, ◌-◌, ◌+◌, ◌^◌, min, ℕ, true, cond, List, [], ◌∷◌, ◌++◌, map, length, append_assoc, length-append, refl, sym, ap, subst, ◌∙◌, Option, None, Some, Ok, Err, arith}
use Rattle.std.specs.Option.{option_map, option_or}
use Rattle.t1_frac.specs.declared.fault.Refusal.{Refusal}
use Rattle.t1_frac.specs.declared.fault.Refusal.TheVariants as refusals
use Rattle.t1_frac.specs.Outcome.{Refuses, ◌>>=◌, fault_at}
use Rattle.t1_frac.specs.declared.fault.Code.TheVariants.{F23}
use Rattle.t1_frac.specs.declared.fault.Place.TheVariants.{Nowhere}
use Rattle.t1_parts.specs.declared.item.Item.{Item}
use Rattle.t1_parts.specs.Counts.{glyphs_needed, raised, raised_item, subrs_needed}
use Rattle.t1_parts.specs.LenIV.{first_lead, lead, lead_among}
use Rattle.t1_parts.specs.Operator.{operator, operator_among}
use Rattle.t1_parts.specs.SourceParts.{SourceParts}
use Rattle.t1_source.specs.Changes.{is_entry_changed, made_after, IsFor}
use Rattle.t1_source.specs.EditedSource.{EditedParts}
use Rattle.t1_source.specs.WellFormed.{IsWellFormed}
use Rattle.t1_run.specs.Run.{Key, Subr, Glyph}
use Rattle.t1_run.specs.RunKeys.{body_at}
use Rattle.t1_font.specs.Assembly.{counts_check}
use Rattle.t1_font.specs.Bodies.{bodies, bodies_check}
use Rattle.t1_font.specs.Lengths.{IsPrivateLen}
use Rattle.t1_font.proofs.Compiling.{or-assoc}
use Rattle.t1_charstrings.specs.declared.entries.Charstrings.{Charstrings}
use Rattle.t1_charstrings.specs.Entries.{encrypted}
use Rattle.t1_charstrings.specs.Kept.{charstring_at, AreEncrypted, Encrypt}
use Rattle.t1_charstrings.specs.Lines.{kept_line, kept_lines_text}
use Rattle.t1_charstrings.specs.Raising.{raised_check}
use Rattle.t1_source.specs.declared.editing.Change.{Change}
use Rattle.t1_source.specs.declared.editing.Change.TheVariants as changes
use Rattle.t1_source.proofs.WellFormedSourceLaws.{raised_said}
use Rattle.t1_charstrings.specs.Batch.{IsEditOf}
use Rattle.t1_charstrings.specs.Prepared.{IsMadeBy, IsMadeOf, IsPreparedFor}
use Rattle.t1_charstrings.proofs.Entered.{left_front, put_front}
use Rattle.t1_font.proofs.Checking.{raised-checks, check-both}
use Rattle.t1_charstrings.proofs.Entering.{body_in, first-body, raised-bodies}
use Rattle.t1_charstrings.proofs.Filed.{kept_len}
use Rattle.t1_charstrings.proofs.Gathered.{or-map}
use Rattle.t1_charstrings.proofs.Inserting.{counted-all, insert_front}
use Rattle.t1_charstrings.proofs.Totals.{find-raised, named}

-- ---- lengths

pub text-parts : (c : Charstrings) (o : List ℕ) (subrs glyphs : ℕ) (a b : List Item)
    → length (kept_lines_text c o (map (raised_item subrs glyphs) (a ++ b)))
    ≡ length (kept_lines_text c o (map (raised_item subrs glyphs) a)) + length (kept_lines_text c o (map (raised_item subrs glyphs) b))
text-parts c o subrs glyphs [] b = omega arith
text-parts c o subrs glyphs (i ∷ a) b =
    let one = kept_line c o (raised_item subrs glyphs i) in
    omega (
      arith,
      text-parts c o subrs glyphs a b,
      length-append one (kept_lines_text c o (map (raised_item subrs glyphs) (a ++ b))),
      length-append one (kept_lines_text c o (map (raised_item subrs glyphs) a)),
    )

-- ---- bodies

sound-both : (a b : List Item) → bodies_check a ≡ Ok tt → bodies_check b ≡ Ok tt → bodies_check (a ++ b) ≡ Ok tt
sound-both a b h k = check-both a b ∙ ap (λ r. r >>= λ _. bodies_check b) h ∙ k

refused-first : (r : Refusal) (a b : List Item) → Refuses r (bodies_check a) → Refuses r (bodies_check (a ++ b))
refused-first refusals.Memory a b h = tt
refused-first (refusals.Fault fault) a b h = check-both a b ∙ ap (λ r. r >>= λ _. bodies_check b) h

refused-later : (r : Refusal) (a b : List Item) → bodies_check a ≡ Ok tt → Refuses r (bodies_check b) → Refuses r (bodies_check (a ++ b))
refused-later refusals.Memory a b sound h = tt
refused-later (refusals.Fault fault) a b sound h = check-both a b ∙ ap (λ r. r >>= λ _. bodies_check b) sound ∙ h

pub sound-parts : (a b c : List Item) → bodies_check a ≡ Ok tt → bodies_check b ≡ Ok tt → bodies_check c ≡ Ok tt → bodies_check (a ++ (b ++ c)) ≡ Ok tt
sound-parts a b c h k l = sound-both a (b ++ c) h (sound-both b c k l)

pub refused-before : (r : Refusal) (a b c : List Item) → Refuses r (bodies_check a) → Refuses r (bodies_check (a ++ (b ++ c)))
refused-before r a b c h = refused-first r a (b ++ c) h

pub refused-between : (r : Refusal) (a b c : List Item) → bodies_check a ≡ Ok tt → Refuses r (bodies_check b) → Refuses r (bodies_check (a ++ (b ++ c)))
refused-between r a b c sound h = refused-later r a (b ++ c) sound (refused-first r b c h)

pub refused-after : (r : Refusal) (a b c : List Item) → bodies_check a ≡ Ok tt → bodies_check b ≡ Ok tt → Refuses r (bodies_check c) → Refuses r (bodies_check (a ++ (b ++ c)))
refused-after r a b c sound too h = refused-later r a (b ++ c) sound (refused-later r b c too h)

pub bodies-both : (a b : List Item) (k : Key) → body_at (bodies (a ++ b)) k ≡ option_or (body_at (bodies a) k) (body_at (bodies b) k)
bodies-both [] b (Subr n) = refl
bodies-both [] b (Glyph g) = refl
bodies-both (i ∷ a) b k =
    first-body k i (a ++ b) ∙ ap (option_or (body_in k i)) (bodies-both a b k)
    ∙ sym (or-assoc (body_in k i) (body_at (bodies a) k) (body_at (bodies b) k))
    ∙ ap (λ r. option_or r (body_at (bodies b) k)) (sym (first-body k i a))

-- the charstrings of one part after those of others
pub kept-both : (front : ℕ) (a b : List Item) (old new : Charstrings) → Encrypt front (bodies a) old
    → ((k : Key) → charstring_at new k ≡ option_or (charstring_at old k) (option_map (encrypted front k) (body_at (bodies b) k)))
    → Encrypt front (bodies (a ++ b)) new
kept-both front a b old new each added k =
    added k ∙ ap (λ r. option_or r (option_map (encrypted front k) (body_at (bodies b) k))) (each k)
    ∙ or-map (encrypted front k) (body_at (bodies a) k) (body_at (bodies b) k)
    ∙ ap (option_map (encrypted front k)) (sym (bodies-both a b k))

-- no charstrings are those of no items
kept-none : (front : ℕ) (c : Charstrings) → ((k : Key) → charstring_at c k ≡ None) → Encrypt front (bodies []) c
kept-none front c h (Subr n) = h (Subr n)
kept-none front c h (Glyph g) = h (Glyph g)

-- what charstrings become where those of items are added
abbrev pub Adds : ℕ → List Item → Charstrings → Charstrings → Type 0
Adds front is old new = (k : Key) → charstring_at new k ≡ option_or (charstring_at old k) (option_map (encrypted front k) (body_at (bodies is) k))

pub kept-parts : (front : ℕ) (a b c : List Item) (none first second third : Charstrings) → ((k : Key) → charstring_at none k ≡ None)
    → Adds front a none first → Adds front b first second → Adds front c second third → Encrypt front (bodies (a ++ (b ++ c))) third
kept-parts front a b c none first second third empty one two three =
    subst (λ is. Encrypt front (bodies is) third) (append_assoc a b c)
    (kept-both front (a ++ b) c second third (kept-both front a b first second (kept-both front [] a none first (kept-none front none empty) one) two) three)

-- ---- the source whose items they are, once their counts are raised

module _ (is : List Item) (made : SourceParts) (whole : raised is ≡ made.items) where
  lead-made : lead_among is ≡ lead made
  lead-made = sym (ap first_lead (raised_said (subrs_needed is) (glyphs_needed is) is)) ∙ ap lead_among whole

  operator-made : operator_among is ≡ operator made
  operator-made = sym (ap named (find-raised (subrs_needed is) (glyphs_needed is) is)) ∙ ap operator_among whole

  pub check_made : bodies_check is ≡ bodies_check made.items
  check_made = sym (raised-checks (subrs_needed is) (glyphs_needed is) is) ∙ ap bodies_check whole

  body-made : (k : Key) → body_at (bodies is) k ≡ body_at (bodies made.items) k
  body-made k = sym (raised-bodies (subrs_needed is) (glyphs_needed is) k is) ∙ ap (λ l. body_at (bodies l) k) whole

  pub kept_made : (c : Charstrings) → bodies_check is ≡ Ok tt → Encrypt (lead_among is) (bodies is) c → AreEncrypted made c
  kept_made c sound each = record {
    sound = sym check_made ∙ sound;
    each = λ k.
        each k ∙ ap (λ n. option_map (encrypted n k) (body_at (bodies is) k)) lead-made
        ∙ ap (option_map (encrypted (lead made) k)) (body-made k);
  }

  pub len_made : (c : Charstrings) (subrs glyphs len : ℕ) → IsWellFormed made → AreEncrypted made c → subrs ≡ subrs_needed is → glyphs ≡ glyphs_needed is
      → len ≡ min (length (kept_lines_text c (operator_among is) (map (raised_item subrs glyphs) is))) (2 ^ 64 - 1) → IsPrivateLen made len
  len_made c subrs glyphs len well kept subrs_are glyphs_are len_is =
      kept_len made c (operator_among is) (raised is) len well kept operator-made whole
      (len_is ∙ ap (λ n. min (length (kept_lines_text c (operator_among is) (map (raised_item n glyphs) is))) (2 ^ 64 - 1)) subrs_are
      ∙ ap (λ n. min (length (kept_lines_text c (operator_among is) (map (raised_item (subrs_needed is) n) is))) (2 ^ 64 - 1)) glyphs_are)

  pub counts_made : (subrs glyphs : ℕ) → subrs ≡ subrs_needed is → glyphs ≡ glyphs_needed is → counts_check made.items ≡ raised_check subrs glyphs is
  counts_made subrs glyphs subrs_are glyphs_are =
      ap counts_check (sym whole)
      ∙ ap (λ b. cond b (Ok tt) (Err (fault_at Nowhere F23))) (counted-all (subrs_needed is) (glyphs_needed is) is)
      ∙ ap (λ n. raised_check n (glyphs_needed is) is) (sym subrs_are) ∙ ap (λ n. raised_check subrs n is) (sym glyphs_are)

-- ---- edits that leave lenIV as it is

-- by a change that is still to be made
pub lead_changed : {keys : List Key} (change : Change) (s : SourceParts) (c : Charstrings) → IsFor change s → IsEditOf keys s (made_after change s) c
    → is_entry_changed change s ≡ true → lead (made_after change s) ≡ lead s
lead_changed (changes.PutItem at item) s c fits edit entry = put_front s c at item fits.well fits.serves.fits.0 edit.kept fits.serves.fits.2 entry edit.sound
lead_changed (changes.InsertItem at item) s c fits edit entry = insert_front s c at item fits.well fits.serves.fits edit.kept _ _ refl refl entry edit.well edit.sound
lead_changed (changes.RemoveItem at) s c fits edit entry = left_front s c at fits.well fits.serves.fits.0 edit.kept entry
lead_changed (changes.PutClear lines) s c fits edit entry = refl
lead_changed (changes.PutPair at pair) s c fits edit entry = refl
lead_changed (changes.InsertPair at pair) s c fits edit entry = refl
lead_changed (changes.RemovePair at) s c fits edit entry = refl

-- what is asked of an edited source, by its change
pub prepared_for : (e : EditedParts) (change : Change) (s : SourceParts) (len : ℕ) (beside : Option ℕ) → IsMadeOf s len beside e → e.change ≡ Some change
    → (e.source ≡ s) × IsPreparedFor change s len
prepared_for e change s len beside of is = subst (λ (o : Option Change). IsMadeBy o s len beside e.source) is of

-- the edited source, by its change
pub is_changed : (e : EditedParts) (change : Change) (s : SourceParts) (len : ℕ) (beside : Option ℕ) → IsMadeOf s len beside e → e.change ≡ Some change
    → e ≡ record { source = s; change = Some change }
is_changed e change s len beside of is =
    let source : e.source ≡ s = (prepared_for e change s len beside of is).0 in
    (λ j. record { source = source j; change = is j })
