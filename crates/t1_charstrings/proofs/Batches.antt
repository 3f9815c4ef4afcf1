-- What many edits at once make of the charstrings.
use Rattle.std.proofs.Common.{◌≡◌, ℕ, ◌^◌, ◌-◌, min, Bool, true, false, cond, ◌&&◌, List, [], ◌∷◌, ◌++◌, length, is_none, refl, sym, ap, subst, ◌∙◌, Option, None, Some, Result, Ok, Err, IsOk, OnOk, arith}
use Rattle.std.specs.List.{list_any}
use Rattle.std.specs.Map.{lookup}
use Rattle.std.specs.Option.{option_map, option_or}
use Rattle.std.specs.Str.{bytes_eq}
use Rattle.t1_code.specs.declared.command.Command.{Command}
use Rattle.t1_parts.specs.declared.item.Item.{Item}
use Rattle.t1_parts.specs.LenIV.{lead}
use Rattle.t1_parts.specs.Operator.{operator}
use Rattle.t1_parts.specs.SourceParts.{SourceParts}
use Rattle.t1_run.specs.Footprint.{Includes}
use Rattle.t1_run.specs.Run.{Key}
use Rattle.t1_run.specs.RunKeys.{body_at, key_eq}
use Rattle.t1_font.specs.Bodies.{bodies}
use Rattle.t1_font.proofs.Keeping.{lookup-taken}
use Rattle.t1_charstrings.specs.declared.edited.EditedEntries.{EditedEntries}
use Rattle.t1_charstrings.specs.declared.settling.ReadyCharstrings.TheVariants as ready
use Rattle.t1_charstrings.specs.declared.settling.ReadyLines.{ReadyLines}
use Rattle.t1_charstrings.specs.declared.entries.Charstrings.{Charstrings}
use Rattle.t1_charstrings.specs.Batch.{is_gone, fresh_over, text_by, AreEdits, AreFresh, AreGone, IsBatchOf}
use Rattle.t1_charstrings.specs.Changed.{AreSameCharstrings}
use Rattle.t1_charstrings.specs.Entries.{KeptCharstring, encrypted, glyph_charstring, subr_charstring}
use Rattle.t1_charstrings.specs.Kept.{AreEncrypted, charstring_at}
use Rattle.t1_font.specs.Lengths.{IsPrivateLen}
use Rattle.t1_charstrings.specs.Ready.{HasCharstringRoom, IsReadyLines, SettlesTo}
use Rattle.t1_font.proofs.Keys.{at-key, at-same, included}
use Rattle.t1_font.proofs.Lookups.{bytes-turned}
use Rattle.t1_font.proofs.Compiling.{lookup-last}
use Rattle.t1_charstrings.proofs.Texts.{text_by_is, Serves}

-- ---- what is kept of a batch

module _ (keys : List Key) (s made : SourceParts) (c : Charstrings) (batch : IsBatchOf keys s made c) where
  -- the charstrings of the entries that weren't edited stay
  pub old-stays : (k : Key) → list_any (key_eq k) keys ≡ false → charstring_at c k ≡ option_map (encrypted (lead made) k) (body_at (bodies made.items) k)
  old-stays k off =
      batch.0.kept.each k
      ∙ ap (option_map (encrypted (lead s) k)) (at-same (bodies s.items) (bodies made.items) k (batch.0.same.same k apart))
      ∙ ap (λ front. option_map (encrypted front k) (body_at (bodies made.items) k)) (sym batch.1)
    where
      apart : Includes keys k → ⊥
      apart among = let never : true ≡ false = sym (included keys k among) ∙ off in cc

  -- what a batch settles to at a key
  settled-at : (k : Key) (named gone : Bool) (body : Option (List Command)) (fresh old : Option KeptCharstring)
      → fresh ≡ cond named (option_map (encrypted (lead made) k) body) None → gone ≡ (named && is_none body)
      → (named ≡ false → old ≡ option_map (encrypted (lead made) k) body)
      → option_or fresh (cond gone None old) ≡ option_map (encrypted (lead made) k) body
  settled-at k true gone (Some body) fresh old fresh_is gone_is stays = ap (λ f. option_or f (cond gone None old)) fresh_is
  settled-at k true gone None fresh old fresh_is gone_is stays =
      ap (λ f. option_or f (cond gone None old)) fresh_is ∙ ap (λ b. cond b None old) gone_is
  settled-at k false gone body fresh old fresh_is gone_is stays =
      ap (λ f. option_or f (cond gone None old)) fresh_is ∙ ap (λ b. cond b None old) gone_is ∙ stays refl

  pub batch_settled : (entries : EditedEntries) (old new : Charstrings) → AreFresh (lead made) keys made entries.fresh → AreGone keys made entries.gone.items → AreSameCharstrings c old
      → SettlesTo (ready.Edited entries) old new → AreEncrypted made new
  batch_settled entries old new fresh gone same settles = record {
    sound = batch.0.sound;
    each = λ k.
        settles k
        ∙ settled-at k (list_any (key_eq k) keys) (is_gone entries.gone.items k) (body_at (bodies made.items) k) (charstring_at entries.fresh k) (charstring_at old k)
        (fresh k) (gone k) (λ off. kept-same k ∙ old-stays k off);
  } where
    kept-same : (k : Key) → charstring_at old k ≡ charstring_at c k
    kept-same = at-key (λ k. charstring_at old k ≡ charstring_at c k) (λ n. ap (λ es. subr_charstring es n) same.0) (λ g. ap (λ es. glyph_charstring es g) same.1)

  -- fresh charstrings over the old ones are those of the bodies of the edited source
  over-at : (k : Key) (named : Bool) (body : List Command) (fresh old : Option KeptCharstring)
      → fresh ≡ cond named (Some (encrypted (lead made) k body)) None → (named ≡ false → old ≡ Some (encrypted (lead made) k body))
      → option_or fresh old ≡ Some (encrypted (lead made) k body)
  over-at k true body fresh old fresh_is stays = ap (λ f. option_or f old) fresh_is
  over-at k false body fresh old fresh_is stays = ap (λ f. option_or f old) fresh_is ∙ stays refl

  pub over-serves : (fresh : Charstrings) → AreFresh (lead made) keys made fresh → Serves (lead made) made.items (fresh_over fresh c)
  over-serves fresh are k body there =
      over-at k (list_any (key_eq k) keys) body (charstring_at fresh k) (charstring_at c k)
      (are k ∙ ap (λ b. cond (list_any (key_eq k) keys) (option_map (encrypted (lead made) k) b) None) there)
      (λ off. old-stays k off ∙ ap (option_map (encrypted (lead made) k)) there)

  pub batch_len_is : (fresh : Charstrings) (o : List ℕ) (is : List Item) (len : ℕ) → AreFresh (lead made) keys made fresh → o ≡ operator made → is ≡ made.items
      → len ≡ min (length (text_by (fresh_over fresh c) o is)) (2 ^ 64 - 1) → IsPrivateLen made len
  batch_len_is fresh o is len are operator_is items_are len_is = (
    text_by (fresh_over fresh c) (operator made) made.items,
    text_by_is made (fresh_over fresh c) batch.0.well batch.0.sound (over-serves fresh are),
    len_is ∙ ap (λ name. min (length (text_by (fresh_over fresh c) name is)) (2 ^ 64 - 1)) operator_is
        ∙ ap (λ l. min (length (text_by (fresh_over fresh c) (operator made) l)) (2 ^ 64 - 1)) items_are,
  )

-- the fresh charstrings of edits, where lenIV stays
pub fresh_by : {s made : SourceParts} {c : Charstrings} {entries : EditedEntries} → (edits : AreEdits s made c entries) → lead made ≡ lead s
    → AreFresh (lead made) edits.keys made entries.fresh
fresh_by {made = made} {entries = entries} edits front = subst (λ n. AreFresh n edits.keys made entries.fresh) (sym front) edits.fresh

-- what is ready of edits
pub entries_ready : (s made : SourceParts) (c d : Charstrings) (entries : EditedEntries) (len : ℕ) (lines : ReadyLines) → AreEdits s made c entries → lead made ≡ lead s
    → AreSameCharstrings c d → lines ≡ record { charstrings = ready.Edited entries; len = len } → HasCharstringRoom lines.charstrings d → IsPrivateLen made len → IsReadyLines made d lines
entries_ready s made c d entries len lines edits front same is room known =
    subst (IsReadyLines made d) (sym is) (record {
      room = subst (λ (l : ReadyLines). HasCharstringRoom l.charstrings d) is room;
      kept = λ new settles. batch_settled edits.keys s made c (edits.edit, front) entries d new (fresh_by edits front) edits.gone same settles;
      len = known;
    })

-- ---- entries put in one after another

or-last : {Y : Type 0} (before : Option Y) (b : Bool) (v : Y) (old : Option Y)
    → option_or before (cond b (Some v) old) ≡ option_or (option_or before (cond b (Some v) None)) old
or-last (Some x) b v old = refl
or-last None true v old = refl
or-last None false v old = refl

-- the last entry is as well put in as found in front
pub put-last : {K X : Type 0} (test : K → Bool) (left rest : List (K × X)) (k : K) (v : X) (old new : Option X) → left ≡ rest ++ (k, v) ∷ []
    → new ≡ cond (test k) (Some v) old → option_or (lookup test rest) new ≡ option_or (lookup test left) old
put-last test left rest k v old new left_is new_is =
    ap (option_or (lookup test rest)) new_is ∙ or-last (lookup test rest) (test k) v old
    ∙ sym (ap (λ r. option_or r old) (ap (lookup test) left_is ∙ lookup-last test rest k v))

-- where none is left all is put in
pub all-put : {K X : Type 0} (test : K → Bool) (left : List (K × X)) (kept : Option X) → length left ≡ 0 → kept ≡ option_or (lookup test left) kept
all-put test [] kept none = refl
all-put test (e ∷ es) kept none = absurd (omega (arith, none))

pub on-ok : {T E : Type 0} (r : Result T E) {P : Type 0} → IsOk r → OnOk r P → P
on-ok (Ok x) ok p = p
on-ok (Err e) ok p = absurd (cc)

-- ---- entries taken out one after another

-- a name that is taken out has nothing, and each other name what it had
pub taken-at : {K X : Type 0} (name : K → List ℕ) (old new : List (K × X)) (n p : List ℕ) → n ≡ p
    → ((q : K) → lookup (λ k. bytes_eq (name q) (name k)) new ≡ cond (bytes_eq n (name q)) None (lookup (λ k. bytes_eq (name q) (name k)) old))
    → (g : List ℕ) → lookup (λ k. bytes_eq g (name k)) new ≡ cond (bytes_eq g p) None (lookup (λ k. bytes_eq g (name k)) old)
taken-at name old new n p same at g =
    lookup-taken name old new n at g ∙ ap (λ b. cond b None (lookup (λ k. bytes_eq g (name k)) old)) (bytes-turned n g ∙ ap (bytes_eq g) same)
