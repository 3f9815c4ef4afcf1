-- Records that are renewed where they are stale are those of the edited source.
use Rattle.std.proofs.Common.{◌≡◌, ℕ, Bool, true, false, cond, List, [], ◌∷◌, map, not, refl, sym, ◌∙◌, ap, subst, Option, Some, None, inl, inr}
use Rattle.std.specs.Prelude.{◌||◌, ◌&&◌, Result, Ok, Err, is_some}
use Rattle.std.specs.List.{AllByRecursion, list_any}
use Rattle.std.specs.Str.{bytes_eq}
use Rattle.std.proofs.lemmas.Bool.{cases_Bool}
use Rattle.t1_frac.specs.declared.fault.Fault.{Fault}
use Rattle.t1_code.specs.declared.command.Command.{Command}
use Rattle.t1_parts.specs.SourceParts.{SourceParts}
use Rattle.t1_run.specs.Composite.{outline}
use Rattle.t1_run.specs.Run.{FontBodies, Key, own}
use Rattle.t1_run.specs.Touched.{is_user}
use Rattle.t1_frac.specs.declared.fault.Code.{Code}
use Rattle.t1_font.specs.Bodies.{bodies}
use Rattle.t1_font.specs.KeptBodies.{SameBodies}
use Rattle.t1_font.specs.Glyphs.{Glyph as Reported, glyph_of, glyph_names}
use Rattle.t1_font.specs.SourceChecks.{source_glyphs, source_check}
use Rattle.t1_font.proofs.GlyphsOfSource.{check-by-glyphs}
use Rattle.t1_cache.specs.declared.records.Records.{Records}
use Rattle.t1_cache.specs.declared.records.Rerun.{Rerun}
use Rattle.t1_cache.specs.Bodies.{record_bodies}
use Rattle.t1_cache.specs.Edited.{is_stale, stale, IsEditedAt}
use Rattle.t1_cache.specs.Kept.{KeepsAll}
use Rattle.t1_cache.specs.Laws.{fault_check}
use Rattle.t1_cache.specs.Renewal.{IsRenewed, kept_by}
use Rattle.t1_cache.specs.Recorded.{IsFromScratch, IsOneOf, RecordedGlyph, kept_of}
use Rattle.t1_cache.specs.Renewed.{rerun_of, with_rerun}
use Rattle.t1_cache.specs.Users.{has_pair, lists}
use Rattle.t1_cache.proofs.Drawing.{all_draw}
use Rattle.t1_cache.proofs.Joining.{run_kept, moved}
use Rattle.t1_cache.proofs.Judging.{fine-reported, IsFine}
use Rattle.t1_font.proofs.Lookups.{bytes_tell}
use Rattle.t1_font.proofs.Measuring.{own-none}
use Rattle.t1_cache.proofs.Renewing.{glyphs-of, names_kept, renewed, one-of}
use Rattle.t1_cache.proofs.Lists.{all-weaken, all-at}
use Rattle.t1_rerun.specs.declared.changing.Renewal.{Renewal}
use Rattle.t1_rerun.specs.Renewals.{rerun_names, IsRenewal}
use Rattle.t1_rerun.specs.Right.{has_glyph, IsRight}
use Rattle.t1_rerun.specs.Settled.{IsRenewedBy}
use Rattle.t1_cache.proofs.Filtering.{among-passing, among-off}
use Rattle.t1_rerun.proofs.Meeting.{glyph-among}

-- by the records a glyph is a user and doesn't leave, or it joins
abbrev pub is_moved : Renewal → Records → Key → List ℕ → Bool
is_moved renewal records k u = (lists records k u && not (has_pair renewal.leaves.items k u)) || has_pair renewal.joins.items k u

-- ---- which glyphs a source has

module _ (s : SourceParts) (reported : List Reported) (fine : source_glyphs s ≡ Ok reported) where
  no-glyph : (g : List ℕ) → (bodies s.items).glyphs g ≡ None → (b : Bool) → has_glyph s g ≡ b → b ≡ false
  no-glyph g none false h = refl
  no-glyph g none true h =
      let all = fine-reported (own (bodies s.items)) (outline (bodies s.items)) (glyph_names s.items) reported (glyphs-of s reported fine) in
      let one = all-at (IsFine (own (bodies s.items)) (outline (bodies s.items))) (glyph_names s.items) all g h in
      let never : ◌≡◌ {A = Result Reported Code} (glyph_of g None (outline (bodies s.items) g)) (Ok one.0) =
      ap (λ r. glyph_of g r (outline (bodies s.items) g)) (sym (own-none (bodies s.items) g none)) ∙ one.1 in
      absurd (cc)

  pub has-body : (g : List ℕ) → has_glyph s g ≡ is_some ((bodies s.items).glyphs g)
  has-body g = by ((bodies s.items).glyphs g) refl where
    by : (b : Option (List Command)) → (bodies s.items).glyphs g ≡ b → has_glyph s g ≡ is_some b
    by None e = no-glyph g e (has_glyph s g) refl
    by (Some b) e = glyph-among s.items g b e

-- ---- records with their reruns

rerun-found : (g : List ℕ) (rs : List Rerun) (r : Rerun) → rerun_of rs g ≡ Some r → IsOneOf (map kept_by rs) (kept_by r) × (bytes_eq g r.name.items ≡ true)
rerun-found g [] r e = absurd (cc)
rerun-found g (x ∷ rs) r e = by (bytes_eq g x.name.items) refl e (rerun-found g rs r) where
  by : (b : Bool) → bytes_eq g x.name.items ≡ b → cond b (Some x) (rerun_of rs g) ≡ Some r
      → (rerun_of rs g ≡ Some r → IsOneOf (map kept_by rs) (kept_by r) × (bytes_eq g r.name.items ≡ true))
      → IsOneOf (map kept_by (x ∷ rs)) (kept_by r) × (bytes_eq g r.name.items ≡ true)
  by true on e rest = let is : x ≡ r = cc in (inl (ap kept_by is), subst (λ y. bytes_eq g y.name.items ≡ true) is on)
  by false off e rest = let one = rest e in (inr one.0, one.1)

pub rerun-there : (g : List ℕ) (rs : List Rerun) → list_any (bytes_eq g) (rerun_names rs) ≡ is_some (rerun_of rs g)
rerun-there g [] = refl
rerun-there g (x ∷ rs) = by (bytes_eq g x.name.items) (rerun-there g rs) where
  by : (b : Bool) → list_any (bytes_eq g) (rerun_names rs) ≡ is_some (rerun_of rs g)
      → (b || list_any (bytes_eq g) (rerun_names rs)) ≡ is_some (cond b (Some x) (rerun_of rs g))
  by true rest = refl
  by false rest = rest

-- what makes a record, with the reruns that are left, one that was renewed
pub record IsReady (keys : List Key) (old : SourceParts) (reruns left : List Rerun) (kept : List RecordedGlyph) (k : RecordedGlyph) : Type 0 where
  pub again : list_any (bytes_eq k.name) (rerun_names left) ≡ true → is_stale old keys k.name ≡ true
  pub made : list_any (bytes_eq k.name) (rerun_names left) ≡ false → is_stale old keys k.name ≡ true → IsOneOf (map kept_by reruns) k
  pub fresh : is_stale old keys k.name ≡ false → IsOneOf kept k

module _ (keys : List Key) (old : SourceParts) (reruns left : List Rerun) (kept : List RecordedGlyph)
    (more : (k : RecordedGlyph) → IsOneOf (map kept_by left) k → IsOneOf (map kept_by reruns) k) where
  pub renewed-one : (k : RecordedGlyph) → IsReady keys old reruns left kept k → IsRenewedBy keys old reruns kept (with_rerun (rerun_of left k.name) k)
  renewed-one k ready = by (rerun_of left k.name) refl where
    by : (r : Option Rerun) → rerun_of left k.name ≡ r → IsRenewedBy keys old reruns kept (with_rerun r k)
    by None e = record { stale = λ on. ready.made (rerun-there k.name left ∙ ap is_some e) on; fresh = ready.fresh }
    by (Some r) e =
        let on : is_stale old keys k.name ≡ true = ready.again (rerun-there k.name left ∙ ap is_some e) in
        let found = rerun-found k.name left r e in
        record {
          stale = λ on'.
              subst (λ g. IsOneOf (map kept_by reruns) (record { name = g; run = r.run; box = r.bbox }))
              (sym (bytes_tell.same k.name r.name.items found.1)) (more (kept_by r) found.0);
          fresh = λ off. let never : true ≡ false = sym on ∙ off in absurd (cc);
        }

-- ---- a source that was edited

pub reported-of : (s : SourceParts) → source_check s ≡ Ok tt → (reported : List Reported) × (source_glyphs s ≡ Ok reported)
reported-of s e = by (source_glyphs s) refl (sym (check-by-glyphs s) ∙ e) where
  by : (r : Result (List Reported) Fault) → source_glyphs s ≡ r → ◌≡◌ {A = Result (Unit {0}) Fault} (fault_check r) (Ok tt) → (reported : List Reported) × (source_glyphs s ≡ Ok reported)
  by (Ok reported) here e = (reported, here)
  by (Err fault) here e = absurd (cc)

module _ (keys : List Key) (old new : SourceParts) (before : Records) (renewal : Renewal) (edit : IsEditedAt keys old new) (right : IsRight old before)
    (fine : source_check new ≡ Ok tt) (is : IsRenewal keys old new renewal) where
  abbrev m : FontBodies
  m = bodies old.items

  abbrev n : FontBodies
  n = bodies new.items

  abbrev kept : List RecordedGlyph
  kept = map kept_of before.glyphs.entries

  abbrev reruns : List Rerun
  reruns = renewal.reruns.items

  pub kept-names : map (λ k. k.name) kept ≡ glyph_names old.items
  kept-names = names_kept old kept right.kept

  -- ---- users

  pub moved-at : (k : Key) (g : List ℕ) → is_moved renewal before k g ≡ is_user k (own n g)
  moved-at k g =
      ap (λ b. (lists before k g && not b) || has_pair renewal.joins.items k g) (is.leaves k g)
      ∙ ap (λ b. (lists before k g && not (is.found g && is_user k (own m g))) || b) (is.joins k g)
      ∙ ap (λ b. (b && not (is.found g && is_user k (own m g))) || (is.found g && is_user k (own n g))) (right.users k g)
      ∙ moved (is.found g) (is_user k (own m g)) (is_user k (own n g))
      ∙ elim (cases_Bool (is.found g)) [
        | inl on ↦ ap (λ b. cond b (is_user k (own n g)) (is_user k (own m g))) on
        | inr off ↦
            ap (λ b. cond b (is_user k (own n g)) (is_user k (own m g))) off
            ∙ ap (is_user k) (sym (run_kept keys m n edit.bodies (all_draw old right.kept.glyphs right.kept.faultless) is.found is.reached g off))
      ]

  -- what joins has a body in the edited source

  -- ---- records

  -- of the glyphs that are there, those that are stale were run again
  pub rerun-stale : (g : List ℕ) → has_glyph new g ≡ true → list_any (bytes_eq g) (rerun_names reruns) ≡ is_stale old keys g
  rerun-stale g there = is.names g ∙ by (is_stale old keys g) refl where
    by : (b : Bool) → is_stale old keys g ≡ b → list_any (bytes_eq g) (stale old keys new) ≡ b
    by true on = among-passing (is_stale old keys) g (glyph_names new.items) there on
    by false off = among-off (is_stale old keys) g (glyph_names new.items) off

  pub ready : (left : List Rerun) (k : RecordedGlyph) → list_any (bytes_eq k.name) (rerun_names left) ≡ list_any (bytes_eq k.name) (rerun_names reruns)
      → has_glyph new k.name ≡ true → IsOneOf kept k → IsReady keys old reruns left kept k
  ready left k same there one = record {
    again = λ on. sym (rerun-stale k.name there) ∙ sym same ∙ on;
    made = λ off on. let never : true ≡ false = sym on ∙ sym (rerun-stale k.name there) ∙ sym same ∙ off in absurd (cc);
    fresh = λ off. one;
  }

  pub keeps-all : (records : List RecordedGlyph) → map (λ k. k.name) records ≡ glyph_names new.items → AllByRecursion (IsRenewedBy keys old reruns kept) records
      → KeepsAll new records
  keeps-all records order all =
      renewed keys old new edit (reported-of new fine).0 (reported-of new fine).1 kept records right.kept order
      (all-weaken (IsRenewedBy keys old reruns kept) (IsRenewed keys old new kept)
      (λ k r. record { stale = λ on. one-of (IsFromScratch n) (map kept_by reruns) k is.scratch (r.stale on); fresh = r.fresh })
      records all)

  -- ---- the records of the edited source

  abbrev Settles : Records → Type 0
  Settles after = IsRight new after × AllByRecursion (IsRenewedBy keys old reruns kept) (map kept_of after.glyphs.entries)

  pub settled : (after : Records) (records : List RecordedGlyph) → SameBodies (record_bodies after) n → ((k : Key) (g : List ℕ) → lists after k g ≡ is_user k (own n g))
      → map kept_of after.glyphs.entries ≡ records → map (λ k. k.name) records ≡ glyph_names new.items → AllByRecursion (IsRenewedBy keys old reruns kept) records
      → Settles after
  settled after records same users e order all = (
    record {
      compiled = same;
      kept = subst (KeepsAll new) (sym e) (keeps-all records order all);
      users = users;
    },
    subst (AllByRecursion (IsRenewedBy keys old reruns kept)) (sym e) all,
  )
