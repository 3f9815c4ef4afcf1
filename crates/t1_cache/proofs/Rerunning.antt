-- Records of which some glyphs were run again.
use Rattle.std.proofs.Common.{◌≡◌, ℕ, Bool, true, false, cond, List, [], ◌∷◌, ◌++◌, length, map, refl, sym, ap, subst, ◌∙◌, Option, Some, None}
use Rattle.std.specs.Prelude.{◌||◌, is_some}
use Rattle.std.specs.List.{AllByRecursion, list_any}
use Rattle.std.specs.Option.{option_or}
use Rattle.std.specs.Str.{bytes_eq}
use Rattle.std.specs.declared.alloc.Global.{Global}
use Rattle.std.specs.declared.vec.Vec.{Vec}
use Rattle.std.proofs.lemmas.Bool.{or_parts, or_right}
use Rattle.std.proofs.lemmas.List.Folds.{find-append}
use Rattle.t1_cache.specs.declared.records.GlyphRecord.{GlyphRecord}
use Rattle.t1_cache.specs.declared.records.NewRun.{NewRun}
use Rattle.t1_cache.specs.declared.records.Rerun.{Rerun}
use Rattle.t1_font.specs.Bodies.{bodies}
use Rattle.t1_cache.specs.Edited.{is_stale}
use Rattle.t1_cache.specs.Laws.{AreDistinct}
use Rattle.t1_cache.specs.Renewal.{IsRenewed, RerunsLaw, kept_by}
use Rattle.t1_cache.specs.Recorded.{IsFromScratch, IsOneOf, RecordedGlyph, kept_of}
use Rattle.t1_cache.specs.Renewed.{names_of, rerun_by_name, rerun_of, reruns_by_name, with_run, with_rerun, with_reruns}
use Rattle.t1_cache.specs.Users.{is_name_among}
use Rattle.t1_cache.proofs.Names.{bytes_equiv}
use Rattle.t1_font.proofs.Lookups.{bytes_tell}
use Rattle.t1_cache.proofs.Renewing.{renewed}

kept-names : (entries : List (Vec ℕ Global × GlyphRecord)) → map (λ k. k.name) (map kept_of entries) ≡ names_of entries
kept-names [] = refl
kept-names (e ∷ entries) = ap (λ names. e.0.items ∷ names) (kept-names entries)

-- a record that has the last rerun, where it is of its name, and the others after it
again : (reruns : List Rerun) (r : Rerun) (k : RecordedGlyph) → (b : Bool) → bytes_eq r.name.items k.name ≡ b
    → with_rerun (rerun_of reruns k.name) (cond b (record { name = k.name; run = r.run; box = r.bbox }) k) ≡ with_rerun (rerun_of (reruns ++ r ∷ []) k.name) k
again reruns r k b e =
    by (rerun_of reruns k.name) b
    ∙ ap (λ c. with_rerun (option_or (rerun_of reruns k.name) (cond c (Some r) None)) k) (sym (bytes_equiv.symm k.name r.name.items ∙ e))
    ∙ ap (λ x. with_rerun x k) (sym (find-append (λ x. bytes_eq k.name x.name.items) reruns (r ∷ [])))
  where
    by : (found : Option Rerun) (b : Bool)
        → with_rerun found (cond b (record { name = k.name; run = r.run; box = r.bbox }) k) ≡ with_rerun (option_or found (cond b (Some r) None)) k
    by None true = refl
    by None false = refl
    by (Some x) true = refl
    by (Some x) false = refl

-- a name of none of the records changes none of them
none-named : (reruns : List Rerun) (r : Rerun) (kept : List RecordedGlyph) → list_any (bytes_eq r.name.items) (map (λ k. k.name) kept) ≡ false
    → with_reruns reruns kept ≡ with_reruns (reruns ++ r ∷ []) kept
none-named reruns r [] h = refl
none-named reruns r (k ∷ kept) h =
    let h' = or_parts (bytes_eq r.name.items k.name) (list_any (bytes_eq r.name.items) (map (λ k. k.name) kept)) h in
    ap (λ x. x ∷ with_reruns reruns kept) (again reruns r k false h'.0)
    ∙ ap (λ l. with_rerun (rerun_of (reruns ++ r ∷ []) k.name) k ∷ l) (none-named reruns r kept h'.1)

-- the last rerun, put into the record of its name, and the others after it
with-last : (reruns : List Rerun) (r : Rerun) (kept : List RecordedGlyph) → AreDistinct (map (λ k. k.name) kept)
    → with_reruns reruns (with_run r.name.items r.run r.bbox kept) ≡ with_reruns (reruns ++ r ∷ []) kept
with-last reruns r [] d = refl
with-last reruns r (k ∷ kept) d = by (bytes_eq r.name.items k.name) refl (with-last reruns r kept d.1) where
  by : (b : Bool) → bytes_eq r.name.items k.name ≡ b
      → with_reruns reruns (with_run r.name.items r.run r.bbox kept) ≡ with_reruns (reruns ++ r ∷ []) kept
      → with_reruns reruns (cond b (record { name = k.name; run = r.run; box = r.bbox } ∷ kept) (k ∷ with_run r.name.items r.run r.bbox kept)) ≡ with_reruns (reruns ++ r ∷ []) (k ∷ kept)
  by true on rest =
      ap (λ x. x ∷ with_reruns reruns kept) (again reruns r k true on)
      ∙ ap (λ l. with_rerun (rerun_of (reruns ++ r ∷ []) k.name) k ∷ l)
      (none-named reruns r kept (ap (λ g. list_any (bytes_eq g) (map (λ k. k.name) kept)) (bytes_tell.same r.name.items k.name on) ∙ d.0))
  by false off rest =
      ap (λ x. x ∷ with_reruns reruns (with_run r.name.items r.run r.bbox kept)) (again reruns r k false off)
      ∙ ap (λ l. with_rerun (rerun_of (reruns ++ r ∷ []) k.name) k ∷ l) rest

pub last-rerun : (reruns : List Rerun) (r : Rerun) (entries : List (Vec ℕ Global × GlyphRecord)) → AreDistinct (names_of entries)
    → with_reruns reruns (with_run r.name.items r.run r.bbox (map kept_of entries)) ≡ with_reruns (reruns ++ r ∷ []) (map kept_of entries)
last-rerun reruns r entries d = with-last reruns r (map kept_of entries) (subst AreDistinct (sym (kept-names entries)) d)

-- no reruns leave the records as they are
no-reruns : (kept : List RecordedGlyph) → with_reruns [] kept ≡ kept
no-reruns [] = refl
no-reruns (k ∷ kept) = ap (λ l. k ∷ l) (no-reruns kept)

pub all-renewed : (reruns : List Rerun) (kept : List RecordedGlyph) → length reruns ≡ 0 → with_reruns reruns kept ≡ kept
all-renewed [] kept none = no-reruns kept
all-renewed (r ∷ reruns) kept none = absurd (cc)

-- ---- new runs by name

pub last-by-name : (es : List (Vec ℕ Global × NewRun)) (e : Vec ℕ Global × NewRun) → reruns_by_name (es ++ e ∷ []) ≡ reruns_by_name es ++ rerun_by_name e ∷ []
last-by-name [] e = refl
last-by-name (x ∷ es) e = ap (λ l. rerun_by_name x ∷ l) (last-by-name es e)

pub none-by-name : (es : List (Vec ℕ Global × NewRun)) → length es ≡ 0 → length (reruns_by_name es) ≡ 0
none-by-name [] none = refl
none-by-name (e ∷ es) none = absurd (cc)

-- ---- records of which the stale glyphs were run again

-- what holds of each record of a name among them holds of all
pub all-named : (P : RecordedGlyph → Type 0) (xs : List RecordedGlyph) → ((x : RecordedGlyph) → list_any (bytes_eq x.name) (map (λ k. k.name) xs) ≡ true → P x) → AllByRecursion P xs
all-named P [] each = tt
all-named P (x ∷ xs) each = (
  each x (ap (λ b. b || list_any (bytes_eq x.name) (map (λ k. k.name) xs)) (bytes_tell.itself x.name)),
  all-named P xs (λ y there. each y (or_right (bytes_eq y.name x.name) (list_any (bytes_eq y.name) (map (λ k. k.name) xs)) there)),
)

all-with : {X Y : Type 0} (P Q : X → Type 0) (R : Y → Type 0) (f : X → Y) → ((x : X) → P x → Q x → R (f x)) → (xs : List X)
    → AllByRecursion P xs → AllByRecursion Q xs → AllByRecursion R (map f xs)
all-with P Q R f each [] ps qs = tt
all-with P Q R f each (x ∷ xs) ps qs = (each x ps.0 qs.0, all-with P Q R f each xs ps.1 qs.1)

-- a rerun that is found is among them, and bears the name
found-rerun : (P : Rerun → Type 0) (g : List ℕ) (reruns : List Rerun) (r : Rerun) → AllByRecursion P reruns → rerun_of reruns g ≡ Some r
    → P r × (bytes_eq g r.name.items ≡ true)
found-rerun P g [] r all e = absurd (cc)
found-rerun P g (x ∷ reruns) r all e = by (bytes_eq g x.name.items) refl e (found-rerun P g reruns r all.1) where
  by : (b : Bool) → bytes_eq g x.name.items ≡ b → cond b (Some x) (rerun_of reruns g) ≡ Some r
      → (rerun_of reruns g ≡ Some r → P r × (bytes_eq g r.name.items ≡ true)) → P r × (bytes_eq g r.name.items ≡ true)
  by true on e rest = let is : x ≡ r = cc in (subst P is all.0, subst (λ y. bytes_eq g y.name.items ≡ true) is on)
  by false off e rest = rest e

has-rerun : (g : List ℕ) (reruns : List Rerun) → is_name_among (λ r. r.name.items) reruns g ≡ is_some (rerun_of reruns g)
has-rerun g [] = refl
has-rerun g (x ∷ reruns) = by (bytes_eq g x.name.items) (has-rerun g reruns) where
  by : (b : Bool) → is_name_among (λ r. r.name.items) reruns g ≡ is_some (rerun_of reruns g)
      → (b || is_name_among (λ r. r.name.items) reruns g) ≡ is_some (cond b (Some x) (rerun_of reruns g))
  by true rest = refl
  by false rest = rest

rerun-name : (r : Option Rerun) (k : RecordedGlyph) → (with_rerun r k).name ≡ k.name
rerun-name None k = refl
rerun-name (Some r) k = refl

pub names-stay : (reruns : List Rerun) (kept : List RecordedGlyph) → map (λ k. k.name) (with_reruns reruns kept) ≡ map (λ k. k.name) kept
names-stay reruns [] = refl
names-stay reruns (k ∷ kept) =
    ap (λ g. g ∷ map (λ x. x.name) (with_reruns reruns kept)) (rerun-name (rerun_of reruns k.name) k)
    ∙ ap (λ l. k.name ∷ l) (names-stay reruns kept)

pub records_rerun : RerunsLaw
records_rerun keys old new edit reported e kept before reruns was order fresh scratch stale =
    renewed keys old new edit reported e kept (with_reruns reruns before) was (names-stay reruns before ∙ order)
    (all-with (λ k. is_name_among (λ r. r.name.items) reruns k.name ≡ is_stale old keys k.name) (λ k. is_stale old keys k.name ≡ false → IsOneOf kept k)
    (IsRenewed keys old new kept) (λ k. with_rerun (rerun_of reruns k.name) k) each before
    (all-named (λ k. is_name_among (λ r. r.name.items) reruns k.name ≡ is_stale old keys k.name) before
    (λ k there. stale k.name (ap (list_any (bytes_eq k.name)) (sym order) ∙ there)))
    fresh)
  where
    each : (k : RecordedGlyph) → is_name_among (λ r. r.name.items) reruns k.name ≡ is_stale old keys k.name → (is_stale old keys k.name ≡ false → IsOneOf kept k)
        → IsRenewed keys old new kept (with_rerun (rerun_of reruns k.name) k)
    each k same one = by (rerun_of reruns k.name) refl where
      by : (r : Option Rerun) → rerun_of reruns k.name ≡ r → IsRenewed keys old new kept (with_rerun r k)
      by None e =
          let off : is_stale old keys k.name ≡ false = sym same ∙ has-rerun k.name reruns ∙ ap is_some e in
          record {
            stale = λ on. let never : true ≡ false = sym on ∙ off in absurd (cc);
            fresh = one;
          }
      by (Some r) e =
          let on : is_stale old keys k.name ≡ true = sym same ∙ has-rerun k.name reruns ∙ ap is_some e in
          let found = found-rerun (λ r. IsFromScratch (bodies new.items) (kept_by r)) k.name reruns r scratch e in
          record {
            stale = λ on'.
                subst (λ g. IsFromScratch (bodies new.items) (record { name = g; run = r.run; box = r.bbox }))
                (sym (bytes_tell.same k.name r.name.items found.1)) found.0;
            fresh = λ off. let never : true ≡ false = sym on ∙ off in absurd (cc);
          }
