-- The first fault of the bodies after edits is that of an entry that they name.
use Rattle.std.proofs.Common.{◌≡◌, ◌∙◌, Bool, true, false, cond, List, [], ◌∷◌, filter, Result, Ok, is_some, refl, sym, ap}
use Rattle.std.specs.List.{list_any, AllByRecursion}
use Rattle.t1_frac.specs.declared.fault.Fault.{Fault}
use Rattle.t1_frac.specs.Outcome.{◌>>=◌}
use Rattle.t1_parts.specs.declared.item.Item.{Item}
use Rattle.t1_parts.specs.declared.item.Item.TheVariants as items
use Rattle.t1_parts.specs.Stretches.{stands_alone}
use Rattle.t1_run.specs.Run.{Key, Subr, Glyph}
use Rattle.t1_run.specs.RunKeys.{key_eq}
use Rattle.t1_font.specs.Bodies.{bodies_check, body_check}
use Rattle.t1_font.proofs.AloneLaws.{same_alone}
use Rattle.t1_held.specs.Drafting.{is_entry_among, IsSoundBut}
use Rattle.t1_held.specs.Noting.{is_kept, kept_bodies_check, kept_check, Kept}

abbrev Checked : Type 0
Checked = Result (Unit {0}) Fault

pub kept_alone : (m : Kept) (is : List Item) → kept_bodies_check m (filter stands_alone is) ≡ kept_bodies_check m is
kept_alone m is = same_alone (kept_bodies_check m) (λ l is. refl) (λ i xs ys e. ap (λ (r : Checked). kept_check m i >>= (λ _. r)) e) is

-- the entries that are kept are those of some keys
abbrev pub Keeps : Kept → List Key → Type 0
Keeps m ks = (k : Key) → is_some (m k) ≡ list_any (key_eq k) ks

kept-among : (m : Kept) (ks : List Key) → Keeps m ks → (i : Item) → is_kept m i ≡ is_entry_among ks i
kept-among m ks keeps (items.Plain l) = refl
kept-among m ks keeps (items.Section before n after) = refl
kept-among m ks keeps (items.Subr n words closing) = keeps (Subr n)
kept-among m ks keeps (items.Glyph g words closing) = keeps (Glyph g)

same-check : (m : Kept) (ks : List Key) → Keeps m ks → (i : Item) → IsSoundBut ks i → kept_check m i ≡ body_check i
same-check m ks keeps i sound = by (is_kept m i) (sym (kept-among m ks keeps i)) sound where
  by : (b : Bool) → is_entry_among ks i ≡ b → (is_entry_among ks i ≡ false → body_check i ≡ Ok tt) → cond b (body_check i) (Ok tt) ≡ body_check i
  by true on sound = refl
  by false off sound = sym (sound off)

-- where the other entries have no fault, the first one is theirs
pub first-kept : (m : Kept) (ks : List Key) → Keeps m ks → (is : List Item) → AllByRecursion (IsSoundBut ks) is → kept_bodies_check m is ≡ bodies_check is
first-kept m ks keeps [] all = refl
first-kept m ks keeps (i ∷ is) all =
    ap (λ (r : Checked). r >>= λ _. kept_bodies_check m is) (same-check m ks keeps i all.0)
    ∙ ap (λ (r : Checked). body_check i >>= λ _. r) (first-kept m ks keeps is all.1)
