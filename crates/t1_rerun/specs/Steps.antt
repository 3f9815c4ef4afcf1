-- The changes of records, one after another.
use Rattle.std.specs.Prelude.{◌≡◌, ◌⊎◌, ◌≤◌, ◌++◌, ◌||◌, not, ℕ, Bool, true, false, List, [], ◌∷◌, filter, map, Option, Some, None, IsSome, is_none, if◌then◌else◌}
use Rattle.std.specs.List.{list_any}
use Rattle.std.specs.Option.{option_map}
use Rattle.std.specs.Str.{bytes_eq}
use Rattle.std.specs.declared.alloc.Global.{Global}
use Rattle.std.specs.declared.vec.Vec.{Vec}
use Rattle.indexmap.specs.IndexSet.{IndexSet, spare}
use Rattle.t1_code.specs.declared.command.Command.{Command}
use Rattle.t1_run.specs.Run.{Key, Subr, Glyph}
use Rattle.t1_run.specs.RunKeys.{body_at, key_eq}
use Rattle.t1_extent.specs.Kept.{TracedRun}
use Rattle.t1_run.specs.Touched.{is_key_of}
use Rattle.t1_afm.specs.declared.bbox.BBox.{BBox}
use Rattle.t1_font.specs.declared.owned_key.OwnedKey.{OwnedKey}
use Rattle.t1_font.specs.declared.owned_key.OwnedKey.TheVariants as named
use Rattle.t1_cache.specs.declared.records.NewRun.{NewRun}
use Rattle.t1_cache.specs.declared.records.Records.{Records}
use Rattle.t1_cache.specs.declared.records.Rerun.{Rerun}
use Rattle.t1_cache.specs.Bodies.{record_bodies}
use Rattle.t1_cache.specs.Renewed.{kept, rerun_of}
use Rattle.t1_cache.specs.Recorded.{RecordedGlyph, kept_of}
use Rattle.t1_cache.specs.Users.{is_name_among, users_at, users_of, UserSet}
use Rattle.t1_font.specs.OwnedKeys.{key_of}
use Rattle.t1_rerun.specs.declared.entry_change.EntryChange.{EntryChange}
use Rattle.t1_rerun.specs.declared.settling.RecordChange.{RecordChange}
use Rattle.t1_rerun.specs.declared.settling.RecordChange.TheVariants as steps

-- word: what is seen of records: the body and the users at each key, and each glyph's run and box, in order
pub record Seen : Type 0 where
  pub bodies : Key → Option (List Command)
  pub users : Key → Option UserSet
  pub kept : List RecordedGlyph

-- word: what is seen of these records
abbrev pub seen : Records → Seen
seen r = record { bodies = body_at (record_bodies r); users = users_at r; kept = map kept_of r.glyphs.entries }

-- ---- what a step does

-- word: the one key that a step changes
abbrev pub step_key : RecordChange → Key
step_key (steps.Remove named) = key_of named
step_key (steps.Put named body) = key_of named
step_key (steps.InsertSubr n r) = Subr n
step_key (steps.InsertGlyph name r) = Glyph name.items

-- word: the body at that key after a step, from the one before
abbrev pub step_body : RecordChange → Option (List Command) → Option (List Command)
step_body (steps.Remove named) was = None
step_body (steps.Put named body) was = option_map (λ old. body) was
step_body (steps.InsertSubr n r) was = Some r.body
step_body (steps.InsertGlyph name r) was = Some r.body

-- word: the users at that key after a step
abbrev pub step_users : RecordChange → Option UserSet → Option UserSet
step_users (steps.Remove named) was = None
step_users (steps.Put named body) was = was
step_users (steps.InsertSubr n r) was = Some (users_of r.users)
step_users (steps.InsertGlyph name r) was = Some (users_of r.users)

-- word: the glyphs after a step: one that is removed goes, one that is inserted stands last
abbrev pub step_kept : RecordChange → List RecordedGlyph → List RecordedGlyph
step_kept (steps.Remove named) ks = filter (λ k. not (is_key_of k.name (key_of named))) ks
step_kept (steps.Put named body) ks = ks
step_kept (steps.InsertSubr n r) ks = ks
step_kept (steps.InsertGlyph name r) ks = filter (λ k. not (bytes_eq name.items k.name)) ks ++ kept name.items r.run r.bbox ∷ []

-- word: what is seen after a step
abbrev pub seen_after : RecordChange → Seen → Seen
seen_after step x = record {
  bodies = λ k. if key_eq k (step_key step) then step_body step (x.bodies k) else x.bodies k;
  users = λ k. if key_eq k (step_key step) then step_users step (x.users k) else x.users k;
  kept = step_kept step x.kept;
}

-- word: what is seen after all of these steps, the last one first
abbrev pub after_all : List RecordChange → Seen → Seen
after_all [] x = x
after_all (step ∷ steps) x = seen_after step (after_all steps x)

-- ---- what leaves its place

-- word: a step takes out the glyph's record, where there is one
abbrev pub takes_out : RecordChange → List ℕ → Bool
takes_out (steps.Remove named) g = key_eq (Glyph g) (key_of named)
takes_out (steps.InsertGlyph name r) g = bytes_eq g name.items
takes_out _ g = false

-- word: steps take out the records of these glyphs
abbrev pub AreTakenOut : List (Vec ℕ Global) → List RecordChange → Type 0
AreTakenOut names steps = (g : List ℕ) → is_name_among (λ name. name.items) names g ≡ true → list_any (λ step. takes_out step g) steps ≡ true

-- ---- the steps of changes

-- word: the new run and box of a glyph, by the first of its reruns
abbrev pub new_run : List Rerun → List ℕ → Option (TracedRun × Option BBox)
new_run reruns g = option_map (λ r. (r.run, r.bbox)) (rerun_of reruns g)

-- word: the same, of a new run that is kept by name
abbrev pub new_run_of : Option NewRun → Option (TracedRun × Option BBox)
new_run_of r = option_map (λ r. (r.run, r.bbox)) r

-- word: a step puts in a new record of the glyph
abbrev pub inserts : RecordChange → List ℕ → Bool
inserts (steps.InsertGlyph name r) g = bytes_eq name.items g
inserts _ g = false

-- word: one of these steps does
abbrev pub some_inserts : List RecordChange → List ℕ → Bool
some_inserts steps g = list_any (λ step. inserts step g) steps

-- word: by the records a glyph that is there was moved, or wasn't there
abbrev pub is_last : Records → Bool → OwnedKey → Bool
is_last records moved (named.Subr n) = false
is_last records moved (named.Glyph g) = moved || is_none (body_at (record_bodies records) (Glyph g))

-- word: there is no new run of the glyph
abbrev pub LacksRun : (List ℕ → Option (TracedRun × Option BBox)) → OwnedKey → Type 0
LacksRun run (named.Subr n) = ⊥
LacksRun run (named.Glyph g) = run g ≡ None

-- word: no users, and room for so many
abbrev pub HasPlaces : {S : Type 0} → ℕ → IndexSet (Vec ℕ Global) S → Type 0
HasPlaces count users = (users.keys ≡ []) × (count ≤ spare users)

-- word: the step of a change, by new runs and by how many users join each entry. An entry that was removed is
-- removed, and so is a glyph to be put in that has no new run
abbrev pub IsStepOf : (List ℕ → Option (TracedRun × Option BBox)) → (Key → ℕ) → Records → EntryChange → RecordChange → Type 0
IsStepOf run count records c (steps.Remove named) =
    (c.named ≡ named) × ((c.body ≡ None) ⊎ ((is_last records c.moved named ≡ true) × LacksRun run named))
IsStepOf run count records c (steps.Put named body) =
    (c.named ≡ named) × ((c.body ≡ Some body) × ((is_last records c.moved named ≡ false) × IsSome (body_at (record_bodies records) (key_of named))))
IsStepOf run count records c (steps.InsertSubr n r) =
    (c.named ≡ named.Subr n) × ((c.body ≡ Some r.body) × HasPlaces (count (Subr n)) r.users)
IsStepOf run count records c (steps.InsertGlyph name r) =
    (c.named ≡ named.Glyph name.items)
    × ((c.body ≡ Some r.body)
    × ((is_last records c.moved c.named ≡ true) × (HasPlaces (count (Glyph name.items)) r.users × (run name.items ≡ Some (r.run, r.bbox)))))

-- word: the change of an entry, from its parts
abbrev pub entry_change : OwnedKey → Option (List Command) → Bool → EntryChange
entry_change named body moved = record { named = named; body = body; moved = moved }

-- word: the last step is that of the first change, and so on
abbrev pub AreStepsOf : (List ℕ → Option (TracedRun × Option BBox)) → (Key → ℕ) → Records → List EntryChange → List RecordChange → Type 0
AreStepsOf run count records [] steps = steps ≡ []
AreStepsOf run count records (c ∷ changes) steps =
    (front : List RecordChange) × ((step : RecordChange) × ((steps ≡ front ++ step ∷ []) × (IsStepOf run count records c step × AreStepsOf run count records changes front)))
