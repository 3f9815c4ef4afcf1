-- How far the outlines of glyphs reach, by what is kept of their runs.
use Rattle.std.proofs.Common.{◌≡◌, ℕ, zero, suc, ◌-◌, List, ◌++◌, append_assoc, refl, sym, ap, ◌∙◌, subst, Option, Some, None, arith}
use Rattle.std.specs.Prelude.{Result, Ok, Err, IsOk}
use Rattle.t1_frac.specs.Outcome.{◌>>=◌, Refuses, reported_at}
use Rattle.t1_frac.specs.Refusals.{refusal}
use Rattle.t1_frac.specs.declared.fault.Code.{Code}
use Rattle.t1_frac.specs.declared.fault.Code.TheVariants.{F46}
use Rattle.t1_frac.specs.declared.fault.Place.TheVariants.{Nowhere}
use Rattle.t1_frac.specs.declared.fault.Refusal.{Refusal}
use Rattle.t1_frac.specs.declared.fault.Refusal.TheVariants.{Fault, Memory}
use Rattle.t1_run.specs.declared.outline.Composite.{Composite}
use Rattle.t1_run.specs.declared.outline.Point.{Point}
use Rattle.t1_run.specs.declared.outline.Segment.{Segment}
use Rattle.t1_run.specs.Composite.{accent_move, moved_outline, outline_within, drawn, with_parts, joined_outline, joined_with}
use Rattle.t1_run.specs.Run.{Drawing}
use Rattle.t1_afm.specs.declared.bbox.BBox.{BBox}
use Rattle.t1_afm.specs.Box.{drawn_box, unite as unite_boxes}
use Rattle.t1_afm.proofs.Fonts.{box_of_both}
use Rattle.t1_extent.specs.declared.reached.Reached.{Reached}
use Rattle.t1_extent.specs.Parts.{part_within, parts_joined, both_parts, parts_outline}
use Rattle.t1_extent.specs.FoundRuns.{run_there}
use Rattle.t1_extent.specs.Reached.{IsReach, GivesReached, ReportsAtOnce}
use Rattle.t1_extent.specs.Turns.{given_in_turn, given_box}
use Rattle.t1_extent.proofs.Turning.{both, Descends, descends, never_refused}

-- ---- a glyph's outline, by what is kept of its run

abbrev pub Kept : Type 0
Kept = List ℕ → Option (Result Drawing Code)

pub drawing_found : (own : Option (Result Drawing Code)) (d : Drawing) → Ok d ≡ run_there own → Some (Ok d) ≡ own
drawing_found None d e = absurd (cc)
drawing_found (Some run) d e = ap Some e

fault_drawn : (part : List ℕ → Result (List Segment) Code) (own : Option (Result Drawing Code)) (code : Code) → Err code ≡ run_there own → drawn part own ≡ Err code
fault_drawn part None code e = cc
fault_drawn part (Some run) code e = ap (λ r. drawn part (Some r)) (sym e)

pub faulty : (run : Kept) (depth : ℕ) (name : List ℕ) (code : Code) → Err code ≡ run_there (run name) → outline_within run depth name ≡ Err code
faulty run zero name code e = fault_drawn (λ part. Err F46) (run name) code e
faulty run (suc depth) name code e = fault_drawn (outline_within run depth) (run name) code e

pub lonely : (run : Kept) (depth : ℕ) (name : List ℕ) (d : Drawing) → Some (Ok d) ≡ run name → None ≡ d.composite → outline_within run depth name ≡ Ok d.segments
lonely run zero name d e f = ap (drawn (λ part. Err F46)) (sym e) ∙ ap (λ c. with_parts (λ part. Err F46) c d) (sym f)
lonely run (suc depth) name d e f = ap (drawn (outline_within run depth)) (sym e) ∙ ap (λ c. with_parts (outline_within run depth) c d) (sym f)

pub composed : (run : Kept) (depth : ℕ) (name : List ℕ) (d : Drawing) (c : Composite) → (depth ≡ 0 → ⊥) → Some (Ok d) ≡ run name → Some c ≡ d.composite
    → outline_within run depth name
    ≡ (outline_within run (depth - 1) c.base >>= (λ base. outline_within run (depth - 1) c.accent >>= (λ accent. joined_outline d base accent)))
composed run zero name d c h e f = absurd (h refl)
composed run (suc depth) name d c h e f =
    let below : suc depth - 1 ≡ depth = omega arith in
    rw below (ap (drawn (outline_within run depth)) (sym e) ∙ ap (λ c'. with_parts (outline_within run depth) c' d) (sym f))

-- ---- refusals of steps

pub refuses-code : {Y : Type 0} (refused : Refusal) (code : Code) (given : Result Y Code) → refused ≡ refusal code → given ≡ Err code
    → Refuses refused (reported_at Nowhere given)
refuses-code refused code given e f = rw (e, f) refl

refuses-first : {A B : Type 0} (refused : Refusal) (r : Result A Code) (next : A → Result B Code)
    → Refuses refused (reported_at Nowhere r) → Refuses refused (reported_at Nowhere (r >>= next))
refuses-first Memory r next h = tt
refuses-first (Fault fault) (Ok x) next h = absurd (cc)
refuses-first (Fault fault) (Err code) next h = cc

refuses-at : {A B : Type 0} (refused : Refusal) (r : Result A Code) (x : A) (next : A → Result B Code)
    → r ≡ Ok x → Refuses refused (reported_at Nowhere (next x)) → Refuses refused (reported_at Nowhere (r >>= next))
refuses-at refused r x next e h = subst (λ t. Refuses refused (reported_at Nowhere (t >>= next))) (sym e) h

-- ---- the parts of a composite together

pub too_deep : (run : Kept) (depth : ℕ) (bearing : Point) (c : Composite) → depth ≡ 0 → parts_outline (part_within run depth) bearing c ≡ Err F46
too_deep run zero bearing c e = refl
too_deep run (suc depth) bearing c e = absurd (omega (arith, e))

pub below : (run : Kept) (depth : ℕ) → (depth ≡ 0 → ⊥) → outline_within run (depth - 1) ≡ part_within run depth
below run zero h = absurd (h refl)
below run (suc depth) h =
    let same : suc depth - 1 ≡ depth = omega arith in
    ap (outline_within run) same

pub base_refused : (bearing : Point) (c : Composite) (base accent : Result (List Segment) Code) (refused : Refusal) → GivesReached (Err refused) base
    → Refuses refused (reported_at Nowhere (both_parts bearing c base accent))
base_refused bearing c base accent refused h = refuses-first refused base (λ b. accent >>= (λ a. parts_joined bearing c b a)) h

pub accent_refused : (bearing : Point) (c : Composite) (base accent : Result (List Segment) Code) (refused : Refusal) (r : Reached) → GivesReached (Ok r) base → GivesReached (Err refused) accent
    → Refuses refused (reported_at Nowhere (both_parts bearing c base accent))
accent_refused bearing c base accent refused r b h =
    refuses-at refused base b.0 (λ b. accent >>= (λ a. parts_joined bearing c b a)) b.1 (refuses-first refused accent (λ a. parts_joined bearing c b.0 a) h)

-- with both at hand
at_hand : (bearing : Point) (c : Composite) (base accent : Result (List Segment) Code) (r s : Reached) → (b : GivesReached (Ok r) base) → (a : GivesReached (Ok s) accent)
    → both_parts bearing c base accent ≡ parts_joined bearing c b.0 a.0
at_hand bearing c base accent r s b a = ap (λ t. both_parts bearing c t accent) b.1 ∙ ap (λ t. t >>= (λ x. parts_joined bearing c b.0 x)) a.1

pub move_refused : (bearing : Point) (c : Composite) (base accent : Result (List Segment) Code) (r s : Reached) (code : Code) → GivesReached (Ok r) base → GivesReached (Ok s) accent
    → accent_move bearing c ≡ Err code → both_parts bearing c base accent ≡ Err code
move_refused bearing c base accent r s code b a move =
    at_hand bearing c base accent r s b a ∙ ap (λ m. m >>= (λ by. moved_outline by a.0 >>= (λ accent'. Ok (b.0 ++ accent')))) move

accent_at_hand : (bearing : Point) (c : Composite) (base accent : Result (List Segment) Code) (r s : Reached) (by : Point) → (b : GivesReached (Ok r) base) → GivesReached (Ok s) accent
    → accent_move bearing c ≡ Ok by → both_parts bearing c base accent ≡ ((accent >>= moved_outline by) >>= λ accent'. Ok (b.0 ++ accent'))
accent_at_hand bearing c base accent r s by b a move =
    at_hand bearing c base accent r s b a ∙ ap (λ m. m >>= (λ by. moved_outline by a.0 >>= (λ accent'. Ok (b.0 ++ accent')))) move
    ∙ sym (ap (λ t. (t >>= moved_outline by) >>= λ accent'. Ok (b.0 ++ accent')) a.1)

pub moved_refused : (bearing : Point) (c : Composite) (base accent : Result (List Segment) Code) (r s : Reached) (by : Point) (refused : Refusal) → GivesReached (Ok r) base → GivesReached (Ok s) accent
    → accent_move bearing c ≡ Ok by → GivesReached (Err refused) (accent >>= moved_outline by) → Refuses refused (reported_at Nowhere (both_parts bearing c base accent))
moved_refused bearing c base accent r s by refused b a move h =
    subst (λ t. Refuses refused (reported_at Nowhere t)) (sym (accent_at_hand bearing c base accent r s by b a move))
    (refuses-first refused (accent >>= moved_outline by) (λ accent'. Ok (b.0 ++ accent')) h)

-- two outlines in one reach as far as both
abbrev pub Unites : Reached → Reached → Reached → Type 0
Unites r s u = (a b : List Segment) → IsReach r a → IsReach s b → IsReach u (a ++ b)

pub parts_reported : (bearing : Point) (c : Composite) (base accent : Result (List Segment) Code) (r s m u : Reached) (by : Point) → GivesReached (Ok r) base → GivesReached (Ok s) accent
    → accent_move bearing c ≡ Ok by → GivesReached (Ok m) (accent >>= moved_outline by) → Unites r m u → GivesReached (Ok u) (both_parts bearing c base accent)
parts_reported bearing c base accent r s m u by b a move k unites = (
  b.0 ++ k.0,
  accent_at_hand bearing c base accent r s by b a move ∙ ap (λ t. t >>= λ accent'. Ok (b.0 ++ accent')) k.1,
  unites b.0 k.0 b.2 k.2,
)

-- ---- a composite by its parts, not moved

appended : (own base : List Segment) (accent' : Result (List Segment) Code)
    → (accent' >>= λ xs. Ok (own ++ base ++ xs)) ≡ ((accent' >>= λ xs. Ok (base ++ xs)) >>= λ parts. Ok (own ++ parts))
appended own base (Err e) = refl
appended own base (Ok xs) = ap Ok (append_assoc own base xs)

appended_after : (move : Result Point Code) (own base accent : List Segment)
    → (move >>= (λ by. moved_outline by accent >>= (λ xs. Ok (own ++ base ++ xs)))) ≡ ((move >>= (λ by. moved_outline by accent >>= (λ xs. Ok (base ++ xs)))) >>= λ parts. Ok (own ++ parts))
appended_after (Err e) own base accent = refl
appended_after (Ok by) own base accent = appended own base (moved_outline by accent)

-- its base's outline, then its accent's, then both joined
abbrev pub with_both : Drawing → Result (List Segment) Code → Result (List Segment) Code → Result (List Segment) Code
with_both d base accent = base >>= (λ b. accent >>= (λ a. joined_outline d b a))

with_parts_joined : (c : Composite) (d : Drawing) (base accent : Result (List Segment) Code) → d.composite ≡ Some c
    → with_both d base accent ≡ (both_parts d.bearing c base accent >>= λ parts. Ok (d.segments ++ parts))
unfolding joined_outline
with_parts_joined c d (Err e) accent is = refl
with_parts_joined c d (Ok b) (Err e) is = refl
with_parts_joined c d (Ok b) (Ok a) is = ap (λ k. joined_with k d b a) is ∙ appended_after (accent_move d.bearing c) d.segments b a

-- its own segments, and then those of its parts
by_parts : (run : Kept) (depth : ℕ) (name : List ℕ) (d : Drawing) (c : Composite) → Some (Ok d) ≡ run name → Some c ≡ d.composite
    → outline_within run depth name ≡ (parts_outline (part_within run depth) d.bearing c >>= λ parts. Ok (d.segments ++ parts))
by_parts run zero name d c e f = ap (drawn (λ part. Err F46)) (sym e) ∙ ap (λ c'. with_parts (λ part. Err F46) c' d) (sym f)
by_parts run (suc depth) name d c e f =
    ap (drawn (outline_within run depth)) (sym e) ∙ ap (λ c'. with_parts (outline_within run depth) c' d) (sym f)
    ∙ with_parts_joined c d (outline_within run depth c.base) (outline_within run depth c.accent) (sym f)

pub parts_refused : (run : Kept) (depth : ℕ) (name : List ℕ) (d : Drawing) (c : Composite) (bearing : Point) (refused : Refusal) → Some (Ok d) ≡ run name → Some c ≡ d.composite
    → bearing ≡ d.bearing → GivesReached (Err refused) (parts_outline (part_within run depth) bearing c) → Refuses refused (reported_at Nowhere (outline_within run depth name))
parts_refused run depth name d c bearing refused e f g h =
    subst (λ t. Refuses refused (reported_at Nowhere t)) (sym (by_parts run depth name d c e f))
    (refuses-first refused (parts_outline (part_within run depth) d.bearing c) (λ parts. Ok (d.segments ++ parts))
    (subst (λ b. Refuses refused (reported_at Nowhere (parts_outline (part_within run depth) b c))) g h))

-- a composite's outline, with its parts at hand
with_parts_at_hand : (run : Kept) (depth : ℕ) (name : List ℕ) (d : Drawing) (c : Composite) (r : Reached) → Some (Ok d) ≡ run name → Some c ≡ d.composite
    → (h : GivesReached (Ok r) (parts_outline (part_within run depth) d.bearing c)) → outline_within run depth name ≡ Ok (d.segments ++ h.0)
with_parts_at_hand run depth name d c r e f h = by_parts run depth name d c e f ∙ ap (λ t. t >>= λ parts. Ok (d.segments ++ parts)) h.1

pub composite_reported : (run : Kept) (depth : ℕ) (name : List ℕ) (d : Drawing) (c : Composite) (bearing : Point) (own r u : Reached) → Some (Ok d) ≡ run name → Some c ≡ d.composite
    → bearing ≡ d.bearing → IsReach own d.segments → GivesReached (Ok r) (parts_outline (part_within run depth) bearing c) → Unites own r u → GivesReached (Ok u) (outline_within run depth name)
composite_reported run depth name d c bearing own r u e f g is h unites =
    let k = subst (λ b. GivesReached (Ok r) (parts_outline (part_within run depth) b c)) g h in
    (d.segments ++ k.0, with_parts_at_hand run depth name d c r e f k, unites d.segments k.0 is k.2)

-- ---- boxes

pub box_refused : (given : Result (List Segment) Code) (refused : Refusal) → Refuses refused (reported_at Nowhere given) → Refuses refused (reported_at Nowhere (given_box given))
box_refused given refused h = refuses-first refused given (λ outline. Ok (drawn_box outline)) h

pub composite_boxed : (run : Kept) (depth : ℕ) (name : List ℕ) (d : Drawing) (c : Composite) (bearing : Point) (r : Reached) (own parts : Option BBox) → Some (Ok d) ≡ run name → Some c ≡ d.composite
    → bearing ≡ d.bearing → own ≡ drawn_box d.segments → GivesReached (Ok r) (parts_outline (part_within run depth) bearing c)
    → ((outline : List Segment) → IsReach r outline → parts ≡ drawn_box outline) → given_box (outline_within run depth name) ≡ Ok (unite_boxes own parts)
composite_boxed run depth name d c bearing r own parts e f g is h boxed =
    let k = subst (λ b. GivesReached (Ok r) (parts_outline (part_within run depth) b c)) g h in
    ap given_box (with_parts_at_hand run depth name d c r e f k)
    ∙ ap Ok (box_of_both d.segments k.0 ∙ ap (λ b. unite_boxes b (drawn_box k.0)) (sym is) ∙ ap (unite_boxes own) (sym (boxed k.0 k.2)))

-- ---- a composite, moved

pub own_moved_refused : (own base accent whole : Result (List Segment) Code) (code : Code) → whole ≡ both (both own base) accent → own ≡ Err code → whole ≡ Err code
own_moved_refused own base accent whole code e h = e ∙ ap (λ t. both (both t base) accent) h

pub base_moved_refused : (own base accent whole : Result (List Segment) Code) (o : Reached) (refused : Refusal) → whole ≡ both (both own base) accent → ReportsAtOnce (Ok o) own
    → GivesReached (Err refused) base → Refuses refused (reported_at Nowhere whole)
base_moved_refused own base accent whole o refused e h k =
    subst (λ t. Refuses refused (reported_at Nowhere t)) (sym (e ∙ ap (λ t. both (both t base) accent) h.1))
    (refuses-first refused (both (Ok h.0) base) (λ xs. accent >>= (λ ys. Ok (xs ++ ys))) (refuses-first refused base (λ ys. Ok (h.0 ++ ys)) k))

pub accent_moved_refused : (own base accent whole : Result (List Segment) Code) (o r : Reached) (refused : Refusal) → whole ≡ both (both own base) accent → ReportsAtOnce (Ok o) own
    → GivesReached (Ok r) base → GivesReached (Err refused) accent → Refuses refused (reported_at Nowhere whole)
accent_moved_refused own base accent whole o r refused e h b k =
    subst (λ t. Refuses refused (reported_at Nowhere t)) (sym (e ∙ ap (λ t. both (both t base) accent) h.1 ∙ ap (λ t. both (both (Ok h.0) t) accent) b.1))
    (refuses-first refused accent (λ ys. Ok ((h.0 ++ b.0) ++ ys)) k)

pub moved_reported : (own base accent whole : Result (List Segment) Code) (o r s u v : Reached) → whole ≡ both (both own base) accent → ReportsAtOnce (Ok o) own
    → GivesReached (Ok r) base → GivesReached (Ok s) accent → Unites o r u → Unites u s v → GivesReached (Ok v) whole
moved_reported own base accent whole o r s u v e h b a first second = (
  h.0 ++ b.0 ++ a.0,
  e ∙ ap (λ t. both (both t base) accent) h.1 ∙ ap (λ t. both (both (Ok h.0) t) accent) b.1 ∙ ap (λ t. both (Ok (h.0 ++ b.0)) t) a.1,
  second (h.0 ++ b.0) a.0 (first h.0 b.0 h.2 b.2) a.2,
)

pub walks : (run : Kept) (depth : ℕ) (name : List ℕ) (d : Drawing) (c : Composite) (bearing by : Point) (moves : List Point) (last : Point) → (depth ≡ 0 → ⊥) → Some (Ok d) ≡ run name → Some c ≡ d.composite
    → bearing ≡ d.bearing → accent_move bearing c ≡ Ok by → IsOk (given_in_turn moves (outline_within run depth name))
    → Descends d by moves last (outline_within run (depth - 1) c.base) (outline_within run (depth - 1) c.accent) (outline_within run depth name)
walks run depth name d c bearing by moves last some e f g move ok =
    let base = outline_within run (depth - 1) c.base in
    let accent = outline_within run (depth - 1) c.accent in
    let eq : outline_within run depth name ≡ with_both d base accent = composed run depth name d c some e f in
    let same : accent_move d.bearing c ≡ Ok by = subst (λ b. accent_move b c ≡ Ok by) g move in
    subst (Descends d by moves last base accent) (sym eq) (descends c d by moves last base accent (sym f) same (subst (λ r. IsOk (given_in_turn moves r)) eq ok))

pub stuck : (run : Kept) (depth : ℕ) (name : List ℕ) (d : Drawing) (c : Composite) (bearing : Point) (code : Code) (moves : List Point) → (depth ≡ 0 → ⊥) → Some (Ok d) ≡ run name → Some c ≡ d.composite
    → bearing ≡ d.bearing → accent_move bearing c ≡ Err code → IsOk (given_in_turn moves (outline_within run depth name)) → ⊥
stuck run depth name d c bearing code moves some e f g move ok =
    let base = outline_within run (depth - 1) c.base in
    let accent = outline_within run (depth - 1) c.accent in
    let eq : outline_within run depth name ≡ with_both d base accent = composed run depth name d c some e f in
    let same : accent_move d.bearing c ≡ Err code = subst (λ b. accent_move b c ≡ Err code) g move in
    never_refused c d code moves base accent (sym f) same (subst (λ r. IsOk (given_in_turn moves r)) eq ok)

pub refused_reported : {Y : Type 0} (code : Code) (given : Result Y Code) → given ≡ Err code → Refuses (refusal code) (reported_at Nowhere given)
refused_reported code given e = refuses-code (refusal code) code given refl e
