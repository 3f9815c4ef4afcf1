-- A part's bytes, with the heads of the segments that begin among them.
use Rattle.std.proofs.Common.{◌≡◌, ℕ, zero, suc, ◌+◌, ◌-◌, ◌<◌, ◌≤◌, min, false, nat_eq, List, [], ◌∷◌, ◌++◌, length, refl, sym, ap, ◌∙◌, append_assoc, Option, inl, inr, arith}
use Rattle.std.proofs.lemmas.Bool.{cases_Bool, eqb-true, eqb-false}
use Rattle.std.specs.List.{flat_map, onto_first}
use Rattle.t1_code.specs.Pfb.{segment, segment_head, segments}
use Rattle.t1_code.specs.Segments.{Segmenting, head_due, segment_opened, past, in_segments, segmenting_after}
use Rattle.t1_code.specs.Writing.{Passes, Stops}
use Rattle.t1_code.specs.declared.outlet.Outlet.{Outlet}
use Rattle.t1_code.proofs.Blocks.{blocks_from, blocks_in_turn}
use Rattle.t1_code.proofs.Carrying.{IsChange, Carried, Carried-step, Carried-fails, Carried-breaks}
use Rattle.t1_code.proofs.Writing.{passing}

in_segments-append : (s : Segmenting) (xs ys : List ℕ) → in_segments s (xs ++ ys) ≡ in_segments s xs ++ in_segments (segmenting_after s xs) ys
in_segments-append s [] ys = refl
in_segments-append s (x ∷ xs) ys =
    ap (λ l. head_due s ++ x ∷ l) (in_segments-append (past 1 (segment_opened s)) xs ys)
    ∙ sym (append_assoc (head_due s) (x ∷ in_segments (past 1 (segment_opened s)) xs) (in_segments (segmenting_after (past 1 (segment_opened s)) xs) ys))

segmenting_after-append : (s : Segmenting) (xs ys : List ℕ) → segmenting_after s (xs ++ ys) ≡ segmenting_after (segmenting_after s xs) ys
segmenting_after-append s [] ys = refl
segmenting_after-append s (x ∷ xs) ys = segmenting_after-append (past 1 (segment_opened s)) xs ys

pub cutting : IsChange in_segments segmenting_after
cutting = record { join = in_segments-append; twice = segmenting_after-append }

-- ---- bytes that the present segment takes

past-past : (s : Segmenting) (m n k : ℕ) → k ≡ m + n → past n (past m s) ≡ past k s
past-past s m n k h =
    let room : s.room - m - n ≡ s.room - k = omega (arith, h) in
    let left : s.left - m - n ≡ s.left - k = omega (arith, h) in
    rw (room, left) refl

pub some_is : (n : ℕ) → 0 < n → nat_eq n 0 ≡ false
some_is n h = elim (cases_Bool (nat_eq n 0)) [
  | inl e ↦ absurd (omega (arith, eqb-true n 0 e))
  | inr e ↦ e
]

within : (s : Segmenting) (front : List ℕ) → length front ≤ s.room → (in_segments s front ≡ front) × (segmenting_after s front ≡ past (length front) s)
within s [] h =
    let room : s.room - 0 ≡ s.room = omega arith in
    let left : s.left - 0 ≡ s.left = omega arith in
    (refl, rw (room, left) refl)
within s (x ∷ front) h =
    let e = some_is s.room (omega arith) in
    let more = within (past 1 s) front (omega arith) in
    rw e (ap (λ l. x ∷ l) more.0, more.1 ∙ past-past s 1 (length front) (suc (length front)) (omega arith))

pub some_of : (n : ℕ) → nat_eq n 0 ≡ false → 0 < n
some_of n h = omega (arith, eqb-false n 0 h)

-- no head is due where the segment takes more
pub no_head : (s : Segmenting) → 0 < s.room → [] ≡ head_due s
no_head s more = rw (some_is s.room more) refl

-- a full segment: the head of the next one, and that one's start
pub head_given : (s : Segmenting) (kind count : ℕ) (head : List ℕ) → s.room ≤ 0 → kind ≡ s.kind → count ≡ min s.size s.left → head ≡ segment_head kind count → head ≡ head_due s
head_given s kind count head full k n e =
    let none : s.room ≡ 0 = omega (arith, full) in
    e ∙ ap (λ i. segment_head i count) k ∙ ap (segment_head s.kind) n ∙ rw none refl

pub start_given : (s t : Segmenting) → s.room ≤ 0 → t ≡ record { kind = s.kind; size = s.size; room = s.size; left = s.left } → t ≡ segment_opened s
start_given s t full e =
    let none : s.room ≡ 0 = omega (arith, full) in
    e ∙ rw none refl

-- what is left begins with the head that is due
head_first : (s : Segmenting) (bytes : List ℕ) → 0 < length bytes → (more : List ℕ) × (in_segments s bytes ≡ head_due s ++ more)
head_first s [] h = absurd (omega arith)
head_first s (x ∷ xs) h = (x ∷ in_segments (past 1 (segment_opened s)) xs, refl)

-- the next bytes, no more than the segment takes that they begin or go on with
front_is : (s : Segmenting) (front : List ℕ) → 0 < length front → length front ≤ (segment_opened s).room
    → (in_segments s front ≡ head_due s ++ front) × (segmenting_after s front ≡ past (length front) (segment_opened s))
front_is s [] long short = absurd (omega arith)
front_is s (x ∷ xs) long short =
    let e = some_is (segment_opened s).room (omega (arith, short)) in
    let more = within (segment_opened s) (x ∷ xs) short in
    let first : in_segments (segment_opened s) (x ∷ xs) ≡ x ∷ in_segments (past 1 (segment_opened s)) xs = rw e refl in
    let last : segmenting_after (segment_opened s) (x ∷ xs) ≡ segmenting_after (past 1 (segment_opened s)) xs = rw e refl in
    (ap (λ l. head_due s ++ l) (sym first ∙ more.0), sym last ∙ more.1)

module _ {W : Type 0} (contents : W → Option (List ℕ)) (start : Outlet W) (first : Segmenting) (text : List ℕ) where
  pub head_fails : (old new : Outlet W) (s : Segmenting) (rest : List ℕ) → Carried contents cutting start old first s text rest → 0 < length rest
      → Stops contents old new (head_due s) → Stops contents start new (in_segments first text)
  head_fails old new s rest p some q =
      let head = head_first s rest some in
      Carried-breaks contents cutting start old new first s text rest p (rw head.1 ((passing contents).longer old new (head_due s) head.0 q))

  pub front_fails : (old mid new : Outlet W) (s : Segmenting) (rest front after : List ℕ) → Carried contents cutting start old first s text rest → rest ≡ front ++ after
      → 0 < length front → length front ≤ (segment_opened s).room → Passes contents old mid (head_due s) → Stops contents mid new front → Stops contents start new (in_segments first text)
  front_fails old mid new s rest front after p e some short head q =
      Carried-fails contents cutting start old new first s text front after (rw e at p) (rw (front_is s front some short).0 ((passing contents).fails old mid new (head_due s) front head q))

  pub front_passes : (old mid new : Outlet W) (s next : Segmenting) (rest front after : List ℕ) → Carried contents cutting start old first s text rest → rest ≡ front ++ after
      → 0 < length front → length front ≤ (segment_opened s).room → Passes contents old mid (head_due s) → Passes contents mid new front → next ≡ past (length front) (segment_opened s)
      → Carried contents cutting start new first next text after
  front_passes old mid new s next rest front after p e some short head q is =
      let same = front_is s front some short in
      Carried-step contents cutting start old new first s next text front after (rw e at p) (rw same.0 ((passing contents).join old mid new (head_due s) front head q)) (is ∙ sym same.1)

-- ---- the blocks of a part

first_block : List (List ℕ) → List ℕ
first_block [] = []
first_block (block ∷ blocks) = block

-- the segments without their first head
beyond_head : ℕ → List (List ℕ) → List ℕ
beyond_head kind [] = []
beyond_head kind (block ∷ blocks) = block ++ flat_map (segment kind) blocks

first_onto : (x : ℕ) (blocks : List (List ℕ)) → length (first_block (onto_first x blocks)) ≡ suc (length (first_block blocks))
unfolding first_block
first_onto x [] = refl
first_onto x (block ∷ blocks) = refl

beyond_onto : (kind x : ℕ) (blocks : List (List ℕ)) → beyond_head kind (onto_first x blocks) ≡ x ∷ beyond_head kind blocks
unfolding beyond_head
beyond_onto kind x [] = refl
beyond_onto kind x (block ∷ blocks) = refl

segments_onto : (kind x : ℕ) (blocks : List (List ℕ)) → flat_map (segment kind) (onto_first x blocks) ≡ segment_head kind (suc (length (first_block blocks))) ++ x ∷ beyond_head kind blocks
unfolding segment first_block beyond_head
segments_onto kind x [] = refl
segments_onto kind x (block ∷ blocks) = append_assoc (segment_head kind (suc (length block))) (x ∷ block) (flat_map (segment kind) blocks)

first_length : (size room : ℕ) (bytes : List ℕ) → length (first_block (blocks_from size room bytes)) ≡ min room (length bytes)
unfolding first_block
first_length size room [] = omega arith
first_length size zero (x ∷ bytes) = omega arith
first_length size (suc room) (x ∷ bytes) = first_onto x (blocks_from size room bytes) ∙ ap suc (first_length size room bytes) ∙ omega arith

abbrev part_from : ℕ → ℕ → ℕ → List ℕ → Segmenting
part_from kind size room bytes = record { kind = kind; size = size; room = room; left = length bytes }

beyond_is : (kind size room : ℕ) (bytes : List ℕ) → 1 ≤ size → beyond_head kind (blocks_from size room bytes) ≡ in_segments (part_from kind size room bytes) bytes
unfolding beyond_head
beyond_is kind size room [] h = refl
beyond_is kind size zero (x ∷ bytes) h =
    let long : suc (length (first_block (blocks_from size (size - 1) bytes))) ≡ min size (suc (length bytes)) = omega (arith, first_length size (size - 1) bytes) in
    let left : suc (length bytes) - 1 ≡ length bytes = omega arith in
    segments_onto kind x (blocks_from size (size - 1) bytes)
    ∙ rw (long, left) (ap (λ l. segment_head kind (min size (suc (length bytes))) ++ x ∷ l) (beyond_is kind size (size - 1) bytes h))
beyond_is kind size (suc room) (x ∷ bytes) h =
    let now : suc room - 1 ≡ room = omega arith in
    let left : suc (length bytes) - 1 ≡ length bytes = omega arith in
    rw (some_is (suc room) (omega arith), now, left) (beyond_onto kind x (blocks_from size room bytes) ∙ ap (λ l. x ∷ l) (beyond_is kind size room bytes h))

headed : (kind size room : ℕ) (bytes : List ℕ) → flat_map (segment kind) (blocks_from size room bytes)
    ≡ segment_head kind (length (first_block (blocks_from size room bytes))) ++ beyond_head kind (blocks_from size room bytes)
unfolding segment first_block beyond_head
headed kind size room [] = refl
headed kind size zero (x ∷ bytes) = refl
headed kind size (suc room) (x ∷ bytes) =
    let blocks = blocks_from size room bytes in
    segments_onto kind x blocks ∙ ap (λ n. segment_head kind n ++ x ∷ beyond_head kind blocks) (sym (first_onto x blocks))
    ∙ ap (λ l. segment_head kind (length (first_block (onto_first x blocks))) ++ l) (sym (beyond_onto kind x blocks))

-- the segments of a part: the head of the first, and the bytes with the heads of the others
pub segments_are : (size kind : ℕ) (bytes : List ℕ) → 1 ≤ size → segments size kind bytes
    ≡ segment_head kind (min size (length bytes)) ++ in_segments (record { kind = kind; size = size; room = size; left = length bytes }) bytes
unfolding segments
segments_are size kind bytes h =
    ap (flat_map (segment kind)) (blocks_in_turn size bytes h) ∙ headed kind size size bytes
    ∙ ap (λ n. segment_head kind n ++ beyond_head kind (blocks_from size size bytes)) (first_length size size bytes)
    ∙ ap (λ l. segment_head kind (min size (length bytes)) ++ l) (beyond_is kind size size bytes h)
