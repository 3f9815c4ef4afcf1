-- Steps of reading items.
use Rattle.std.proofs.Common.{◌≡◌, ℕ, zero, suc, ◌+◌, ◌<◌, ◌≤◌, ◌==◌, false, Result, List, [], ◌∷◌, ◌++◌, ◌-◌, length, take, drop, Ok, Err, refl, sym, ◌∙◌, ap, subst, arith}
use Rattle.std.proofs.lemmas.List.{length-append}
use Rattle.std.proofs.Math.Seq.{take-append_seam, drop-append_seam}
use Rattle.t1_text.specs.Lines.{lines}
use Rattle.t1_text.proofs.LineLaws.{line_len, after_line, first_line_lem}
use Rattle.t1_parts.specs.Pieces.{AreLinesAfter}
use Rattle.t1_frac.specs.declared.fault.Fault.{Fault}
use Rattle.t1_parts.specs.declared.item.Item.TheVariants.{Plain}
use Rattle.t1_parts.specs.Entries.{NumberedItem, Taken}
use Rattle.t1_frac.specs.Outcome.{reported_at, Refuses}
use Rattle.t1_frac.specs.declared.fault.Refusal.{Refusal}
use Rattle.t1_frac.specs.declared.fault.Refusal.TheVariants.{Memory, Fault as Reported}
use Rattle.t1_parts.specs.PlainRuns.{read_from}
use Rattle.t1_parts.specs.Private.{item_in_front, items_after, items_of, private_items}
use Rattle.t1_frac.specs.declared.fault.Place.TheVariants.{Line}
use Rattle.t1_frac.proofs.OutcomeLaws.{bind_ok, reported_ok}

-- the earlier items and those of these lines, of which the first has number n and belongs to none of the earlier items
abbrev pub items_from : List NumberedItem → ℕ → List (List ℕ) → Result (List NumberedItem) Fault
items_from earlier n ls = read_from earlier n ls

-- the lines that belong to the last of the earlier items
lines_passed : (earlier : List NumberedItem) (n k : ℕ) (ls : List (List ℕ)) → items_after earlier n k ls ≡ items_after earlier (n + k) 0 (drop k ls)
lines_passed earlier n k [] = by k where
  by : (k : ℕ) → items_after earlier n k [] ≡ items_after earlier (n + k) 0 (drop k [])
  by zero = refl
  by (suc k) = refl
lines_passed earlier n zero (l ∷ ls) = let same : n ≡ n + 0 = omega arith in ap (λ m. items_after earlier m 0 (l ∷ ls)) same
lines_passed earlier n (suc k) (l ∷ ls) =
    let same : n + 1 + k ≡ n + suc k = omega arith in
    lines_passed earlier (n + 1) k ls ∙ ap (λ m. items_after earlier m 0 (drop k ls)) same

-- an item read
pub read_step : (earlier : List NumberedItem) (n : ℕ) (l : List ℕ) (ls : List (List ℕ)) (x : Taken) → reported_at (Line n) (item_in_front earlier l ls) ≡ Ok x → x.1 ≤ length ls
    → items_from earlier n (l ∷ ls) ≡ items_from (earlier ++ (n, x.0) ∷ []) (n + (1 + x.1)) (drop x.1 ls)
read_step earlier n l ls x e h =
    let more : List NumberedItem = earlier ++ (n, x.0) ∷ [] in
    let next : n + 1 + x.1 ≡ n + (1 + x.1) = omega arith in
    rw e (lines_passed more (n + 1) x.1 ls ∙ ap (λ m. items_after more m 0 (drop x.1 ls)) next)

-- an item read from the lines of some bytes
pub item_read : (earlier : List NumberedItem) (n : ℕ) (bytes after : List ℕ) (x : Taken) → 0 < length bytes
    → ((l : List ℕ) (ls : List (List ℕ)) → lines bytes ≡ l ∷ ls → reported_at (Line n) (item_in_front earlier l ls) ≡ Ok x) → AreLinesAfter (x.1 + 1) bytes after
    → items_from earlier n (lines bytes) ≡ items_from (earlier ++ (n, x.0) ∷ []) (n + (x.1 + 1)) (lines after)
item_read earlier n bytes after x some read h =
    let l = take (line_len bytes) bytes in
    let ls = lines (after_line bytes) in
    let first = first_line_lem bytes some in
    let size = ap length first in
    let within : x.1 ≤ length ls = omega (arith, h.0, size) in
    ap (items_from earlier n) first ∙ read_step earlier n l ls x (read l ls first) within
    ∙ ap (λ m. items_from (earlier ++ (n, x.0) ∷ []) m (drop x.1 ls)) (omega arith)
    ∙ ap (items_from (earlier ++ (n, x.0) ∷ []) (n + (x.1 + 1))) (sym (h.1 ∙ ap (drop (x.1 + 1)) first ∙ following x.1 l ls))
  where
    following : (k : ℕ) (l : List ℕ) (ls : List (List ℕ)) → drop (k + 1) (l ∷ ls) ≡ drop k ls
    following k l ls = let size : k + 1 ≡ suc k = omega arith in ap (λ m. drop m (l ∷ ls)) size

-- the first fault decides
pub item_fault : (earlier : List NumberedItem) (n : ℕ) (bytes : List ℕ) (f : Fault) → 0 < length bytes
    → ((l : List ℕ) (ls : List (List ℕ)) → lines bytes ≡ l ∷ ls → reported_at (Line n) (item_in_front earlier l ls) ≡ Err f) → items_from earlier n (lines bytes) ≡ Err f
item_fault earlier n bytes f some read =
    let first = first_line_lem bytes some in
    let fault = read _ _ first in
    ap (items_from earlier n) first ∙ (rw fault refl)

-- lines and one more
pub before_last : (ls : List (List ℕ)) (last : List ℕ) → take (length (ls ++ last ∷ []) - 1) (ls ++ last ∷ []) ≡ ls
before_last ls last =
    let size : length (ls ++ last ∷ []) - 1 ≡ length ls = omega (arith, length-append ls (last ∷ [])) in
    ap (λ k. take k (ls ++ last ∷ [])) size ∙ take-append_seam ls (last ∷ [])

-- the last line after the items before it
pub last_given : (n : ℕ) (ls : List (List ℕ)) (last : List ℕ) (items : List NumberedItem) → items_of n ls ≡ Ok items
    → private_items n (ls ++ last ∷ []) ≡ Ok (items ++ (n + length ls, Plain last) ∷ [])
unfolding private_items
last_given n ls last items e =
    let one_less : length (ls ++ last ∷ []) - 1 ≡ length ls = omega (arith, length-append ls (last ∷ [])) in
    rw (one_less, take-append_seam ls (last ∷ []), drop-append_seam ls (last ∷ []), e) refl

-- what refuses the items before the last line refuses all
pub last_refused : (n : ℕ) (ls : List (List ℕ)) (last : List ℕ) (r : Refusal) → Refuses r (items_of n ls) → Refuses r (private_items n (ls ++ last ∷ []))
unfolding private_items
last_refused n ls last Memory h = tt
last_refused n ls last (Reported f) h = rw (before_last ls last, h) refl

-- what refuses the first item refuses all
pub item_refused : (earlier : List NumberedItem) (n : ℕ) (bytes : List ℕ) (r : Refusal) → 0 < length bytes
    → ((l : List ℕ) (ls : List (List ℕ)) → lines bytes ≡ l ∷ ls → Refuses r (reported_at (Line n) (item_in_front earlier l ls))) → Refuses r (items_from earlier n (lines bytes))
item_refused earlier n bytes Memory some h = tt
item_refused earlier n bytes (Reported f) some h = item_fault earlier n bytes f some h

-- a line that is passed over keeps what holds of the items read and the lines left
abbrev pub KeptByLine : (List NumberedItem → List (List ℕ) → Type 0) → Type 0
KeptByLine P = (items : List NumberedItem) (l : List ℕ) (ls : List (List ℕ)) → P items (l ∷ ls) → P items ls

-- so does an item that is read
abbrev pub KeptByItem : (List NumberedItem → List (List ℕ) → Type 0) → Type 0
KeptByItem P = (items : List NumberedItem) (n : ℕ) (l : List ℕ) (ls : List (List ℕ)) (x : Taken) → P items (l ∷ ls) → item_in_front items l ls ≡ Ok x → P (items ++ (n, x.0) ∷ []) ls

read_keeps : (P : List NumberedItem → List (List ℕ) → Type 0) → KeptByLine P → KeptByItem P → (earlier : List NumberedItem) (n k : ℕ) (ls : List (List ℕ)) (items : List NumberedItem) → P earlier ls
    → items_after earlier n k ls ≡ Ok items → P items []
read_keeps P line item earlier n k [] items h e = let same : earlier ≡ items = cc in subst (λ t. P t []) same h
read_keeps P line item earlier n (suc k) (l ∷ ls) items h e = read_keeps P line item earlier (n + 1) k ls items (line earlier l ls h) e
read_keeps P line item earlier n zero (l ∷ ls) items h e =
    let made : Taken → List NumberedItem = λ x. earlier ++ (n, x.0) ∷ [] in
    let r = bind_ok (reported_at (Line n) (item_in_front earlier l ls)) (λ x. items_after (made x) (n + 1) x.1 ls) items e in
    read_keeps P line item (made r.0) (n + 1) r.0.1 ls items (item earlier n l ls r.0 h (reported_ok (Line n) (item_in_front earlier l ls) r.0 r.1)) r.2

-- what holds of no items and all lines, and is kept, holds of all items
pub items_keep : (P : List NumberedItem → List (List ℕ) → Type 0) → KeptByLine P → KeptByItem P → (n : ℕ) (ls : List (List ℕ)) (items : List NumberedItem) → P [] ls → items_of n ls ≡ Ok items
    → P items []
items_keep P line item n ls items h e = read_keeps P line item [] n 0 ls items h e

pub some_of : (n : ℕ) → (n == 0) ≡ false → 0 < n
some_of zero h = absurd (cc)
some_of (suc n) h = omega arith
