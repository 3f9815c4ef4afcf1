-- Items that are looked for, block by block.
use Rattle.std.proofs.Common.{◌≡◌, ◌<◌, ◌≤◌, ◌+◌, ◌-◌, Bool, true, false, if◌then◌else◌, ℕ, suc, Some, None, List, [], ◌∷◌, ◌++◌, length, take, drop, nat_lt, inl, inr, refl, ◌∙◌, ap, arith}
use Rattle.std.specs.List.{list_any, position, position_or_len, slice_index_or}
use Rattle.std.specs.declared.alloc.Global.{Global}
use Rattle.std.specs.declared.rc.Rc.{Rc}
use Rattle.std.proofs.lemmas.Bool.{cases_Bool, lt-ltb, ltb-true}
use Rattle.std.proofs.lemmas.List.{length-append}
use Rattle.std.proofs.lemmas.List.Folds.{list_any-append}
use Rattle.std.proofs.lemmas.Option.{none-some, same_Some}
use Rattle.t1_parts.specs.declared.entry_key.EntryKey.{EntryKey}
use Rattle.t1_parts.specs.declared.item.Item.{Item}
use Rattle.t1_buckets.specs.Buckets.{Shared, shared_joined}
use Rattle.t1_parts.specs.EntryKeys.{is_entry_of, IsEntryAt, IsThrough}
use Rattle.t1_buckets.proofs.SharedLaws.{around}
use Rattle.t1_parts.proofs.StretchLaws.{drop_append, drop_past, found_past, found_within}

-- ---- the first item that passes a test

passed : {X : Type 0} (p : X → Bool) (xs ys : List X) → list_any p xs ≡ false → position_or_len p (xs ++ ys) ≡ length xs + position_or_len p ys
passed p [] ys h = omega arith
passed p (x ∷ xs) ys h = elim (cases_Bool (p x)) [
  | inl e ↦ (let off : true ≡ false = rw e at h in absurd (cc))
  | inr e ↦ (let more = passed p xs ys (rw e at h) in rw e (omega (arith, more)))
]

before : {X : Type 0} (p : X → Bool) (ys zs : List X) → position_or_len p ys < length ys → position_or_len p (ys ++ zs) ≡ position_or_len p ys
before p [] zs h = absurd (omega (arith, h))
before p (y ∷ ys) zs h = elim (cases_Bool (p y)) [
  | inl e ↦ rw e refl
  | inr e ↦
      let less : 1 + position_or_len p ys < suc (length ys) = rw e at h in
      let more = before p ys zs (omega (arith, less)) in
      rw e (omega (arith, more))
]

found : {X : Type 0} (p : X → Bool) (ys : List X) (n : ℕ) → position p ys ≡ Some n → (position_or_len p ys ≡ n) × (n < length ys)
found p ys n e = elim (cases_Bool (nat_lt (position_or_len p ys) (length ys))) [
  | inl there ↦
      let some : Some (position_or_len p ys) ≡ Some n = rw there at e in
      let same = same_Some (position_or_len p ys) n some in
      let less = ltb-true (position_or_len p ys) (length ys) there in
      (same, omega (arith, same, less))
  | inr nowhere ↦ (let none : None ≡ Some n = rw nowhere at e in absurd (none-some n none))
]

pub found_in : {X : Type 0} (p : X → Bool) (xs ys zs : List X) (m n : ℕ) → list_any p xs ≡ false → position p ys ≡ Some n → m ≡ length xs → position p (xs ++ (ys ++ zs)) ≡ Some (m + n)
found_in p xs ys zs m n none is size =
    let there = found p ys n is in
    let first = before p ys zs (omega (arith, there.0, there.1)) in
    let at : position_or_len p (xs ++ (ys ++ zs)) ≡ m + n = (let all = passed p xs (ys ++ zs) none in omega (arith, all, first, there.0, size)) in
    let all = length-append xs (ys ++ zs) in
    let rest = length-append ys zs in
    ap (λ k. if nat_lt k (length (xs ++ (ys ++ zs))) then Some k else None) at
    ∙ ap (λ t. if t then Some (m + n) else None) (lt-ltb (m + n) (length (xs ++ (ys ++ zs))) (omega (arith, all, rest, there.1, size)))

module _ (i : ℕ) (bs : Shared Item) (b : Rc (List Item) Global) (h : i < length bs) (is : b ≡ slice_index_or bs i b) where
  -- none passes in the blocks through one
  pub none_through : (p : Item → Bool) → list_any p (shared_joined (take i bs)) ≡ false → list_any p b.value ≡ false → shared_joined (take (i + 1) bs) ≡ shared_joined (take i bs) ++ b.value
      → list_any p (shared_joined (take (i + 1) bs)) ≡ false
  none_through p none off more = ap (list_any p) more ∙ list_any-append p (shared_joined (take i bs)) b.value ∙ (rw (none, off) refl)

  -- the first one stands in a block before which none does
  pub found_in_block : (p : Item → Bool) (m n : ℕ) → m ≡ length (shared_joined (take i bs)) → list_any p (shared_joined (take i bs)) ≡ false → position p b.value ≡ Some n → position p (shared_joined bs) ≡ Some (m + n)
  found_in_block p m n size none at = ap (position p) (around i bs b h is) ∙ found_in p (shared_joined (take i bs)) b.value (shared_joined (drop (i + 1) bs)) m n none at size

  -- a place in a block is one among all items
  pub within_all : (m n : ℕ) → m ≡ length (shared_joined (take i bs)) → n ≤ length b.value → m + n ≤ length (shared_joined bs)
  within_all m n size within =
      let all = ap length (around i bs b h is) in
      let one = length-append (shared_joined (take i bs)) (b.value ++ shared_joined (drop (i + 1) bs)) in
      let two = length-append b.value (shared_joined (drop (i + 1) bs)) in
      omega (arith, all, one, two, size, within)

  at_block : (m n k : ℕ) (d : Item) → m ≡ length (shared_joined (take i bs)) → n < length b.value → k ≡ m + n → slice_index_or (shared_joined bs) k d ≡ slice_index_or b.value n d
  at_block m n k d size within e =
      ap (λ xs. slice_index_or xs k d) (around i bs b h is)
      ∙ found_past k n (shared_joined (take i bs)) (b.value ++ shared_joined (drop (i + 1) bs)) d (omega (arith, size, e))
      ∙ found_within n b.value (shared_joined (drop (i + 1) bs)) d within

  -- so is an entry
  pub entry_in_block : (key : EntryKey) (m n : ℕ) → m ≡ length (shared_joined (take i bs)) → IsEntryAt key b.value n → IsEntryAt key (shared_joined bs) (m + n)
  entry_in_block key m n size entry =
      let most = within_all m (n + 1) size (omega (arith, entry.0)) in
      (omega (arith, most), λ d. ap (is_entry_of key) (at_block m n (m + n) d size entry.0 refl) ∙ entry.1 d)

  -- the last one stands in a block behind which none does
  pub through_block : (p : Item → Bool) (m n : ℕ) → m ≡ length (shared_joined (take i bs)) → 0 < n → list_any p (shared_joined (drop (i + 1) bs)) ≡ false → IsThrough p b.value n → IsThrough p (shared_joined bs) (m + n)
  through_block p m n size some none last =
      let back = shared_joined (drop (i + 1) bs) in (
        within_all m n size last.0,
        ap (λ xs. list_any p (drop (m + n) xs)) (around i bs b h is)
            ∙ ap (list_any p) (drop_past (m + n) n (shared_joined (take i bs)) (b.value ++ back) (omega (arith, size)) ∙ drop_append n b.value back last.0)
            ∙ list_any-append p (drop n b.value) back
            ∙ (let off = last.1 in rw (off, none) refl),
        λ k d e.
            let before : n ≡ (n - 1) + 1 = omega (arith, some) in
            ap p (at_block m (n - 1) k d size (omega (arith, some, last.0)) (omega (arith, e, some))) ∙ last.2 (n - 1) d before,
      )
