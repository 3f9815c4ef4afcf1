-- A body that opens on the first line of some bytes.
use Rattle.std.proofs.Common.{◌≡◌, ℕ, zero, suc, Bool, ◌==◌, ◌+◌, ◌<◌, ◌≤◌, List, [], ◌∷◌, length, take, drop, refl, sym, ◌∙◌, ap, subst, inl, inr, arith}
use Rattle.std.specs.Prelude.{◌⊎◌, Option, Some, None, Result, Ok, Err, IfOk, IfSome}
use Rattle.std.specs.List.{after_first, position_or_len}
use Rattle.std.proofs.lemmas.Bool.{cases_Bool}
use Rattle.std.proofs.lemmas.List.{drop_all, length-take-le}
use Rattle.std.proofs.lemmas.List.Sums.{prefix_len-le-length}
use Rattle.t1_text.specs.Lines.{lines}
use Rattle.t1_text.proofs.LineLaws.{line_len, stays, after_line, first_line_lem}
use Rattle.t1_text.proofs.CutLaws.{longer_len, ended_len}
use Rattle.t1_text.proofs.EndLaws.{after_stays}
use Rattle.t1_parts.specs.Entries.{body_of, opened_body}
use Rattle.t1_parts.specs.Pieces.{AreLinesAfter}

-- the first line from its byte of this number on
on_line : (k : ℕ) (bytes : List ℕ) → k ≤ line_len bytes
    → (take (line_len (drop k bytes)) (drop k bytes) ≡ drop k (take (line_len bytes) bytes)) × (after_line (drop k bytes) ≡ after_line bytes)
on_line zero bytes h = (refl, refl)
on_line (suc k) [] h = absurd (omega (arith, h))
on_line (suc k) (c ∷ bytes) h = elim (cases_Bool (stays c)) [
  | inl on ↦
      let size = longer_len c bytes on in
      let more = on_line k bytes (omega (arith, h, size)) in
      (more.0 ∙ sym (ap (λ n. drop (suc k) (take n (c ∷ bytes))) size), more.1 ∙ sym (after_stays c bytes on))
  | inr off ↦ absurd (omega (arith, h, ended_len c bytes off))
]

-- the lines of a text that begins on the first line of others; an empty text has none, where the line and its rest are empty
abbrev Opens : List ℕ → List ℕ → List (List ℕ) → Type 0
Opens text first ls = (lines text ≡ first ∷ ls) ⊎ ((text ≡ []) × (first ≡ []) × (ls ≡ []))

opens : (k : ℕ) (bytes : List ℕ) → k ≤ line_len bytes → Opens (drop k bytes) (drop k (take (line_len bytes) bytes)) (lines (after_line bytes))
opens k bytes h = by (drop k bytes) refl
  where
    by : (t : List ℕ) → drop k bytes ≡ t → Opens (drop k bytes) (drop k (take (line_len bytes) bytes)) (lines (after_line bytes))
    by [] e =
        let on = on_line k bytes h in
        inr (e, sym on.0 ∙ ap (λ x. take (line_len x) x) e, ap lines (sym on.1 ∙ ap after_line e))
    by (c ∷ t) e =
        let on = on_line k bytes h in
        let some : 0 < length (drop k bytes) = subst (λ x. 0 < length x) (sym e) (omega arith) in
        inl (first_line_lem (drop k bytes) some ∙ ap (λ x. x ∷ lines (after_line (drop k bytes))) on.0 ∙ ap (λ x. drop k (take (line_len bytes) bytes) ∷ lines x) on.1)

-- the body of such a text
body_of_opened : (text first : List ℕ) (ls : List (List ℕ)) → Opens text first ls → body_of (lines text) ≡ body_of (first ∷ ls)
body_of_opened text first ls (inl e) = ap body_of e
body_of_opened text first ls (inr e) = ap (λ t. body_of (lines t)) e.0 ∙ sym (ap (λ t. body_of (t ∷ ls)) e.1 ∙ ap (λ t. body_of ([] ∷ t)) e.2)

-- what stands after lines of it
after_opened : (text first line : List ℕ) (ls : List (List ℕ)) (bytes after : List ℕ) (m : ℕ) → Opens text first ls → lines bytes ≡ line ∷ ls → AreLinesAfter (m + 1) text after → AreLinesAfter (m + 1) bytes after
after_opened text first line ls bytes after m (inl e) all h =
    let size = ap length e in
    let same = ap length all in
    (omega (arith, h.0, size, same), h.1 ∙ ap (drop (m + 1)) e ∙ following ∙ sym (ap (drop (m + 1)) all))
  where
    following : drop (m + 1) (first ∷ ls) ≡ drop (m + 1) (line ∷ ls)
    following = let n : m + 1 ≡ suc m = omega arith in ap (λ k. drop k (first ∷ ls)) n ∙ sym (ap (λ k. drop k (line ∷ ls)) n)
after_opened text first line ls bytes after m (inr e) all h =
    let none = ap (λ t. length (lines t)) e.0 in
    absurd (omega (arith, h.0, none))

-- the first line and the lines after it
the_first : (bytes line : List ℕ) (ls : List (List ℕ)) → lines bytes ≡ line ∷ ls → (line ≡ take (line_len bytes) bytes) × (ls ≡ lines (after_line bytes))
the_first [] line ls h = absurd (cc)
the_first (c ∷ bytes) line ls h = parts (sym h ∙ first_line_lem (c ∷ bytes) (omega arith))
  where
    parts : {x y : List ℕ} {xs ys : List (List ℕ)} → x ∷ xs ≡ y ∷ ys → (x ≡ y) × (xs ≡ ys)
    parts e = (cc, cc)

abbrev opens_body : ℕ → Bool
opens_body c = c == 123

-- a line after its first brace, and after its end where it has none
pub past_brace : (line : List ℕ) (start : ℕ) → start ≡ position_or_len opens_body line → drop (start + 1) line ≡ after_first opens_body line
past_brace line start e = ap (λ k. drop (k + 1) line) e

pub past_line : (line : List ℕ) (start : ℕ) → start ≡ position_or_len opens_body line → length line ≤ start → drop start line ≡ after_first opens_body line
past_line line start e far =
    drop_all start line far ∙ sym (drop_all (position_or_len opens_body line + 1) line (omega (arith, far, e)))

pub opened : (bytes line text : List ℕ) (ls : List (List ℕ)) (at : ℕ) → lines bytes ≡ line ∷ ls
    → at ≤ length line → drop at line ≡ after_first opens_body line → text ≡ drop at bytes
    → body_of (lines text) ≡ opened_body line ls
opened bytes line text ls at h within past t =
    let first = the_first bytes line ls h in
    let size = ap length first.0 ∙ length-take-le (line_len bytes) bytes (prefix_len-le-length stays bytes) in
    ap (λ x. body_of (lines x)) t ∙ body_of_opened _ _ _ (opens at bytes (omega (arith, within, size)))
    ∙ ap (λ x. body_of (drop at x ∷ lines (after_line bytes))) (sym first.0) ∙ ap (λ x. body_of (x ∷ lines (after_line bytes))) past
    ∙ ap (λ x. body_of (after_first opens_body line ∷ x)) (sym first.1)

pub opened_after : (bytes line text after : List ℕ) (ls : List (List ℕ)) (at m : ℕ) → lines bytes ≡ line ∷ ls
    → at ≤ length line → drop at line ≡ after_first opens_body line → text ≡ drop at bytes
    → AreLinesAfter (m + 1) text after → AreLinesAfter (m + 1) bytes after
opened_after bytes line text after ls at m h within past t k =
    let first = the_first bytes line ls h in
    let size = ap length first.0 ∙ length-take-le (line_len bytes) bytes (prefix_len-le-length stays bytes) in
    after_opened (drop at bytes) _ line (lines (after_line bytes)) bytes after m (opens at bytes (omega (arith, within, size))) (h ∙ ap (λ x. line ∷ x) first.1)
    (subst (λ x. AreLinesAfter (m + 1) x after) t k)

-- what is found has what follows from it
pub found_so : {A E : Type 0} (P Q : A → Type 0) (r : Result (Option A) E) → ((x : A) → P x → Q x) → IfOk r (λ o. IfSome o P) → IfOk r (λ o. IfSome o Q)
found_so P Q (Ok (Some x)) h p = h x p
found_so P Q (Ok None) h p = tt
found_so P Q (Err e) h p = tt
