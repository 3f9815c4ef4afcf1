-- The line at the front of some bytes.
use Rattle.std.proofs.Common.{◌≡◌, ℕ, zero, suc, Bool, true, false, ◌==◌, ◌&&◌, if◌then◌else◌, ◌-◌, ◌+◌, ◌≤◌, ◌<◌, List, [], ◌∷◌, length, drop, Option, None, Some, refl, sym, ap, ◌∙◌, inl, inr, arith}
use Rattle.std.proofs.lemmas.Bool.{cases_Bool}
use Rattle.std.specs.List.{prefix_len}
use Rattle.std.specs.Prelude.{find, option_map}
use Rattle.t1_text.specs.Lines.{after_end, begins_with}
use Rattle.t1_text.proofs.CutLaws.{line_gone}
use Rattle.t1_parts.specs.Parts.{is_eexec}
use Rattle.t1_disassemble.specs.Front.{line_len, front_line, past_line, line_starts, after_eexec_line}
use Rattle.t1_disassemble.proofs.CutPieces.{IsLeft, left_suffix, left_twice, first_gone, left_pieces}

-- so many bytes from the front on pass a test; those after some of them are as many less
prefix_later : (test : ℕ → Bool) (n : ℕ) (bytes : List ℕ) → n ≤ prefix_len test bytes → prefix_len test bytes - n ≡ prefix_len test (drop n bytes)
prefix_later test zero bytes h = omega arith
prefix_later test (suc n) [] h = absurd (omega (arith, h))
prefix_later test (suc n) (c ∷ bytes) h = elim (cases_Bool (test c)) [
  | inl t ↦ (let long : suc n ≤ 1 + prefix_len test bytes = rw t at h in
      let more = prefix_later test n bytes (omega (arith, long)) in
      rw t (omega (arith, more)))
  | inr f ↦ (let none : suc n ≤ 0 = rw f at h in absurd (omega (arith, none)))
]

pub line_len_later : (known passed : ℕ) (bytes : List ℕ) → known ≡ line_len bytes → passed ≤ known → known - passed ≡ line_len (drop passed bytes)
line_len_later known passed bytes e h = ap (λ n. n - passed) e ∙ prefix_later _ passed bytes (omega (arith, e, h))

-- ---- the eexec line is the first one, or stands behind it

end_left : (l : List ℕ) → IsLeft l (after_end l)
end_left [] = (0, refl)
end_left (c ∷ rest) = elim (cases_Bool (c == 13 && begins_with 10 rest)) [
  | inl t ↦ rw t (2, refl)
  | inr f ↦ rw f (1, refl)
]

pub line_left : (l : List ℕ) → IsLeft l (past_line l)
line_left l = left_twice l (drop (line_len l) l) (past_line l) (line_len l, refl) (end_left (drop (line_len l) l))

-- what stands behind a line that ends some bytes ends them too
pub line_suffix : (bytes rest after : List ℕ) → rest ≡ drop (length bytes - length rest) bytes → after ≡ past_line rest → after ≡ drop (length bytes - length after) bytes
line_suffix bytes rest after h e =
    let behind = line_left rest in
    left_suffix bytes after (left_twice bytes rest after (length bytes - length rest, h) (behind.0, e ∙ behind.1))

-- the bytes from each line on: all, and those from the lines after the first on
pub starts_more : (c : ℕ) (bytes : List ℕ) → line_starts (c ∷ bytes) ≡ (c ∷ bytes) ∷ line_starts (past_line (c ∷ bytes))
starts_more c bytes =
    let gone = first_gone c bytes (past_line (c ∷ bytes)) (line_left (c ∷ bytes)) (line_gone (c ∷ bytes) (omega arith)) in
    ap (λ (froms : List (List ℕ)). (c ∷ bytes) ∷ froms) (left_pieces past_line bytes (past_line (c ∷ bytes)) gone)

abbrev begins_eexec : List ℕ → Bool
begins_eexec from = is_eexec (front_line from)

chosen : (here : Bool) (bytes : List ℕ) (other : Option (List ℕ)) → option_map past_line (if here then Some bytes else other) ≡ (if here then Some (past_line bytes) else option_map past_line other)
chosen true bytes other = refl
chosen false bytes other = refl

pub eexec_more : (bytes : List ℕ) → 0 < length bytes → after_eexec_line bytes ≡ (if is_eexec (front_line bytes) then Some (past_line bytes) else after_eexec_line (past_line bytes))
unfolding after_eexec_line
eexec_more [] h = absurd (omega (arith, h))
eexec_more (c ∷ bytes) h =
    ap (λ (froms : List (List ℕ)). option_map past_line (find begins_eexec froms)) (starts_more c bytes)
    ∙ chosen (is_eexec (front_line (c ∷ bytes))) (c ∷ bytes) (find begins_eexec (line_starts (past_line (c ∷ bytes))))

pub no_eexec : (bytes : List ℕ) → length bytes ≡ 0 → after_eexec_line bytes ≡ None
unfolding after_eexec_line
no_eexec [] h = refl
no_eexec (c ∷ bytes) h = absurd (omega (arith, h))

pub eexec_later : (bytes line after : List ℕ) → 0 < length bytes → line ≡ front_line bytes → after ≡ past_line bytes → is_eexec line ≡ false → after_eexec_line after ≡ after_eexec_line bytes
eexec_later bytes line after some is past off =
    let not_here : is_eexec (front_line bytes) ≡ false = ap is_eexec (sym is) ∙ off in
    ap after_eexec_line past ∙ sym (eexec_more bytes some ∙ ap (λ (t : Bool). if t then Some (past_line bytes) else after_eexec_line (past_line bytes)) not_here)
