-- What a line of the private part is.
use Rattle.std.proofs.Common.{◌≡◌, ℕ, ◌+◌, Bool, false, ◌||◌, is_some, Option, Some, None, option_map, List, [], ◌∷◌, ◌++◌, codes, refl, sym, ◌∙◌, ap, subst}
use Rattle.std.proofs.lemmas.List.{append_assoc, append-nil}
use Rattle.std.specs.Borrow.{Bor}
use Rattle.t1_text.specs.Tokens.{places_from}
use Rattle.t1_parts.specs.declared.item.Item.{Item}
use Rattle.t1_parts.specs.declared.item.Item.TheVariants.{Plain}
use Rattle.t1_parts.specs.declared.private.LineKind.{LineKind}
use Rattle.t1_parts.specs.Entries.{NumberedItem, has_numbered}
use Rattle.t1_parts.specs.LineKinds.{IsCountOf, IsOfKind}
use Rattle.t1_parts.specs.NumberedStretches.{numbered_lines}
use Rattle.t1_parts.specs.PlainRuns.{may_open_entry, IsPlainAmong}
use Rattle.t1_parts.specs.Sections.{count_between, section_at, subrs_line, glyphs_line, is_subrs_line, is_glyphs_line}
use Rattle.t1_parts.specs.Stretches.{line_says}
use Rattle.t1_parts.proofs.KeyLaws.{same_has}
use Rattle.t1_parts.proofs.PlainRunLaws.{is_among}

-- a line without a count is no section line
no_section : (key word l : List ℕ) (count : Option (ℕ × Bor (List ℕ))) → IsCountOf key word l count → is_some count ≡ false
    → is_some (option_map (section_at l) (count_between key word (places_from 0 l))) ≡ false
no_section key word l None h off = ap (λ c. is_some (option_map (section_at l) c)) (sym h.0)
no_section key word l (Some n) h off = absurd (cc)

-- a line that opens no entry, has no count and says nothing
pub among : (subrs glyphs : Bool) (l : List ℕ) (s g : Option (ℕ × Bor (List ℕ))) → may_open_entry subrs glyphs l ≡ false → IsCountOf (codes "/Subrs") (codes "array") l s
    → IsCountOf (codes "/CharStrings") (codes "dict") l g → is_some s ≡ false → is_some g ≡ false → line_says l ≡ false → IsPlainAmong subrs glyphs l
among subrs glyphs l s g opens one other first second says =
    let a : is_some (subrs_line l) ≡ false = no_section (codes "/Subrs") (codes "array") l s one first in
    let b : is_some (glyphs_line l) ≡ false = no_section (codes "/CharStrings") (codes "dict") l g other second in
    is_among subrs glyphs l opens (ap (λ x. x || is_some (glyphs_line l)) a ∙ b) says

-- plain lines are no items of a kind that plain lines aren't of
lines_have : (test : Item → Bool) → ((l : List ℕ) → test (Plain l) ≡ false) → (items : List NumberedItem) (n : ℕ) (ls : List (List ℕ))
    → has_numbered test items ≡ has_numbered test (items ++ numbered_lines n ls)
lines_have test none items n [] = ap (has_numbered test) (sym (append-nil items))
lines_have test none items n (l ∷ ls) =
    same_has test items n (Plain l) (none l) ∙ lines_have test none (items ++ (n, Plain l) ∷ []) (n + 1) ls
    ∙ ap (has_numbered test) (append_assoc items ((n, Plain l) ∷ []) (numbered_lines (n + 1) ls))

-- what a line is stays the same after plain lines
pub still_of_kind : (items : List NumberedItem) (n : ℕ) (ls : List (List ℕ)) (l : List ℕ) (kind : LineKind)
    → IsOfKind (has_numbered is_subrs_line items) (has_numbered is_glyphs_line items) l kind
    → IsOfKind (has_numbered is_subrs_line (items ++ numbered_lines n ls)) (has_numbered is_glyphs_line (items ++ numbered_lines n ls)) l kind
still_of_kind items n ls l kind h =
    let glyphs : Bool = has_numbered is_glyphs_line (items ++ numbered_lines n ls) in
    subst (λ b. IsOfKind b glyphs l kind) (lines_have is_subrs_line (λ _. refl) items n ls)
    (subst (λ b. IsOfKind (has_numbered is_subrs_line items) b l kind) (lines_have is_glyphs_line (λ _. refl) items n ls) h)
