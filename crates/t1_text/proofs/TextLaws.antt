-- Lines that are joined and cut again.
use Rattle.std.proofs.Common.{◌≡◌, ℕ, true, List, [], ◌∷◌, ◌++◌, refl, ◌∙◌, ap, append_assoc}
use Rattle.std.specs.List.{onto_first, list_all}
use Rattle.std.proofs.lemmas.Bool.{and_parts}
use Rattle.t1_text.specs.Lines.{lines, joined, is_line}
use Rattle.t1_text.proofs.LineLaws.{longer, not_ended}

-- a line and its LF before other bytes
line_before : (l rest : List ℕ) → is_line l ≡ true → lines (l ++ 10 ∷ rest) ≡ l ∷ lines rest
line_before [] rest h = refl
line_before (c ∷ l) rest h =
    let parts = and_parts _ _ h in
    let off = not_ended c parts.0 in
    longer c (l ++ 10 ∷ rest) off.1 off.0 ∙ ap (onto_first c) (line_before l rest parts.1)

-- the lines of joined lines
pub lines_joined : (ls : List (List ℕ)) → list_all is_line ls ≡ true → lines (joined ls) ≡ ls
lines_joined [] h = refl
lines_joined (l ∷ ls) h =
    let parts = and_parts _ _ h in
    ap lines (append_assoc l (10 ∷ []) (joined ls)) ∙ line_before l (joined ls) parts.0 ∙ ap (λ t. l ∷ t) (lines_joined ls parts.1)
