-- Plain lines that are read together.
use Rattle.std.proofs.Common.{◌≡◌, ℕ, suc, ◌+◌, Bool, true, false, ◌||◌, is_some, Option, Some, None, List, [], ◌∷◌, ◌++◌, length, take, refl, sym, ◌∙◌, ap, subst, arith}
use Rattle.std.proofs.lemmas.List.{append_assoc, append-nil, length-take-le}
use Rattle.std.proofs.lemmas.Bool.{or_parts}
use Rattle.t1_frac.specs.declared.fault.Place.TheVariants.{Line}
use Rattle.t1_frac.specs.Outcome.{reported_at}
use Rattle.t1_text.specs.Lines.{lines}
use Rattle.t1_text.specs.Tokens.{tokens}
use Rattle.t1_parts.specs.declared.item.Item.TheVariants.{Plain}
use Rattle.t1_parts.specs.Entries.{NumberedItem, has_numbered, opens_subr, opens_glyph}
use Rattle.t1_parts.specs.Stretches.{line_says, lines_say, IsCutAfter}
use Rattle.t1_parts.specs.NumberedStretches.{numbered_lines}
use Rattle.t1_parts.specs.PlainRuns.{read_from, may_open_entry, IsPlainAmong, AreAmong}
use Rattle.t1_parts.specs.Private.{item_in_front, line_item}
use Rattle.t1_parts.specs.Sections.{subrs_line, glyphs_line, is_subrs_line, is_glyphs_line}
use Rattle.t1_parts.proofs.ItemLaws.{read_step}
use Rattle.t1_parts.proofs.KeyLaws.{same_has}
use Rattle.t1_parts.proofs.StretchLaws.{halves}

nothing : {X : Type 0} (o : Option X) → is_some o ≡ false → o ≡ None
nothing None h = refl
nothing (Some x) h = absurd (cc)

-- a line that opens no entry, is no section line and says nothing
pub is_among : (subrs glyphs : Bool) (l : List ℕ) → may_open_entry subrs glyphs l ≡ false → (is_some (subrs_line l) || is_some (glyphs_line l)) ≡ false → line_says l ≡ false → IsPlainAmong subrs glyphs l
unfolding item_in_front line_item
is_among subrs true l opens section says =
    let off = or_parts (is_some (subrs_line l)) (is_some (glyphs_line l)) section in
    (says, λ earlier ls s g. rw (g, nothing (opens_glyph (tokens l)) opens, nothing (subrs_line l) off.0, nothing (glyphs_line l) off.1) refl)
is_among true false l opens section says =
    let off = or_parts (is_some (subrs_line l)) (is_some (glyphs_line l)) section in
    (says, λ earlier ls s g. rw (g, s, nothing (opens_subr (tokens l)) opens, nothing (subrs_line l) off.0, nothing (glyphs_line l) off.1) refl)
is_among false false l opens section says =
    let off = or_parts (is_some (subrs_line l)) (is_some (glyphs_line l)) section in
    (says, λ earlier ls s g. rw (g, s, nothing (subrs_line l) off.0, nothing (glyphs_line l) off.1) refl)

-- one more
pub among_more : (subrs glyphs : Bool) (ls : List (List ℕ)) (l : List ℕ) → AreAmong subrs glyphs ls → IsPlainAmong subrs glyphs l → AreAmong subrs glyphs (ls ++ l ∷ [])
among_more subrs glyphs [] l h k = (k, tt)
among_more subrs glyphs (m ∷ ls) l h k = (h.0, among_more subrs glyphs ls l h.1 k)

-- none of them says lenIV
pub among_silent : (subrs glyphs : Bool) (ls : List (List ℕ)) → AreAmong subrs glyphs ls → lines_say ls ≡ false
among_silent subrs glyphs [] h = refl
among_silent subrs glyphs (l ∷ ls) h = rw h.0.0 (among_silent subrs glyphs ls h.1)

-- they are read as plain items
pub among_read : (earlier : List NumberedItem) (n : ℕ) (xs ys : List (List ℕ)) → AreAmong (has_numbered is_subrs_line earlier) (has_numbered is_glyphs_line earlier) xs
    → read_from earlier n (xs ++ ys) ≡ read_from (earlier ++ numbered_lines n xs) (n + length xs) ys
among_read earlier n [] ys h =
    let same : n ≡ n + 0 = omega arith in
    ap (λ e. read_from e n ys) (sym (append-nil earlier)) ∙ ap (λ m. read_from (earlier ++ []) m ys) same
among_read earlier n (x ∷ xs) ys h =
    let more : List NumberedItem = earlier ++ (n, Plain x) ∷ [] in
    let subrs = same_has is_subrs_line earlier n (Plain x) refl in
    let glyphs = same_has is_glyphs_line earlier n (Plain x) refl in
    let rest : AreAmong (has_numbered is_subrs_line more) (has_numbered is_glyphs_line more) xs =
    subst (λ b. AreAmong b (has_numbered is_glyphs_line more) xs) subrs (subst (λ b. AreAmong (has_numbered is_subrs_line earlier) b xs) glyphs h.1) in
    let next : n + (1 + 0) ≡ n + 1 = omega arith in
    let size : n + 1 + length xs ≡ n + suc (length xs) = omega arith in
    read_step earlier n x (xs ++ ys) (Plain x, 0) (ap (reported_at (Line n)) (h.0.1 earlier (xs ++ ys) refl refl)) (omega arith)
    ∙ ap (λ m. read_from more m (xs ++ ys)) next
    ∙ among_read more (n + 1) xs ys rest
    ∙ ap (λ e. read_from e (n + 1 + length xs) ys) (append_assoc earlier ((n, Plain x) ∷ []) (numbered_lines (n + 1) xs))
    ∙ ap (λ m. read_from (earlier ++ numbered_lines n (x ∷ xs)) m ys) size

-- so are the lines that are cut off of some bytes
pub plain_read : (earlier items : List NumberedItem) (n k : ℕ) (bytes rest : List ℕ) → IsCutAfter k bytes rest → AreAmong (has_numbered is_subrs_line earlier) (has_numbered is_glyphs_line earlier) (take k (lines bytes))
    → items ≡ earlier ++ numbered_lines n (take k (lines bytes)) → read_from earlier n (lines bytes) ≡ read_from items (n + k) (lines rest)
plain_read earlier items n k bytes rest cut among made =
    let size = length-take-le k (lines bytes) (omega (arith, cut.1)) in
    ap (read_from earlier n) (sym (halves k (lines bytes))) ∙ ap (λ more. read_from earlier n (take k (lines bytes) ++ more)) (sym cut.2)
    ∙ among_read earlier n (take k (lines bytes)) (lines rest) among
    ∙ ap (λ m. read_from (earlier ++ numbered_lines n (take k (lines bytes))) (n + m) (lines rest)) size
    ∙ ap (λ all. read_from all (n + k) (lines rest)) (sym made)
