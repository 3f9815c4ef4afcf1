-- What a line of the private part is.
use Rattle.std.specs.Prelude.{◌≡◌, ◌+◌, ◌≤◌, ℕ, Bool, true, false, Option, Some, option_map, List, length, codes, IfSome, IsTrue}
use Rattle.std.specs.Borrow.{Bor}
use Rattle.t1_text.specs.Names.{is_count}
use Rattle.t1_text.specs.Tokens.{tokens, places_from}
use Rattle.t1_parts.specs.declared.private.LineKind.{LineKind}
use Rattle.t1_parts.specs.declared.private.LineKind.TheVariants.{Among, Subr, Glyph, Alone}
use Rattle.t1_parts.specs.Entries.{opens_subr, opens_glyph}
use Rattle.t1_parts.specs.PlainRuns.{may_open_entry, IsPlainAmong}
use Rattle.t1_parts.specs.Sections.{count_between}

-- word, sections: the count of a line between this key and this word, where it has one
abbrev pub IsCountOf : List ℕ → List ℕ → List ℕ → Option (ℕ × Bor (List ℕ)) → Type 0
IsCountOf key word l count =
    (option_map (λ n. (n.0, n.1.now)) count ≡ count_between key word (places_from 0 l))
    × IfSome count (λ n. (n.0 + length n.1.now ≤ length l) × IsTrue (is_count n.1.now))

-- word, private part: what a line is, where a Subrs line or a CharStrings line came before
abbrev pub IsOfKind : Bool → Bool → List ℕ → LineKind → Type 0
IsOfKind subrs glyphs l Among = IsPlainAmong subrs glyphs l
IsOfKind subrs glyphs l (Subr t) = (glyphs ≡ false) × (subrs ≡ true) × (opens_subr (tokens l) ≡ Some t.now)
IsOfKind subrs glyphs l (Glyph t) = (glyphs ≡ true) × (opens_glyph (tokens l) ≡ Some t.now)
IsOfKind subrs glyphs l (Alone s g) =
    (may_open_entry subrs glyphs l ≡ false)
    × IsCountOf (codes "/Subrs") (codes "array") l s
    × IsCountOf (codes "/CharStrings") (codes "dict") l g
