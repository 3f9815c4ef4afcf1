-- The entries of a source that was read are those of its items.
use Rattle.std.proofs.Common.{◌≡◌, ◌∙◌, ℕ, ◌+◌, ◌-◌, List, [], ◌∷◌, ◌++◌, length, take, drop, map, Result, Ok, refl, sym, ap, subst, arith}
use Rattle.t1_frac.specs.declared.fault.Fault.{Fault}
use Rattle.t1_frac.proofs.OutcomeLaws.{bind_ok}
use Rattle.t1_text.specs.Lines.{lines}
use Rattle.t1_parts.specs.declared.item.Item.{Item}
use Rattle.t1_parts.specs.declared.item.Item.TheVariants.{Plain, Section, Subr, Glyph}
use Rattle.t1_parts.specs.Counts.{raised, raised_item, subrs_needed, glyphs_needed}
use Rattle.t1_parts.specs.Entries.{NumberedItem}
use Rattle.t1_parts.specs.Parts.{parts_of}
use Rattle.t1_parts.specs.Private.{items_of, private_items}
use Rattle.t1_parts.specs.Reading.{reads, unnumbered}
use Rattle.t1_parts.specs.SourceParts.{SourceParts}
use Rattle.t1_source.proofs.WellFormedSourceLaws.{taken_apart, TakenApart}
use Rattle.t1_faults.specs.Entries.{Entry, entries_from, entry_at, place_in, span}
use Rattle.t1_faults.specs.Judging.{entries_in}
use Rattle.t1_faults.proofs.PlacedLaws.{map_append}
use Rattle.t1_faults.proofs.TakenLaws.{AreOf, read_on}

-- plain lines have no entries
no_entries : (m n : ℕ) (ls xs : List (List ℕ)) → entries_from n ls (unnumbered (map (λ l. (m, Plain l)) xs)) ≡ []
no_entries m n ls [] = refl
no_entries m n [] (x ∷ xs) = refl
no_entries m n (l ∷ ls) (x ∷ xs) = no_entries m (n + 1 + 0) ls xs

plain_after : (m n : ℕ) (ls : List (List ℕ)) (items : List Item) (xs : List (List ℕ))
    → entries_from n ls (items ++ unnumbered (map (λ l. (m, Plain l)) xs)) ≡ entries_from n ls items
plain_after m n ls [] xs = no_entries m n ls xs
plain_after m n [] (item ∷ items) xs = refl
plain_after m n (l ∷ ls) (item ∷ items) xs =
    ap (λ es. entry_at (place_in item) n l ls ++ es) (plain_after m (n + 1 + span (place_in item) l ls) (drop (span (place_in item) l ls) ls) items xs)

none_of : (m : ℕ) (xs : List (List ℕ)) → AreOf (unnumbered (map (λ l. (m, Plain l)) xs)) []
none_of m [] = tt
none_of m (x ∷ xs) = none_of m xs

of_more : (m : ℕ) (items : List Item) (xs : List (List ℕ)) (es : List Entry) → AreOf items es → AreOf (items ++ unnumbered (map (λ l. (m, Plain l)) xs)) es
of_more m [] xs [] h = none_of m xs
of_more m [] xs (e ∷ es) h = absurd h
of_more m (Plain l ∷ items) xs es h = of_more m items xs es h
of_more m (Section before count after ∷ items) xs es h = of_more m items xs es h
of_more m (Subr number words closing ∷ items) xs [] h = absurd h
of_more m (Subr number words closing ∷ items) xs (e ∷ es) h = (h.0, h.1, of_more m items xs es h.2)
of_more m (Glyph g words closing ∷ items) xs [] h = absurd h
of_more m (Glyph g words closing ∷ items) xs (e ∷ es) h = (h.0, h.1, of_more m items xs es h.2)

-- counts that are raised change no entry
raised_from : (s g n : ℕ) (ls : List (List ℕ)) (items : List Item) → entries_from n ls (map (raised_item s g) items) ≡ entries_from n ls items
raised_from s g n ls [] = refl
raised_from s g n [] (item ∷ items) = refl
raised_from s g n (l ∷ ls) (Plain line ∷ items) = raised_from s g (n + 1 + 0) ls items
raised_from s g n (l ∷ ls) (Section before count after ∷ items) = raised_from s g (n + 1 + 0) ls items
raised_from s g n (l ∷ ls) (Subr number words closing ∷ items) =
    let item = Subr number words closing in
    ap (λ es. entry_at (place_in item) n l ls ++ es) (raised_from s g (n + 1 + span (place_in item) l ls) (drop (span (place_in item) l ls) ls) items)
raised_from s g n (l ∷ ls) (Glyph name words closing ∷ items) =
    let item = Glyph name words closing in
    ap (λ es. entry_at (place_in item) n l ls ++ es) (raised_from s g (n + 1 + span (place_in item) l ls) (drop (span (place_in item) l ls) ls) items)

raised_of : (s g : ℕ) (items : List Item) (es : List Entry) → AreOf items es → AreOf (map (raised_item s g) items) es
raised_of s g [] es h = h
raised_of s g (Plain l ∷ items) es h = raised_of s g items es h
raised_of s g (Section before count after ∷ items) es h = raised_of s g items es h
raised_of s g (Subr number words closing ∷ items) [] h = absurd h
raised_of s g (Subr number words closing ∷ items) (e ∷ es) h = (h.0, h.1, raised_of s g items es h.2)
raised_of s g (Glyph name words closing ∷ items) [] h = absurd h
raised_of s g (Glyph name words closing ∷ items) (e ∷ es) h = (h.0, h.1, raised_of s g items es h.2)

-- the entries of a private part that was read
private_entries : (n : ℕ) (ls : List (List ℕ)) (items : List NumberedItem) → private_items n ls ≡ Ok items
    → AreOf (raised (unnumbered items)) (entries_from n (take (length ls - 1) ls) (raised (unnumbered items)))
unfolding private_items
private_entries n ls items e =
    let front = take (length ls - 1) ls in
    let last : List NumberedItem → List NumberedItem = λ its. its ++ map (λ l. (n + (length ls - 1), Plain l)) (drop (length ls - 1) ls) in
    let b = bind_ok (items_of n front) (λ (its : List NumberedItem). Ok (last its)) items e in
    let read = read_on [] n 0 front b.0 b.1 in
    let its = read.0 in
    let m = n + (length ls - 1) in
    let xs = drop (length ls - 1) ls in
    let made : ◌≡◌ {A = Result (List NumberedItem) Fault} (Ok (last b.0)) (Ok items) = b.2 in
    let same : last b.0 ≡ items = cc in
    let all : unnumbered items ≡ unnumbered its ++ unnumbered (map (λ l. (m, Plain l)) xs) =
    ap unnumbered (sym same) ∙ ap (λ is. unnumbered (last is)) read.1 ∙ map_append (λ i. i.1) its (map (λ l. (m, Plain l)) xs) in
    let zero_more : n + 0 ≡ n = omega arith in
    let own = subst (λ k. AreOf (unnumbered its) (entries_from k front (unnumbered its))) zero_more read.2 in
    let more = of_more m (unnumbered its) xs (entries_from n front (unnumbered its)) own in
    let mine = subst (λ es. AreOf (unnumbered its ++ unnumbered (map (λ l. (m, Plain l)) xs)) es) (sym (plain_after m n front (unnumbered its) xs)) more in
    let whole = subst (λ is. AreOf is (entries_from n front is)) (sym all) mine in
    let s = subrs_needed (unnumbered items) in
    let g = glyphs_needed (unnumbered items) in
    subst (λ es. AreOf (raised (unnumbered items)) es) (sym (raised_from s g n front (unnumbered items)))
    (raised_of s g (unnumbered items) (entries_from n front (unnumbered items)) whole)

lines_entries : (ls : List (List ℕ)) (s : SourceParts) → TakenApart ls s → AreOf s.items (entries_in (parts_of ls) s)
lines_entries ls s t =
    subst (λ r. AreOf s.items (entries_in r s)) (sym t.cut)
    (subst (λ (made : SourceParts). AreOf made.items (entries_in (Ok t.parts) made)) t.same
    (private_entries (length t.parts.clear + 1) t.parts.private t.items t.read))

-- the entries of a source that was read are those of its items
pub read_entries : (bytes : List ℕ) (s : SourceParts) → reads bytes ≡ Ok s → AreOf s.items (entries_in (parts_of (lines bytes)) s)
unfolding reads
read_entries bytes s e = lines_entries (lines bytes) s (taken_apart (lines bytes) s e)
