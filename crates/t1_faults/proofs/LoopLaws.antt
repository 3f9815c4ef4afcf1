-- Steps of the loops over entries.
use Rattle.std.proofs.Common.{◌≡◌, ◌∙◌, ℕ, ◌+◌, List, [], ◌∷◌, ◌++◌, drop, sym, ap, subst, arith}
use Rattle.std.specs.Prelude.{Option, Some, None, option_map, IfSome, suc}
use Rattle.std.specs.Borrow.{Bor}
use Rattle.t1_frac.specs.declared.fault.Place.{Place}
use Rattle.t1_text.specs.Lines.{lines}
use Rattle.t1_parts.specs.declared.body.EntryBody.{EntryBody}
use Rattle.t1_parts.specs.Pieces.{AreLinesAfter}
use Rattle.std.proofs.lemmas.List.{append_assoc}
use Rattle.t1_parts.specs.Entries.{opened_body}
use Rattle.t1_parts.specs.declared.item.Item.{Item}
use Rattle.t1_faults.specs.Entries.{Entry, entries_from, entry_at, more_lines, place_in, span}

pub opened_size : (found : Option (EntryBody × Bor (List ℕ))) (o : Option EntryBody) (b : EntryBody) (a : Bor (List ℕ)) → option_map (λ (f : EntryBody × Bor (List ℕ)). f.0) found ≡ o → found ≡ Some (b, a)
    → more_lines o ≡ b.more
opened_size found o b a v is = ap more_lines (sym v ∙ ap (option_map (λ (f : EntryBody × Bor (List ℕ)). f.0)) is)

pub opened_rest : (found : Option (EntryBody × Bor (List ℕ))) (b : EntryBody) (a : Bor (List ℕ)) (bytes l : List ℕ) (ls : List (List ℕ)) → found ≡ Some (b, a)
    → IfSome found (λ (f : EntryBody × Bor (List ℕ)). AreLinesAfter (f.0.more + 1) bytes f.1.now) → lines bytes ≡ l ∷ ls → lines a.now ≡ drop b.more ls
opened_rest found b a bytes l ls is h all =
    let after = subst (λ (x : Option (EntryBody × Bor (List ℕ))). IfSome x (λ (f : EntryBody × Bor (List ℕ)). AreLinesAfter (f.0.more + 1) bytes f.1.now)) is h in
    let size : b.more + 1 ≡ suc b.more = omega arith in
    after.1 ∙ ap (drop (b.more + 1)) all ∙ ap (λ k. drop k (l ∷ ls)) size

-- an entry that begins on the first of some lines
pub entry_on : (n : ℕ) (all : List (List ℕ)) (l : List ℕ) (ls after : List (List ℕ)) (item : Item) (items : List Item) (place : Place) (m : ℕ) (old new : List Entry)
    → all ≡ l ∷ ls → place_in item ≡ Some place → more_lines (opened_body l ls) ≡ m → after ≡ drop m ls → new ≡ old ++ record { place = place; number = n; line = l; later = ls } ∷ []
    → new ++ entries_from (n + 1 + m) after items ≡ old ++ entries_from n all (item ∷ items)
entry_on n all l ls after item items place m old new whole is size rest pushed =
    let e : Entry = record { place = place; number = n; line = l; later = ls } in
    let step : entries_from n (l ∷ ls) (item ∷ items) ≡ e ∷ entries_from (n + 1 + m) (drop m ls) items =
    ap (λ p. entry_at p n l ls ++ entries_from (n + 1 + span p l ls) (drop (span p l ls) ls) items) is ∙ ap (λ k. e ∷ entries_from (n + 1 + k) (drop k ls) items) size in
    ap (λ x. x ++ entries_from (n + 1 + m) after items) pushed ∙ append_assoc old (e ∷ []) (entries_from (n + 1 + m) after items) ∙ ap (λ t. old ++ e ∷ entries_from (n + 1 + m) t items) rest
    ∙ ap (λ t. old ++ t) (sym step) ∙ ap (λ a. old ++ entries_from n a (item ∷ items)) (sym whole)

pub opened_none : (found : Option (EntryBody × Bor (List ℕ))) (o : Option EntryBody) → option_map (λ (f : EntryBody × Bor (List ℕ)). f.0) found ≡ o → found ≡ None → more_lines o ≡ 0
opened_none found o v is = ap more_lines (sym v ∙ ap (option_map (λ (f : EntryBody × Bor (List ℕ)). f.0)) is)
