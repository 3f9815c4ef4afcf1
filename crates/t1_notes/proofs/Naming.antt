-- Names that are kept in a set, and the notes by which of them are there.
use Rattle.std.proofs.Common.{◌≡◌, ℕ, Bool, ◌||◌, List, [], ◌∷◌, sym, ◌∙◌, ap, refl, inl, inr}
use Rattle.std.specs.Borrow.{Bor}
use Rattle.std.specs.List.{list_any}
use Rattle.std.specs.Str.{bytes_eq}
use Rattle.std.proofs.Math.Bool.{or-false, or_assoc}
use Rattle.std.proofs.lemmas.Bool.{cases_Bool}
use Rattle.std.proofs.lemmas.List.Folds.{list_any-append}
use Rattle.std.proofs.lemmas.Slice.Eq.{bytes_eq-Decides}
use Rattle.indexmap.specs.IndexSet.{insert_key as put_in}
use Rattle.t1_notes.specs.declared.line.Line.{Line}
use Rattle.t1_text.specs.Tokens.{is_token}
use Rattle.t1_notes.specs.GlyphNames.{has_line_of_glyph, opened_name}
use Rattle.t1_notes.specs.Tables.{is_among_names}
use Rattle.t1_notes.specs.Notes.{glyph_parts_notes}
use Rattle.t1_notes.specs.PairNotes.{lines_notes}

-- a name that is put in is among the names
pub name_put : (g : List ℕ) (k : Bor (List ℕ)) (ks : List (Bor (List ℕ)))
    → is_among_names (put_in (λ x y. bytes_eq x.now y.now) ks k) g ≡ (is_among_names ks g || bytes_eq g k.now)
name_put g k ks =
    elim (cases_Bool (list_any (λ x. bytes_eq k.now x.now) ks)) [
      | inl there ↦
          rw there
          (elim (cases_Bool (bytes_eq g k.now)) [
            | inl same ↦ rw (same, (bytes_eq-Decides g k.now).0 same, there) refl
            | inr other ↦ rw other (sym (or-false (list_any (λ x. bytes_eq g x.now) ks)))
          ])
      | inr absent ↦
          rw absent (
          list_any-append (λ x. bytes_eq g x.now) ks (k ∷ [])
          ∙ ap (λ b. list_any (λ x. bytes_eq g x.now) ks || b) (or-false (bytes_eq g k.now)))
    ]

-- the names so far and those of the lines that are left, after one more line
pub names_kept : (old new : List (Bor (List ℕ))) (l : Line) (left rest heads : List Line) → left ≡ l ∷ rest
    → ((g : List ℕ) → is_among_names new g ≡ (is_among_names old g || is_token g (opened_name l.text)))
    → ((g : List ℕ) → (is_among_names old g || has_line_of_glyph left g) ≡ has_line_of_glyph heads g)
    → (g : List ℕ) → (is_among_names new g || has_line_of_glyph rest g) ≡ has_line_of_glyph heads g
names_kept old new l left rest heads e put so g =
    ap (λ b. b || has_line_of_glyph rest g) (put g)
    ∙ or_assoc (is_among_names old g) (is_token g (opened_name l.text)) (has_line_of_glyph rest g)
    ∙ ap (λ ls. is_among_names old g || has_line_of_glyph ls g) (sym e)
    ∙ so g

-- no line is left
pub names_whole : (names : List (Bor (List ℕ))) (left heads : List Line) → left ≡ []
    → ((g : List ℕ) → (is_among_names names g || has_line_of_glyph left g) ≡ has_line_of_glyph heads g)
    → (g : List ℕ) → is_among_names names g ≡ has_line_of_glyph heads g
names_whole names left heads e so g = sym (or-false (is_among_names names g)) ∙ ap (λ ls. is_among_names names g || has_line_of_glyph ls g) (sym e) ∙ so g

-- tests that answer the same for each name give the same notes
pub same_parts : (f g : List ℕ → Bool) (front : List Line) (section : Line) (heads late : List Line) → ((name : List ℕ) → f name ≡ g name)
    → glyph_parts_notes f front section heads late ≡ glyph_parts_notes g front section heads late
same_parts f g front section heads late h = ap (λ t. glyph_parts_notes t front section heads late) (λ j. λ name. h name j)

pub same_pairs : (f g : List ℕ → Bool) (ls : List Line) → ((name : List ℕ) → f name ≡ g name) → lines_notes f ls ≡ lines_notes g ls
same_pairs f g ls h = ap (λ t. lines_notes t ls) (λ j. λ name. h name j)
