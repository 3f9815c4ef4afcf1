-- Each glyph of a source is the first one of its name.
use Rattle.std.proofs.Common.{◌≡◌, ◌∙◌, ℕ, Bool, true, false, cond, List, [], ◌∷◌, ◌++◌, append_assoc, Some, refl, sym, ap, subst}
use Rattle.std.specs.Prelude.{All, ◌||◌}
use Rattle.std.specs.List.{list_any}
use Rattle.std.specs.Str.{bytes_eq}
use Rattle.std.proofs.lemmas.List.Elements.{All-nil, All-cons, All-append}
use Rattle.t1_parts.specs.declared.item.Item.{Item}
use Rattle.t1_parts.specs.declared.item.Item.TheVariants.{Plain, Section, Subr, Glyph}
use Rattle.t1_parts.specs.Entries.{is_glyph}
use Rattle.t1_parts.specs.SourceParts.{SourceParts}
use Rattle.t1_code.specs.Words.{commands}
use Rattle.t1_source.specs.WellFormed.{IsWellFormed, Stand}
use Rattle.t1_font.specs.InTurn.{IsFirstOfName}
use Rattle.t1_font.specs.ToRun.{commands_or_none, glyph_to_run}
use Rattle.t1_run.proofs.Asked.{bytes_self}

-- earlier items without the name are passed over
passed : (g : List ℕ) (earlier rest : List Item) → list_any (is_glyph g) earlier ≡ false → glyph_to_run (earlier ++ rest) g ≡ glyph_to_run rest g
passed g [] rest h = refl
passed g (Plain line ∷ earlier) rest h = passed g earlier rest h
passed g (Section before count after ∷ earlier) rest h = passed g earlier rest h
passed g (Subr number words closing ∷ earlier) rest h = passed g earlier rest h
passed g (Glyph name words closing ∷ earlier) rest h = by (bytes_eq g name) refl h (λ e. passed g earlier rest e) where
  by : (b : Bool) → bytes_eq g name ≡ b → (b || list_any (is_glyph g) earlier) ≡ false
      → (list_any (is_glyph g) earlier ≡ false → glyph_to_run (earlier ++ rest) g ≡ glyph_to_run rest g)
      → cond (bytes_eq g name) (Some (commands_or_none (commands words))) (glyph_to_run (earlier ++ rest) g) ≡ glyph_to_run rest g
  by true e h below = absurd (cc)
  by false e h below = ap (λ b. cond b (Some (commands_or_none (commands words))) (glyph_to_run (earlier ++ rest) g)) e ∙ below h

first-here : (g : List ℕ) (words : List (List ℕ)) (closing : List ℕ) (rest : List Item)
    → glyph_to_run (Glyph g words closing ∷ rest) g ≡ Some (commands_or_none (commands words))
first-here g words closing rest = ap (λ b. cond b (Some (commands_or_none (commands words))) (glyph_to_run rest g)) (bytes_self g)

one-further : (P : List Item → Type 0) (earlier : List Item) (item : Item) (rest : List Item) → P ((earlier ++ item ∷ []) ++ rest) → P (earlier ++ item ∷ rest)
one-further P earlier item rest h = subst P (append_assoc earlier (item ∷ []) rest) h

firsts-after : (earlier items tail : List Item) → Stand earlier items → All (IsFirstOfName (earlier ++ (items ++ tail))) items
firsts-after earlier [] tail h = All-nil (IsFirstOfName (earlier ++ tail))
firsts-after earlier (Plain line ∷ items) tail h =
    All-cons (IsFirstOfName (earlier ++ Plain line ∷ (items ++ tail))) (Plain line) items tt
    (one-further (λ all. All (IsFirstOfName all) items) earlier (Plain line) (items ++ tail) (firsts-after (earlier ++ Plain line ∷ []) items tail h.1))
firsts-after earlier (Section before count after ∷ items) tail h =
    All-cons (IsFirstOfName (earlier ++ Section before count after ∷ (items ++ tail))) (Section before count after) items tt
    (one-further (λ all. All (IsFirstOfName all) items) earlier (Section before count after) (items ++ tail) (firsts-after (earlier ++ Section before count after ∷ []) items tail h.1))
firsts-after earlier (Subr number words closing ∷ items) tail h =
    All-cons (IsFirstOfName (earlier ++ Subr number words closing ∷ (items ++ tail))) (Subr number words closing) items tt
    (one-further (λ all. All (IsFirstOfName all) items) earlier (Subr number words closing) (items ++ tail) (firsts-after (earlier ++ Subr number words closing ∷ []) items tail h.1))
firsts-after earlier (Glyph g words closing ∷ items) tail h =
    All-cons (IsFirstOfName (earlier ++ Glyph g words closing ∷ (items ++ tail))) (Glyph g words closing) items
    (passed g earlier (Glyph g words closing ∷ (items ++ tail)) h.0.1 ∙ first-here g words closing (items ++ tail))
    (one-further (λ all. All (IsFirstOfName all) items) earlier (Glyph g words closing) (items ++ tail) (firsts-after (earlier ++ Glyph g words closing ∷ []) items tail h.1))

pub firsts : (s : SourceParts) → IsWellFormed s → All (IsFirstOfName s.items) s.items
firsts s well =
    let p = well.items in
    let inner = firsts-after [] p.inner (Plain p.closefile ∷ []) p.stand in
    subst (λ all. All (IsFirstOfName all) all) (sym p.whole)
    (All-append (IsFirstOfName (p.inner ++ Plain p.closefile ∷ [])) p.inner (Plain p.closefile ∷ []) inner
    (All-cons (IsFirstOfName (p.inner ++ Plain p.closefile ∷ [])) (Plain p.closefile) [] tt (All-nil (IsFirstOfName (p.inner ++ Plain p.closefile ∷ [])))))
