-- Words where they stand: they are the words of the body, and the source has them there.
use Rattle.std.proofs.Common.{◌≡◌, ◌∙◌, ℕ, Bool, true, false, cond, ◌==◌, ◌+◌, List, [], ◌∷◌, ◌++◌, map, Some, None, Option, refl, ap, inl, inr}
use Rattle.std.specs.Prelude.{not}
use Rattle.std.specs.List.{onto_first, position_or_len, before_first, after_first, All, AllByRecursion}
use Rattle.std.proofs.lemmas.Bool.{cases_Bool}
use Rattle.std.proofs.lemmas.List.Elements.{All-from_recursion}
use Rattle.t1_frac.specs.Words.{is_blank, words, word_goes_on}
use Rattle.t1_text.specs.Tokens.{onto_place, uncommented}
use Rattle.t1_text.specs.Delimiters.{is_brace}
use Rattle.t1_text.specs.Lines.{trimmed}
use Rattle.t1_frac.proofs.WordLaws.{word_first}
use Rattle.t1_parts.specs.declared.body.EntryBody.{EntryBody}
use Rattle.t1_parts.specs.Entries.{body_of, closes, has_brace, opened_body, with_front}
use Rattle.t1_faults.specs.Placed.{columns_from, on_line, placed_line, placed_body, opened_words}
use Rattle.t1_faults.specs.declared.placed.PlacedWord.{PlacedWord}

-- ---- the words

joined : (i b : ℕ) (ts : List (ℕ × List ℕ)) → map (λ w. w.1) (onto_place i b ts) ≡ onto_first b (map (λ w. w.1) ts)
joined i b [] = refl
joined i b (t ∷ ts) = refl

columns_words : (i : ℕ) (l : List ℕ) → map (λ w. w.1) (columns_from i l) ≡ words l
columns_words i [] = refl
columns_words i (b ∷ rest) =
    elim (cases_Bool (is_blank b)) [
      | inl blank ↦ rw blank (columns_words (i + 1) rest)
      | inr other ↦
          elim (cases_Bool (word_goes_on rest)) [
            | inl on ↦ rw (other, on) (joined i b (columns_from (i + 1) rest) ∙ ap (onto_first b) (columns_words (i + 1) rest))
            | inr off ↦ rw (other, off) (ap (λ ws. (b ∷ []) ∷ ws) (columns_words (i + 1) rest))
          ]
    ]

numbered : (n : ℕ) (ws : List (ℕ × List ℕ)) → map (λ w. w.word) (map (on_line n) ws) ≡ map (λ w. w.1) ws
numbered n [] = refl
numbered n (w ∷ ws) = ap (λ t. w.1 ∷ t) (numbered n ws)

pub line_words : (n i : ℕ) (l : List ℕ) → map (λ w. w.word) (placed_line n i l) ≡ words l
line_words n i l = numbered n (columns_from i l) ∙ columns_words i l

pub map_append : {A B : Type 0} (f : A → B) (xs ys : List A) → map f (xs ++ ys) ≡ map f xs ++ map f ys
map_append f [] ys = refl
map_append f (x ∷ xs) ys = ap (λ t. f x ∷ t) (map_append f xs ys)

-- the words of a body that is ended are those that are placed
pub body_words : (n i : ℕ) (ls : List (List ℕ)) (b : EntryBody) → body_of ls ≡ Some b → map (λ w. w.word) (placed_body n i ls) ≡ b.words
body_words n i [] b e = absurd (cc)
body_words n i (l ∷ ls) b e = by (λ body h. body_words (n + 1) 1 ls body h) (has_brace l) refl where
  later : ((body : EntryBody) → body_of ls ≡ Some body → map (λ w. w.word) (placed_body (n + 1) 1 ls) ≡ body.words) → (r : Option EntryBody) → body_of ls ≡ r → with_front (words (uncommented l)) 1 r ≡ Some b
      → map (λ w. w.word) (placed_line n i (uncommented l) ++ placed_body (n + 1) 1 ls) ≡ b.words
  later below None f h = absurd (cc)
  later below (Some body) f h =
      let made : EntryBody = record { words = words (uncommented l) ++ body.words; closing = body.closing; more = 1 + body.more } in
      let given : ◌≡◌ {A = Option EntryBody} (Some made) (Some b) = h in
      let equal : made ≡ b = cc in
      let same = ap (λ (t : EntryBody). t.words) equal in
      map_append (λ w. w.word) (placed_line n i (uncommented l)) (placed_body (n + 1) 1 ls)
      ∙ ap (λ ws. ws ++ map (λ w. w.word) (placed_body (n + 1) 1 ls)) (line_words n i (uncommented l))
      ∙ ap (λ ws. words (uncommented l) ++ ws) (below body f)
      ∙ same

  by : ((body : EntryBody) → body_of ls ≡ Some body → map (λ w. w.word) (placed_body (n + 1) 1 ls) ≡ body.words) → (r : Bool) → has_brace l ≡ r → map (λ w. w.word) (placed_body n i (l ∷ ls)) ≡ b.words
  by below true brace =
      elim (cases_Bool (closes l)) [
        | inl shut ↦
            let made : EntryBody = record { words = words (before_first is_brace l); closing = trimmed (after_first is_brace l); more = 0 } in
            let given : ◌≡◌ {A = Option EntryBody} (Some made) (Some b) = rw (brace, shut) at e in
            let equal : made ≡ b = cc in
            rw brace (line_words n i (before_first is_brace l) ∙ ap (λ (t : EntryBody). t.words) equal)
        | inr unshut ↦ let none : ◌≡◌ {A = Option EntryBody} None (Some b) = rw (brace, unshut) at e in absurd (cc)
      ]
  by below false none = rw none (later below (body_of ls) refl (rw none at e))

pub opened_as : (n : ℕ) (l : List ℕ) (ls : List (List ℕ)) (b : EntryBody) → opened_body l ls ≡ Some b → map (λ w. w.word) (opened_words n l ls) ≡ b.words
opened_as n l ls b e = body_words n (position_or_len (λ c. c == 123) l + 2) (after_first (λ c. c == 123) l ∷ ls) b e

-- ---- each is one word

abbrev IsSingle : List ℕ → Type 0
IsSingle [] = ⊥
IsSingle (c ∷ []) = is_blank c ≡ false
IsSingle (c ∷ d ∷ w) = (is_blank c ≡ false) × IsSingle (d ∷ w)

single_first : (c : ℕ) (w : List ℕ) → IsSingle (c ∷ w) → is_blank c ≡ false
single_first c [] h = h
single_first c (d ∷ w) h = h.0

single_words : (w : List ℕ) → IsSingle w → words w ≡ w ∷ []
single_words [] h = absurd h
single_words (c ∷ []) h = rw h refl
single_words (c ∷ d ∷ w) h =
    word_first c (d ∷ w) h.0
    ∙ ap (λ b. cond (not b) (onto_first c (words (d ∷ w))) ((c ∷ []) ∷ words (d ∷ w))) (single_first d w h.1)
    ∙ ap (onto_first c) (single_words (d ∷ w) h.1)

single_more : (b : ℕ) (w : List ℕ) → is_blank b ≡ false → IsSingle w → IsSingle (b ∷ w)
single_more b [] off h = absurd h
single_more b (c ∷ w) off h = (off, h)

single_onto : (i b : ℕ) (ts : List (ℕ × List ℕ)) → is_blank b ≡ false → AllByRecursion (λ w. IsSingle w.1) ts → AllByRecursion (λ w. IsSingle w.1) (onto_place i b ts)
single_onto i b [] off h = (off, tt)
single_onto i b (t ∷ ts) off h = (single_more b t.1 off h.0, h.1)

columns_single : (i : ℕ) (l : List ℕ) → AllByRecursion (λ w. IsSingle w.1) (columns_from i l)
columns_single i [] = tt
columns_single i (b ∷ rest) =
    elim (cases_Bool (is_blank b)) [
      | inl blank ↦ rw blank (columns_single (i + 1) rest)
      | inr other ↦
          elim (cases_Bool (word_goes_on rest)) [
            | inl on ↦ rw (other, on) (single_onto i b (columns_from (i + 1) rest) other (columns_single (i + 1) rest))
            | inr off ↦ rw (other, off) (other, columns_single (i + 1) rest)
          ]
    ]

abbrev OneWord : PlacedWord → Type 0
OneWord w = words w.word ≡ w.word ∷ []

pub all_append : {X : Type 0} (P : X → Type 0) (xs ys : List X) → AllByRecursion P xs → AllByRecursion P ys → AllByRecursion P (xs ++ ys)
all_append P [] ys h k = k
all_append P (x ∷ xs) ys h k = (h.0, all_append P xs ys h.1 k)

line_single : (n : ℕ) (ws : List (ℕ × List ℕ)) → AllByRecursion (λ w. IsSingle w.1) ws → AllByRecursion OneWord (map (on_line n) ws)
line_single n [] h = tt
line_single n (w ∷ ws) h = (single_words w.1 h.0, line_single n ws h.1)

body_single : (n i : ℕ) (ls : List (List ℕ)) → AllByRecursion OneWord (placed_body n i ls)
body_single n i [] = tt
body_single n i (l ∷ ls) =
    elim (cases_Bool (has_brace l)) [
      | inl brace ↦ rw brace (line_single n (columns_from i (before_first is_brace l)) (columns_single i (before_first is_brace l)))
      | inr none ↦
          rw none (all_append OneWord (placed_line n i (uncommented l)) (placed_body (n + 1) 1 ls)
          (line_single n (columns_from i (uncommented l)) (columns_single i (uncommented l))) (body_single (n + 1) 1 ls))
    ]

pub opened_single : (n : ℕ) (l : List ℕ) (ls : List (List ℕ)) → All (λ (w : PlacedWord). words w.word ≡ w.word ∷ []) (opened_words n l ls)
opened_single n l ls = All-from_recursion OneWord (opened_words n l ls) (body_single n (position_or_len (λ c. c == 123) l + 2) (after_first (λ c. c == 123) l ∷ ls))
