-- The source has each word at its line and column.
use Rattle.std.proofs.Common.{◌≡◌, ◌∙◌, ℕ, true, ◌==◌, ◌+◌, ◌≤◌, List, [], ◌∷◌, ◌++◌, length, take, drop, map, Some, None, Option, refl, sym, ap, subst, inl, inr, arith, length-append}
use Rattle.std.specs.List.{position_or_len, AllByRecursion}
use Rattle.std.proofs.lemmas.Bool.{cases_Bool, cases_lt, not-true}
use Rattle.std.proofs.lemmas.List.{append_assoc, take-append-drop, length-take-le, drop_all}
use Rattle.t1_frac.specs.Words.{is_blank, word_goes_on}
use Rattle.t1_frac.specs.declared.fault.Place.{Place}
use Rattle.t1_text.specs.Tokens.{onto_place, uncommented}
use Rattle.t1_text.specs.Delimiters.{is_brace}
use Rattle.t1_parts.specs.declared.item.Item.{Item}
use Rattle.t1_parts.specs.Entries.{has_brace}
use Rattle.t1_faults.specs.Placed.{columns_from, on_line, placed_line, placed_body, opened_words, HasAt}
use Rattle.t1_faults.specs.Entries.{Entry, entries_from, entry_at, place_in, placed_words, span}
use Rattle.t1_faults.specs.declared.placed.PlacedWord.{PlacedWord}
use Rattle.t1_faults.proofs.ColumnLaws.{column_first, column_run}
use Rattle.t1_faults.proofs.PlacedLaws.{all_append}

-- a text, whose first byte has this column, has the word at its column
abbrev Within : ℕ → List ℕ → ℕ × List ℕ → Type 0
Within c l w = (front : List ℕ) × (back : List ℕ) × (l ≡ front ++ (w.1 ++ back)) × (w.0 ≡ c + length front)

weaker : {X : Type 0} (P Q : X → Type 0) → ((x : X) → P x → Q x) → (xs : List X) → AllByRecursion P xs → AllByRecursion Q xs
weaker P Q f [] h = tt
weaker P Q f (x ∷ xs) h = (f x h.0, weaker P Q f xs h.1)

shifted : (c b : ℕ) (rest : List ℕ) (w : ℕ × List ℕ) → Within (c + 1) rest w → Within c (b ∷ rest) w
shifted c b rest w h =
    let at : w.0 ≡ c + length (b ∷ h.0) = omega (arith, h.3) in
    (b ∷ h.0, h.1, ap (λ l. b ∷ l) h.2, at)

with_byte : (c b : ℕ) (rest : List ℕ) → word_goes_on rest ≡ true → AllByRecursion (Within (c + 1) rest) (columns_from (c + 1) rest)
    → AllByRecursion (Within c (b ∷ rest)) (onto_place c b (columns_from (c + 1) rest))
with_byte c b [] on h = absurd (cc)
with_byte c b (d ∷ rest) on h =
    let p = position_or_len is_blank rest in
    let more = columns_from (c + 1 + (1 + p)) (drop p rest) in
    let first : columns_from (c + 1) (d ∷ rest) ≡ (c + 1, d ∷ take p rest) ∷ more = column_first (c + 1) d rest (not-true (is_blank d) on) ∙ column_run (c + 1) d rest in
    let left = subst (AllByRecursion (Within (c + 1) (d ∷ rest))) first h in
    let whole : b ∷ d ∷ rest ≡ [] ++ ((b ∷ d ∷ take p rest) ++ drop p rest) = ap (λ t. b ∷ d ∷ t) (sym (take-append-drop p rest)) in
    let here : c ≡ c + 0 = omega arith in
    subst (λ ws. AllByRecursion (Within c (b ∷ d ∷ rest)) (onto_place c b ws)) (sym first)
    (([], drop p rest, whole, here), weaker (Within (c + 1) (d ∷ rest)) (Within c (b ∷ d ∷ rest)) (shifted c b (d ∷ rest)) more left.1)

columns_within : (c : ℕ) (l : List ℕ) → AllByRecursion (Within c l) (columns_from c l)
columns_within c [] = tt
columns_within c (b ∷ rest) =
    let below = weaker (Within (c + 1) rest) (Within c (b ∷ rest)) (shifted c b rest) (columns_from (c + 1) rest) (columns_within (c + 1) rest) in
    let here : c ≡ c + 0 = omega arith in
    elim (cases_Bool (is_blank b)) [
      | inl blank ↦ rw blank below
      | inr other ↦
          elim (cases_Bool (word_goes_on rest)) [
            | inl on ↦ rw (other, on) (with_byte c b rest on (columns_within (c + 1) rest))
            | inr off ↦ rw (other, off) (([], rest, refl, here), below)
          ]
    ]

abbrev pub Stands : List (List ℕ) → PlacedWord → Type 0
Stands all w = HasAt all w.line w.column w.word

-- the words of a part of a line
line_stands : (all above below : List (List ℕ)) (n c : ℕ) (before text after : List ℕ) → all ≡ above ++ (before ++ (text ++ after)) ∷ below → n ≡ length above + 1 → c ≡ length before + 1
    → (ws : List (ℕ × List ℕ)) → AllByRecursion (Within c text) ws → AllByRecursion (Stands all) (map (on_line n) ws)
line_stands all above below n c before text after is number column [] h = tt
line_stands all above below n c before text after is number column (w ∷ ws) h =
    let front = h.0.0 in
    let back = h.0.1 in
    let regrouped : before ++ (text ++ after) ≡ (before ++ front) ++ (w.1 ++ (back ++ after)) =
    ap (λ t. before ++ (t ++ after)) h.0.2 ∙ ap (λ t. before ++ t) (append_assoc front (w.1 ++ back) after ∙ ap (λ t. front ++ t) (append_assoc w.1 back after))
    ∙ sym (append_assoc before front (w.1 ++ (back ++ after))) in
    let at : w.0 ≡ length (before ++ front) + 1 = omega (arith, h.0.3, column, length-append before front) in (
      (above, below, before ++ front, back ++ after, is ∙ ap (λ l. above ++ l ∷ below) regrouped, number, at),
      line_stands all above below n c before text after is number column ws h.1,
    )

parted : (p : ℕ) (before text : List ℕ) → before ++ text ≡ before ++ (take p text ++ drop p text)
parted p before text = ap (λ t. before ++ t) (sym (take-append-drop p text))

-- the words from a line on, by those of the lines after it
body_stands : (all above others : List (List ℕ)) (n c : ℕ) (before text : List ℕ) (ls : List (List ℕ)) → all ≡ above ++ (before ++ text) ∷ (ls ++ others) → n ≡ length above + 1 → c ≡ length before + 1
    → AllByRecursion (Stands all) (placed_body (n + 1) 1 ls) → AllByRecursion (Stands all) (placed_body n c (text ∷ ls))
body_stands all above others n c before text ls is number column below =
    let brace_at = position_or_len is_brace text in
    let comment_at = position_or_len (λ b. b == 37) text in
    elim (cases_Bool (has_brace text)) [
      | inl brace ↦
          rw brace (line_stands all above (ls ++ others) n c before (take brace_at text) (drop brace_at text) (is ∙ ap (λ l. above ++ l ∷ (ls ++ others)) (parted brace_at before text)) number column
          (columns_from c (take brace_at text)) (columns_within c (take brace_at text)))
      | inr none ↦
          rw none (all_append (Stands all) (placed_line n c (uncommented text)) (placed_body (n + 1) 1 ls)
          (line_stands all above (ls ++ others) n c before (take comment_at text) (drop comment_at text) (is ∙ ap (λ l. above ++ l ∷ (ls ++ others)) (parted comment_at before text)) number column
          (columns_from c (take comment_at text)) (columns_within c (take comment_at text)))
          below)
    ]

later_stands : (all above others : List (List ℕ)) (n : ℕ) (l : List ℕ) (ls : List (List ℕ)) → all ≡ above ++ l ∷ (ls ++ others) → n ≡ length above + 1 → AllByRecursion (Stands all) (placed_body (n + 1) 1 ls)
later_stands all above others n l [] is number = tt
later_stands all above others n l (next ∷ ls) is number =
    let more : all ≡ (above ++ l ∷ []) ++ next ∷ (ls ++ others) = is ∙ sym (append_assoc above (l ∷ []) (next ∷ (ls ++ others))) in
    let count : n + 1 ≡ length (above ++ l ∷ []) + 1 = omega (arith, number, length-append above (l ∷ [])) in
    body_stands all (above ++ l ∷ []) others (n + 1) 1 [] next ls more count refl (later_stands all (above ++ l ∷ []) others (n + 1) next ls more count)

-- ---- the words of an entry

at_start : (p : ℕ) (l : List ℕ) → l ≡ take p l ++ drop p l
at_start p l = sym (take-append-drop p l)

-- the words of the body that opens on a line
opened_stand : (all above others : List (List ℕ)) (n : ℕ) (l : List ℕ) (ls : List (List ℕ)) → all ≡ above ++ l ∷ (ls ++ others) → n ≡ length above + 1
    → AllByRecursion (Stands all) (opened_words n l ls)
opened_stand all above others n l ls is number =
    let p = position_or_len (λ c. c == 123) l in
    elim (cases_lt p (length l)) [
      | inl inside ↦
          let within : p + 1 ≤ length l = omega (arith, inside) in
          let size : p + 2 ≡ length (take (p + 1) l) + 1 = omega (arith, length-take-le (p + 1) l within) in
          body_stands all above others n (p + 2) (take (p + 1) l) (drop (p + 1) l) ls (is ∙ ap (λ t. above ++ t ∷ (ls ++ others)) (at_start (p + 1) l)) number size (later_stands all above others n l ls is number)
      | inr past ↦
          subst (λ t. AllByRecursion (Stands all) (placed_body n (p + 2) (t ∷ ls))) (sym (drop_all (p + 1) l (omega (arith, past))))
          (later_stands all above others n l ls is number)
    ]

abbrev pub WordsStand : List (List ℕ) → Entry → Type 0
WordsStand all e = AllByRecursion (Stands all) (placed_words e)

pub entries_stand : (all above others : List (List ℕ)) (n : ℕ) (ls : List (List ℕ)) (items : List Item) → all ≡ above ++ (ls ++ others) → n ≡ length above + 1
    → AllByRecursion (WordsStand all) (entries_from n ls items)
entries_stand all above others n ls [] is number = tt
entries_stand all above others n [] (item ∷ items) is number = tt
entries_stand all above others n (l ∷ ls) (item ∷ items) is number = by (λ over m left more count. entries_stand all over others m left items more count) (place_in item) where
  none_left : (m : ℕ) (items : List Item) → AllByRecursion (WordsStand all) (entries_from m [] items)
  none_left m [] = tt
  none_left m (item ∷ items) = tt

  rest : ((over : List (List ℕ)) (m : ℕ) (left : List (List ℕ)) → all ≡ over ++ (left ++ others) → m ≡ length over + 1 → AllByRecursion (WordsStand all) (entries_from m left items)) → (m : ℕ) → AllByRecursion (WordsStand all) (entries_from (n + 1 + m) (drop m ls) items)
  rest below m =
      elim (cases_lt (length ls) m) [
        | inr within ↦
            let more : all ≡ (above ++ l ∷ take m ls) ++ (drop m ls ++ others) =
            is ∙ ap (λ t. above ++ l ∷ (t ++ others)) (sym (take-append-drop m ls)) ∙ ap (λ t. above ++ l ∷ t) (append_assoc (take m ls) (drop m ls) others)
            ∙ sym (append_assoc above (l ∷ take m ls) (drop m ls ++ others)) in
            let count : n + 1 + m ≡ length (above ++ l ∷ take m ls) + 1 = omega (arith, number, length-append above (l ∷ take m ls), length-take-le m ls within) in
            below (above ++ l ∷ take m ls) (n + 1 + m) (drop m ls) more count
        | inl past ↦ subst (λ t. AllByRecursion (WordsStand all) (entries_from (n + 1 + m) t items)) (sym (drop_all m ls (omega (arith, past)))) (none_left (n + 1 + m) items)
      ]

  by : ((over : List (List ℕ)) (m : ℕ) (left : List (List ℕ)) → all ≡ over ++ (left ++ others) → m ≡ length over + 1 → AllByRecursion (WordsStand all) (entries_from m left items)) → (place : Option Place) → AllByRecursion (WordsStand all) (entry_at place n l ls ++ entries_from (n + 1 + span place l ls) (drop (span place l ls) ls) items)
  by below None = rest below 0
  by below (Some place) = (opened_stand all above others n l ls is number, rest below (span (Some place) l ls))
