-- The lines of words, printed word by word.
use Rattle.std.proofs.Common.{◌≡◌, ℕ, Bool, true, false, if◌then◌else◌, List, [], ◌∷◌, ◌++◌, map, refl, ◌∙◌, ap, append_assoc}
use Rattle.std.specs.List.{onto_first, join_with_byte}
use Rattle.t1_text.specs.Lines.{joined}
use Rattle.t1_frac.specs.Numbers.{is_number_word}
use Rattle.t1_parts.specs.Printing.{body_line, word_groups}

-- the groups after a word that ends none: the rest of its line, and the lines after it
abbrev pub after_word : List (List (List ℕ)) → List ℕ
after_word [] = 10 ∷ []
after_word ([] ∷ gs) = 10 ∷ joined (map body_line gs)
after_word ((w ∷ g) ∷ gs) = 32 ∷ (join_with_byte 32 (w ∷ g) ++ 10 ∷ joined (map body_line gs))

-- what is left to print of some words, on an open line or on new lines
abbrev pub left : Bool → List (List ℕ) → List ℕ
left true ws = after_word (word_groups ws)
left false ws = joined (map body_line (word_groups ws))

-- a word before the groups, on a new line
onto_new : (w : List ℕ) (gs : List (List (List ℕ))) → joined (map body_line (onto_first w gs)) ≡ 9 ∷ (w ++ after_word gs)
onto_new w [] = ap (λ t. 9 ∷ t) (append_assoc w (10 ∷ []) [])
onto_new w ([] ∷ gs) = ap (λ t. 9 ∷ t) (append_assoc w (10 ∷ []) (joined (map body_line gs)))
onto_new w ((v ∷ g) ∷ gs) =
    let tail = joined (map body_line gs) in
    ap (λ t. 9 ∷ t) (append_assoc (w ++ 32 ∷ join_with_byte 32 (v ∷ g)) (10 ∷ []) tail ∙ append_assoc w (32 ∷ join_with_byte 32 (v ∷ g)) (10 ∷ tail))

-- a word before the groups, on an open line
onto_open : (w : List ℕ) (gs : List (List (List ℕ))) → after_word (onto_first w gs) ≡ 32 ∷ (w ++ after_word gs)
onto_open w [] = refl
onto_open w ([] ∷ gs) = refl
onto_open w ((v ∷ g) ∷ gs) = ap (λ t. 32 ∷ t) (append_assoc w (32 ∷ join_with_byte 32 (v ∷ g)) (10 ∷ joined (map body_line gs)))

-- a number leaves its line open
pub left_number : (opened : Bool) (w : List ℕ) (ws : List (List ℕ)) → is_number_word w ≡ true → left opened (w ∷ ws) ≡ (if opened then 32 else 9) ∷ (w ++ left true ws)
left_number true w ws h = rw h (onto_open w (word_groups ws))
left_number false w ws h = rw h (onto_new w (word_groups ws))

-- another word ends its line
pub left_other : (opened : Bool) (w : List ℕ) (ws : List (List ℕ)) → is_number_word w ≡ false → left opened (w ∷ ws) ≡ (if opened then 32 else 9) ∷ (w ++ 10 ∷ left false ws)
left_other true w ws h = rw h refl
left_other false w ws h = rw h (ap (λ t. 9 ∷ t) (append_assoc w (10 ∷ []) (left false ws)))
