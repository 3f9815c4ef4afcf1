-- Words of a body, one after another.
use Rattle.std.proofs.Common.{◌≡◌, ◌∙◌, ℕ, true, false, cond, List, [], ◌∷◌, refl, sym, ap, subst, inl, inr}
use Rattle.std.specs.Prelude.{Result, Ok, Err, not, is_ok}
use Rattle.std.specs.List.{onto_first, AllByRecursion}
use Rattle.std.proofs.lemmas.Bool.{cases_Bool}
use Rattle.t1_frac.specs.Outcome.{fault_at, reported_at, Refuses}
use Rattle.t1_frac.specs.Words.{is_blank, words, word_goes_on}
use Rattle.t1_frac.specs.declared.fault.Code.{Code}
use Rattle.t1_frac.specs.declared.fault.Fault.{Fault}
use Rattle.t1_frac.specs.declared.fault.Place.TheVariants.{Nowhere}
use Rattle.t1_frac.specs.declared.fault.Refusal.{Refusal}
use Rattle.t1_frac.specs.declared.fault.Refusal.TheVariants as refusals
use Rattle.t1_frac.proofs.WordLaws.{word_first}
use Rattle.t1_code.specs.declared.command.Command.{Command}
use Rattle.t1_code.specs.Words.{command_of_word, command_then, commands}
use Rattle.t1_code.specs.FoundCommands.{after_others}
use Rattle.t1_refusal.specs.Telling.{says}

-- ---- each word is one word

abbrev IsSingle : List ℕ → Type 0
IsSingle [] = ⊥
IsSingle (c ∷ []) = is_blank c ≡ false
IsSingle (c ∷ d ∷ w) = (is_blank c ≡ false) × IsSingle (d ∷ w)

single_first : (c : ℕ) (w : List ℕ) → IsSingle (c ∷ w) → is_blank c ≡ false
single_first c [] h = h
single_first c (d ∷ w) h = h.0

single_words : (w : List ℕ) → IsSingle w → words w ≡ w ∷ []
single_words [] h = absurd h
single_words (c ∷ []) h = rw h refl
single_words (c ∷ d ∷ w) h =
    word_first c (d ∷ w) h.0
    ∙ ap (λ b. cond (not b) (onto_first c (words (d ∷ w))) ((c ∷ []) ∷ words (d ∷ w))) (single_first d w h.1)
    ∙ ap (onto_first c) (single_words (d ∷ w) h.1)

single_more : (b : ℕ) (w : List ℕ) → is_blank b ≡ false → IsSingle w → IsSingle (b ∷ w)
single_more b [] off h = absurd h
single_more b (c ∷ w) off h = (off, h)

single_onto : (b : ℕ) (ws : List (List ℕ)) → is_blank b ≡ false → AllByRecursion IsSingle ws → AllByRecursion IsSingle (onto_first b ws)
single_onto b [] off h = (off, tt)
single_onto b (w ∷ ws) off h = (single_more b w off h.0, h.1)

words_single : (l : List ℕ) → AllByRecursion IsSingle (words l)
words_single [] = tt
words_single (b ∷ rest) =
    elim (cases_Bool (is_blank b)) [
      | inl blank ↦ rw blank (words_single rest)
      | inr other ↦
          elim (cases_Bool (word_goes_on rest)) [
            | inl on ↦ rw (other, on) (single_onto b (words rest) other (words_single rest))
            | inr off ↦ rw (other, off) (other, words_single rest)
          ]
    ]

pub first_single : (l w : List ℕ) (ws : List (List ℕ)) → words l ≡ w ∷ ws → words w ≡ w ∷ []
first_single l w ws e = let all = subst (AllByRecursion IsSingle) e (words_single l) in single_words w all.0

-- ---- what compiling one word answers

one_command : (word : List ℕ) (ws : List (List ℕ)) → words word ≡ word ∷ [] → ws ≡ words word → commands ws ≡ command_then (command_of_word word) (Ok [])
unfolding commands
one_command word ws one is = rw (is, one) refl

pub word_ok : (word : List ℕ) (others made : List Command) (ws : List (List ℕ)) → words word ≡ word ∷ [] → ws ≡ words word
    → reported_at Nowhere (after_others others (commands ws)) ≡ Ok made → true ≡ says word
word_ok word others made ws one is h = by (command_of_word word) refl where
  by : (r : Result Command Code) → command_of_word word ≡ r → true ≡ says word
  by (Ok c) e = sym (ap is_ok e)
  by (Err code) e =
      let all : commands ws ≡ Err code = one_command word ws one is ∙ ap (λ r. command_then r (Ok [])) e in
      let none : ◌≡◌ {A = Result (List Command) Fault} (Err (fault_at Nowhere code)) (Ok made) = sym (ap (λ r. reported_at Nowhere (after_others others r)) all) ∙ h in
      absurd (cc)

pub word_err : (word : List ℕ) (others : List Command) (ws : List (List ℕ)) (r : Refusal) (fault : Fault) → words word ≡ word ∷ [] → ws ≡ words word → r ≡ refusals.Fault fault
    → Refuses r (reported_at Nowhere (after_others others (commands ws))) → false ≡ says word
word_err word others ws r fault one is same h = by (command_of_word word) refl where
  by : (x : Result Command Code) → command_of_word word ≡ x → false ≡ says word
  by (Ok c) e =
      let all : commands ws ≡ Ok (c ∷ []) = one_command word ws one is ∙ ap (λ x. command_then x (Ok [])) e in
      let refused = subst (λ x. Refuses x (reported_at Nowhere (after_others others (commands ws)))) same h in
      let none = sym (ap (λ x. reported_at Nowhere (after_others others x)) all) ∙ refused in
      absurd (cc)
  by (Err code) e = sym (ap is_ok e)
