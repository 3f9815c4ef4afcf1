-- Texts of the same words, and bodies of a text that grows.
use Rattle.std.proofs.Common.{◌≡◌, ℕ, zero, suc, false, ◌-◌, ◌≤◌, List, [], ◌∷◌, ◌++◌, length, take, drop, Result, Ok, Err, refl, sym, ap, subst, ◌∙◌, inl, inr, arith, length-append}
use Rattle.std.specs.List.{All, slice_index_or}
use Rattle.std.proofs.Math.Seq.{drop-append_seam, take-length}
use Rattle.std.proofs.lemmas.Bool.{cases_Bool}
use Rattle.std.proofs.Math.Numerals.{one-add}
use Rattle.std.proofs.lemmas.List.{take-append-drop, length-drop, drop-append-le, take-append-le}
use Rattle.std.proofs.lemmas.List.Elements.{All-append}
use Rattle.t1_frac.specs.Words.{is_blank, trimmed_front, words, word_goes_on}
use Rattle.t1_frac.proofs.WordLaws.{word_first, word_run}
use Rattle.t1_disassemble.specs.declared.coded_text.CodedBody.{CodedBody}
use Rattle.t1_disassemble.specs.declared.fault.FontCode.{FontCode}
use Rattle.t1_disassemble.specs.declared.fault.FontPlace.TheVariants.{Nowhere}
use Rattle.t1_disassemble.specs.CodedTexts.{between, IsCodedBody}
use Rattle.t1_disassemble.specs.Outcome.{font_reported_at}
use Rattle.t1_disassemble.specs.Words.{words_of, printed_words}
use Rattle.t1_disassemble.specs.WordsOnto.{words_onto}

-- ---- the same words

-- blanks in front say nothing
words_front : (l : List ℕ) → words (trimmed_front l) ≡ words l
words_front [] = refl
words_front (c ∷ l) = elim (cases_Bool (is_blank c)) [
  | inl t ↦ rw (t, one-add) (words_front l)
  | inr f ↦ rw f (rw f refl)
]

-- where no word follows, a word ends
ended : (b : List ℕ) → words b ≡ [] → word_goes_on b ≡ false
ended [] h = refl
ended (c ∷ b) h = elim (cases_Bool (is_blank c)) [
  | inl t ↦ rw t refl
  | inr f ↦ (let some = word_first c b f ∙ word_run c b in absurd (cc))
]

-- no word behind a text adds to its words
words_behind_none : (a b : List ℕ) → words b ≡ [] → words (a ++ b) ≡ words a
words_behind_none [] b h = h
words_behind_none (c ∷ []) b h = rw (ended b h, h) refl
words_behind_none (c ∷ d ∷ a) b h = rw (words_behind_none (d ∷ a) b h) refl

-- a text that stands at the front of another, but for blanks, and no word behind it
pub same_words : (one other kept rest : List ℕ) (n : ℕ) → kept ≡ trimmed_front one → rest ≡ trimmed_front other → take n rest ≡ kept → words (drop n rest) ≡ [] → words one ≡ words other
same_words one other kept rest n k r same none =
    sym (words_front one) ∙ ap words (sym k ∙ sym same) ∙ sym (words_behind_none (take n rest) (drop n rest) none) ∙ ap words (take-append-drop n rest ∙ r) ∙ words_front other

-- ---- a text that grows

between_kept : (start end : ℕ) (l x : List ℕ) → start ≤ end → end ≤ length l → between start end (l ++ x) ≡ between start end l
between_kept start end l x order within =
    let size = length-drop start l in
    ap (take (end - start)) (drop-append-le start l x (omega (arith, order, within)))
    ∙ take-append-le (end - start) (drop start l) x (omega (arith, order, within, size))

between_last : (l x : List ℕ) → between (length l) (length (l ++ x)) (l ++ x) ≡ x
between_last l x =
    let all = length-append l x in
    let size : length (l ++ x) - length l ≡ length x = omega (arith, all) in
    ap (take (length (l ++ x) - length l)) (drop-append_seam l x) ∙ ap (λ n. take n x) size ∙ take-length x

body_kept : (text codes x y : List ℕ) (body : CodedBody) → IsCodedBody text codes body → IsCodedBody (text ++ x) (codes ++ y) body
body_kept text codes x y body is =
    let more_text = length-append text x in
    let more_codes = length-append codes y in
    let same_text = between_kept body.words body.words_end text x is.words_order is.words_within in
    let same_code = between_kept body.code body.code_end codes y is.code_order is.code_within in
    record {
      words_order = is.words_order;
      words_within = omega (arith, is.words_within, more_text);
      code_order = is.code_order;
      code_within = omega (arith, is.code_within, more_codes);
      said = λ ws. λ h. same_text ∙ is.said ws (ap words_of (sym same_code) ∙ h);
    }

pub bodies_kept : (text codes x y : List ℕ) (bodies : List CodedBody) → All (IsCodedBody text codes) bodies → All (IsCodedBody (text ++ x) (codes ++ y)) bodies
bodies_kept text codes x y bodies are k d h = body_kept text codes x y (slice_index_or bodies k d) (are k d h)

-- the body that was added last, and those before it
abbrev pub Last : List ℕ → List ℕ → List ℕ → List ℕ → CodedBody
Last text codes code all = record { words = length text; words_end = length all; code = length codes; code_end = length (codes ++ code) }

last_is : (text codes code : List ℕ) (ws : List (List ℕ)) → words_of code ≡ Ok ws → IsCodedBody (text ++ printed_words false ws) (codes ++ code) (Last text codes code (text ++ printed_words false ws))
last_is text codes code ws e =
    let more_text = length-append text (printed_words false ws) in
    let more_codes = length-append codes code in
    record {
      words_order = omega (arith, more_text);
      words_within = omega arith;
      code_order = omega (arith, more_codes);
      code_within = omega arith;
      said = λ vs. λ h.
          let read : Ok ws ≡ Ok vs = sym e ∙ ap words_of (sym (between_last codes code)) ∙ h in
          let same : ws ≡ vs = cc in
          between_last text (printed_words false ws) ∙ ap (printed_words false) same;
    }

alone : (text codes : List ℕ) (body : CodedBody) → IsCodedBody text codes body → All (IsCodedBody text codes) (body ∷ [])
alone text codes body is zero d h = is
alone text codes body is (suc k) d h = absurd (omega (arith, h))

pub body_added : (text codes code all : List ℕ) (bodies : List CodedBody) → All (IsCodedBody text codes) bodies → font_reported_at Nowhere (words_onto text false (words_of code)) ≡ Ok all
    → All (IsCodedBody all (codes ++ code)) (bodies ++ Last text codes code all ∷ [])
body_added text codes code all bodies are printed = from (words_of code) refl printed where
  from : (read : Result (List (List ℕ)) FontCode) → words_of code ≡ read → font_reported_at Nowhere (words_onto text false read) ≡ Ok all
      → All (IsCodedBody all (codes ++ code)) (bodies ++ Last text codes code all ∷ [])
  from (Err fault) e h = absurd (cc)
  from (Ok ws) e h =
      let t = text ++ printed_words false ws in
      let is : t ≡ all = cc in
      subst (λ a. All (IsCodedBody a (codes ++ code)) (bodies ++ Last text codes code a ∷ [])) is
      (All-append (IsCodedBody t (codes ++ code)) bodies (Last text codes code t ∷ []) (bodies_kept text codes (printed_words false ws) code bodies are)
      (alone t (codes ++ code) (Last text codes code t) (last_is text codes code ws e)))
