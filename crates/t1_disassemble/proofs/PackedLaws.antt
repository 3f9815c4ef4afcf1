-- Lines and charstrings, with more of them behind.
use Rattle.std.proofs.Common.{◌≡◌, ℕ, true, false, ltb, ◌+◌, ◌≤◌, ◌<◌, ◌==◌, min, List, [], ◌∷◌, ◌++◌, take, drop, length, Option, refl, sym, ap, ◌∙◌, subst, append_assoc, append-nil, inl, inr, arith}
use Rattle.std.proofs.lemmas.Bool.{cases_Bool, eqb-true, ltb-true, ltb-false, lt-ltb, le-ltb}
use Rattle.std.proofs.lemmas.List.{take-append-le, drop-append-le, length-drop, length-append}
use Rattle.std.proofs.lemmas.List.Elements.{filter-append}
use Rattle.std.specs.List.{onto_first}
use Rattle.std.specs.Prelude.{filter}
use Rattle.t1_frac.specs.Numbers.{is_number_word}
use Rattle.t1_text.specs.Lines.{begins_with, lines}
use Rattle.t1_text.proofs.LineLaws.{longer, cr_lf, cr_alone, lf_ends}
use Rattle.t1_parts.specs.declared.item.Item.{Item}
use Rattle.t1_parts.specs.Sections.{subrs_line, glyphs_line}
use Rattle.t1_parts.proofs.RunCutLaws.{some_lines}
use Rattle.t1_disassemble.specs.declared.packed.Cut.{Cut}
use Rattle.t1_disassemble.specs.Kinds.{is_line_of}
use Rattle.t1_disassemble.specs.Packed.{packed_text, lines_len, codes_len, ends_after, is_ended, packed_section_count, IsPacked}
use Rattle.t1_disassemble.specs.SoundWords.{code_lines, sound_words}
use Rattle.t1_disassemble.specs.Words.{printed_words}

-- ---- more lines behind

pub packed_more : (cuts : List Cut) (texts codes more : List ℕ) → lines_len cuts ≤ length texts → packed_text cuts (texts ++ more) codes ≡ packed_text cuts texts codes ++ more
packed_more [] texts codes more h = refl
packed_more (c ∷ cuts) texts codes more h =
    let front : take c.lines (texts ++ more) ≡ take c.lines texts = take-append-le c.lines texts more (omega (arith, h)) in
    let back : drop c.lines (texts ++ more) ≡ drop c.lines texts ++ more = drop-append-le c.lines texts more (omega (arith, h)) in
    let left : lines_len cuts ≤ length (drop c.lines texts) = omega (arith, h, length-drop c.lines texts) in
    let words = code_lines (take c.code codes) in
    let inner = packed_text cuts (drop c.lines texts) (drop c.code codes) in
    rw (front, back, packed_more cuts (drop c.lines texts) (drop c.code codes) more left)
    (ap (λ (l : List ℕ). take c.lines texts ++ l) (sym (append_assoc words inner more)) ∙ sym (append_assoc (take c.lines texts) (words ++ inner) more))

-- ---- one more charstring behind

pub packed_cut : (cuts : List Cut) (texts codes code : List ℕ) (last : Cut) → lines_len cuts + last.lines ≡ length texts → codes_len cuts ≡ length codes → last.code ≡ length code
    → packed_text (cuts ++ last ∷ []) texts (codes ++ code) ≡ packed_text cuts texts codes ++ code_lines code
packed_cut [] texts codes code last whole coded size =
    let none : codes ≡ [] = empty codes (sym coded) in
    let all_lines : last.lines ≡ length texts = omega (arith, whole) in
    let front : take last.lines texts ≡ texts = ap (λ (n : ℕ). take n texts) all_lines ∙ (all texts).0 in
    let back : drop last.lines texts ≡ [] = ap (λ (n : ℕ). drop n texts) all_lines ∙ (all texts).1 in
    let bytes : take last.code code ≡ code = ap (λ (n : ℕ). take n code) size ∙ (all code).0 in
    rw (none, front, back, bytes) (ap (λ (l : List ℕ). texts ++ l) (append-nil (code_lines code)))
  where
    empty : (l : List ℕ) → length l ≡ 0 → l ≡ []
    empty [] h = refl
    empty (c ∷ l) h = absurd (omega (arith, h))

    all : (l : List ℕ) → (take (length l) l ≡ l) × (drop (length l) l ≡ [])
    all [] = (refl, refl)
    all (c ∷ l) = let more = all l in (ap (λ k. c ∷ k) more.0, more.1)
packed_cut (c ∷ cuts) texts codes code last whole coded size =
    let front : take c.code (codes ++ code) ≡ take c.code codes = take-append-le c.code codes code (omega (arith, coded)) in
    let back : drop c.code (codes ++ code) ≡ drop c.code codes ++ code = drop-append-le c.code codes code (omega (arith, coded)) in
    let left : lines_len cuts + last.lines ≡ length (drop c.lines texts) = omega (arith, whole, length-drop c.lines texts) in
    let rest : codes_len cuts ≡ length (drop c.code codes) = omega (arith, coded, length-drop c.code codes) in
    let words = code_lines (take c.code codes) in
    let inner = packed_text cuts (drop c.lines texts) (drop c.code codes) in
    rw (front, back, packed_cut cuts (drop c.lines texts) (drop c.code codes) code last left rest size)
    (ap (λ (l : List ℕ). take c.lines texts ++ l) (sym (append_assoc words inner (code_lines code))) ∙ sym (append_assoc (take c.lines texts) (words ++ inner) (code_lines code)))

-- ---- lines behind whole lines

onto_append : (c : ℕ) (ls more : List (List ℕ)) → 0 < length ls → onto_first c (ls ++ more) ≡ onto_first c ls ++ more
onto_append c [] more h = absurd (omega (arith, h))
onto_append c (l ∷ ls) more h = refl

tail_ended : (c : ℕ) (rest : List ℕ) → ends_after c rest ≡ true → is_ended rest ≡ true
tail_ended c [] h = refl
tail_ended c (d ∷ rest) h = h

pub lines_behind : (a b : List ℕ) → is_ended a ≡ true → lines (a ++ b) ≡ lines a ++ lines b
lines_behind [] b h = refl
lines_behind (c ∷ []) b h =
    let lf : (c == 10) ≡ true = h in
    let is : c ≡ 10 = eqb-true c 10 lf in
    rw is refl
lines_behind (c ∷ d ∷ rest) b h = elim (cases_Bool (c == 13)) [
  | inl cr ↦ elim (cases_Bool (begins_with 10 (d ∷ rest))) [
    | inl lf ↦
        cr_lf c (d ∷ (rest ++ b)) cr lf ∙ ap (λ (ls : List (List ℕ)). [] ∷ ls) (lines_behind rest b (tail_ended d rest h))
        ∙ ap (λ (ls : List (List ℕ)). ls ++ lines b) (sym (cr_lf c (d ∷ rest) cr lf))
    | inr alone ↦
        cr_alone c (d ∷ (rest ++ b)) cr alone ∙ ap (λ (ls : List (List ℕ)). [] ∷ ls) (lines_behind (d ∷ rest) b h)
        ∙ ap (λ (ls : List (List ℕ)). ls ++ lines b) (sym (cr_alone c (d ∷ rest) cr alone))
  ]
  | inr no_cr ↦ elim (cases_Bool (c == 10)) [
    | inl lf ↦
        lf_ends c (d ∷ (rest ++ b)) no_cr lf ∙ ap (λ (ls : List (List ℕ)). [] ∷ ls) (lines_behind (d ∷ rest) b h)
        ∙ ap (λ (ls : List (List ℕ)). ls ++ lines b) (sym (lf_ends c (d ∷ rest) no_cr lf))
    | inr no_lf ↦
        longer c (d ∷ (rest ++ b)) no_cr no_lf ∙ ap (onto_first c) (lines_behind (d ∷ rest) b h)
        ∙ onto_append c (lines (d ∷ rest)) (lines b) (some_lines (d ∷ rest) (omega arith))
        ∙ ap (λ (ls : List (List ℕ)). ls ++ lines b) (sym (longer c (d ∷ rest) no_cr no_lf))
  ]
]

-- ---- whole lines behind whole lines

pub ended_behind : (a b : List ℕ) → is_ended a ≡ true → is_ended b ≡ true → is_ended (a ++ b) ≡ true
ended_behind [] b h k = k
ended_behind (c ∷ rest) b h k = from c rest h where
  from : (c : ℕ) (rest : List ℕ) → ends_after c rest ≡ true → ends_after c (rest ++ b) ≡ true
  from c (d ∷ rest) h = from d rest h
  from c [] h = last b k where
    last : (b : List ℕ) → is_ended b ≡ true → ends_after c b ≡ true
    last [] k = h
    last (d ∷ b) k = k

pub line_ended : (l : List ℕ) → is_ended (l ++ 10 ∷ []) ≡ true
line_ended [] = refl
line_ended (c ∷ rest) = from c rest where
  from : (c : ℕ) (rest : List ℕ) → ends_after c (rest ++ 10 ∷ []) ≡ true
  from c [] = refl
  from c (d ∷ rest) = from d rest

-- a line of three parts is whole
pub parts_ended : (a b c : List ℕ) → is_ended (a ++ (b ++ (c ++ 10 ∷ []))) ≡ true
parts_ended a b c =
    let same : ((a ++ b) ++ c) ++ 10 ∷ [] ≡ a ++ (b ++ (c ++ 10 ∷ [])) = append_assoc (a ++ b) c (10 ∷ []) ∙ append_assoc a b (c ++ 10 ∷ []) in
    subst (λ (l : List ℕ). is_ended l ≡ true) same (line_ended ((a ++ b) ++ c))

-- the lines of words are whole; `true` where the first goes on with a line
pub words_ended : (ws : List (List ℕ)) → (is_ended (printed_words false ws) ≡ true) × ((c : ℕ) (l : List ℕ) → ends_after c (l ++ printed_words true ws) ≡ true)
words_ended [] = (refl, λ c l. behind c l) where
  behind : (c : ℕ) (l : List ℕ) → ends_after c (l ++ 10 ∷ []) ≡ true
  behind c [] = refl
  behind c (d ∷ l) = behind d l
words_ended (w ∷ ws) = elim (cases_Bool (is_number_word w)) [
  | inl t ↦ rw t ((words_ended ws).1 9 w, λ c l. onto c l (32 ∷ w) (printed_words true ws) (λ d. (words_ended ws).1 d))
  | inr f ↦ rw f (fed 9 w (printed_words false ws) (words_ended ws).0, λ c l. onto c l (32 ∷ w) (10 ∷ printed_words false ws) (λ d m. fed d m (printed_words false ws) (words_ended ws).0))
]
  where
    fed : (c : ℕ) (l more : List ℕ) → is_ended more ≡ true → ends_after c (l ++ 10 ∷ more) ≡ true
    fed c [] [] h = refl
    fed c [] (d ∷ more) h = h
    fed c (d ∷ l) more h = fed d l more h

    onto : (c : ℕ) (l word more : List ℕ) → ((d : ℕ) (m : List ℕ) → ends_after d (m ++ more) ≡ true) → ends_after c (l ++ (word ++ more)) ≡ true
    onto c l word more each = subst (λ (k : List ℕ). ends_after c k ≡ true) (append_assoc l word more) (each c (l ++ word))

-- ---- section lines behind others

pub counted_behind : (kind : List ℕ → Option Item) (a b : List ℕ) → is_ended a ≡ true → packed_section_count kind (a ++ b) ≡ min 2 (packed_section_count kind a + packed_section_count kind b)
counted_behind kind a b h =
    let parted : filter (is_line_of kind) (lines (a ++ b)) ≡ filter (is_line_of kind) (lines a) ++ filter (is_line_of kind) (lines b) =
    ap (filter (is_line_of kind)) (lines_behind a b h) ∙ filter-append (is_line_of kind) (lines a) (lines b) in
    ap (λ (ls : List (List ℕ)). min 2 (length ls)) parted ∙ sums (filter (is_line_of kind) (lines a)) (filter (is_line_of kind) (lines b)) where
      capped : (n m : ℕ) → min 2 (n + m) ≡ min 2 (min 2 n + min 2 m)
      capped n m = omega arith

      sums : (xs ys : List (List ℕ)) → min 2 (length (xs ++ ys)) ≡ min 2 (min 2 (length xs) + min 2 (length ys))
      sums xs ys = ap (min 2) (length-append xs ys) ∙ capped (length xs) (length ys)

counted : (kind : List ℕ → Option Item) (text more : List ℕ) (count n : ℕ) → is_ended text ≡ true → count ≡ packed_section_count kind text → n ≡ length (filter (is_line_of kind) (lines more))
    → min 2 (min 2 count + min 2 n) ≡ packed_section_count kind (text ++ more)
counted kind text more count n ended e f =
    let twice : (a b : ℕ) → min 2 (min 2 (min 2 a) + min 2 b) ≡ min 2 (min 2 a + min 2 b) = λ a b. omega arith in
    rw (e, f) (twice (length (filter (is_line_of kind) (lines text))) (length (filter (is_line_of kind) (lines more)))) ∙ sym (counted_behind kind text more ended)

-- lines and charstrings with a line behind
pub line_kept : (cuts : List Cut) (texts codes more : List ℕ) (cut subrs glyphs some_subrs some_glyphs : ℕ) → IsPacked cuts texts codes cut subrs glyphs → is_ended more ≡ true
    → some_subrs ≡ length (filter (is_line_of subrs_line) (lines more)) → some_glyphs ≡ length (filter (is_line_of glyphs_line) (lines more))
    → IsPacked cuts (texts ++ more) codes cut (min 2 (min 2 subrs + min 2 some_subrs)) (min 2 (min 2 glyphs + min 2 some_glyphs))
line_kept cuts texts codes more cut subrs glyphs some_subrs some_glyphs p ended e f =
    let same : packed_text cuts (texts ++ more) codes ≡ packed_text cuts texts codes ++ more = packed_more cuts texts codes more (omega (arith, p.lines_before, p.within)) in
    record {
      lines_before = p.lines_before;
      within = omega (arith, p.within, length-append texts more);
      coded = p.coded;
      ended = ap is_ended same ∙ ended_behind (packed_text cuts texts codes) more p.ended ended;
      subrs_are = counted subrs_line (packed_text cuts texts codes) more subrs some_subrs p.ended p.subrs_are e ∙ ap (packed_section_count subrs_line) (sym same);
      glyphs_are = counted glyphs_line (packed_text cuts texts codes) more glyphs some_glyphs p.ended p.glyphs_are f ∙ ap (packed_section_count glyphs_line) (sym same);
    }

cuts_len : (cuts : List Cut) (last : Cut) → (lines_len (cuts ++ last ∷ []) ≡ lines_len cuts + last.lines) × (codes_len (cuts ++ last ∷ []) ≡ codes_len cuts + last.code)
cuts_len [] last = (omega arith, omega arith)
cuts_len (c ∷ cuts) last = let more = cuts_len cuts last in (omega (arith, more.0), omega (arith, more.1))

-- lines and charstrings with a charstring behind
pub words_kept : (cuts : List Cut) (texts codes code : List ℕ) (last : Cut) (cut subrs glyphs some_subrs some_glyphs : ℕ) → IsPacked cuts texts codes cut subrs glyphs
    → cut + last.lines ≡ length texts → last.code ≡ length code
    → some_subrs ≡ length (filter (is_line_of subrs_line) (lines (code_lines code))) → some_glyphs ≡ length (filter (is_line_of glyphs_line) (lines (code_lines code)))
    → IsPacked (cuts ++ last ∷ []) texts (codes ++ code) (length texts) (min 2 (min 2 subrs + min 2 some_subrs)) (min 2 (min 2 glyphs + min 2 some_glyphs))
words_kept cuts texts codes code last cut subrs glyphs some_subrs some_glyphs p whole size e f =
    let same : packed_text (cuts ++ last ∷ []) texts (codes ++ code) ≡ packed_text cuts texts codes ++ code_lines code =
    packed_cut cuts texts codes code last (omega (arith, p.lines_before, whole)) p.coded size in
    record {
      lines_before = omega (arith, (cuts_len cuts last).0, p.lines_before, whole);
      within = omega arith;
      coded = omega (arith, (cuts_len cuts last).1, p.coded, size, length-append codes code);
      ended = ap is_ended same ∙ ended_behind (packed_text cuts texts codes) (code_lines code) p.ended (words_ended (sound_words code)).0;
      subrs_are = counted subrs_line (packed_text cuts texts codes) (code_lines code) subrs some_subrs p.ended p.subrs_are e ∙ ap (packed_section_count subrs_line) (sym same);
      glyphs_are = counted glyphs_line (packed_text cuts texts codes) (code_lines code) glyphs some_glyphs p.ended p.glyphs_are f ∙ ap (packed_section_count glyphs_line) (sym same);
    }

-- whether there are two is known of such a count
pub over_one : (kind : List ℕ → Option Item) (text : List ℕ) (count : ℕ) → count ≡ packed_section_count kind text → ltb 1 count ≡ ltb 1 (length (filter (is_line_of kind) (lines text)))
over_one kind text count e = ap (ltb 1) e ∙ capped (length (filter (is_line_of kind) (lines text))) where
  capped : (n : ℕ) → ltb 1 (min 2 n) ≡ ltb 1 n
  capped n = elim (cases_Bool (ltb 1 n)) [
    | inl t ↦ (let big : 1 < n = ltb-true 1 n t in lt-ltb 1 (min 2 n) (omega (arith, big)) ∙ sym t)
    | inr f ↦ (let small : n ≤ 1 = ltb-false 1 n f in le-ltb 1 (min 2 n) (omega (arith, small)) ∙ sym f)
  ]

-- the first lines and the charstring behind them, and those that are left
pub packed_next : (rest others : List Cut) (cut : Cut) (texts codes : List ℕ) → rest ≡ cut ∷ others
    → packed_text rest texts codes ≡ (take cut.lines texts ++ code_lines (take cut.code codes)) ++ packed_text others (drop cut.lines texts) (drop cut.code codes)
packed_next rest others cut texts codes e =
    ap (λ (cuts : List Cut). packed_text cuts texts codes) e
    ∙ sym (append_assoc (take cut.lines texts) (code_lines (take cut.code codes)) (packed_text others (drop cut.lines texts) (drop cut.code codes)))
