-- Heads of sections, and what stands behind them.
use Rattle.std.proofs.Common.{◌≡◌, ℕ, Bool, true, false, not, ◌==◌, if◌then◌else◌, ◌||◌, ◌+◌, ◌<◌, ◌≤◌, List, [], ◌∷◌, ◌++◌, length, drop, codes, Option, None, Some, option_map, option_and_then, refl, sym, ap, subst, ◌∙◌, inl, inr, arith}
use Rattle.std.proofs.lemmas.Bool.{and_parts, or_parts, cases_Bool}
use Rattle.std.proofs.lemmas.List.{length-drop}
use Rattle.std.specs.List.{list_all, list_any}
use Rattle.std.specs.Prelude.{is_some}
use Rattle.std.specs.Str.{bytes_eq}
use Rattle.t1_frac.specs.Words.{is_blank}
use Rattle.t1_text.specs.Lines.{is_line, is_line_end}
use Rattle.t1_text.specs.Names.{decimal_of, up_to}
use Rattle.t1_text.specs.Tokens.{places_from}
use Rattle.t1_parts.specs.Sections.{glyphs_line, section_at}
use Rattle.t1_disassemble.specs.CutWords.{slashless}
use Rattle.t1_disassemble.specs.Front.{front_line, past_line}
use Rattle.t1_disassemble.specs.Heads.{Head, past_gap_in, past_gap, token_and_rest, next_over, past_word, count_and_rest, behind_name, section_word, head_with, head_at, or_later, head_among, head_over, opens_entry, past_head}
use Rattle.t1_disassemble.specs.Laws.{names_section, fits}
use Rattle.t1_disassemble.specs.PrivateText.{cut_len}
use Rattle.t1_disassemble.specs.Settings.{heads_section, is_section_name}
use Rattle.t1_disassemble.proofs.CutPieces.{IsLeft, left_short, left_twice}
use Rattle.t1_disassemble.proofs.FrontLaws.{line_front}
use Rattle.t1_disassemble.proofs.Fronts.{line_left}
use Rattle.t1_disassemble.proofs.SlashLaws.{free, places_free, count_none, other_key}

-- ---- lines without a slash

pub no_section : (l : List ℕ) → list_all slashless l ≡ true → heads_section l ≡ false
no_section l h =
    let ts = places_free 0 l h in
    ap (λ (o : Option (ℕ × List ℕ)). is_some (option_map (section_at l) o) || is_some (glyphs_line l)) (count_none (codes "Subrs") (codes "array") (places_from 0 l) ts)
    ∙ ap (λ (o : Option (ℕ × List ℕ)). is_some (option_map (section_at l) o)) (count_none (codes "CharStrings") (codes "dict") (places_from 0 l) ts)

pub uncut : (waits : Bool) (l : List ℕ) → list_all slashless l ≡ true → cut_len waits l ≡ None
uncut waits l h = rw (no_section l h) refl

names_none : (bytes : List ℕ) (ts : List (ℕ × List ℕ)) → list_all free ts ≡ true → head_among bytes ts ≡ None
names_none bytes [] h = refl
names_none bytes (t ∷ ts) h =
    let parts = and_parts (free t) (list_all free ts) h in
    rw (other_key t.1 (codes "Subrs") parts.0, other_key t.1 (codes "CharStrings") parts.0) (names_none bytes ts parts.1)

pub no_head : (bytes : List ℕ) → list_all slashless (front_line bytes) ≡ true → head_over bytes ≡ None
no_head bytes h = rw (no_section (front_line bytes) h) (names_none bytes (places_from 0 (front_line bytes)) (places_free 0 (front_line bytes) h))

-- ---- lines that name no section, and section lines

not_name : (t : List ℕ) → is_section_name t ≡ false → section_word t ≡ None
not_name t h = let parts = or_parts (bytes_eq t (codes "/Subrs")) (bytes_eq t (codes "/CharStrings")) h in rw (parts.0, parts.1) refl

names_off : (bytes : List ℕ) (ts : List (ℕ × List ℕ)) → list_any (λ t. is_section_name t.1) ts ≡ false → head_among bytes ts ≡ None
names_off bytes [] h = refl
names_off bytes (t ∷ ts) h =
    let parts = or_parts (is_section_name t.1) (list_any (λ t. is_section_name t.1) ts) h in
    rw (not_name t.1 parts.0) (names_off bytes ts parts.1)

fit_off : (named headed : Bool) → (not named || headed) ≡ true → headed ≡ false → named ≡ false
fit_off true headed h off = absurd (let both : false ≡ true = sym off ∙ h in cc)
fit_off false headed h off = refl

pub headless : (line rest : List ℕ) → is_line line ≡ true → fits line ≡ true → head_over (line ++ 10 ∷ rest) ≡ None
headless line rest whole fit =
    let bytes = line ++ 10 ∷ rest in
    ap (λ (l : List ℕ). if heads_section l then None else head_among bytes (places_from 0 l)) (line_front line rest whole)
    ∙ elim (cases_Bool (heads_section line)) [
      | inl t ↦ rw t refl
      | inr f ↦ rw f (names_off bytes (places_from 0 line) (fit_off (names_section line) (heads_section line) fit f))
    ]

-- ---- what stands behind a head

gap_left : (comment : Bool) (bytes : List ℕ) → IsLeft bytes (past_gap_in comment bytes)
gap_left comment [] = (0, refl)
gap_left true (c ∷ rest) = left_twice (c ∷ rest) rest (past_gap_in (not (is_line_end c)) rest) (1, refl) (gap_left (not (is_line_end c)) rest)
gap_left false (c ∷ rest) = elim (cases_Bool (c == 37)) [
  | inl t ↦ rw t (left_twice (c ∷ rest) rest (past_gap_in true rest) (1, refl) (gap_left true rest))
  | inr f ↦ rw f (elim (cases_Bool (is_blank c)) [
    | inl t ↦ rw t (left_twice (c ∷ rest) rest (past_gap_in false rest) (1, refl) (gap_left false rest))
    | inr g ↦ rw g (0, refl)
  ])
]

token_left : (bytes : List ℕ) (ts : List (ℕ × List ℕ)) (found : List ℕ × List ℕ) → token_and_rest bytes ts ≡ Some found → IsLeft bytes found.1
token_left bytes [] found h = absurd (cc)
token_left bytes (t ∷ ts) found h = let is : (t.1, drop (t.0 + length t.1) bytes) ≡ found = cc in (t.0 + length t.1, ap (λ (f : List ℕ × List ℕ). f.1) (sym is))

next_left : (bytes : List ℕ) (found : List ℕ × List ℕ) → next_over bytes ≡ Some found → IsLeft bytes found.1
next_left bytes found h = left_twice bytes (past_gap bytes) found.1 (gap_left false bytes) (token_left (past_gap bytes) (places_from 0 (past_gap bytes)) found h)

abbrev worded : List ℕ → ℕ → Option (List ℕ × List ℕ) → Option (ℕ × List ℕ)
worded word count next = option_map (λ rest. (count, rest)) (option_and_then (past_word word) next)

word_left : (bytes word : List ℕ) (count : ℕ) (next : Option (List ℕ × List ℕ)) (found : ℕ × List ℕ) → ((g : List ℕ × List ℕ) → next ≡ Some g → IsLeft bytes g.1) → worded word count next ≡ Some found → IsLeft bytes found.1
word_left bytes word count None found each h = absurd (cc)
word_left bytes word count (Some g) found each h = elim (cases_Bool (bytes_eq g.0 word)) [
  | inl t ↦ (let same : Some (count, g.1) ≡ Some found = rw t at h in
      let is : (count, g.1) ≡ found = cc in
      subst (λ (r : List ℕ). IsLeft bytes r) (ap (λ (f : ℕ × List ℕ). f.1) is) (each g refl))
  | inr f ↦ absurd (let none : None ≡ Some found = rw f at h in cc)
]

count_left : (bytes word : List ℕ) (count : Option ℕ) (next : Option (List ℕ × List ℕ)) (found : ℕ × List ℕ) → ((g : List ℕ × List ℕ) → next ≡ Some g → IsLeft bytes g.1)
    → option_and_then (λ n. worded word n next) count ≡ Some found → IsLeft bytes found.1
count_left bytes word None next found each h = absurd (cc)
count_left bytes word (Some n) next found each h = word_left bytes word n next found each h

first_left : (bytes word : List ℕ) (first : Option (List ℕ × List ℕ)) (found : ℕ × List ℕ) → ((f : List ℕ × List ℕ) → first ≡ Some f → IsLeft bytes f.1) → option_and_then (count_and_rest word) first ≡ Some found → IsLeft bytes found.1
first_left bytes word None found each h = absurd (cc)
first_left bytes word (Some f) found each h =
    count_left bytes word (up_to 999999999 (decimal_of f.0)) (next_over f.1) found (λ g is. left_twice bytes f.1 g.1 (each f refl) (next_left f.1 g is)) h

behind_left : (word bytes : List ℕ) (found : ℕ × List ℕ) → behind_name word bytes ≡ Some found → IsLeft bytes found.1
behind_left word bytes found h = first_left bytes word (next_over bytes) found (λ f is. next_left bytes f is) h

-- so much is left of some bytes, of which the first is gone
abbrev Past : List ℕ → List ℕ → Type 0
Past bytes rest = IsLeft bytes rest × (length rest < length bytes)

found_past : (bytes word : List ℕ) (end : ℕ) (h : Head) (found : Option (ℕ × List ℕ)) → 0 < length bytes → 0 < end → ((f : ℕ × List ℕ) → found ≡ Some f → IsLeft (drop end bytes) f.1)
    → option_map (λ f. record { end = end; word = word; count = f.0; rest = f.1 }) found ≡ Some h → Past bytes h.rest
found_past bytes word end h None some far each e = absurd (cc)
found_past bytes word end h (Some f) some far each e =
    let made : Head = record { end = end; word = word; count = f.0; rest = f.1 } in
    let is : made ≡ h = cc in
    let left = each f refl in
    subst (λ (r : List ℕ). Past bytes r) (ap Head.rest is) (left_twice bytes (drop end bytes) f.1 (end, refl) left, omega (arith, left_short (drop end bytes) f.1 left, length-drop end bytes, some, far))

worded_past : (bytes : List ℕ) (end : ℕ) (h : Head) (word : Option (List ℕ)) → 0 < length bytes → (is_some word ≡ true → 0 < end) → option_and_then (head_with bytes end) word ≡ Some h → Past bytes h.rest
worded_past bytes end h None some far e = absurd (cc)
worded_past bytes end h (Some w) some far e = found_past bytes w end h (behind_name w (drop end bytes)) some (far refl) (λ f is. behind_left w (drop end bytes) f is) e

name_long : (t : List ℕ) → is_some (section_word t) ≡ true → 0 < length t
name_long [] h = absurd (cc)
name_long (c ∷ t) h = omega arith

at_past : (bytes : List ℕ) (t : ℕ × List ℕ) (h : Head) → 0 < length bytes → head_at bytes t ≡ Some h → Past bytes h.rest
at_past bytes t h some e = worded_past bytes (t.0 + length t.1) h (section_word t.1) some (λ named. omega (arith, name_long t.1 named)) e

later_past : (bytes : List ℕ) (h : Head) (first other : Option Head) → (first ≡ Some h → Past bytes h.rest) → (other ≡ Some h → Past bytes h.rest) → or_later first other ≡ Some h → Past bytes h.rest
later_past bytes h None other p q e = q e
later_past bytes h (Some head) other p q e = p e

among_past : (bytes : List ℕ) (ts : List (ℕ × List ℕ)) (h : Head) → 0 < length bytes → head_among bytes ts ≡ Some h → Past bytes h.rest
among_past bytes [] h some e = absurd (cc)
among_past bytes (t ∷ ts) h some e = later_past bytes h (head_at bytes t) (head_among bytes ts) (at_past bytes t h some) (among_past bytes ts h some) e

pub head_past : (bytes : List ℕ) (h : Head) → 0 < length bytes → head_over bytes ≡ Some h → IsLeft bytes h.rest × (length h.rest < length bytes)
head_past bytes h some e = elim (cases_Bool (heads_section (front_line bytes))) [
  | inl t ↦ absurd (let none : None ≡ Some h = rw t at e in cc)
  | inr f ↦ among_past bytes (places_from 0 (front_line bytes)) h some (rw f at e)
]

-- what is left after its line
pub past_left : (operator bytes : List ℕ) (h : Head) → IsLeft bytes h.rest → IsLeft bytes (past_head operator h)
past_left operator bytes h left = elim (cases_Bool (opens_entry operator h.rest)) [
  | inl t ↦ rw t left
  | inr f ↦ rw f (left_twice bytes h.rest (past_line h.rest) left (line_left h.rest))
]

-- which is no more than stands behind the head
pub past_short : (operator : List ℕ) (h : Head) → length (past_head operator h) ≤ length h.rest
past_short operator h = left_short h.rest (past_head operator h) (past_left operator h.rest h (0, refl))

-- a piece whose head was read is shorter
pub piece_short : (operator bytes rest : List ℕ) (h : Head) → 0 < length bytes → head_over bytes ≡ Some h → rest ≡ past_head operator h → length rest < length bytes
piece_short operator bytes rest h some is e = omega (arith, ap (λ (l : List ℕ). length l) e, past_short operator h, (head_past bytes h some is).1)
