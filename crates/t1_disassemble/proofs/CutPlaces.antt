-- Of an encrypted part one byte alone may have a fault: the first other byte after its digits.
use Rattle.std.proofs.Common.{◌≡◌, ℕ, ◌+◌, ◌-◌, ◌<◌, ◌≤◌, Bool, true, false, true≢false, ◌&&◌, ◌==◌, ◌||◌, nat_lt, if◌then◌else◌, List, [], ◌∷◌, ◌++◌, take, drop, length, Option, None, Some, Result, Ok, Err, refl, sym, ap, subst, ◌∙◌, length-append, inl, inr, arith}
use Rattle.std.proofs.Math.Numerals.{one-add}
use Rattle.std.proofs.lemmas.Bool.{cases_Bool, eqb-true, ne_eqb, eq-eqb}
use Rattle.std.proofs.lemmas.List.{length-drop}
use Rattle.std.proofs.lemmas.List.Folds.{prefix_len-append}
use Rattle.std.proofs.lemmas.List.Sums.{prefix_len-le-length}
use Rattle.std.specs.List.{prefix_len}
use Rattle.t1_frac.specs.Outcome.{◌>>=◌}
use Rattle.t1_frac.specs.Words.{is_blank}
use Rattle.t1_text.specs.Lines.{lines, joined}
use Rattle.t1_text.specs.Tokens.{places_from}
use Rattle.t1_parts.specs.Parts.{tail_of}
use Rattle.t1_parts.specs.Sections.{subrs_line, glyphs_line}
use Rattle.t1_disassemble.specs.declared.fault.FontCode.{FontCode}
use Rattle.t1_disassemble.specs.declared.fault.FontCode.TheVariants.{D3, D11}
use Rattle.t1_disassemble.specs.declared.fault.FontFault.{FontFault}
use Rattle.t1_disassemble.specs.declared.fault.FontPlace.{FontPlace}
use Rattle.t1_disassemble.specs.declared.fault.FontPlace.TheVariants.{Nowhere, Byte, Entry}
use Rattle.t1_disassemble.specs.declared.fault.FontRefusal.{FontRefusal}
use Rattle.t1_disassemble.specs.declared.fault.FontRefusal.TheVariants as refusals
use Rattle.t1_disassemble.specs.CutDigits.{is_early, is_cut, with_digits}
use Rattle.t1_disassemble.specs.Cuts.{pieces}
use Rattle.t1_disassemble.specs.Decipher.{decrypted_private}
use Rattle.t1_disassemble.specs.Digits.{is_digit_or_blank, digits_len}
use Rattle.t1_disassemble.specs.Disassembly.{coded_bytes, coded_place, tail_after, coded_source}
use Rattle.t1_disassemble.specs.FilePlaced.{place_moved, fault_moved}
use Rattle.t1_disassemble.specs.FilePlaces.{byte_place, place_in_file, in_file}
use Rattle.t1_disassemble.specs.Front.{front_line, is_space, past_spaces}
use Rattle.t1_disassemble.specs.Kinds.{has_second, single_sections}
use Rattle.t1_disassemble.specs.Opening.{Opening, first_opening}
use Rattle.t1_disassemble.specs.Outcome.{RefusesFont, font_fault_at, font_reported_at}
use Rattle.t1_disassemble.specs.PrivateText.{PieceRead, head_line, front_text, entry_piece, opened_piece, read_piece, piece_left, before_text, entry_pieces_text, read_private_text}
use Rattle.t1_disassemble.specs.SegmentsRead.{FontParts}
use Rattle.t1_disassemble.specs.Settings.{reading_operator, leading_bytes}
use Rattle.t1_disassemble.specs.SourceOnto.{source_onto}
use Rattle.t1_disassemble.specs.Words.{words_of_encrypted, printed_words}
use Rattle.t1_disassemble.specs.Standing.{Standing, fresh, judged, lost_place, kept, all_kept}
use Rattle.t1_disassemble.proofs.Sources.{all_stand, source_same}

-- ---- faults that have no byte for a place, but for one

abbrev pub OnlyAt : ℕ → FontPlace → Type 0
OnlyAt n Nowhere = Unit {0}
OnlyAt n (Byte m) = m ≡ n
OnlyAt n (Entry name) = Unit {0}

abbrev pub Only : {X : Type 0} → ℕ → Result X FontFault → Type 0
Only n (Ok x) = Unit {0}
Only n (Err fault) = OnlyAt n fault.place

only_then : {X Y : Type 0} (n : ℕ) (r : Result X FontFault) (f : X → Result Y FontFault) → Only n r → ((x : X) → Only n (f x)) → Only n (r >>= f)
only_then n (Ok x) f h g = g x
only_then n (Err fault) f h g = h

only_nowhere : {X : Type 0} (n : ℕ) (r : Result X FontCode) → Only n (font_reported_at Nowhere r)
only_nowhere n (Ok x) = tt
only_nowhere n (Err code) = tt

only_entry : {X : Type 0} (n : ℕ) (name : List ℕ) (r : Result X FontCode) → Only n (font_reported_at (Entry name) r)
only_entry n name (Ok x) = tt
only_entry n name (Err code) = tt

-- ---- the private text

only_words : (n lead : ℕ) (front : List ℕ) (o : Opening) (bytes : List ℕ) → Only n (entry_piece lead front o bytes)
only_words n lead front o bytes = elim (cases_Bool (nat_lt (length bytes) o.count)) [
  | inl t ↦ rw t tt
  | inr f ↦
      rw f (only_then n (font_reported_at (Entry o.name) (words_of_encrypted lead (take o.count bytes)))
      (λ words. Ok (record { text = front ++ (head_line o.name ++ printed_words false words); waits = true; rest = drop o.count bytes; is_last = false }))
      (only_entry n o.name (words_of_encrypted lead (take o.count bytes))) (λ words. tt))
]

only_opened : (n : ℕ) (operator : List ℕ) (lead : ℕ) (waits : Bool) (bytes : List ℕ) (opening : Option Opening) → Only n (opened_piece operator lead waits bytes opening)
only_opened n operator lead waits bytes None = tt
only_opened n operator lead waits bytes (Some o) = only_words n lead (front_text waits (take o.at bytes)) o (drop (o.end + 1) bytes)

only_before : (n : ℕ) (others : Bool → Result (List ℕ × List ℕ) FontFault) (piece : PieceRead) → ((waits : Bool) → Only n (others waits)) → Only n (before_text others piece)
only_before n others piece h = elim (cases_Bool piece.is_last) [
  | inl t ↦ rw t tt
  | inr f ↦ rw f (only_then n (others piece.waits) (λ more. Ok (piece.text ++ more.0, more.1)) (h piece.waits) (λ more. tt))
]

only_pieces : (n : ℕ) (operator : List ℕ) (lead : ℕ) (froms : List (List ℕ)) (waits : Bool) → Only n (entry_pieces_text operator lead froms waits)
only_pieces n operator lead [] waits = tt
only_pieces n operator lead (from ∷ others) waits =
    only_then n (read_piece operator lead waits from) (before_text (entry_pieces_text operator lead others))
    (only_opened n operator lead waits from (first_opening operator (places_from 0 (front_line from))))
    (λ piece. only_before n (entry_pieces_text operator lead others) piece (λ w. only_pieces n operator lead others w))

only_private : (n : ℕ) (operator : List ℕ) (lead : ℕ) (plain : List ℕ) → Only n (read_private_text operator lead plain)
unfolding read_private_text
only_private n operator lead plain = only_pieces n operator lead (pieces (piece_left operator) plain) false

-- ---- the encrypted part

-- a fault, or that of another byte among digits
abbrev cut_or : Bool → ℕ → FontFault → Result (List ℕ × List ℕ) FontFault
cut_or cut n fault = Err (if cut then font_fault_at (Byte n) D3 else fault)

only_cut_or : (cut : Bool) (n : ℕ) (fault : FontFault) → OnlyAt n fault.place → Only n (cut_or cut n fault)
only_cut_or true n fault h = refl
only_cut_or false n fault h = h

only_digits : (place : ℕ) (coded : List ℕ) (r : Result (List ℕ × List ℕ) FontFault) → Only (place + digits_len coded) r → Only (place + digits_len coded) (with_digits place coded r)
only_digits place coded (Ok x) h = tt
only_digits place coded (Err fault) h = only_cut_or (is_early fault.code && is_cut coded) (place + digits_len coded) fault h

only_single : (n : ℕ) (text : List ℕ) → Only n (single_sections text)
unfolding single_sections
only_single n text = from (has_second subrs_line (lines text) || has_second glyphs_line (lines text)) where
  from : (second : Bool) → Only {X = List ℕ} n (if second then Err (font_fault_at Nowhere D11) else Ok text)
  from true = tt
  from false = tt

only_lost : (n : ℕ) (name : List ℕ) → OnlyAt n (lost_place name)
only_lost n [] = tt
only_lost n (c ∷ name) = tt

only_kept : (n : ℕ) (s : Standing) → Only n (all_kept s)
unfolding all_kept
only_kept n s = from s.lost s.lacks_subrs s.lacks_glyphs (s.reads.is_other || s.leads.is_other) where
  from : (lost : Option (List ℕ)) (subrs glyphs other : Bool) → Only {X = Unit {0}} n (kept lost subrs glyphs other)
  from (Some name) subrs glyphs other = only_lost n name
  from None true glyphs other = tt
  from None false true other = tt
  from None false false true = tt
  from None false false false = tt

-- the lines that were read, and those of the tail
abbrev ended : ℕ → FontParts → List ℕ → List ℕ → List ℕ × List ℕ → Result (List ℕ) FontFault
ended lead parts coded plain private =
    single_sections private.0 >>= λ single. all_stand lead plain >>= λ kept. Ok (private.0 ++ joined (tail_of (lines (tail_after parts coded (4 + (length plain - length private.1))))))

only_source : (parts : FontParts) (coded : List ℕ) → Only (coded_place parts coded + digits_len coded) (coded_source parts coded)
only_source parts coded =
    let plain = decrypted_private (coded_bytes coded) in
    let place = coded_place parts coded in
    let n = place + digits_len coded in
    let read = λ (lead : ℕ). with_digits place coded (read_private_text (reading_operator (lines plain)) lead plain) in
    only_then n (font_reported_at Nowhere (leading_bytes (lines plain))) (λ lead. read lead >>= ended lead parts coded plain)
    (only_nowhere n (leading_bytes (lines plain)))
    (λ lead.
    only_then n (read lead) (ended lead parts coded plain) (only_digits place coded (read_private_text (reading_operator (lines plain)) lead plain) (only_private n (reading_operator (lines plain)) lead plain))
    (λ private.
    let behind = λ (kept : Unit {0}). Ok (private.0 ++ joined (tail_of (lines (tail_after parts coded (4 + (length plain - length private.1)))))) in
    only_then n (single_sections private.0) (λ single. all_stand lead plain >>= behind) (only_single n private.0) (λ single. only_then n (all_stand lead plain) behind (only_kept n (judged (reading_operator (lines plain)) lead plain false (fresh (reading_operator (lines plain)) lead))) (λ kept. tt))))

pub only_cut : (text : List ℕ) (parts : FontParts) (coded : List ℕ) → Only (coded_place parts coded + digits_len coded) (source_onto text parts coded)
only_cut text parts coded =
    let n = coded_place parts coded + digits_len coded in
    subst (λ (r : Result (List ℕ) FontFault). Only n r) (sym (source_same text parts coded))
    (only_then n (coded_source parts coded) (λ more. Ok (text ++ more)) (only_source parts coded) (λ more. tt))

-- ---- the same as a fault of the file

only_place : (file : List ℕ) (place : FontPlace) (n to : ℕ) → to ≡ byte_place file n → OnlyAt n place → place_in_file file place ≡ place_moved to place
only_place file Nowhere n to e h = refl
only_place file (Byte m) n to e h = ap (λ (k : ℕ). Byte (byte_place file k)) h ∙ ap (λ (k : ℕ). Byte k) (sym e)
only_place file (Entry name) n to e h = refl

pub cut_in_file : (file : List ℕ) (refused : FontRefusal) (read : Result (List ℕ) FontFault) (n to : ℕ) → to ≡ byte_place file n → Only n read → RefusesFont refused read
    → RefusesFont (fault_moved to refused) (in_file file read)
cut_in_file file refusals.Memory read n to e only h = tt
cut_in_file file (refusals.Fault fault) read n to e only h =
    let here : OnlyAt n fault.place = subst (λ (r : Result (List ℕ) FontFault). Only n r) h only in
    ap (λ (r : Result (List ℕ) FontFault). in_file file r) h ∙ ap (λ (p : FontPlace). Err (record { code = fault.code; place = p })) (only_place file fault.place n to e here)

-- ---- where that byte is

is_not : (c d : ℕ) → (c == d) ≡ true → is_blank d ≡ true → is_blank c ≡ true
is_not c d t h = ap is_blank (eqb-true c d t) ∙ h

space_blank : (c : ℕ) → is_space c ≡ true → is_blank c ≡ true
space_blank c h = elim (cases_Bool (c == 32)) [
  | inl t ↦ is_not c 32 t refl
  | inr f ↦ elim (cases_Bool (c == 9)) [
    | inl t ↦ is_not c 9 t refl
    | inr g ↦ elim (cases_Bool (c == 13)) [
      | inl t ↦ is_not c 13 t refl
      | inr i ↦ elim (cases_Bool (c == 10)) [
        | inl t ↦ is_not c 10 t refl
        | inr j ↦ (let none : is_space c ≡ false = rw (f, g, i, j) refl in absurd (true≢false (sym h ∙ none)))
      ]
    ]
  ]
]

-- blanks in front of digits count with them
spaces_count : (l : List ℕ) → digits_len l ≡ prefix_len is_space l + digits_len (past_spaces l)
spaces_count [] = refl
spaces_count (c ∷ l) = elim (cases_Bool (is_space c)) [
  | inl t ↦
      let first : is_digit_or_blank c ≡ true = rw (space_blank c t) refl in
      let digits : digits_len (c ∷ l) ≡ 1 + digits_len l = rw first refl in
      let spaces : prefix_len is_space (c ∷ l) ≡ 1 + prefix_len is_space l = rw t refl in
      let past : past_spaces (c ∷ l) ≡ past_spaces l = rw (t, one-add) refl in
      digits ∙ omega (arith, spaces_count l, spaces, ap digits_len past)
  | inr f ↦
      let spaces : prefix_len is_space (c ∷ l) ≡ 0 = rw f refl in
      let past : past_spaces (c ∷ l) ≡ c ∷ l = rw f refl in
      omega (arith, spaces, ap digits_len past)
]

-- the first other byte, of the clear text and the encrypted part
pub cut_place : (clear segments tail : List ℕ) (len : ℕ) → len ≤ length clear
    → len + digits_len (drop len clear ++ segments)
    ≡ coded_place (record { clear = clear; coded = segments; tail = tail }) (past_spaces (drop len clear ++ segments)) + digits_len (past_spaces (drop len clear ++ segments))
cut_place clear segments tail len within =
    let all = drop len clear ++ segments in
    let sp = prefix_len is_space all in
    omega (arith, within, spaces_count all, length-drop sp all, prefix_len-le-length is_space all, length-append (drop len clear) segments, length-drop len clear)

-- the digits of bytes that stand in two places
pub digits_before : (after segments : List ℕ) → digits_len after < length after → digits_len (after ++ segments) ≡ digits_len after
digits_before after segments few = prefix_len-append is_digit_or_blank after segments ∙ rw (ne_eqb (digits_len after) (length after) (omega (arith, few))) refl

pub digits_past : (after segments : List ℕ) → length after ≤ digits_len after → digits_len (after ++ segments) ≡ length after + digits_len segments
digits_past after segments many =
    let all : digits_len after ≡ length after = omega (arith, many, prefix_len-le-length is_digit_or_blank after) in
    prefix_len-append is_digit_or_blank after segments ∙ rw (all, eq-eqb (length after)) refl
