-- The pieces of a private text, one after another.
use Rattle.std.proofs.Common.{◌≡◌, ℕ, Bool, false, ltb, if◌then◌else◌, ◌-◌, ◌+◌, ◌<◌, List, [], ◌∷◌, ◌++◌, length, take, drop, Option, None, Some, Result, Ok, Err, refl, sym, ap, ◌∙◌, append_assoc, inl, inr, arith}
use Rattle.std.proofs.lemmas.Bool.{cases_Bool, ne_eqb}
use Rattle.std.proofs.lemmas.List.{length-drop, drop-drop}
use Rattle.t1_frac.specs.Outcome.{◌>>=◌}
use Rattle.t1_text.specs.Tokens.{places_from}
use Rattle.t1_text.proofs.CutLaws.{line_gone}
use Rattle.t1_disassemble.specs.declared.fault.FontCode.{FontCode}
use Rattle.t1_disassemble.specs.declared.fault.FontFault.{FontFault}
use Rattle.t1_disassemble.specs.declared.fault.FontPlace.TheVariants.{Entry}
use Rattle.t1_disassemble.specs.Cuts.{pieces_after, pieces}
use Rattle.t1_disassemble.specs.Front.{front_line, past_line}
use Rattle.t1_disassemble.specs.Heads.{Head, head_over, past_head}
use Rattle.t1_disassemble.specs.Opening.{Opening, first_opening}
use Rattle.t1_disassemble.specs.Outcome.{font_reported_at}
use Rattle.t1_disassemble.specs.PrivateText.{PieceRead, entry_piece, opened_piece, goes_on, past_headed, opened_left, piece_left, before_text, entry_pieces_text, front_text, head_line}
use Rattle.t1_disassemble.specs.PiecesOnto.{entry_left, entry_onto, piece_onto, read_onto, text_onto, private_onto}
use Rattle.t1_disassemble.specs.Words.{words_of_encrypted, printed_words}
use Rattle.t1_disassemble.specs.WordsOnto.{words_onto}
use Rattle.t1_disassemble.proofs.CutPieces.{IsLeft, left_short, left_twice, first_gone, dropped_once, left_pieces}
use Rattle.t1_disassemble.proofs.Fronts.{line_left}
use Rattle.t1_disassemble.proofs.HeadLaws.{head_past, past_left, past_short}

-- what stands after some bytes, of which there is one, is shorter
pub shorter_after : (count end : ℕ) (bytes : List ℕ) → 0 < length bytes → length (drop count (drop (end + 1) bytes)) < length bytes
shorter_after count end bytes some = omega (arith, length-drop count (drop (end + 1) bytes), length-drop (end + 1) bytes, some)

-- the bytes after two runs are those after so many as are gone
pub dropped_twice : (count end : ℕ) (bytes : List ℕ) → drop (length bytes - length (drop count (drop (end + 1) bytes))) bytes ≡ drop count (drop (end + 1) bytes)
dropped_twice count end bytes =
    ap (λ (l : List ℕ). drop (length bytes - length l) bytes) (drop-drop count (end + 1) bytes) ∙ dropped_once (end + 1 + count) bytes ∙ sym (drop-drop count (end + 1) bytes)

-- ---- what a piece leaves

-- some bytes are dropped, the first one among them
pub opening_left : (operator : List ℕ) (c : ℕ) (bytes : List ℕ) (opening : Option Opening) → IsLeft bytes (opened_left operator (c ∷ bytes) opening)
opening_left operator c bytes None = elim (cases_Bool (goes_on operator (c ∷ bytes))) [
  | inl t ↦ rw t (first_gone c bytes (past_line (past_line (c ∷ bytes))) (left_twice (c ∷ bytes) (past_line (c ∷ bytes)) (past_line (past_line (c ∷ bytes))) (line_left (c ∷ bytes)) (line_left (past_line (c ∷ bytes))))
      (omega (arith, line_gone (c ∷ bytes) (omega arith), left_short (past_line (c ∷ bytes)) (past_line (past_line (c ∷ bytes))) (line_left (past_line (c ∷ bytes))))))
  | inr f ↦ rw f (headed (head_over (c ∷ bytes)) (λ h is. head_past (c ∷ bytes) h (omega arith) is))
]
  where
    headed : (found : Option Head) → ((h : Head) → found ≡ Some h → IsLeft (c ∷ bytes) h.rest × (length h.rest < length (c ∷ bytes))) → IsLeft bytes (past_headed operator (c ∷ bytes) found)
    headed None each = first_gone c bytes (past_line (c ∷ bytes)) (line_left (c ∷ bytes)) (line_gone (c ∷ bytes) (omega arith))
    headed (Some h) each =
        let past = each h refl in
        first_gone c bytes (past_head operator h) (past_left operator (c ∷ bytes) h past.0) (omega (arith, past.1, past_short operator h))
opening_left operator c bytes (Some o) =
    first_gone c bytes (drop o.count (drop (o.end + 1) (c ∷ bytes)))
    (left_twice (c ∷ bytes) (drop (o.end + 1) (c ∷ bytes)) (drop o.count (drop (o.end + 1) (c ∷ bytes))) (o.end + 1, refl) (o.count, refl))
    (shorter_after o.count o.end (c ∷ bytes) (omega arith))

-- a piece leaves these bytes
abbrev Leaves : List ℕ → Result PieceRead FontFault → Type 0
Leaves rest (Ok piece) = rest ≡ piece.rest
Leaves rest (Err fault) = Unit {0}

entry_leaves : (lead : ℕ) (front : List ℕ) (o : Opening) (bytes : List ℕ) → Leaves (drop o.count bytes) (entry_piece lead front o bytes)
entry_leaves lead front o bytes = elim (cases_Bool (ltb (length bytes) o.count)) [
  | inl t ↦ rw t tt
  | inr f ↦ rw f (said (words_of_encrypted lead (take o.count bytes)))
]
  where
    said : (words : Result (List (List ℕ)) FontCode) → Leaves (drop o.count bytes) (font_reported_at (Entry o.name) words >>= λ ws. Ok (entry_left (front ++ (head_line o.name ++ printed_words false ws)) (drop o.count bytes)))
    said (Ok ws) = refl
    said (Err code) = tt

piece_leaves : (operator : List ℕ) (lead : ℕ) (waits : Bool) (bytes : List ℕ) (opening : Option Opening) → Leaves (opened_left operator bytes opening) (opened_piece operator lead waits bytes opening)
piece_leaves operator lead waits bytes None = refl
piece_leaves operator lead waits bytes (Some o) = entry_leaves lead (front_text waits (take o.at bytes)) o (drop (o.end + 1) bytes)

-- ---- a piece after a text

abbrev onto : List ℕ → PieceRead → PieceRead
onto text piece = record { text = text ++ piece.text; waits = piece.waits; rest = piece.rest; is_last = piece.is_last }

entry_same : (lead : ℕ) (text front : List ℕ) (o : Opening) (bytes : List ℕ) → entry_onto lead (text ++ front) o bytes ≡ (entry_piece lead front o bytes >>= λ piece. Ok (onto text piece))
entry_same lead text front o bytes = elim (cases_Bool (ltb (length bytes) o.count)) [
  | inl t ↦ rw t refl
  | inr f ↦ rw f (said (words_of_encrypted lead (take o.count bytes)))
]
  where
    rest : List ℕ
    rest = drop o.count bytes

    said : (words : Result (List (List ℕ)) FontCode)
        → (font_reported_at (Entry o.name) (words_onto ((text ++ front) ++ head_line o.name) false words) >>= λ all. Ok (entry_left all rest))
        ≡ ((font_reported_at (Entry o.name) words >>= λ ws. Ok (entry_left (front ++ (head_line o.name ++ printed_words false ws)) rest)) >>= λ piece. Ok (onto text piece))
    said (Ok ws) =
        ap (λ (t : List ℕ). Ok (entry_left t rest)) (append_assoc (text ++ front) (head_line o.name) (printed_words false ws) ∙ append_assoc text front (head_line o.name ++ printed_words false ws))
    said (Err code) = refl

piece_same : (operator : List ℕ) (lead : ℕ) (text : List ℕ) (waits : Bool) (bytes : List ℕ) (opening : Option Opening) → piece_onto operator lead text waits bytes opening ≡ (opened_piece operator lead waits bytes opening >>= λ piece. Ok (onto text piece))
piece_same operator lead text waits bytes None = refl
piece_same operator lead text waits bytes (Some o) = entry_same lead text (front_text waits (take o.at bytes)) o (drop (o.end + 1) bytes)

-- ---- the first piece, and those after it

-- all that is read, or what comes after a piece
abbrev pub go_on : (List ℕ → Bool → List ℕ → Result (List ℕ × List ℕ) FontFault) → PieceRead → Result (List ℕ × List ℕ) FontFault
go_on next piece = if piece.is_last then Ok (piece.text, piece.rest) else next piece.text piece.waits piece.rest

regrouped : (text front : List ℕ) (others : Result (List ℕ × List ℕ) FontFault) → text_onto text (others >>= λ more. Ok (front ++ more.0, more.1)) ≡ text_onto (text ++ front) others
regrouped text front (Ok found) = ap (λ (t : List ℕ). Ok (t, found.1)) (sym (append_assoc text front found.0))
regrouped text front (Err fault) = refl

onto_more : (operator : List ℕ) (lead : ℕ) (text rest : List ℕ) (piece : PieceRead) → rest ≡ piece.rest
    → text_onto text (before_text (entry_pieces_text operator lead (pieces (piece_left operator) rest)) piece) ≡ go_on (private_onto operator lead) (onto text piece)
unfolding private_onto
onto_more operator lead text rest piece e = elim (cases_Bool piece.is_last) [
  | inl t ↦ rw t refl
  | inr f ↦ rw f (regrouped text piece.text (entry_pieces_text operator lead (pieces (piece_left operator) rest) piece.waits)
      ∙ ap (λ (l : List ℕ). text_onto (text ++ piece.text) (entry_pieces_text operator lead (pieces (piece_left operator) l) piece.waits)) e)
]

then_more : (operator : List ℕ) (lead : ℕ) (text rest : List ℕ) (read : Result PieceRead FontFault) → Leaves rest read
    → text_onto text (read >>= before_text (entry_pieces_text operator lead (pieces (piece_left operator) rest))) ≡ ((read >>= λ piece. Ok (onto text piece)) >>= go_on (private_onto operator lead))
then_more operator lead text rest (Ok piece) e = onto_more operator lead text rest piece e
then_more operator lead text rest (Err fault) e = refl

read_more : (operator : List ℕ) (lead : ℕ) (text : List ℕ) (waits : Bool) (c : ℕ) (bytes : List ℕ) (opening : Option Opening)
    → text_onto text (opened_piece operator lead waits (c ∷ bytes) opening >>= before_text (entry_pieces_text operator lead (pieces_after (piece_left operator) (length bytes - length (opened_left operator (c ∷ bytes) opening)) bytes)))
    ≡ (piece_onto operator lead text waits (c ∷ bytes) opening >>= go_on (private_onto operator lead))
read_more operator lead text waits c bytes opening =
    let rest = opened_left operator (c ∷ bytes) opening in
    let read = opened_piece operator lead waits (c ∷ bytes) opening in
    ap (λ (froms : List (List ℕ)). text_onto text (read >>= before_text (entry_pieces_text operator lead froms))) (left_pieces (piece_left operator) bytes rest (opening_left operator c bytes opening))
    ∙ then_more operator lead text rest read (piece_leaves operator lead waits (c ∷ bytes) opening)
    ∙ ap (λ (r : Result PieceRead FontFault). r >>= go_on (private_onto operator lead)) (sym (piece_same operator lead text waits (c ∷ bytes) opening))

pub private_more : (operator : List ℕ) (lead : ℕ) (text : List ℕ) (waits : Bool) (bytes : List ℕ)
    → private_onto operator lead text waits bytes ≡ (read_onto operator lead text waits bytes >>= go_on (private_onto operator lead))
unfolding private_onto read_onto
private_more operator lead text waits [] = refl
private_more operator lead text waits (c ∷ bytes) =
    rw (ne_eqb (length (c ∷ bytes)) 0 (omega arith)) (read_more operator lead text waits c bytes (first_opening operator (places_from 0 (front_line (c ∷ bytes)))))
