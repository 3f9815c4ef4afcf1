-- How long the parts of a PFB file can be.
use Rattle.std.proofs.Common.{◌≡◌, ℕ, ◌+◌, ◌*◌, ◌^◌, ◌<◌, ◌≤◌, ◌-◌, min, max, List, [], ◌∷◌, ◌++◌, length, decimal, replicate, length-append, IfOk, Result, Ok, Err, refl, ap, sym, ◌∙◌, arith}
use Rattle.std.specs.Prelude.{IsOk}
use Rattle.std.proofs.lemmas.Fmt.{length-decimal-le}
use Rattle.std.proofs.lemmas.List.{length-replicate}
use Rattle.t1_frac.specs.declared.fault.Code.{Code}
use Rattle.t1_frac.specs.declared.fault.Fault.{Fault}
use Rattle.t1_frac.specs.declared.fault.Refusal.{Refusal}
use Rattle.t1_frac.specs.declared.fault.Refusal.TheVariants as refusals
use Rattle.t1_frac.specs.declared.fault.Place.{Place}
use Rattle.t1_frac.specs.declared.fault.Code.TheVariants.{F23}
use Rattle.t1_frac.specs.declared.fault.Place.TheVariants as places
use Rattle.t1_frac.specs.declared.fault.Place.TheVariants.{Nowhere}
use Rattle.t1_frac.specs.Outcome.{fault_at, reported_at, ◌>>=◌, Refuses}
use Rattle.t1_parts.specs.declared.item.Item.{Item}
use Rattle.t1_parts.specs.declared.item.Item.TheVariants.{Plain, Section, Subr, Glyph}
use Rattle.t1_parts.specs.SourceParts.{SourceParts}
use Rattle.t1_text.specs.Lines.{joined}
use Rattle.t1_parts.specs.LenIV.{lead}
use Rattle.t1_parts.specs.Operator.{operator}
use Rattle.t1_code.specs.declared.command.Command.{Command}
use Rattle.t1_code.specs.Charstring.{charstring}
use Rattle.t1_code.specs.Cipher.{encrypted_charstring}
use Rattle.t1_code.specs.Cipher.{eexec}
use Rattle.t1_code.specs.Pfb.{closing_text, entry_text, whole_file}
use Rattle.t1_code.specs.Words.{commands}
use Rattle.t1_code.proofs.Encrypting.{length-cipher, length-eexec}
use Rattle.t1_code.proofs.Framing.{fits, long_part, no_long_part}
use Rattle.t1_code.proofs.Lengths.{compiled_short}
use Rattle.t1_font.specs.Bodies.{bodies_check, body_check, words_check}
use Rattle.t1_font.specs.Assembly.{entry_line, file_check, length_check, item_line, private_text, source_file, trailer_text}
use Rattle.t1_font.specs.Lengths.{private_length}

closing_short : (closing : List ℕ) → length (closing_text closing) ≤ length closing + 1
closing_short [] = omega arith
closing_short (byte ∷ bytes) = omega arith

entry_short : (head name code closing : List ℕ) → length code < 2 ^ 32
    → length (entry_text head name code closing) ≤ length head + length name + length code + length closing + 20
entry_short head name code closing h =
    let digits = length-decimal-le 10 (length code) (omega arith) (omega arith) (omega arith) in
    let end = closing_short closing in
    let a = 32 ∷ decimal (length code) in
    let b = 32 ∷ name in
    let c = 32 ∷ code in
    let d = closing_text closing in
    let size : length (head ++ a ++ b ++ c ++ d ++ 10 ∷ []) ≤ length head + length name + length code + length closing + 20 =
    omega (arith, digits, end, length-append head a, length-append (head ++ a) b, length-append (head ++ a ++ b) c, length-append (head ++ a ++ b ++ c) d, length-append (head ++ a ++ b ++ c ++ d) (10 ∷ [])) in
    size

within_of : (front : ℕ) (name head closing : List ℕ) (n most : ℕ) (place : Place) (r : Result (List Command) Code)
    → ((read : List Command) → r ≡ Ok read → length (charstring read) ≤ 5 * n)
    → front ≤ 255 → most < 2 ^ 31 → front + length name + length head + 5 * n + length closing + 40 ≤ most
    → IfOk (reported_at place r >>= λ body. Ok (entry_text head name (encrypted_charstring front (charstring body)) closing)) (λ line. length line ≤ most)
within_of front name head closing n most place (Ok read) short small below room =
    let code = short read refl in
    let wide : length (encrypted_charstring front (charstring read)) ≡ front + length (charstring read) =
    length-cipher 4330 (replicate front 0 ++ charstring read) ∙ omega (arith, length-append (replicate front 0) (charstring read), length-replicate {A = ℕ} front 0) in
    let line = entry_short head name (encrypted_charstring front (charstring read)) closing (omega (arith, wide)) in
    omega (arith, wide, line)
within_of front name head closing n most place (Err code) short small below room = tt

-- an entry's line is at most so long
pub entry_within : (lead : ℕ) (operator : List ℕ) (place : Place) (head : List ℕ) (words : List (List ℕ)) (closing : List ℕ) (most : ℕ)
    → lead ≤ 255 → most < 2 ^ 31 → lead + length operator + length head + 5 * length words + length closing + 40 ≤ most
    → IfOk (entry_line lead operator place head words closing) (λ line. length line ≤ most)
unfolding entry_line
entry_within lead operator place head words closing most small below room =
    within_of lead operator head closing (length words) most place (commands words) (compiled_short words) small below room

more_within : (line more : Result (List ℕ) Fault) (whole seen : List ℕ) (most left total : ℕ)
    → IfOk line (λ bytes. length bytes ≤ most) → ◌≡◌ {A = Result (List ℕ) Fault} (line >>= λ bytes. more >>= λ rest. Ok (bytes ++ rest)) (Ok seen)
    → length whole ≤ left + length seen → left + most ≤ total
    → (rest : List ℕ) × (more ≡ Ok rest) × (length whole ≤ total + length rest)
more_within (Ok bytes) (Ok rest) whole seen most left total within h before room =
    let e : bytes ++ rest ≡ seen = cc in
    (rest, refl, omega (arith, length-append bytes rest, ap (λ (l : List ℕ). length l) e))
more_within (Ok bytes) (Err fault) whole seen most left total within h before room = absurd (cc)
more_within (Err fault) more whole seen most left total within h before room = absurd (cc)

-- a line that is at most so long, and the text of the items after it
pub text_within : (front : ℕ) (name : List ℕ) (item : Item) (items : List Item) (whole seen : List ℕ) (most left total : ℕ)
    → IfOk (item_line front name item) (λ line. length line ≤ most) → private_text front name (item ∷ items) ≡ Ok seen
    → length whole ≤ left + length seen → left + most ≤ total
    → (rest : List ℕ) × (private_text front name items ≡ Ok rest) × (length whole ≤ total + length rest)
text_within front name item items whole seen most left total within h before room =
    more_within (item_line front name item) (private_text front name items) whole seen most left total within h before room

-- ---- the faults of the bodies are those of the private text

checked_body : {A : Type 0} → (r : Result A Fault) (f : A → List ℕ)
    → ◌≡◌ {A = Result (Unit {0}) Fault} (r >>= λ body. Ok tt) ((r >>= λ body. Ok (f body)) >>= λ line. Ok tt)
checked_body (Ok body) f = refl
checked_body (Err fault) f = refl

checked_item : (lead : ℕ) (operator : List ℕ) (item : Item) → body_check item ≡ (item_line lead operator item >>= λ line. Ok tt)
unfolding words_check entry_line
checked_item lead operator (Plain line) = refl
checked_item lead operator (Section before count after) = refl
checked_item lead operator (Subr number words closing) = checked_body (reported_at (places.Subr number) (commands words)) _
checked_item lead operator (Glyph name words closing) = checked_body (reported_at (places.Glyph name) (commands words)) _

checked_both : (a b : Result (List ℕ) Fault)
    → ◌≡◌ {A = Result (Unit {0}) Fault} ((a >>= λ line. Ok (tt {0})) >>= λ x. (b >>= λ rest. Ok (tt {0}))) ((a >>= λ line. b >>= λ rest. Ok (line ++ rest)) >>= λ text. Ok (tt {0}))
checked_both (Ok line) (Ok rest) = refl
checked_both (Ok line) (Err fault) = refl
checked_both (Err fault) b = refl

pub checked_text : (lead : ℕ) (operator : List ℕ) (items : List Item) → bodies_check items ≡ (private_text lead operator items >>= λ text. Ok tt)
checked_text lead operator [] = refl
checked_text lead operator (item ∷ items) =
    rw (checked_item lead operator item, checked_text lead operator items) (checked_both (item_line lead operator item) (private_text lead operator items))

text_of : (r : Result (List ℕ) Fault) → ◌≡◌ {A = Result (Unit {0}) Fault} (r >>= λ text. Ok tt) (Ok tt) → (text : List ℕ) × (r ≡ Ok text)
text_of (Ok text) h = (text, refl)
text_of (Err fault) h = absurd (cc)

fault_of : (r : Result (List ℕ) Fault) (fault : Fault) → ◌≡◌ {A = Result (Unit {0}) Fault} (r >>= λ text. Ok tt) (Err fault) → r ≡ Err fault
fault_of (Ok text) fault h = absurd (cc)
fault_of (Err other) fault h = cc

-- the first fault of a body is the file's
pub body_fault_reported : (source : SourceParts) (fault : Fault) → bodies_check source.items ≡ Err fault → file_check source ≡ Err fault
unfolding file_check length_check source_file
body_fault_reported source fault h =
    let known = fault_of (private_text (lead source) (operator source) source.items) fault (sym (checked_text (lead source) (operator source) source.items) ∙ h) in
    rw known refl

-- the bodies are judged before the file
pub bodies_first : (s : SourceParts) (r : Result (Unit {0}) Fault) → bodies_check s.items ≡ r → ◌≡◌ {A = Result (Unit {0}) Fault} (file_check s) (r >>= λ checked. file_check s)
bodies_first s (Ok checked) e = refl
bodies_first s (Err fault) e = body_fault_reported s fault e

pub judged_in_turn : (a b f : Result (Unit {0}) Fault) → ◌≡◌ {A = Result (Unit {0}) Fault} ((a >>= λ first. b) >>= λ second. f) (a >>= λ first. b >>= λ second. f)
judged_in_turn (Ok done) b f = refl
judged_in_turn (Err fault) b f = refl

-- parts that aren't too long have their file
pub short_file : (source : SourceParts) (private : ℕ) → bodies_check source.items ≡ Ok tt
    → IfOk (private_text (lead source) (operator source) source.items) (λ text. length text ≤ private)
    → length (joined source.clear) < 2 ^ 31 → private + 4 < 2 ^ 31 → length (joined source.tail) + 520 < 2 ^ 31
    → IsOk (source_file whole_file source)
unfolding source_file
short_file source private h within clear_short private_short tail_short =
    let known = text_of (private_text (lead source) (operator source) source.items) (sym (checked_text (lead source) (operator source) source.items) ∙ h) in
    let text = known.0 in
    let size : length text ≤ private = rw known.1 at within in
    let whole = fits whole_file (joined source.clear) text (trailer_text source.tail) (omega (arith, length-eexec text)) in
    rw (known.1, whole) refl

checked_from : (r : Result (List ℕ) Fault) → IsOk r → ◌≡◌ {A = Result (Unit {0}) Fault} (r >>= λ file. Ok tt) (Ok tt)
checked_from (Ok file) h = refl
checked_from (Err fault) h = absurd (cc)

pub length_checked : (source : SourceParts) → IsOk (source_file whole_file source) → length_check source ≡ Ok tt
unfolding length_check
length_checked source h = checked_from (source_file whole_file source) h

-- a part of the file is too long, or none is
pub long_reported : (s : SourceParts) (text : List ℕ) → private_text (lead s) (operator s) s.items ≡ Ok text
    → 2 ^ 31 - 1 < max (max (length (joined s.clear)) (length (eexec text))) (length (trailer_text s.tail)) → length_check s ≡ Err (fault_at Nowhere F23)
unfolding length_check source_file
long_reported s text known h = rw (known, long_part (joined s.clear) text (trailer_text s.tail) h) refl

pub short_reported : (s : SourceParts) (text : List ℕ) → private_text (lead s) (operator s) s.items ≡ Ok text
    → max (max (length (joined s.clear)) (length (eexec text))) (length (trailer_text s.tail)) ≤ 2 ^ 31 - 1 → length_check s ≡ Ok tt
unfolding length_check source_file
short_reported s text known h = rw (known, no_long_part (joined s.clear) text (trailer_text s.tail) h) refl

unlength : (r : Result (List ℕ) Fault) (fault : Fault) → ◌≡◌ {A = Result ℕ Fault} (r >>= λ text. Ok (min (length text) (2 ^ 64 - 1))) (Err fault) → r ≡ Err fault
unlength (Ok text) fault h = absurd (cc)
unlength (Err other) fault h = cc

-- a fault that the length of the private text meets is the file's
pub length_faulty : (s : SourceParts) (refused : Refusal) → Refuses refused (private_length (lead s) (operator s) s.items) → Refuses refused (length_check s)
unfolding length_check source_file
length_faulty s refusals.Memory h = tt
length_faulty s (refusals.Fault fault) h = rw (unlength (private_text (lead s) (operator s) s.items) fault h) refl

-- what is refused for the length of a part is refused for the file
pub length_refused : (s : SourceParts) (refused : Refusal) → Refuses refused (length_check s) → Refuses refused (file_check s)
unfolding file_check
length_refused s refusals.Memory h = tt
length_refused s (refusals.Fault fault) h = rw h refl
