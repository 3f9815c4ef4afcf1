-- The file of a source is assembled again of what is read back of it.
use Rattle.std.proofs.Common.{◌≡◌, ℕ, true, false, ◌^◌, ◌≤◌, ◌<◌, List, [], ◌∷◌, ◌++◌, map, codes, Result, Ok, Err, refl, ap, ◌∙◌}
use Rattle.std.specs.Fmt.{decimal}
use Rattle.std.specs.List.{list_all}
use Rattle.t1_frac.specs.declared.fault.Code.{Code}
use Rattle.t1_frac.specs.declared.fault.Fault.{Fault}
use Rattle.t1_frac.specs.declared.fault.Place.{Place}
use Rattle.t1_frac.specs.declared.fault.Place.TheVariants as places
use Rattle.t1_frac.specs.Outcome.{reported_at, ◌>>=◌}
use Rattle.t1_text.specs.Lines.{begins_with, joined}
use Rattle.t1_code.specs.declared.command.Command.{Command}
use Rattle.t1_code.specs.Charstring.{charstring}
use Rattle.t1_code.specs.Cipher.{encrypted_charstring}
use Rattle.t1_code.specs.Pfa.{pfa_of}
use Rattle.t1_code.specs.Pfb.{entry_text, pfb_of}
use Rattle.t1_code.specs.Words.{commands}
use Rattle.t1_parts.specs.declared.item.Item.{Item}
use Rattle.t1_parts.specs.declared.item.Item.TheVariants.{Plain, Section, Subr, Glyph}
use Rattle.t1_parts.specs.LenIV.{lead}
use Rattle.t1_parts.specs.Operator.{operator}
use Rattle.t1_parts.specs.Printing.{text}
use Rattle.t1_parts.specs.Reading.{reads}
use Rattle.t1_parts.specs.SourceParts.{SourceParts}
use Rattle.t1_source.specs.WellFormed.{IsWellFormed, is_counted}
use Rattle.t1_source.proofs.SourceAgainLaws.{source_again}
use Rattle.t1_font.specs.Assembly.{entry_line, item_line, private_text, trailer_text, file_in, source_file, source_pfa}
use Rattle.t1_disassemble.specs.Laws.{plain_word, plain_item}
use Rattle.t1_disassemble.proofs.AlikeLaws.{commands_alike}
use Rattle.t1_round_trip.specs.ReadBack.{plain_source, raw_of, source_raw, ReadsAsItself, HasBytes, IsAssembledAgain}
use Rattle.t1_round_trip.proofs.Bridges.{made_from, pfb_again, pfa_again, raw_again}
use Rattle.t1_round_trip.proofs.PlainLaws.{Compile, lead_same, operator_same, plain_kept, plain_counted}

-- ---- the same private text

-- a line that was made: its body says commands
record Line (lead : ℕ) (operator : List ℕ) (place : Place) (head : List ℕ) (words : List (List ℕ)) (closing bytes : List ℕ) : Type 0 where
  cs : List Command
  said : commands words ≡ Ok cs
  same : entry_line lead operator place head (map plain_word words) closing ≡ Ok bytes

abbrev made_line : ℕ → List ℕ → Place → List ℕ → List ℕ → Result (List Command) Code → Result (List ℕ) Fault
made_line lead operator place head closing read = reported_at place read >>= λ body. Ok (entry_text head operator (encrypted_charstring lead (charstring body)) closing)

line_from : (lead : ℕ) (operator : List ℕ) (place : Place) (head : List ℕ) (words : List (List ℕ)) (closing bytes : List ℕ) (read : Result (List Command) Code) → commands words ≡ read
    → made_line lead operator place head closing read ≡ Ok bytes → Line lead operator place head words closing bytes
unfolding entry_line
line_from lead operator place head words closing bytes (Ok cs) e h =
    record { cs = cs; said = e; same = ap (made_line lead operator place head closing) (commands_alike words cs e) ∙ h }
line_from lead operator place head words closing bytes (Err code) e h = absurd (cc)

line_of : (lead : ℕ) (operator : List ℕ) (place : Place) (head : List ℕ) (words : List (List ℕ)) (closing bytes : List ℕ) → entry_line lead operator place head words closing ≡ Ok bytes
    → Line lead operator place head words closing bytes
unfolding entry_line
line_of lead operator place head words closing bytes h = line_from lead operator place head words closing bytes (commands words) refl h

-- the texts of items, each body of which says commands, are the same with plain words
record Texts (lead : ℕ) (operator : List ℕ) (items : List Item) (bytes : List ℕ) : Type 0 where
  compile : Compile items
  same : private_text lead operator (map plain_item items) ≡ Ok bytes

parted : (line rest : Result (List ℕ) Fault) (bytes : List ℕ) → (line >>= λ l. rest >>= λ r. Ok (l ++ r)) ≡ Ok bytes → (l : List ℕ) × (r : List ℕ) × (line ≡ Ok l) × (rest ≡ Ok r) × (l ++ r ≡ bytes)
parted (Ok l) (Ok r) bytes h = (l, r, refl, refl, cc)
parted (Ok l) (Err fault) bytes h = absurd (cc)
parted (Err fault) rest bytes h = absurd (cc)

joined_lines : (line rest : Result (List ℕ) Fault) (l r bytes : List ℕ) → line ≡ Ok l → rest ≡ Ok r → l ++ r ≡ bytes → (line >>= λ a. rest >>= λ b. Ok (a ++ b)) ≡ Ok bytes
joined_lines line rest l r bytes p q e = rw (p, q) (ap (λ t. Ok t) e)

texts : (lead : ℕ) (operator : List ℕ) (items : List Item) (bytes : List ℕ) → private_text lead operator items ≡ Ok bytes → Texts lead operator items bytes
texts lead operator [] bytes h = record { compile = tt; same = h }
texts lead operator (Plain line ∷ items) bytes h =
    let p = parted (item_line lead operator (Plain line)) (private_text lead operator items) bytes h in
    let t = texts lead operator items p.1 p.3 in
    record { compile = t.compile; same = joined_lines (item_line lead operator (Plain line)) (private_text lead operator (map plain_item items)) p.0 p.1 bytes p.2 t.same p.4 }
texts lead operator (Section before n after ∷ items) bytes h =
    let p = parted (item_line lead operator (Section before n after)) (private_text lead operator items) bytes h in
    let t = texts lead operator items p.1 p.3 in
    record { compile = t.compile; same = joined_lines (item_line lead operator (Section before n after)) (private_text lead operator (map plain_item items)) p.0 p.1 bytes p.2 t.same p.4 }
texts lead operator (Subr n ws closing ∷ items) bytes h =
    let head = codes "dup " ++ decimal n in
    let p = parted (entry_line lead operator (places.Subr n) head ws closing) (private_text lead operator items) bytes h in
    let t = texts lead operator items p.1 p.3 in
    let l = line_of lead operator (places.Subr n) head ws closing p.0 p.2 in
    record { compile = ((l.cs, l.said), t.compile); same = joined_lines (entry_line lead operator (places.Subr n) head (map plain_word ws) closing) (private_text lead operator (map plain_item items)) p.0 p.1 bytes l.same t.same p.4 }
texts lead operator (Glyph g ws closing ∷ items) bytes h =
    let p = parted (entry_line lead operator (places.Glyph g) (47 ∷ g) ws closing) (private_text lead operator items) bytes h in
    let t = texts lead operator items p.1 p.3 in
    let l = line_of lead operator (places.Glyph g) (47 ∷ g) ws closing p.0 p.2 in
    record { compile = ((l.cs, l.said), t.compile); same = joined_lines (entry_line lead operator (places.Glyph g) (47 ∷ g) (map plain_word ws) closing) (private_text lead operator (map plain_item items)) p.0 p.1 bytes l.same t.same p.4 }

-- ---- the same file

-- in any form: what is made of the private text, which is that of the plain source too
again_in : (form : List ℕ → List ℕ → List ℕ → Result (List ℕ) Fault) (source : SourceParts) (file : List ℕ) → IsWellFormed source → list_all is_counted source.items ≡ true → file_in form source ≡ Ok file
    → (reads (text (plain_source source)) >>= file_in form) ≡ Ok file
again_in form source file w counted h =
    let m = made_from form source file (private_text (lead source) (operator source) source.items) refl h in
    let t = texts (lead source) (operator source) source.items m.private m.said in
    let plain = plain_source source in
    let read : reads (text plain) ≡ Ok plain = source_again plain (plain_kept source w t.compile) (plain_counted source counted) in
    let again : private_text (lead plain) (operator plain) plain.items ≡ Ok m.private =
    ap (λ n. private_text n (operator plain) plain.items) (lead_same source.items) ∙ ap (λ o. private_text (lead source) o plain.items) (operator_same source.items) ∙ t.same
    in
    let made : file_in form plain ≡ Ok file =
    ap (λ (p : Result (List ℕ) Fault). p >>= λ private. form (joined source.clear) private (trailer_text source.tail)) again ∙ m.is
    in
    ap (λ (s : Result SourceParts Fault). s >>= file_in form) read ∙ made

pub file_again : (size : ℕ) (source : SourceParts) (file : List ℕ) → 1 ≤ size → size < 2 ^ 32 → ReadsAsItself source → IsWellFormed source → list_all is_counted source.items ≡ true → source_file size source ≡ Ok file
    → IsAssembledAgain (source_file size) file
unfolding source_file
file_again size source file some short r w counted h =
    record { text = text (plain_source source); read = pfb_again size source file some short r h; assembled = again_in (pfb_of size) source file w counted h }

pub hexadecimal_again : (source : SourceParts) (file : List ℕ) → ReadsAsItself source → HasBytes source → begins_with 128 (joined source.clear) ≡ false → IsWellFormed source → list_all is_counted source.items ≡ true → source_pfa source ≡ Ok file
    → IsAssembledAgain source_pfa file
unfolding source_pfa
hexadecimal_again source file r bytes mark w counted h =
    record { text = text (plain_source source); read = pfa_again source file r bytes mark h; assembled = again_in pfa_of source file w counted h }

pub bare_again : (source : SourceParts) (file : List ℕ) → ReadsAsItself source → begins_with 128 (joined source.clear) ≡ false → IsWellFormed source → list_all is_counted source.items ≡ true → source_raw source ≡ Ok file
    → IsAssembledAgain source_raw file
unfolding source_raw
bare_again source file r mark w counted h =
    record { text = text (plain_source source); read = raw_again source file r mark h; assembled = again_in raw_of source file w counted h }
