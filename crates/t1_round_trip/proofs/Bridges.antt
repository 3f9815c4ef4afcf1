-- The file of a source in the words of the crate that reads it.
use Rattle.std.proofs.Common.{◌≡◌, ℕ, Bool, true, false, ◌^◌, ◌≤◌, ◌<◌, if◌then◌else◌, List, [], ◌∷◌, ◌++◌, map, replicate, codes, Result, Ok, Err, refl, sym, ap, ◌∙◌, subst, append_assoc, append-nil}
use Rattle.std.specs.Fmt.{decimal}
use Rattle.std.specs.List.{list_all}
use Rattle.t1_frac.specs.declared.fault.Code.{Code}
use Rattle.t1_frac.specs.declared.fault.Code.TheVariants.{F23}
use Rattle.t1_frac.specs.declared.fault.Fault.{Fault}
use Rattle.t1_frac.specs.declared.fault.Place.{Place}
use Rattle.t1_frac.specs.declared.fault.Place.TheVariants as places
use Rattle.t1_frac.specs.Outcome.{fault_at, reported_at, ◌>>=◌}
use Rattle.t1_text.specs.Lines.{begins_with, is_line, lines, joined}
use Rattle.t1_text.proofs.TextLaws.{lines_joined}
use Rattle.t1_code.specs.declared.command.Command.{Command}
use Rattle.t1_code.specs.Charstring.{charstring}
use Rattle.t1_code.specs.Cipher.{encrypted_charstring, encrypted_words}
use Rattle.t1_code.specs.Pfa.{pfa, pfa_of}
use Rattle.t1_code.specs.Pfb.{entry_text, pfb, pfb_of, has_long_part}
use Rattle.t1_code.specs.Words.{commands}
use Rattle.t1_parts.specs.declared.item.Item.{Item}
use Rattle.t1_parts.specs.declared.item.Item.TheVariants.{Plain, Section, Subr, Glyph}
use Rattle.t1_parts.specs.LenIV.{lead}
use Rattle.t1_parts.specs.Operator.{operator}
use Rattle.t1_parts.specs.Parts.{tail_of}
use Rattle.t1_parts.specs.Printing.{text}
use Rattle.t1_parts.specs.SourceParts.{SourceParts}
use Rattle.t1_font.specs.Assembly.{entry_line, item_line, private_text, trailer_text, source_file, source_pfa}
use Rattle.t1_disassemble.specs.Disassembly.{disassembled}
use Rattle.t1_disassemble.specs.Laws.{plain_item, item_text, items_text, raw_file, AreBytes}
use Rattle.t1_disassemble.proofs.DigitFileLaws.{digits_again}
use Rattle.t1_disassemble.proofs.FlatFileLaws.{raw_again as bare_again, text_again}
use Rattle.t1_disassemble.proofs.WholeLaws.{file_again}
use Rattle.t1_round_trip.specs.ReadBack.{plain_source, raw_of, source_raw, ReadsAsItself, HasBytes}

-- ---- items

entry_from : (lead : ℕ) (operator : List ℕ) (place : Place) (head closing bytes : List ℕ) (read : Result (List Command) Code)
    → (reported_at place read >>= λ body. Ok (entry_text head operator (encrypted_charstring lead (charstring body)) closing)) ≡ Ok bytes
    → (((read >>= λ cs. Ok (charstring cs)) >>= λ plain. Ok (encrypted_charstring lead plain)) >>= λ code. Ok (entry_text head operator code closing)) ≡ Ok bytes
entry_from lead operator place head closing bytes (Ok cs) h = ap (λ b. Ok b) (same h) where
  same : ◌≡◌ {A = Result (List ℕ) Fault} (Ok (entry_text head operator (encrypted_charstring lead (charstring cs)) closing)) (Ok bytes) → entry_text head operator (encrypted_charstring lead (charstring cs)) closing ≡ bytes
  same e = cc
entry_from lead operator place head closing bytes (Err code) h = absurd (cc)

entry_bytes : (lead : ℕ) (operator : List ℕ) (place : Place) (head : List ℕ) (words : List (List ℕ)) (closing bytes : List ℕ) → entry_line lead operator place head words closing ≡ Ok bytes
    → (encrypted_words lead words >>= λ code. Ok (entry_text head operator code closing)) ≡ Ok bytes
unfolding entry_line encrypted_words
entry_bytes lead operator place head words closing bytes h = entry_from lead operator place head closing bytes (commands words) h

same_ok : (a b : List ℕ) → ◌≡◌ {A = Result (List ℕ) Fault} (Ok a) (Ok b) → ◌≡◌ {A = Result (List ℕ) Code} (Ok a) (Ok b)
same_ok a b h = let is : a ≡ b = cc in ap (λ (l : List ℕ). Ok l) is

item_bytes : (lead : ℕ) (operator : List ℕ) (item : Item) (bytes : List ℕ) → item_line lead operator item ≡ Ok bytes → item_text lead operator item ≡ Ok bytes
item_bytes lead operator (Plain line) bytes h = same_ok (line ++ 10 ∷ []) bytes h
item_bytes lead operator (Section before count after) bytes h = same_ok ((before ++ decimal count ++ after) ++ 10 ∷ []) bytes h
item_bytes lead operator (Subr number words closing) bytes h = entry_bytes lead operator (places.Subr number) (codes "dup " ++ decimal number) words closing bytes h
item_bytes lead operator (Glyph name words closing) bytes h = entry_bytes lead operator (places.Glyph name) (47 ∷ name) words closing bytes h

-- the private text of a source: that of its items, and the line that closes it
record Cut (lead : ℕ) (operator : List ℕ) (items : List Item) (last private : List ℕ) : Type 0 where
  bytes : List ℕ
  made : items_text lead operator items ≡ Ok bytes
  whole : private ≡ bytes ++ (last ++ 10 ∷ [])

cut_none : (lead : ℕ) (operator last private : List ℕ) → ◌≡◌ {A = Result (List ℕ) Fault} (Ok ((last ++ 10 ∷ []) ++ [])) (Ok private) → Cut lead operator [] last private
cut_none lead operator last private h = let is : (last ++ 10 ∷ []) ++ [] ≡ private = cc in record { bytes = []; made = refl; whole = sym is ∙ append-nil (last ++ 10 ∷ []) }

cut_more : (lead : ℕ) (operator : List ℕ) (item : Item) (items : List Item) (last private : List ℕ) (line rest : Result (List ℕ) Fault) → item_line lead operator item ≡ line
    → ((r : List ℕ) → rest ≡ Ok r → Cut lead operator items last r) → (line >>= λ l. rest >>= λ r. Ok (l ++ r)) ≡ Ok private → Cut lead operator (item ∷ items) last private
cut_more lead operator item items last private (Ok l) (Ok r) e each h =
    let c = each r refl in
    let is : l ++ r ≡ private = cc in
    record {
      bytes = l ++ c.bytes;
      made = joined_texts (item_text lead operator item) (items_text lead operator items) l c.bytes (item_bytes lead operator item l e) c.made;
      whole = sym is ∙ ap (λ t. l ++ t) c.whole ∙ sym (append_assoc l c.bytes (last ++ 10 ∷ []));
    }
  where
    joined_texts : (one other : Result (List ℕ) Code) (a b : List ℕ) → one ≡ Ok a → other ≡ Ok b → (one >>= λ t. other >>= λ ts. Ok (t ++ ts)) ≡ Ok (a ++ b)
    joined_texts one other a b p q = rw (p, q) refl
cut_more lead operator item items last private (Ok l) (Err fault) e each h = absurd (cc)
cut_more lead operator item items last private (Err fault) rest e each h = absurd (cc)

cut_private : (lead : ℕ) (operator : List ℕ) (items : List Item) (last private : List ℕ) → private_text lead operator (items ++ Plain last ∷ []) ≡ Ok private → Cut lead operator items last private
cut_private lead operator [] last private h = cut_none lead operator last private h
cut_private lead operator (item ∷ items) last private h =
    cut_more lead operator item items last private (item_line lead operator item) (private_text lead operator (items ++ Plain last ∷ [])) refl (cut_private lead operator items last) h

-- ---- the tail

tail_again : (tail : List (List ℕ)) → list_all is_line tail ≡ true → tail_of tail ≡ tail → tail_of (lines (trailer_text tail)) ≡ tail
unfolding tail_of
tail_again tail h same = ap tail_of (lines_joined (replicate 8 (replicate 64 48) ++ tail) h) ∙ same

-- ---- files

unmade : (long : Bool) (made file : List ℕ) → (if long then Err (fault_at places.Nowhere F23) else Ok made) ≡ Ok file → made ≡ file
unmade true made file h = absurd (cc)
unmade false made file h = cc

pub record Made (form : List ℕ → List ℕ → List ℕ → Result (List ℕ) Fault) (source : SourceParts) (file : List ℕ) : Type 0 where
  pub private : List ℕ
  pub said : private_text (lead source) (operator source) source.items ≡ Ok private
  pub is : form (joined source.clear) private (trailer_text source.tail) ≡ Ok file

pub made_from : (form : List ℕ → List ℕ → List ℕ → Result (List ℕ) Fault) (source : SourceParts) (file : List ℕ) (read : Result (List ℕ) Fault) → private_text (lead source) (operator source) source.items ≡ read
    → (read >>= λ private. form (joined source.clear) private (trailer_text source.tail)) ≡ Ok file → Made form source file
made_from form source file (Ok private) e h = record { private = private; said = e; is = h }
made_from form source file (Err fault) e h = absurd (cc)

map_again : (items : List Item) (last : List ℕ) → map plain_item (items ++ Plain last ∷ []) ≡ map plain_item items ++ Plain last ∷ []
map_again [] last = refl
map_again (item ∷ items) last = ap (λ l. plain_item item ∷ l) (map_again items last)

-- the text that comes back is that of the source
text_of : (source : SourceParts) (r : ReadsAsItself source)
    → text (record { clear = source.clear; items = map plain_item r.before ++ Plain r.last ∷ []; tail = tail_of (lines (trailer_text source.tail)) }) ≡ text (plain_source source)
text_of source r =
    ap (λ (t : List (List ℕ)). text (record { clear = source.clear; items = map plain_item r.before ++ Plain r.last ∷ []; tail = t })) (tail_again source.tail r.lines r.tail)
    ∙ ap (λ (items : List Item). text (record { clear = source.clear; items = items; tail = source.tail })) (sym (map_again r.before r.last) ∙ ap (map plain_item) (sym r.whole))

pub pfb_again : (size : ℕ) (source : SourceParts) (file : List ℕ) → 1 ≤ size → size < 2 ^ 32 → ReadsAsItself source → source_file size source ≡ Ok file → disassembled file ≡ Ok (text (plain_source source))
unfolding source_file
pfb_again size source file some short r h =
    let trailer = trailer_text source.tail in
    let m = made_from (pfb_of size) source file (private_text (lead source) (operator source) source.items) refl h in
    let c = cut_private (lead source) (operator source) r.before r.last m.private (ap (private_text (lead source) (operator source)) (sym r.whole) ∙ m.said) in
    let is : pfb size (joined source.clear) m.private trailer ≡ file = unmade (has_long_part (joined source.clear) m.private trailer) (pfb size (joined source.clear) m.private trailer) file m.is in
    ap disassembled (sym is ∙ ap (λ p. pfb size (joined source.clear) p trailer) c.whole)
    ∙ file_again size source.clear (operator source) (lead source) r.before r.last c.bytes trailer some short r.reads c.made
    ∙ ap (λ (t : List ℕ). Ok t) (text_again source.clear (map plain_item r.before) r.last (tail_of (lines trailer)) ∙ text_of source r)

pub pfa_again : (source : SourceParts) (file : List ℕ) → ReadsAsItself source → HasBytes source → begins_with 128 (joined source.clear) ≡ false → source_pfa source ≡ Ok file → disassembled file ≡ Ok (text (plain_source source))
unfolding source_pfa
pfa_again source file r bytes mark h =
    let trailer = trailer_text source.tail in
    let m = made_from pfa_of source file (private_text (lead source) (operator source) source.items) refl h in
    let c = cut_private (lead source) (operator source) r.before r.last m.private (ap (private_text (lead source) (operator source)) (sym r.whole) ∙ m.said) in
    let is : pfa (joined source.clear) m.private trailer ≡ file = unmade (has_long_part (joined source.clear) m.private trailer) (pfa (joined source.clear) m.private trailer) file m.is in
    ap disassembled (sym is ∙ ap (λ p. pfa (joined source.clear) p trailer) c.whole)
    ∙ digits_again source.clear (operator source) (lead source) r.before r.last c.bytes trailer r.reads c.made (subst AreBytes c.whole (bytes m.private m.said)) mark
    ∙ ap (λ (t : List ℕ). Ok t) (text_again source.clear (map plain_item r.before) r.last (tail_of (lines trailer)) ∙ text_of source r)

pub raw_again : (source : SourceParts) (file : List ℕ) → ReadsAsItself source → begins_with 128 (joined source.clear) ≡ false → source_raw source ≡ Ok file → disassembled file ≡ Ok (text (plain_source source))
unfolding source_raw
raw_again source file r mark h =
    let trailer = trailer_text source.tail in
    let m = made_from raw_of source file (private_text (lead source) (operator source) source.items) refl h in
    let c = cut_private (lead source) (operator source) r.before r.last m.private (ap (private_text (lead source) (operator source)) (sym r.whole) ∙ m.said) in
    let is : raw_file (joined source.clear) m.private trailer ≡ file = unmade false (raw_file (joined source.clear) m.private trailer) file m.is in
    ap disassembled (sym is ∙ ap (λ p. raw_file (joined source.clear) p trailer) c.whole)
    ∙ bare_again source.clear (operator source) (lead source) r.before r.last c.bytes trailer r.reads c.made mark
    ∙ ap (λ (t : List ℕ). Ok t) (text_again source.clear (map plain_item r.before) r.last (tail_of (lines trailer)) ∙ text_of source r)
