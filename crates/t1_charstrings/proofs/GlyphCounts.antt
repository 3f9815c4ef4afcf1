-- The glyphs of a source without a fault: each takes a byte of the private text at least.
use Rattle.std.proofs.Common.{◌≡◌, ◌+◌, ◌-◌, ◌^◌, ◌<◌, ◌≤◌, ℕ, cond, List, [], ◌∷◌, ◌++◌, length, length-append, refl, ap, Result, Ok, Err, arith}
use Rattle.t1_frac.specs.Ascii.{slash}
use Rattle.t1_frac.specs.declared.fault.Code.{Code}
use Rattle.t1_frac.specs.declared.fault.Fault.{Fault}
use Rattle.t1_frac.specs.declared.fault.Place.{Place}
use Rattle.t1_frac.specs.declared.fault.Place.TheVariants as places
use Rattle.t1_frac.specs.Outcome.{reported_at, ◌>>=◌}
use Rattle.t1_code.specs.declared.command.Command.{Command}
use Rattle.t1_code.specs.Charstring.{charstring}
use Rattle.t1_code.specs.Cipher.{encrypted_charstring}
use Rattle.t1_code.specs.Pfb.{entry_text}
use Rattle.t1_code.specs.Words.{commands}
use Rattle.t1_parts.specs.declared.item.Item.{Item}
use Rattle.t1_parts.specs.declared.item.Item.TheVariants as items
use Rattle.t1_parts.specs.Counts.{glyphs_needed, is_glyph_entry}
use Rattle.t1_parts.specs.LenIV.{lead}
use Rattle.t1_parts.specs.Operator.{operator}
use Rattle.t1_parts.specs.SourceParts.{SourceParts}
use Rattle.t1_font.specs.Assembly.{entry_line, file_check, item_line, private_text}
use Rattle.t1_font.specs.Lengths.{IsPrivateLen}
use Rattle.t1_charstrings.proofs.Entered.{len_small}
use Rattle.t1_charstrings.proofs.Inserting.{glyphs_first}

entry-some : (front : ℕ) (name g closing line : List ℕ) (place : Place) (r : Result (List Command) Code)
    → ◌≡◌ {A = Result (List ℕ) Fault} (reported_at place r >>= λ body. Ok (entry_text (slash ∷ g) name (encrypted_charstring front (charstring body)) closing)) (Ok line)
    → 1 ≤ length line
entry-some front name g closing line place (Ok body) h =
    let e : entry_text (slash ∷ g) name (encrypted_charstring front (charstring body)) closing ≡ line = cc in
    omega (arith, ap (λ (l : List ℕ). length l) e)
entry-some front name g closing line place (Err code) h = absurd (cc)

glyph-some : (front : ℕ) (name : List ℕ) (i : Item) (line : List ℕ) → item_line front name i ≡ Ok line → cond (is_glyph_entry i) 1 0 ≤ length line
unfolding entry_line
glyph-some front name (items.Plain l) line h = omega arith
glyph-some front name (items.Section before n after) line h = omega arith
glyph-some front name (items.Subr n ws closing) line h = omega arith
glyph-some front name (items.Glyph g ws closing) line h = entry-some front name g closing line (places.Glyph g) (commands ws) h

more-glyphs : (first glyphs : ℕ) (line more : Result (List ℕ) Fault) (text : List ℕ)
    → ((bytes : List ℕ) → line ≡ Ok bytes → first ≤ length bytes) → ((rest : List ℕ) → more ≡ Ok rest → glyphs ≤ length rest)
    → ◌≡◌ {A = Result (List ℕ) Fault} (line >>= λ bytes. more >>= λ rest. Ok (bytes ++ rest)) (Ok text) → first + glyphs ≤ length text
more-glyphs first glyphs (Ok bytes) (Ok rest) text one others h =
    let e : bytes ++ rest ≡ text = cc in
    omega (arith, one bytes refl, others rest refl, length-append bytes rest, ap (λ (l : List ℕ). length l) e)
more-glyphs first glyphs (Ok bytes) (Err fault) text one others h = absurd (cc)
more-glyphs first glyphs (Err fault) more text one others h = absurd (cc)

glyphs-within : (front : ℕ) (name : List ℕ) (is : List Item) (text : List ℕ) → private_text front name is ≡ Ok text → glyphs_needed is ≤ length text
glyphs-within front name [] text h = omega arith
glyphs-within front name (i ∷ is) text h =
    omega (
      arith,
      glyphs_first i is,
      more-glyphs (cond (is_glyph_entry i) 1 0) (glyphs_needed is) (item_line front name i) (private_text front name is) text
          (glyph-some front name i) (glyphs-within front name is) h,
    )

-- there is a number of 64 bits for the glyphs, and for one more
pub glyphs_fit : (s : SourceParts) (n : ℕ) → file_check s ≡ Ok tt → IsPrivateLen s n → glyphs_needed s.items < 2 ^ 64 - 1
glyphs_fit s n faultless known =
    omega (arith, len_small s n faultless known, known.2, glyphs-within (lead s) (operator s) s.items known.0 known.1)
