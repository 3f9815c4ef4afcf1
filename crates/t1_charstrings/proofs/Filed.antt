-- The files of a source, by the charstrings that are kept.
use Rattle.std.proofs.Common.{◌≡◌, ℕ, ◌-◌, ◌^◌, min, length, List, Result, Ok, refl, sym, ap, ◌∙◌}
use Rattle.t1_frac.specs.declared.fault.Fault.{Fault}
use Rattle.t1_parts.specs.declared.item.Item.{Item}
use Rattle.t1_parts.specs.SourceParts.{SourceParts}
use Rattle.t1_text.specs.Lines.{joined}
use Rattle.t1_parts.specs.LenIV.{lead}
use Rattle.t1_parts.specs.Operator.{operator}
use Rattle.t1_source.specs.WellFormed.{IsWellFormed}
use Rattle.t1_font.specs.Assembly.{file_in, private_text, trailer_text}
use Rattle.t1_charstrings.specs.declared.entries.Charstrings.{Charstrings}
use Rattle.t1_charstrings.specs.Kept.{AreEncrypted}
use Rattle.t1_font.specs.Lengths.{IsPrivateLen}
use Rattle.t1_charstrings.specs.Lines.{kept_lines_text}
use Rattle.t1_charstrings.proofs.Texts.{kept_text_is}

-- the private text by its parts
private : (s : SourceParts) (c : Charstrings) (o : List ℕ) (items : List Item) (text : List ℕ) → IsWellFormed s → AreEncrypted s c
    → o ≡ operator s → items ≡ s.items → text ≡ kept_lines_text c o items → private_text (lead s) (operator s) s.items ≡ Ok text
private s c o items text well kept operator_is items_are text_is =
    kept_text_is s c well kept ∙ ap (λ t. Ok t) (ap (λ name. kept_lines_text c name s.items) (sym operator_is) ∙ ap (λ is. kept_lines_text c o is) (sym items_are) ∙ sym text_is)

-- the file in any form, by its parts
pub kept_file : (form : List ℕ → List ℕ → List ℕ → Result (List ℕ) Fault) (s : SourceParts) (c : Charstrings) (o : List ℕ) (items : List Item) (text clear trailer : List ℕ)
    → IsWellFormed s → AreEncrypted s c → o ≡ operator s → items ≡ s.items → text ≡ kept_lines_text c o items → clear ≡ joined s.clear → trailer ≡ trailer_text s.tail
    → file_in form s ≡ form clear text trailer
kept_file form s c o items text clear trailer well kept operator_is items_are text_is clear_is trailer_is =
    rw (private s c o items text well kept operator_is items_are text_is, clear_is, trailer_is) refl

-- the same, by what stands in the place of two of its parts
pub outer_parts : (form : List ℕ → List ℕ → List ℕ → Result (List ℕ) Fault) (s : SourceParts) (text clear trailer : List ℕ)
    → clear ≡ joined s.clear → trailer ≡ trailer_text s.tail → form (joined s.clear) text (trailer_text s.tail) ≡ form clear text trailer
outer_parts form s text clear trailer clear_is trailer_is = rw (clear_is, trailer_is) refl

-- how long the private text is
pub kept_len : (s : SourceParts) (c : Charstrings) (o : List ℕ) (items : List Item) (len : ℕ) → IsWellFormed s → AreEncrypted s c
    → o ≡ operator s → items ≡ s.items → len ≡ min (length (kept_lines_text c o items)) (2 ^ 64 - 1) → IsPrivateLen s len
kept_len s c o items len well kept operator_is items_are len_is =
    (kept_lines_text c o items, private s c o items (kept_lines_text c o items) well kept operator_is items_are refl, len_is)
