-- The file of a source by its parts.
use Rattle.std.proofs.Common.{◌≡◌, ℕ, List, Ok, refl}
use Rattle.std.specs.Prelude.{Result}
use Rattle.t1_frac.specs.declared.fault.Fault.{Fault}
use Rattle.t1_parts.specs.declared.item.Item.{Item}
use Rattle.t1_parts.specs.SourceParts.{SourceParts}
use Rattle.t1_text.specs.Lines.{joined}
use Rattle.t1_parts.specs.LenIV.{lead}
use Rattle.t1_parts.specs.Operator.{operator}
use Rattle.t1_font.specs.Assembly.{file_in, private_text, trailer_text}

-- the file of a source whose bodies have no fault, by its parts
pub source_parts : (form : List ℕ → List ℕ → List ℕ → Result (List ℕ) Fault) (source : SourceParts) (l : ℕ) (o : List ℕ) (items : List Item) (private clear trailer : List ℕ)
    → l ≡ lead source → o ≡ operator source → items ≡ source.items → private_text l o items ≡ Ok private → clear ≡ joined source.clear → trailer ≡ trailer_text source.tail
    → file_in form source ≡ form clear private trailer
source_parts form source l o items private clear trailer lead_is operator_is items_are text clear_is trailer_is =
    let known : private_text (lead source) (operator source) source.items ≡ Ok private = rw (← lead_is, ← operator_is, ← items_are) text in
    rw (known, clear_is, trailer_is) refl

-- the file of its parts, by what stands in the place of two of them
pub outer_parts : (form : List ℕ → List ℕ → List ℕ → Result (List ℕ) Fault) (source : SourceParts) (private clear trailer : List ℕ)
    → clear ≡ joined source.clear → trailer ≡ trailer_text source.tail → form (joined source.clear) private (trailer_text source.tail) ≡ form clear private trailer
outer_parts form source private clear trailer clear_is trailer_is = rw (clear_is, trailer_is) refl
