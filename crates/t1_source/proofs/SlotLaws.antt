-- The array among some clear lines.
use Rattle.std.proofs.Common.{◌≡◌, ℕ, false, ◌+◌, ◌<◌, Some, Ok, List, ◌∷◌, length, take, drop, get_or, sym, ◌∙◌, ap}
use Rattle.std.specs.List.{list_any, position}
use Rattle.std.proofs.lemmas.List.{drop_more}
use Rattle.t1_parts.specs.Encoding.{opens_encoding, chooses_standard, array_lines}
use Rattle.t1_parts.proofs.EncodingLaws.{array_front}
use Rattle.t1_source.specs.Editing.{array_parts}

pub parts_at : (clear : List (List ℕ)) (at : ℕ) (opening : List ℕ) → list_any chooses_standard clear ≡ false → position opens_encoding clear ≡ Some at → at < length clear → opening ≡ get_or clear at opening
    → array_parts clear ≡ Ok (record {
      front = take (at + 1) clear;
      lines = take (length (array_lines (opening ∷ drop (at + 1) clear))) (drop (at + 1) clear);
      back = drop (length (array_lines (opening ∷ drop (at + 1) clear))) (drop (at + 1) clear);
    })
unfolding array_parts
parts_at clear at opening array place within is =
    let later = drop (at + 1) clear in
    let cut : drop at clear ≡ opening ∷ later = drop_more clear at opening within ∙ ap (λ x. x ∷ later) (sym is) in
    rw (array, place, cut) (ap (λ ls. Ok (record { front = take (at + 1) clear; lines = ls; back = drop (length (array_lines (opening ∷ later))) later })) (sym (array_front opening later)))
