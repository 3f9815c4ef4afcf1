use Rattle.std.proofs.Common.{◌≡◌, ◌+◌, ℕ, List, [], ◌∷◌, length, None, Some, refl, sym, ap, ◌∙◌, rules}
use Rattle.t1_text.specs.Tokens.{places_from}
use Rattle.t1_disassemble.specs.Opened.{opening_of}
use Rattle.t1_disassemble.specs.Opening.{glyph_opening, subr_here}
use Rattle.t1_disassemble.proofs.Openings.{here_glyph, here_other}
use Rattle.t1_disassemble.proofs.opening.opening_here.Goals as goal

pub returns-in-Some-clause-value : goal.returns-in-Some-clause-value
returns-in-Some-clause-value c =
    let a : ℕ × List ℕ = (c.args.at, c.args.first.now) in
    let ys = places_from (c.args.at + length c.args.first.now) c.args.rest.now in
    let xs = a ∷ ys in
    let b : ℕ × List ℕ = (c.in_ok-second_at.second_at, c.in_ok-second_at.second.now) in
    let zs = places_from (c.in_ok-second_at.second_at + length c.in_ok-second_at.second.now) c.in_ok-second_at.rest.now in
    let t : ℕ × List ℕ = (c.in_ok-third_at.third_at, c.in_ok-third_at.third.now) in
    let ws = places_from (c.in_ok-third_at.third_at + length c.in_ok-third_at.third.now) c.in_ok-third_at.rest.now in
    let two : ys ≡ b ∷ zs = search rules in
    let three : zs ≡ t ∷ ws = search rules in
    let opens : glyph_opening c.args.operator.now a b t ≡ Some (opening_of c.in-Some.opening) = sym (c.in-Some.ensures.value c.in_ok-second_at.second_at) in
    sym (here_glyph c.args.operator.now xs ys zs ws a b t (opening_of c.in-Some.opening) refl two three opens)

pub returns-in_err-fourth_at-clause-value : goal.returns-in_err-fourth_at-clause-value
returns-in_err-fourth_at-clause-value c =
    let a : ℕ × List ℕ = (c.args.at, c.args.first.now) in
    let ys = places_from (c.args.at + length c.args.first.now) c.args.rest.now in
    let xs = a ∷ ys in
    let b : ℕ × List ℕ = (c.in_ok-second_at.second_at, c.in_ok-second_at.second.now) in
    let zs = places_from (c.in_ok-second_at.second_at + length c.in_ok-second_at.second.now) c.in_ok-second_at.rest.now in
    let t : ℕ × List ℕ = (c.in_ok-third_at.third_at, c.in_ok-third_at.third.now) in
    let ws = places_from (c.in_ok-third_at.third_at + length c.in_ok-third_at.third.now) c.in_ok-third_at.rest.now in
    let two : ys ≡ b ∷ zs = search rules in
    let three : zs ≡ t ∷ ws = search rules in
    let opens : glyph_opening c.args.operator.now a b t ≡ None = sym (c.in_default.ensures.value c.in_ok-second_at.second_at) in
    let nothing : ws ≡ [] = search rules in
    let all = here_other c.args.operator.now xs ys zs ws a b t refl two three opens ∙ ap (λ (l : List (ℕ × List ℕ)). subr_here c.args.operator.now a b t l) nothing in
    rw c.from_residual-in_err-fourth_at.ensures (sym all)

pub returns-clause-value : goal.returns-clause-value
returns-clause-value c =
    let a : ℕ × List ℕ = (c.args.at, c.args.first.now) in
    let ys = places_from (c.args.at + length c.args.first.now) c.args.rest.now in
    let xs = a ∷ ys in
    let b : ℕ × List ℕ = (c.in_ok-second_at.second_at, c.in_ok-second_at.second.now) in
    let zs = places_from (c.in_ok-second_at.second_at + length c.in_ok-second_at.second.now) c.in_ok-second_at.rest.now in
    let t : ℕ × List ℕ = (c.in_ok-third_at.third_at, c.in_ok-third_at.third.now) in
    let ws = places_from (c.in_ok-third_at.third_at + length c.in_ok-third_at.third.now) c.in_ok-third_at.rest.now in
    let two : ys ≡ b ∷ zs = search rules in
    let three : zs ≡ t ∷ ws = search rules in
    let d : ℕ × List ℕ = (c.in_ok-fourth_at.fourth_at, c.in_ok-fourth_at.fourth.now) in
    let vs = places_from (c.in_ok-fourth_at.fourth_at + length c.in_ok-fourth_at.fourth.now) c.in_ok-fourth_at._rest.now in
    let opens : glyph_opening c.args.operator.now a b t ≡ None = sym (c.in_default.ensures.value c.in_ok-second_at.second_at) in
    let four : ws ≡ d ∷ vs = search rules in
    let all = here_other c.args.operator.now xs ys zs ws a b t refl two three opens ∙ ap (λ (l : List (ℕ × List ℕ)). subr_here c.args.operator.now a b t l) four in
    c.subr_opening.ensures.value c.in_ok-second_at.second_at c.in_ok-third_at.third_at ∙ sym all
