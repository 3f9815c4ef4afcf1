-- Outlines that are moved by several moves, one after another.
use Rattle.std.proofs.Common.{◌≡◌, ℕ, suc, ◌+◌, ◌<◌, ◌≤◌, length, get_or, drop, arith, List, [], ◌∷◌, ◌++◌, refl, ap, ◌∙◌, sym, subst}
use Rattle.std.proofs.Math.Seq.{drop-cons}
use Rattle.std.proofs.Math.ListN.{drop_of_length-le}
use Rattle.std.specs.Prelude.{Result, Ok, Err, IsOk, Some}
use Rattle.t1_frac.specs.Outcome.{◌>>=◌}
use Rattle.t1_frac.specs.declared.fault.Code.{Code}
use Rattle.t1_run.specs.declared.outline.Composite.{Composite}
use Rattle.t1_run.specs.declared.outline.Point.{Point}
use Rattle.t1_run.specs.declared.outline.Segment.{Segment}
use Rattle.t1_run.specs.Composite.{accent_move, moved_segment, moved_outline, joined_outline, joined_with}
use Rattle.t1_run.specs.Run.{Drawing}
use Rattle.t1_extent.specs.Turns.{in_turn, through, segment_through}

-- ---- two outlines in one

-- both in one, or the first fault of one
abbrev pub both : Result (List Segment) Code → Result (List Segment) Code → Result (List Segment) Code
both a b = a >>= (λ xs. b >>= (λ ys. Ok (xs ++ ys)))

alone : (r : Result (List Segment) Code) → r ≡ (r >>= λ ys. Ok ([] ++ ys))
alone (Ok ys) = refl
alone (Err e) = refl

regrouped : (s : Result Segment Code) (a b : Result (List Segment) Code)
    → (s >>= (λ s'. both a b >>= (λ ss'. Ok (s' ∷ ss')))) ≡ both (s >>= (λ s'. a >>= (λ ss'. Ok (s' ∷ ss')))) b
regrouped (Err e) a b = refl
regrouped (Ok s) (Err e) b = refl
regrouped (Ok s) (Ok a) (Err e) = refl
regrouped (Ok s) (Ok a) (Ok b) = refl

moved-append : (by : Point) (a b : List Segment) → moved_outline by (a ++ b) ≡ both (moved_outline by a) (moved_outline by b)
moved-append by [] b = alone (moved_outline by b)
moved-append by (s ∷ a) b =
    ap (λ r. moved_segment by s >>= (λ s'. r >>= (λ ss'. Ok (s' ∷ ss')))) (moved-append by a b) ∙ regrouped (moved_segment by s) (moved_outline by a) (moved_outline by b)

-- where both can be moved in turn, so can each, and both are moved on one after the other
pub record Splits (moves : List Point) (last : Point) (a b : Result (List Segment) Code) : Type 0 where
  pub first : IsOk (a >>= in_turn moves)
  pub second : IsOk (b >>= in_turn moves)
  pub whole : (both a b >>= through moves last) ≡ both (a >>= through moves last) (b >>= through moves last)

split_results : (moves : List Point) (last : Point) (a b : Result (List Segment) Code) → ((xs ys : List Segment) → IsOk (in_turn moves (xs ++ ys)) → Splits moves last (Ok xs) (Ok ys))
    → IsOk (both a b >>= in_turn moves) → Splits moves last a b
split_results moves last (Err e) b split h = absurd (cc)
split_results moves last (Ok xs) (Err e) split h = absurd (cc)
split_results moves last (Ok xs) (Ok ys) split h = split xs ys h

split_outlines : (moves : List Point) (last : Point) (xs ys : List Segment) → IsOk (in_turn moves (xs ++ ys)) → Splits moves last (Ok xs) (Ok ys)
split_outlines [] last xs ys h = record { first = refl; second = refl; whole = moved-append last xs ys }
split_outlines (by ∷ moves) last xs ys h =
    let same = moved-append by xs ys in
    let s = split_results moves last (moved_outline by xs) (moved_outline by ys) (split_outlines moves last) (subst (λ r. IsOk (r >>= in_turn moves)) same h) in
    record { first = s.first; second = s.second; whole = ap (λ r. r >>= through moves last) same ∙ s.whole }

-- ---- composites

joined_is : (c : Composite) (d : Drawing) (base accent : List Segment) (by : Point) → d.composite ≡ Some c → accent_move d.bearing c ≡ Ok by
    → joined_outline d base accent ≡ (moved_outline by accent >>= λ accent'. Ok (d.segments ++ base ++ accent'))
unfolding joined_outline
joined_is c d base accent by is move =
    ap (λ k. joined_with k d base accent) is ∙ ap (λ m. m >>= (λ by. moved_outline by accent >>= (λ accent'. Ok (d.segments ++ base ++ accent')))) move

joined_refused : (c : Composite) (d : Drawing) (base accent : List Segment) (code : Code) → d.composite ≡ Some c → accent_move d.bearing c ≡ Err code
    → joined_outline d base accent ≡ Err code
unfolding joined_outline
joined_refused c d base accent code is move =
    ap (λ k. joined_with k d base accent) is ∙ ap (λ m. m >>= (λ by. moved_outline by accent >>= (λ accent'. Ok (d.segments ++ base ++ accent')))) move

three : (own base : List Segment) (accent' : Result (List Segment) Code) → (accent' >>= λ xs. Ok (own ++ base ++ xs)) ≡ both (both (Ok own) (Ok base)) accent'
three own base (Ok xs) = refl
three own base (Err e) = refl

-- a composite that can be moved in turn, by its parts: the accent has one move more
pub record Descends (d : Drawing) (by : Point) (moves : List Point) (last : Point) (base accent whole : Result (List Segment) Code) : Type 0 where
  pub own : IsOk (in_turn moves d.segments)
  pub base_moves : IsOk (base >>= in_turn moves)
  pub accent_moves : IsOk (accent >>= in_turn (by ∷ moves))
  pub parts : (whole >>= through moves last) ≡ both (both (through moves last d.segments) (base >>= through moves last)) (accent >>= through (by ∷ moves) last)

descends_joined : (d : Drawing) (by : Point) (moves : List Point) (last : Point) (base accent : List Segment) (whole : Result (List Segment) Code)
    → whole ≡ (moved_outline by accent >>= λ accent'. Ok (d.segments ++ base ++ accent'))
    → IsOk (whole >>= in_turn moves) → Descends d by moves last (Ok base) (Ok accent) whole
descends_joined d by moves last base accent whole is h =
    let same = is ∙ three d.segments base (moved_outline by accent) in
    let outer = split_results moves last (both (Ok d.segments) (Ok base)) (moved_outline by accent) (split_outlines moves last) (subst (λ r. IsOk (r >>= in_turn moves)) same h) in
    let inner = split_results moves last (Ok d.segments) (Ok base) (split_outlines moves last) outer.first in
    record {
      own = inner.first;
      base_moves = inner.second;
      accent_moves = outer.second;
      parts = ap (λ r. r >>= through moves last) same ∙ outer.whole ∙ ap (λ r. both r (moved_outline by accent >>= through moves last)) inner.whole;
    }

pub descends : (c : Composite) (d : Drawing) (by : Point) (moves : List Point) (last : Point) (base accent : Result (List Segment) Code)
    → d.composite ≡ Some c → accent_move d.bearing c ≡ Ok by
    → IsOk ((base >>= (λ b. accent >>= (λ a. joined_outline d b a))) >>= in_turn moves)
    → Descends d by moves last base accent (base >>= (λ b. accent >>= (λ a. joined_outline d b a)))
descends c d by moves last (Err e) accent is move h = absurd (cc)
descends c d by moves last (Ok b) (Err e) is move h = absurd (cc)
descends c d by moves last (Ok b) (Ok a) is move h = descends_joined d by moves last b a (joined_outline d b a) (joined_is c d b a by is move) h

-- where the accent's move is refused, the composite can't be moved in turn
pub never_refused : (c : Composite) (d : Drawing) (code : Code) (moves : List Point) (base accent : Result (List Segment) Code)
    → d.composite ≡ Some c → accent_move d.bearing c ≡ Err code
    → IsOk ((base >>= (λ b. accent >>= (λ a. joined_outline d b a))) >>= in_turn moves) → ⊥
never_refused c d code moves (Err e) accent is move h = cc
never_refused c d code moves (Ok b) (Err e) is move h = cc
never_refused c d code moves (Ok b) (Ok a) is move h =
    let k : IsOk (Err code >>= in_turn moves) = subst (λ r. IsOk (r >>= in_turn moves)) (joined_refused c d b a code is move) h in cc

-- ---- segment by segment

-- each segment, moved in turn
abbrev pub each_through : List Point → Point → List Segment → Result (List Segment) Code
each_through moves last [] = Ok []
each_through moves last (s ∷ ss) = segment_through moves last s >>= (λ s'. each_through moves last ss >>= (λ ss'. Ok (s' ∷ ss')))

each_last : (last : Point) (ss : List Segment) → moved_outline last ss ≡ each_through [] last ss
each_last last [] = refl
each_last last (s ∷ ss) = ap (λ r. moved_segment last s >>= (λ s'. r >>= (λ ss'. Ok (s' ∷ ss')))) (each_last last ss)

-- one segment and others, by what they are after a move
each_moved : (by : Point) (moves : List Point) (last : Point) (ss : List Segment) (r : Result (List Segment) Code) → moved_outline by ss ≡ r → IsOk r
    → (r >>= each_through moves last) ≡ each_through (by ∷ moves) last ss
each_moved by moves last [] r e h = ap (λ t. t >>= each_through moves last) (sym e)
each_moved by moves last (s ∷ ss) r e h = heads (moved_segment by s) (moved_outline by ss) refl refl (λ xs g. each_moved by moves last ss (Ok xs) g refl)
  where
    heads : (one : Result Segment Code) (rest : Result (List Segment) Code) → moved_segment by s ≡ one → moved_outline by ss ≡ rest
        → ((xs : List Segment) → moved_outline by ss ≡ Ok xs → each_through moves last xs ≡ each_through (by ∷ moves) last ss)
        → (r >>= each_through moves last) ≡ each_through (by ∷ moves) last (s ∷ ss)
    heads (Err c) rest f g others = let k : r ≡ Err c = sym e ∙ ap (λ t. t >>= (λ s'. moved_outline by ss >>= (λ ss'. Ok (s' ∷ ss')))) f in absurd (cc)
    heads (Ok s') (Err c) f g others =
        let k : r ≡ Err c = sym e ∙ ap (λ t. t >>= (λ s'. moved_outline by ss >>= (λ ss'. Ok (s' ∷ ss')))) f ∙ ap (λ (t : Result (List Segment) Code). t >>= (λ ss'. Ok (s' ∷ ss'))) g in absurd (cc)
    heads (Ok s') (Ok ss') f g others =
        let k : r ≡ Ok (s' ∷ ss') = sym e ∙ ap (λ t. t >>= (λ s'. moved_outline by ss >>= (λ ss'. Ok (s' ∷ ss')))) f ∙ ap (λ (t : Result (List Segment) Code). t >>= (λ ss'. Ok (s' ∷ ss'))) g in
        ap (λ t. t >>= each_through moves last) k
        ∙ ap (λ t. segment_through moves last s' >>= (λ x. t >>= (λ xs. Ok (x ∷ xs)))) (others ss' g)
        ∙ sym (ap (λ t. (t >>= segment_through moves last) >>= (λ x. each_through (by ∷ moves) last ss >>= (λ xs. Ok (x ∷ xs)))) f)

bound : (r : Result (List Segment) Code) (f g : List Segment → Result (List Segment) Code) → ((xs : List Segment) → r ≡ Ok xs → f xs ≡ g xs) → (r >>= f) ≡ (r >>= g)
bound (Ok xs) f g h = h xs refl
bound (Err e) f g h = refl

turned_ok : (moves : List Point) (r : Result (List Segment) Code) → IsOk (r >>= in_turn moves) → IsOk r
turned_ok moves (Ok xs) h = refl
turned_ok moves (Err e) h = absurd (cc)

turned_at : (moves : List Point) (r : Result (List Segment) Code) (xs : List Segment) → r ≡ Ok xs → IsOk (r >>= in_turn moves) → IsOk (in_turn moves xs)
turned_at moves r xs e h = subst (λ t. IsOk (t >>= in_turn moves)) e h

-- an outline that can be moved in turn is moved on segment by segment
pub through_each : (moves : List Point) (last : Point) (ss : List Segment) → IsOk (in_turn moves ss) → through moves last ss ≡ each_through moves last ss
through_each [] last ss h = each_last last ss
through_each (by ∷ moves) last ss h =
    bound (moved_outline by ss) (through moves last) (each_through moves last) (λ xs e. through_each moves last xs (turned_at moves (moved_outline by ss) xs e h))
    ∙ each_moved by moves last ss (moved_outline by ss) refl (turned_ok moves (moved_outline by ss) h)

-- what is left of an outline, by its first segment
pub rest_at : (moves : List Point) (last : Point) (xs : List Segment) (i : ℕ) (x : Segment) → i < length xs → x ≡ get_or xs i x
    → each_through moves last (drop i xs) ≡ (segment_through moves last x >>= (λ s'. each_through moves last (drop (i + 1) xs) >>= (λ ss'. Ok (s' ∷ ss'))))
rest_at moves last xs i x inside is =
    let next : suc i ≡ i + 1 = omega arith in
    ap (each_through moves last) (drop-cons xs i x inside) ∙ ap (λ s. segment_through moves last s >>= (λ s'. each_through moves last (drop (suc i) xs) >>= (λ ss'. Ok (s' ∷ ss')))) (sym is)
    ∙ ap (λ k. segment_through moves last x >>= (λ s'. each_through moves last (drop k xs) >>= (λ ss'. Ok (s' ∷ ss')))) next

pub rest_end : (moves : List Point) (last : Point) (xs : List Segment) (i : ℕ) → length xs ≤ i → each_through moves last (drop i xs) ≡ Ok []
rest_end moves last xs i h = ap (each_through moves last) (drop_of_length-le xs h)
