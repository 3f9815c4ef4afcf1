-- What laws say of extremes.
use Rattle.std.specs.Prelude.{◌≡◌, ℕ, zero, suc, ◌<◌, ◌≤◌, ◌^◌, ◌&&◌, List, ◌++◌, Option, Some, None, option_map, Result, Ok, Err, IfOk, IfSome}
use Rattle.std.specs.List.{AllByRecursion}
use Rattle.t1_frac.specs.declared.fault.Code.{Code}
use Rattle.t1_frac.specs.declared.fault.Code.TheVariants.{F45, F46}
use Rattle.t1_frac.specs.Outcome.{◌>>=◌}
use Rattle.t1_run.specs.declared.outline.Composite.{Composite}
use Rattle.t1_run.specs.declared.outline.Point.{Point}
use Rattle.t1_run.specs.declared.outline.Segment.{Segment}
use Rattle.t1_run.specs.Composite.{accent_move, moved_outline, joined_by, outline_within, IsWithin}
use Rattle.t1_run.specs.Run.{FontBodies, Drawing, own}
use Rattle.t1_afm.specs.Box.{outline_box, drawn_box}
use Rattle.t1_afm.specs.Points.{points}
use Rattle.t1_extent.specs.Extremes.{Extremes, corners, extremes, unite_extremes, rounded, boxed, shifted_by, limit_check, move_check, moved_box, IsWhole, MovesEasily, IsWholeSegment, is_whole_outline}

-- word: the extremes of the points that an outline's box is taken over, and those of all its points
pub record Summary : Type 0 where
  pub drawn : Option Extremes
  pub corners : Option Extremes

-- word: the summary of an outline
abbrev pub summary : List Segment → Summary
summary outline = record { drawn = extremes (points outline); corners = extremes (corners outline) }

-- word: the union of two summaries
abbrev pub united_summary : Summary → Summary → Summary
united_summary a b = record { drawn = unite_extremes a.drawn b.drawn; corners = unite_extremes a.corners b.corners }

-- word: a summary, moved
abbrev pub shifted_summary : Point → Summary → Summary
shifted_summary by s = record { drawn = option_map (shifted_by by) s.drawn; corners = option_map (shifted_by by) s.corners }

-- word, limits: each segment of the outline is within the limits
abbrev pub AreWithin : List Segment → Type 0
AreWithin outline = AllByRecursion IsWithin outline

-- word: both denominators are those of fractions of a run
pub record IsDistance (by : Point) : Type 0 where
  pub x : 0 < by.x.den
  pub y : 0 < by.y.den
  pub x_fine : by.x.den ≤ 2 ^ 20
  pub y_fine : by.y.den ≤ 2 ^ 20

-- word: an outline's box is that of its extremes, rounded outward
abbrev pub BoxLaw : Type 0
BoxLaw = (outline : List Segment) → AreWithin outline → outline_box outline ≡ boxed (summary outline).drawn

-- word: the box of an outline that draws is that of its extremes, rounded outward
abbrev pub DrawnBoxLaw : Type 0
DrawnBoxLaw = (outline : List Segment) → AreWithin outline → drawn_box outline ≡ option_map rounded (summary outline).drawn

-- word: no extreme of an outline within the limits is past them
abbrev pub LimitsLaw : Type 0
LimitsLaw = (outline : List Segment) → AreWithin outline → (limit_check (summary outline).drawn ≡ Ok tt) × (limit_check (summary outline).corners ≡ Ok tt)

-- word: the summary of two outlines in one is the union of both
abbrev pub BothLaw : Type 0
BothLaw = (a b : List Segment) → AreWithin a → AreWithin b → summary (a ++ b) ≡ united_summary (summary a) (summary b)

-- word: where an outline can be moved, the summary of what comes is its summary, moved
abbrev pub MovedLaw : Type 0
MovedLaw =
    (by : Point) (outline : List Segment) → IsDistance by → AreWithin outline
    → IfOk (moved_outline by outline) (λ moved. summary moved ≡ shifted_summary by (summary outline))

-- word: an outline whose move, or each of whose coordinates, is whole is refused by F40 alone, and just where its
-- corners' extremes are
abbrev pub CheckLaw : Type 0
CheckLaw =
    (by : Point) (outline : List Segment) → IsDistance by → AreWithin outline → MovesEasily by outline
    → (moved_outline by outline >>= λ _. Ok tt) ≡ move_check by (summary outline).corners

-- word: where the move of all points isn't refused, neither is that of the extremes of the drawn ones
abbrev pub DrawnMovesLaw : Type 0
DrawnMovesLaw =
    (by : Point) (outline : List Segment) → IsDistance by → AreWithin outline → MovesEasily by outline
    → move_check by (summary outline).corners ≡ Ok tt → move_check by (summary outline).drawn ≡ Ok tt

-- word: where an outline can be moved by a whole distance, its box moves with it, though its points have fractions
abbrev pub BoxMovesLaw : Type 0
BoxMovesLaw =
    (by : Point) (outline : List Segment) → IsDistance by → IsWhole by → AreWithin outline
    → IfOk (moved_outline by outline) (λ moved. drawn_box moved ≡ option_map (moved_box by) (drawn_box outline))

-- word: two outlines in one are whole where both are
abbrev pub WholeOfBothLaw : Type 0
WholeOfBothLaw = (a b : List Segment) → is_whole_outline (a ++ b) ≡ (is_whole_outline a && is_whole_outline b)

-- word: a whole outline moved by a whole distance is whole
abbrev pub WholeStaysLaw : Type 0
WholeStaysLaw =
    (by : Point) (outline : List Segment) → IsWhole by → AllByRecursion IsWholeSegment outline
    → IfOk (moved_outline by outline) (λ moved. AllByRecursion IsWholeSegment moved)

-- word: the distances of a composite are fractions of a run
pub record IsAccented (c : Composite) : Type 0 where
  pub asb : 0 < c.asb.den
  pub adx : 0 < c.adx.den
  pub ady : 0 < c.ady.den
  pub ady_fine : c.ady.den ≤ 2 ^ 20

-- word: how far an accent is moved is a fraction of a run along each axis
abbrev pub AccentLaw : Type 0
AccentLaw = (bearing : Point) (c : Composite) → 0 < bearing.x.den → IsAccented c → IfOk (accent_move bearing c) IsDistance

-- word: what a glyph's own body draws is within the limits, and so is the distance of its accent
abbrev pub RunsLaw : Type 0
RunsLaw =
    (m : FontBodies) (g : List ℕ) (d : Drawing) → own m g ≡ Some (Ok d)
    → AreWithin d.segments × IfSome d.composite (λ c. IfOk (accent_move d.bearing c) IsDistance)

-- word: the summary of a composite from those of its own segments, its base and its accent, or its first fault
abbrev pub joined_summary : Composite → Point → Summary → Summary → Summary → Result Summary Code
joined_summary c bearing own base accent =
    accent_move bearing c >>= (λ by.
    move_check by accent.corners >>= (λ _.
    Ok (united_summary (united_summary own base) (shifted_summary by accent))))

-- word: the accent's move keeps the accent easy
abbrev pub JoinsEasily : Composite → Drawing → List Segment → Type 0
JoinsEasily c d accent = IfOk (accent_move d.bearing c) (λ by. IsDistance by × MovesEasily by accent)

-- word: a composite's first fault and its summary are had from the summaries of its parts
abbrev pub JoinedLaw : Type 0
JoinedLaw =
    (c : Composite) (d : Drawing) (base accent : List Segment) → AreWithin d.segments → AreWithin base → AreWithin accent → JoinsEasily c d accent
    → (joined_by c d base accent >>= λ outline. Ok (summary outline)) ≡ joined_summary c d.bearing (summary d.segments) (summary base) (summary accent)

-- ---- composites of composites

-- word: the summary of an outline, or its fault
abbrev pub summarized : Result (List Segment) Code → Result Summary Code
summarized outline = outline >>= λ segments. Ok (summary segments)

-- word, order of faults: the base's summary, then the accent's, then both joined
abbrev pub summary_with_parts : (List ℕ → Result Summary Code) → Option Composite → Drawing → Result Summary Code
summary_with_parts part None d = Ok (summary d.segments)
summary_with_parts part (Some c) d =
    part c.base >>= (λ base. part c.accent >>= (λ accent. joined_summary c d.bearing (summary d.segments) base accent))

-- word, order of faults: a glyph's own run comes first; seac asks for its parts, so none of them is missing
abbrev pub summary_drawn : (List ℕ → Result Summary Code) → Option (Result Drawing Code) → Result Summary Code
summary_drawn part None = Err F45
summary_drawn part (Some (Err fault)) = Err fault
summary_drawn part (Some (Ok d)) = summary_with_parts part d.composite d

-- word, limits: a glyph's summary, where composites may nest so deep
abbrev pub summary_within : (List ℕ → Option (Result Drawing Code)) → ℕ → List ℕ → Result Summary Code
summary_within run zero glyph = summary_drawn (λ part. Err F46) (run glyph)
summary_within run (suc depth) glyph = summary_drawn (summary_within run depth) (run glyph)

-- word: what the runs draw is within the limits, and each accent's move keeps it easy
pub record AreEasy (run : List ℕ → Option (Result Drawing Code)) : Type 0 where
  pub own : (g : List ℕ) (d : Drawing) → run g ≡ Some (Ok d) → AreWithin d.segments
  pub outlines : (depth : ℕ) (g : List ℕ) → IfOk (outline_within run depth g) AreWithin
  pub joins :
      (depth : ℕ) (g : List ℕ) (d : Drawing) (c : Composite) (accent : List Segment)
      → run g ≡ Some (Ok d) → d.composite ≡ Some c → outline_within run depth c.accent ≡ Ok accent → JoinsEasily c d accent

-- word: a glyph's summary or first fault, however deep its composites nest, is had from the summaries of its parts
abbrev pub WithinLaw : Type 0
WithinLaw =
    (run : List ℕ → Option (Result Drawing Code)) → AreEasy run → (depth : ℕ) (g : List ℕ) → summarized (outline_within run depth g) ≡ summary_within run depth g
