-- How far whole outlines reach that are moved by several moves.
use Rattle.std.proofs.Common.{◌≡◌, ◌^◌, List, [], ◌∷◌, refl, ap, ◌∙◌, sym, subst, Some, Option, None}
use Rattle.std.specs.Prelude.{Result, Ok, Err, IsOk, All, option_map}
use Rattle.t1_frac.specs.declared.fault.Code.{Code}
use Rattle.t1_run.specs.declared.outline.Point.{Point}
use Rattle.t1_run.specs.declared.outline.Segment.{Segment}
use Rattle.t1_afm.specs.Points.{points}
use Rattle.t1_extent.specs.declared.extent.Extent.{Extent}
use Rattle.t1_extent.specs.declared.figure.Figure.{Figure}
use Rattle.t1_extent.specs.declared.reached.Drawn.TheVariants.{Mixed}
use Rattle.t1_extent.specs.Exacts.{extremes_of, AreFine}
use Rattle.t1_extent.specs.Extremes.{corners, extremes, rounded, shifted_by, limit_check, move_check}
use Rattle.t1_extent.specs.Figures.{apart, IsFigure, IsFigureOf, IsWholeFigure}
use Rattle.t1_extent.specs.Laws.{Summary, IsDistance}
use Rattle.t1_extent.specs.Reached.{ReportsAtOnce}
use Rattle.t1_extent.specs.Turns.{in_turn, through, point_through}
use Rattle.t1_extent.proofs.BoxLaws.{drawn_box_law}
use Rattle.t1_extent.proofs.Checking.{passed}
use Rattle.t1_extent.proofs.Displacing.{Displaced, displaced}
use Rattle.t1_extent.proofs.Flags.{each_whole}
use Rattle.t1_extent.proofs.Limited.{limits_law}
use Rattle.t1_extent.proofs.Reaching.{refused_by}
use Rattle.t1_extent.proofs.Slices.{all_by}

pub nothing_through : (moves : List Point) (last : Point) → through moves last [] ≡ Ok []
nothing_through [] last = refl
nothing_through (by ∷ moves) last = nothing_through moves last

-- what the moves of its start say of a figure's outline
pub riding : (figure : Figure) (moves : List Point) (last : Point) (outline : List Segment) (to : Result Point Code) → IsWholeFigure (Some figure) outline
    → All IsDistance moves → IsDistance last → IsOk (in_turn moves outline) → to ≡ point_through moves last figure.start
    → Displaced outline figure.start to (through moves last outline)
riding figure moves last outline to h hm hl ok is =
    subst (λ t. Displaced outline figure.start t (through moves last outline)) (sym is)
    (displaced moves last outline figure.start
    (record { within = h.within; whole = each_whole outline h.whole; start_whole = figure.whole; start_place = figure.place })
    h.reported.start (all_by IsDistance moves hm) hl ok)

checked_at : (figure : Figure) (outline : List Segment) (to d : Point) (r : Result (List Segment) Code) → IsFigure figure outline → d ≡ apart figure.start to
    → Displaced outline figure.start (Ok to) r → passed r ≡ move_check d (Some (extremes_of figure.corners))
checked_at figure outline to d r h is k = k.0 ∙ ap (move_check (apart figure.start to)) h.corners ∙ ap (λ p. move_check p (Some (extremes_of figure.corners))) (sym is)

-- its corners come to be past the limit
pub figure_refused : (figure : Figure) (outline : List Segment) (to d : Point) (r : Result (List Segment) Code) (c : Code) → IsFigure figure outline → d ≡ apart figure.start to
    → Displaced outline figure.start (Ok to) r → move_check d (Some (extremes_of figure.corners)) ≡ Err c → r ≡ Err c
figure_refused figure outline to d r c h is k e = refused_by r c (checked_at figure outline to d r h is k ∙ e)

-- its drawn points come to be past the limit no sooner than its corners
pub figure_draws : (figure : Figure) (outline : List Segment) (to d : Point) (r : Result (List Segment) Code) (c : Code) → IsFigure figure outline → d ≡ apart figure.start to
    → Displaced outline figure.start (Ok to) r → move_check d (Some (extremes_of figure.corners)) ≡ Ok tt → move_check d (Some (extremes_of figure.drawn)) ≡ Err c → ⊥
figure_draws figure outline to d (Err x) c h is k e f = let p = checked_at figure outline to d (Err x) h is k ∙ e in cc
figure_draws figure outline to d (Ok moved) c h is k e f =
    let same : move_check d (Some (extremes_of figure.drawn)) ≡ Ok tt =
    ap (λ p. move_check p (Some (extremes_of figure.drawn))) is ∙ ap (move_check (apart figure.start to)) (sym h.drawn)
    ∙ ap (λ (s : Summary). limit_check s.drawn) (sym k.1.1) ∙ (limits_law moved k.1.0).0 in cc

-- how far the moved outline reaches
pub figure_reaches : (figure : Figure) (outline : List Segment) (to d : Point) (r : Result (List Segment) Code) (drawn corners' : Extent) → IsFigure figure outline → d ≡ apart figure.start to
    → Displaced outline figure.start (Ok to) r → move_check d (Some (extremes_of figure.corners)) ≡ Ok tt
    → extremes_of drawn ≡ shifted_by d (extremes_of figure.drawn) → extremes_of corners' ≡ shifted_by d (extremes_of figure.corners) → AreFine (2 ^ 20) corners'
    → ReportsAtOnce (Ok (record { drawn = Mixed (Some (rounded (extremes_of drawn))); corners = Some corners' })) r
figure_reaches figure outline to d (Err x) drawn corners' h is k e ed ec fine = let p = checked_at figure outline to d (Err x) h is k ∙ e in absurd (cc)
figure_reaches figure outline to d (Ok moved) drawn corners' h is k e ed ec fine =
    let points_are : Some (extremes_of drawn) ≡ extremes (points moved) =
    ap Some (ed ∙ ap (λ p. shifted_by p (extremes_of figure.drawn)) is) ∙ ap (option_map (shifted_by (apart figure.start to))) (sym h.drawn)
    ∙ ap (λ (s : Summary). s.drawn) (sym k.1.1) in
    let corners_are : Some (extremes_of corners') ≡ extremes (corners moved) =
    ap Some (ec ∙ ap (λ p. shifted_by p (extremes_of figure.corners)) is) ∙ ap (option_map (shifted_by (apart figure.start to))) (sym h.corners)
    ∙ ap (λ (s : Summary). s.corners) (sym k.1.1) in (
      moved,
      refl,
      record {
        within = k.1.0;
        drawn = ap (option_map rounded) points_are ∙ sym (drawn_box_law moved k.1.0);
        corners = corners_are;
        corners_fine = fine;
      },
    )

pub no_figure : (figure : Option Figure) (outline : List Segment) → ((f : Figure) → figure ≡ Some f → ⊥) → IsFigureOf figure outline → outline ≡ []
no_figure None outline h k = k
no_figure (Some f) outline h k = absurd (h f refl)
