-- How far outlines reach that are united or moved.
use Rattle.std.proofs.Common.{◌≡◌, ℕ, ◌≤◌, ◌^◌, inl, inr, arith, List, [], ◌∷◌, ◌++◌, append-nil, append_assoc, refl, ap, ◌∙◌, sym, subst, Option, Some, None, Bool, true}
use Rattle.std.specs.Prelude.{Result, Ok, Err, IfOk, IfSome, option_map, ◌&&◌}
use Rattle.std.specs.List.{AllByRecursion}
use Rattle.std.specs.Int.RustNames.{unsigned_abs}
use Rattle.t1_frac.specs.Limits.{exceeds}
use Rattle.t1_frac.specs.Outcome.{◌>>=◌}
use Rattle.t1_frac.specs.declared.fault.Code.{Code}
use Rattle.t1_run.specs.declared.outline.Point.{Point}
use Rattle.t1_run.specs.declared.outline.Segment.{Segment}
use Rattle.t1_run.specs.Composite.{moved_outline, IsWithin}
use Rattle.t1_run.proofs.Within.{each-append}
use Rattle.t1_afm.specs.declared.bbox.BBox.{BBox}
use Rattle.t1_afm.specs.Box.{drawn_box, unite as unite_boxes}
use Rattle.t1_afm.specs.Points.{points}
use Rattle.t1_afm.proofs.Fonts.{box_of_both}
use Rattle.t1_extent.specs.declared.extent.Extent.{Extent}
use Rattle.t1_extent.specs.declared.reached.Drawn.{Drawn}
use Rattle.t1_extent.specs.declared.reached.Drawn.TheVariants.{Whole, Mixed}
use Rattle.t1_extent.specs.declared.reached.Reached.{Reached}
use Rattle.t1_extent.specs.Exacts.{extremes_of, AreFine}
use Rattle.t1_extent.specs.Extremes.{Extremes, corners, extremes, unite_extremes, rounded, shifted_by, limit_check, move_check, moved_box, IsWhole, IsWholeSegment, MovesEasily, is_whole_outline}
use Rattle.t1_extent.specs.Laws.{Summary, summary, shifted_summary, AreWithin, IsDistance}
use Rattle.t1_extent.specs.Reached.{IsDrawnBy, IsExact, IsNear, IsReach, MovesReach, ReportsAtOnce, grain_of}
use Rattle.t1_extent.proofs.BoxLaws.{drawn_box_law, box_moves_law}
use Rattle.t1_extent.proofs.Checking.{passed}
use Rattle.t1_extent.proofs.Displacing.{whole_corners}
use Rattle.t1_extent.proofs.Flags.{each_whole, whole_each, whole_of_both, whole_stays}
use Rattle.t1_extent.proofs.Exacts.{four_sides}
use Rattle.t1_extent.proofs.Folding.{AreLowest}
use Rattle.t1_extent.proofs.Limited.{floor_limited, ceiling_limited, limits_law}
use Rattle.t1_extent.proofs.Moving.{outline_numbers}
use Rattle.t1_extent.proofs.Summaries.{numbers, distance_number, both_law, moved_law, check_law, outline_within}
use Rattle.t1_extent.proofs.Uniting.{extremes_lowest}

-- ---- denominators

pub finer : (m n : ℕ) (e : Extent) → m ≤ n → AreFine m e → AreFine n e
finer m n e h f = record { left = omega (arith, h, f.left); bottom = omega (arith, h, f.bottom); right = omega (arith, h, f.right); top = omega (arith, h, f.top) }

pub some_finer : (m n : ℕ) (e : Option Extent) → m ≤ n → IfSome e (AreFine m) → IfSome e (AreFine n)
some_finer m n None h f = tt
some_finer m n (Some e) h f = finer m n e h f

pub grain_small : (drawn : Drawn) → grain_of drawn ≤ 2 ^ 20
grain_small (Whole extent) = omega arith
grain_small (Mixed bbox) = omega arith

-- at most 2^20, in either case
pub fine_corners : (drawn : Drawn) (e : Option Extent) → IfSome e (AreFine (grain_of drawn)) → IfSome e (AreFine (2 ^ 20))
fine_corners drawn e h = some_finer (grain_of drawn) (2 ^ 20) e (grain_small drawn) h

-- ---- two outlines in one

both_within : (a b : List Segment) → AreWithin a → AreWithin b → AreWithin (a ++ b)
both_within a b h k = each-append IsWithin a b h k

both_true : (p q : Bool) → p ≡ true → q ≡ true → (p && q) ≡ true
both_true p q e f = rw (e, f) refl

pub united_whole : (r s : Reached) (one other drawn united : Option Extent) (a b : List Segment) → r.drawn ≡ Whole one → s.drawn ≡ Whole other → IsReach r a → IsReach s b
    → option_map extremes_of drawn ≡ unite_extremes (option_map extremes_of one) (option_map extremes_of other)
    → ((n : ℕ) → IfSome one (AreFine n) → IfSome other (AreFine n) → IfSome drawn (AreFine n))
    → option_map extremes_of united ≡ unite_extremes (option_map extremes_of r.corners) (option_map extremes_of s.corners)
    → ((n : ℕ) → IfSome r.corners (AreFine n) → IfSome s.corners (AreFine n) → IfSome united (AreFine n))
    → IsReach (record { drawn = Whole drawn; corners = united }) (a ++ b)
united_whole r s one other drawn united a b er es h k ed fd ec fc =
    let x : IsDrawnBy (Whole one) a = subst (λ d. IsDrawnBy d a) er h.drawn in
    let y : IsDrawnBy (Whole other) b = subst (λ d. IsDrawnBy d b) es k.drawn in
    let law = both_law a b h.within k.within in
    let fx : IfSome r.corners (AreFine 1) = subst (λ d. IfSome r.corners (AreFine (grain_of d))) er h.corners_fine in
    let fy : IfSome s.corners (AreFine 1) = subst (λ d. IfSome s.corners (AreFine (grain_of d))) es k.corners_fine in
    record {
      within = both_within a b h.within k.within;
      drawn = (
        whole_of_both a b ∙ both_true (is_whole_outline a) (is_whole_outline b) x.0 y.0,
        ed ∙ ap (λ e. unite_extremes e (option_map extremes_of other)) x.1 ∙ ap (unite_extremes (extremes (points a))) y.1 ∙ sym (ap (λ (s : Summary). s.drawn) law),
        fd (2 ^ 20) x.2 y.2,
      );
      corners = ec ∙ ap (λ e. unite_extremes e (option_map extremes_of s.corners)) h.corners ∙ ap (unite_extremes (extremes (corners a))) k.corners ∙ sym (ap (λ (s : Summary). s.corners) law);
      corners_fine = fc 1 fx fy;
    }

pub united_mixed : (r s : Reached) (united : Option Extent) (one other bbox : Option BBox) (a b : List Segment) → IsReach r a → IsReach s b
    → one ≡ drawn_box a → other ≡ drawn_box b → bbox ≡ unite_boxes one other
    → option_map extremes_of united ≡ unite_extremes (option_map extremes_of r.corners) (option_map extremes_of s.corners)
    → ((n : ℕ) → IfSome r.corners (AreFine n) → IfSome s.corners (AreFine n) → IfSome united (AreFine n))
    → IsReach (record { drawn = Mixed bbox; corners = united }) (a ++ b)
united_mixed r s united one other bbox a b h k ea eb eu ec fc =
    let law = both_law a b h.within k.within in
    record {
      within = both_within a b h.within k.within;
      drawn = eu ∙ ap (λ e. unite_boxes e other) ea ∙ ap (unite_boxes (drawn_box a)) eb ∙ sym (box_of_both a b);
      corners = ec ∙ ap (λ e. unite_extremes e (option_map extremes_of s.corners)) h.corners ∙ ap (unite_extremes (extremes (corners a))) k.corners ∙ sym (ap (λ (s : Summary). s.corners) law);
      corners_fine = fc (2 ^ 20) (fine_corners r.drawn r.corners h.corners_fine) (fine_corners s.drawn s.corners k.corners_fine);
    }

-- ---- moved outlines

exact_whole : (drawn : Drawn) (outline : List Segment) → IsExact drawn → IsDrawnBy drawn outline → is_whole_outline outline ≡ true
exact_whole (Whole extent) outline h k = k.0
exact_whole (Mixed bbox) outline h k = absurd h

moves_easily : (by : Point) (r : Reached) (outline : List Segment) → MovesReach by r → IsReach r outline → MovesEasily by outline
moves_easily by r outline (inl w) h = inl w
moves_easily by r outline (inr e) h = inr (whole_corners outline (each_whole outline (exact_whole r.drawn outline e h.drawn)))

-- what is moved
pub record IsMovedTo (by : Point) (outline moved : List Segment) : Type 0 where
  pub is : moved_outline by outline ≡ Ok moved
  pub within : AreWithin moved
  pub same : summary moved ≡ shifted_summary by (summary outline)

moved_reported : (by : Point) (outline : List Segment) (r : Result (List Segment) Code) → moved_outline by outline ≡ r → passed r ≡ Ok tt
    → IfOk r AreWithin → IfOk r (λ moved. summary moved ≡ shifted_summary by (summary outline)) → (moved : List Segment) × IsMovedTo by outline moved
moved_reported by outline (Ok moved) e p w s = (moved, record { is = e; within = w; same = s })
moved_reported by outline (Err c) e p w s = absurd (cc)

checked : (by : Point) (r : Reached) (outline : List Segment) → IsDistance by → MovesReach by r → IsReach r outline
    → passed (moved_outline by outline) ≡ move_check by (option_map extremes_of r.corners)
checked by r outline hb easy h = check_law by outline hb h.within (moves_easily by r outline easy h) ∙ ap (move_check by) (sym h.corners)

pub moves_to : (by : Point) (r : Reached) (outline : List Segment) → IsDistance by → MovesReach by r → IsReach r outline
    → move_check by (option_map extremes_of r.corners) ≡ Ok tt → (moved : List Segment) × IsMovedTo by outline moved
moves_to by r outline hb easy h e =
    moved_reported by outline (moved_outline by outline) refl (checked by r outline hb easy h ∙ e)
    (outline_within by outline (distance_number by hb) (numbers outline h.within)) (moved_law by outline hb h.within)

pub refused_by : (r : Result (List Segment) Code) (c : Code) → passed r ≡ Err c → r ≡ Err c
refused_by (Ok x) c e = absurd (cc)
refused_by (Err d) c e = let same : d ≡ c = cc in ap Err same

pub moves_not : (by : Point) (r : Reached) (outline : List Segment) (c : Code) → IsDistance by → MovesReach by r → IsReach r outline
    → move_check by (option_map extremes_of r.corners) ≡ Err c → moved_outline by outline ≡ Err c
moves_not by r outline c hb easy h e = refused_by (moved_outline by outline) c (checked by r outline hb easy h ∙ e)

moved_corners : (by : Point) (r : Reached) (outline moved : List Segment) (e : Option Extent) → IsReach r outline → IsMovedTo by outline moved
    → option_map extremes_of e ≡ option_map (shifted_by by) (option_map extremes_of r.corners) → option_map extremes_of e ≡ extremes (corners moved)
moved_corners by r outline moved e h m v = v ∙ ap (option_map (shifted_by by)) h.corners ∙ sym (ap (λ (s : Summary). s.corners) m.same)

moved_points : (by : Point) (extent : Option Extent) (outline moved : List Segment) (e : Option Extent) → option_map extremes_of extent ≡ extremes (points outline) → IsMovedTo by outline moved
    → option_map extremes_of e ≡ option_map (shifted_by by) (option_map extremes_of extent) → option_map extremes_of e ≡ extremes (points moved)
moved_points by extent outline moved e h m v = v ∙ ap (option_map (shifted_by by)) h ∙ sym (ap (λ (s : Summary). s.drawn) m.same)

-- a whole outline moved by a whole distance
pub moved_whole : (by : Point) (r : Reached) (extent drawn united : Option Extent) (outline : List Segment) → IsDistance by → MovesReach by r → IsWhole by → IsReach r outline → r.drawn ≡ Whole extent
    → move_check by (option_map extremes_of r.corners) ≡ Ok tt
    → option_map extremes_of drawn ≡ option_map (shifted_by by) (option_map extremes_of extent)
    → ((n : ℕ) → IsWhole by → IfSome extent (AreFine n) → IfSome drawn (AreFine n))
    → option_map extremes_of united ≡ option_map (shifted_by by) (option_map extremes_of r.corners)
    → ((n : ℕ) → IsWhole by → IfSome r.corners (AreFine n) → IfSome united (AreFine n))
    → ReportsAtOnce (Ok (record { drawn = Whole drawn; corners = united })) (moved_outline by outline)
moved_whole by r extent drawn united outline hb easy w h er ok ed fd ec fc =
    let m = moves_to by r outline hb easy h ok in
    let x : IsDrawnBy (Whole extent) outline = subst (λ d. IsDrawnBy d outline) er h.drawn in
    let stays : AllByRecursion IsWholeSegment m.0 = subst (λ t. IfOk t (AllByRecursion IsWholeSegment)) m.1.is (whole_stays by outline w (each_whole outline x.0)) in
    let fine : IfSome r.corners (AreFine 1) = subst (λ d. IfSome r.corners (AreFine (grain_of d))) er h.corners_fine in (
      m.0,
      m.1.is,
      record {
        within = m.1.within;
        drawn = (whole_each m.0 stays, moved_points by extent outline m.0 drawn x.1 m.1 ed, fd (2 ^ 20) w x.2);
        corners = moved_corners by r outline m.0 united h m.1 ec;
        corners_fine = fc 1 w fine;
      },
    )

-- a whole outline moved by a fraction
pub moved_fraction : (by : Point) (r : Reached) (extent drawn united : Option Extent) (bbox : Option BBox) (outline : List Segment) → IsDistance by → MovesReach by r → IsReach r outline → r.drawn ≡ Whole extent
    → move_check by (option_map extremes_of r.corners) ≡ Ok tt
    → option_map extremes_of drawn ≡ option_map (shifted_by by) (option_map extremes_of extent)
    → option_map extremes_of united ≡ option_map (shifted_by by) (option_map extremes_of r.corners)
    → (IsDistance by → IfSome r.corners (AreFine 1) → IfSome united (AreFine (2 ^ 20)))
    → bbox ≡ option_map rounded (option_map extremes_of drawn)
    → ReportsAtOnce (Ok (record { drawn = Mixed bbox; corners = united })) (moved_outline by outline)
moved_fraction by r extent drawn united bbox outline hb easy h er ok ed ec fc eb =
    let m = moves_to by r outline hb easy h ok in
    let x : IsDrawnBy (Whole extent) outline = subst (λ d. IsDrawnBy d outline) er h.drawn in
    let fine : IfSome r.corners (AreFine 1) = subst (λ d. IfSome r.corners (AreFine (grain_of d))) er h.corners_fine in (
      m.0,
      m.1.is,
      record {
        within = m.1.within;
        drawn = eb ∙ ap (option_map rounded) (moved_points by extent outline m.0 drawn x.1 m.1 ed) ∙ sym (drawn_box_law m.0 m.1.within);
        corners = moved_corners by r outline m.0 united h m.1 ec;
        corners_fine = fc hb fine;
      },
    )

-- where the outline isn't kept exactly, the move is whole
pub mixed_whole : (by : Point) (r : Reached) (bbox : Option BBox) → MovesReach by r → r.drawn ≡ Mixed bbox → IsWhole by
mixed_whole by r bbox (inl w) e = w
mixed_whole by r bbox (inr exact) e = absurd (subst IsExact e exact)

-- the drawn points of a whole outline aren't past the limit where its corners aren't
pub never_drawn : (by : Point) (r : Reached) (extent : Option Extent) (outline : List Segment) (c : Code) → IsDistance by → MovesReach by r → IsReach r outline → r.drawn ≡ Whole extent
    → move_check by (option_map extremes_of r.corners) ≡ Ok tt → move_check by (option_map extremes_of extent) ≡ Err c → ⊥
never_drawn by r extent outline c hb easy h er ok e =
    let m = moves_to by r outline hb easy h ok in
    let x : IsDrawnBy (Whole extent) outline = subst (λ d. IsDrawnBy d outline) er h.drawn in
    let same : move_check by (option_map extremes_of extent) ≡ Ok tt =
    ap (move_check by) x.1 ∙ ap (λ (s : Summary). limit_check s.drawn) (sym m.1.same) ∙ (limits_law m.0 m.1.within).0 in
    cc

-- ---- small boxes

-- each side is small
record IsSmall (b : BBox) : Type 0 where
  left : unsigned_abs b.left ≤ 2 ^ 20
  bottom : unsigned_abs b.bottom ≤ 2 ^ 20
  right : unsigned_abs b.right ≤ 2 ^ 20
  top : unsigned_abs b.top ≤ 2 ^ 20

small_rounded : (e : Extremes) → AreLowest e → limit_check (Some e) ≡ Ok tt → IsSmall (rounded e)
small_rounded e h k =
    let t = four_sides e k in
    record {
      left = rw (sym h.left.lowest) (floor_limited e.left h.left.above (ap (exceeds (2 ^ 20)) h.left.lowest ∙ t.0));
      bottom = rw (sym h.bottom.lowest) (floor_limited e.bottom h.bottom.above (ap (exceeds (2 ^ 20)) h.bottom.lowest ∙ t.1));
      right = rw (sym h.right.lowest) (ceiling_limited e.right h.right.above (ap (exceeds (2 ^ 20)) h.right.lowest ∙ t.2));
      top = rw (sym h.top.lowest) (ceiling_limited e.top h.top.above (ap (exceeds (2 ^ 20)) h.top.lowest ∙ t.3));
    }

small_some : (e : Option Extremes) → IfSome e AreLowest → limit_check e ≡ Ok tt → IfSome (option_map rounded e) IsSmall
small_some None h k = tt
small_some (Some e) h k = small_rounded e h k

small_box : (outline : List Segment) → AreWithin outline → IfSome (drawn_box outline) IsSmall
small_box outline h =
    subst (λ b. IfSome b IsSmall) (sym (drawn_box_law outline h))
    (small_some (extremes (points outline)) (extremes_lowest (points outline) (outline_numbers outline (numbers outline h))) (limits_law outline h).0)

near_is : (by : Point) (b : BBox) → IsSmall (moved_box by b) → IsNear by b
near_is by b h = record { left = omega (arith, h.left); bottom = omega (arith, h.bottom); right = omega (arith, h.right); top = omega (arith, h.top) }

near_some : (by : Point) (b : Option BBox) → IfSome (option_map (moved_box by) b) IsSmall → IfSome b (IsNear by)
near_some by None h = tt
near_some by (Some b) h = near_is by b h

-- a box that is moved with its outline
pub moved_near : (by : Point) (r : Reached) (bbox : Option BBox) (outline : List Segment) → IsDistance by → MovesReach by r → IsWhole by → IsReach r outline → r.drawn ≡ Mixed bbox
    → move_check by (option_map extremes_of r.corners) ≡ Ok tt → IfSome bbox (IsNear by)
moved_near by r bbox outline hb easy w h er ok =
    let m = moves_to by r outline hb easy h ok in
    let x : bbox ≡ drawn_box outline = subst (λ d. IsDrawnBy d outline) er h.drawn in
    let law : drawn_box m.0 ≡ option_map (moved_box by) (drawn_box outline) =
    subst (λ t. IfOk t (λ moved. drawn_box moved ≡ option_map (moved_box by) (drawn_box outline))) m.1.is (box_moves_law by outline hb w h.within) in
    near_some by bbox (subst (λ b. IfSome b IsSmall) (law ∙ ap (option_map (moved_box by)) (sym x)) (small_box m.0 m.1.within))

-- any outline moved by a whole distance
pub moved_rounded : (by : Point) (r : Reached) (bbox to : Option BBox) (united : Option Extent) (outline : List Segment) → IsDistance by → MovesReach by r → IsWhole by → IsReach r outline → r.drawn ≡ Mixed bbox
    → move_check by (option_map extremes_of r.corners) ≡ Ok tt
    → option_map extremes_of united ≡ option_map (shifted_by by) (option_map extremes_of r.corners)
    → ((n : ℕ) → IsWhole by → IfSome r.corners (AreFine n) → IfSome united (AreFine n))
    → to ≡ option_map (moved_box by) bbox
    → ReportsAtOnce (Ok (record { drawn = Mixed to; corners = united })) (moved_outline by outline)
moved_rounded by r bbox to united outline hb easy w h er ok ec fc et =
    let m = moves_to by r outline hb easy h ok in
    let x : bbox ≡ drawn_box outline = subst (λ d. IsDrawnBy d outline) er h.drawn in
    let law : drawn_box m.0 ≡ option_map (moved_box by) (drawn_box outline) =
    subst (λ t. IfOk t (λ moved. drawn_box moved ≡ option_map (moved_box by) (drawn_box outline))) m.1.is (box_moves_law by outline hb w h.within) in (
      m.0,
      m.1.is,
      record {
        within = m.1.within;
        drawn = et ∙ ap (option_map (moved_box by)) x ∙ sym law;
        corners = moved_corners by r outline m.0 united h m.1 ec;
        corners_fine = fc (2 ^ 20) w (fine_corners r.drawn r.corners h.corners_fine);
      },
    )

-- ---- segment by segment

-- how far the front reaches is known, and the rest makes the whole
abbrev pub Leads : Reached → Result (List Segment) Code → Result (List Segment) Code → Type 0
Leads reached rest whole = (front : List Segment) × IsReach reached front × (whole ≡ (rest >>= λ ss. Ok (front ++ ss)))

appended : (xs : List Segment) (x : Segment) (r : Result (List Segment) Code)
    → ((r >>= λ ss. Ok (x ∷ ss)) >>= λ ss. Ok (xs ++ ss)) ≡ (r >>= λ ss. Ok ((xs ++ (x ∷ [])) ++ ss))
appended xs x (Err c) = refl
appended xs x (Ok ss) = ap Ok (sym (append_assoc xs (x ∷ []) ss))

-- with one segment more
pub leads_on : (r s t : Reached) (x : Segment) (one rest whole : Result (List Segment) Code) → Leads r one whole → one ≡ (rest >>= λ ss. Ok (x ∷ ss)) → IsReach s (x ∷ [])
    → ((a b : List Segment) → IsReach r a → IsReach s b → IsReach t (a ++ b)) → Leads t rest whole
leads_on r s t x one rest whole l is k unite_extremes =
    (l.0 ++ (x ∷ []), unite_extremes l.0 (x ∷ []) l.1 k, l.2 ∙ ap (λ u. u >>= λ ss. Ok (l.0 ++ ss)) is ∙ appended l.0 x rest)

pub leads_end : (r : Reached) (rest whole : Result (List Segment) Code) → Leads r rest whole → rest ≡ Ok [] → ReportsAtOnce (Ok r) whole
leads_end r rest whole l is = (l.0, l.2 ∙ ap (λ u. u >>= λ ss. Ok (l.0 ++ ss)) is ∙ ap Ok (append-nil l.0), l.1)

pub leads_refused : (r : Reached) (rest whole : Result (List Segment) Code) (c : Code) → Leads r rest whole → rest ≡ Err c → whole ≡ Err c
leads_refused r rest whole c l is = l.2 ∙ ap (λ u. u >>= λ ss. Ok (l.0 ++ ss)) is
