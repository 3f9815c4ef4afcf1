-- The glyph whose own run fails, by its own run and by its parts.
use Rattle.std.proofs.Common.{◌≡◌, ℕ, zero, suc, ◌-◌, List, refl, sym, ap, ◌∙◌, subst, Option, Some, None, option_map, arith}
use Rattle.std.specs.Prelude.{Result, Ok, Err, option_and_then}
use Rattle.std.specs.Option.{option_or}
use Rattle.t1_frac.specs.Outcome.{fault_at, reported_at}
use Rattle.t1_frac.specs.declared.fault.Code.{Code}
use Rattle.t1_frac.specs.declared.fault.Fault.{Fault}
use Rattle.t1_frac.specs.declared.fault.Place.TheVariants.{Nowhere}
use Rattle.t1_frac.specs.declared.fault.Refusal.{Refusal}
use Rattle.t1_frac.specs.declared.fault.Refusal.TheVariants as refusals
use Rattle.t1_code.specs.declared.command.Command.{Command}
use Rattle.t1_chain.specs.Failing.{Failure, failure_in}
use Rattle.t1_run.specs.declared.outline.Composite.{Composite}
use Rattle.t1_run.specs.OwnRuns.{GivesOwn}
use Rattle.t1_run.specs.Run.{FontBodies, Drawing, NumberedRun, font, own, own_of}
use Rattle.t1_run.specs.Run as keys
use Rattle.t1_font.specs.KeptBodies.{SameBodies}
use Rattle.t1_refusal.specs.declared.met.FailedRun.{FailedRun}
use Rattle.t1_refusal.specs.Met.{failed, met_in_parts, met_within}
use Rattle.t1_chain.specs.GlyphFailures.{GlyphFailure, parts_found}
use Rattle.t1_refusal.specs.Bodies.{seen_of}

-- ---- a glyph itself

abbrev failing : FontBodies → List ℕ → List Command → Option GlyphFailure
failing m g body = option_map (λ failure. record { glyph = g; failure = failure }) (failure_in m body)

pub failed_none : (m : FontBodies) (g : List ℕ) → None ≡ m.glyphs g → ◌≡◌ {A = Option GlyphFailure} None (failed m g)
failed_none m g e = ap (option_and_then (failing m g)) e

pub failed_is : (m : FontBodies) (g : List ℕ) (body : List Command) (f : Option Failure) → Some body ≡ m.glyphs g → f ≡ failure_in m body
    → ◌≡◌ {A = Option GlyphFailure} (option_map (λ failure. record { glyph = g; failure = failure }) f) (failed m g)
failed_is m g body f there is = ap (option_map (λ failure. record { glyph = g; failure = failure })) is ∙ ap (option_and_then (failing m g)) there

-- ---- the parts of a run

pub no_parts : (m : FontBodies) (g : List ℕ) → None ≡ m.glyphs g → ◌≡◌ {A = Option Composite} None (parts_found (own m g))
unfolding own
no_parts m g e = ap (λ body. parts_found (own_of m body)) e

pub parts_drawn : (own : Option (Result Drawing Code)) (run : NumberedRun) → GivesOwn (Ok run) own → run.drawing.composite ≡ parts_found own
parts_drawn None run h = absurd (h)
parts_drawn (Some (Ok d)) run h =
    let same : d ≡ run.drawing = cc in
    ap (λ (x : Drawing). x.composite) (sym same)
parts_drawn (Some (Err code)) run h = absurd (cc)

pub parts_refused : (own : Option (Result Drawing Code)) (r : Refusal) (fault : Fault) → r ≡ refusals.Fault fault → GivesOwn (Err r) own → ◌≡◌ {A = Option Composite} None (parts_found own)
parts_refused None r fault e h = absurd (h)
parts_refused (Some (Err code)) r fault e h = refl
parts_refused (Some (Ok d)) r fault e h =
    let refused = subst (λ x. GivesOwn (Err x) (Some (Ok d))) e h in
    absurd (cc)

-- ---- the glyph itself, then its parts

pub met_itself : (m : FontBodies) (depth : ℕ) (g : List ℕ) (f : GlyphFailure) → Some f ≡ failed m g → Some f ≡ met_within m depth g
met_itself m zero g f e = e
met_itself m (suc depth) g f e = ap (λ o. option_or o (met_in_parts (met_within m depth) (parts_found (own m g)))) e

pub met_no_deeper : (m : FontBodies) (depth : ℕ) (g : List ℕ) → depth ≡ 0 → None ≡ failed m g → None ≡ met_within m depth g
met_no_deeper m zero g is e = e
met_no_deeper m (suc depth) g is e = absurd (omega (arith, is))

pub met_by_parts : (m : FontBodies) (depth : ℕ) (g : List ℕ) (parts : Option Composite) → (depth ≡ 0 → ⊥) → None ≡ failed m g → parts ≡ parts_found (own m g)
    → met_within m depth g ≡ met_in_parts (met_within m (depth - 1)) parts
met_by_parts m zero g parts some e p = absurd (some refl)
met_by_parts m (suc depth) g parts some e p =
    let below : depth ≡ suc depth - 1 = omega arith in
    ap (λ o. option_or o (met_in_parts (met_within m depth) (parts_found (own m g)))) (sym e) ∙ ap (met_in_parts (met_within m depth)) (sym p)
    ∙ ap (λ n. met_in_parts (met_within m n) parts) below

pub met_in_accent : (m : FontBodies) (depth : ℕ) (g : List ℕ) (itself : Option FailedRun) (parts : Option Composite) (c : Composite) (in_base : Option FailedRun) (base accent : List ℕ)
    → option_map seen_of itself ≡ failed m g → itself ≡ None → (depth ≡ 0 → ⊥) → parts ≡ parts_found (own m g) → parts ≡ Some c
    → option_map seen_of in_base ≡ met_within m (depth - 1) base → in_base ≡ None → base ≡ c.base → accent ≡ c.accent
    → met_within m (depth - 1) accent ≡ met_within m depth g
met_in_accent m depth g itself parts c in_base base accent is none some p found b b-none same-base same-accent =
    let part = met_within m (depth - 1) in
    let sound : ◌≡◌ {A = Option GlyphFailure} None (failed m g) = sym (ap (option_map seen_of) none) ∙ is in
    let base-sound : ◌≡◌ {A = Option GlyphFailure} (part c.base) None = ap part (sym same-base) ∙ sym b ∙ ap (option_map seen_of) b-none in
    ap part same-accent
    ∙ sym (met_by_parts m depth g parts some sound p ∙ ap (met_in_parts part) found ∙ ap (λ o. option_or o (part c.accent)) base-sound)

-- ---- fonts with the same bodies

same-font : (m n : FontBodies) → SameBodies m n → m ≡ n
same-font m n h = λ j. font (λ k. h (keys.Subr k) j) (λ g. h (keys.Glyph g) j)

pub met_same : (m n : FontBodies) (depth : ℕ) (g : List ℕ) → SameBodies m n → met_within m depth g ≡ met_within n depth g
met_same m n depth g h = ap (λ x. met_within x depth g) (same-font m n h)
