-- A glyph's outline and the runs for it, by its own run and by its parts.
use Rattle.std.proofs.Common.{◌≡◌, ℕ, zero, suc, ◌+◌, ◌-◌, ◌≤◌, List, refl, sym, ap, ◌∙◌, subst, Option, Some, None, arith}
use Rattle.std.specs.Prelude.{Result, Ok, Err}
use Rattle.std.specs.Borrow.{Bor}
use Rattle.std.specs.Option.{option_copied}
use Rattle.t1_frac.specs.Outcome.{◌>>=◌, Refuses, fault_at, reported_at}
use Rattle.t1_frac.specs.declared.fault.Code.{Code}
use Rattle.t1_frac.specs.declared.fault.Code.TheVariants.{F45, F46}
use Rattle.t1_frac.specs.declared.fault.Place.TheVariants.{Nowhere}
use Rattle.t1_frac.specs.declared.fault.Refusal.{Refusal}
use Rattle.t1_frac.specs.declared.fault.Refusal.TheVariants.{Fault, Memory}
use Rattle.t1_frac.proofs.OutcomeLaws.{reported_ok}
use Rattle.t1_code.specs.declared.command.Command.{Command}
use Rattle.t1_run.specs.declared.outline.Composite.{Composite}
use Rattle.t1_run.specs.declared.outline.Segment.{Segment}
use Rattle.t1_run.specs.Composite.{drawn, with_parts, joined_outline, outline_within}
use Rattle.t1_run.specs.OwnRuns.{GivesOwn}
use Rattle.t1_run.specs.Run.{FontBodies, Drawing, NumberedRun, body_stop, outcome_of, own, own_of}
use Rattle.t1_extent.proofs.Walking.{Kept, composed}
use Rattle.t1_outline.specs.Counting.{runs_for_parts, runs_after, runs_within}

-- ---- what a run draws

-- the body that was found
pub body_there : {o : Option (Bor (List Command))} {found : Bor (List Command)} {body : Option (List Command)} → option_copied o ≡ body → o ≡ Some found → body ≡ Some found.now
body_there copied is = sym copied ∙ ap option_copied is

-- no body was found
pub no_body : {o : Option (Bor (List Command))} {body : Option (List Command)} → option_copied o ≡ body → o ≡ None → body ≡ None
no_body copied is = sym copied ∙ ap option_copied is

own_there : (m : FontBodies) (g : List ℕ) (body : List Command) → m.glyphs g ≡ Some body → own m g ≡ Some (outcome_of (body_stop m body))
unfolding own
own_there m g body e = ap (own_of m) e

pub own_missing : (m : FontBodies) (g : List ℕ) → m.glyphs g ≡ None → own m g ≡ None
unfolding own
own_missing m g e = ap (own_of m) e

pub run_drew : (own : Option (Result Drawing Code)) (run : NumberedRun) → GivesOwn (Ok run) own → Some (Ok run.drawing) ≡ own
run_drew None run h = absurd (h)
run_drew (Some (Ok d)) run h =
    let same : d ≡ run.drawing = cc in
    ap (λ x. Some (Ok x)) (sym same)
run_drew (Some (Err code)) run h = absurd (cc)

own_refused : (part : List ℕ → Result (List Segment) Code) (own : Option (Result Drawing Code)) (refused : Refusal) → GivesOwn (Err refused) own
    → Refuses refused (reported_at Nowhere (drawn part own))
own_refused part None refused h = absurd (h)
own_refused part (Some (Ok d)) Memory h = tt
own_refused part (Some (Ok d)) (Fault fault) h = absurd (cc)
own_refused part (Some (Err code)) Memory h = tt
own_refused part (Some (Err code)) (Fault fault) h =
    let same : fault_at Nowhere code ≡ fault = cc in
    ap Err same

pub run_refused : (run : Kept) (depth : ℕ) (name : List ℕ) (refused : Refusal) → GivesOwn (Err refused) (run name)
    → Refuses refused (reported_at Nowhere (outline_within run depth name))
run_refused run zero name refused h = own_refused (λ part. Err F46) (run name) refused h
run_refused run (suc depth) name refused h = own_refused (outline_within run depth) (run name) refused h

pub missing : (run : Kept) (depth : ℕ) (name : List ℕ) → run name ≡ None → outline_within run depth name ≡ Err F45
missing run zero name e = ap (drawn (λ part. Err F46)) e
missing run (suc depth) name e = ap (drawn (outline_within run depth)) e

pub nested_too_deep : (run : Kept) (depth : ℕ) (name : List ℕ) (d : Drawing) (c : Composite) → depth ≡ 0 → Some (Ok d) ≡ run name → Some c ≡ d.composite
    → outline_within run depth name ≡ Err F46
nested_too_deep run zero name d c h e f = ap (drawn (λ part. Err F46)) (sym e) ∙ ap (λ c'. with_parts (λ part. Err F46) c' d) (sym f)
nested_too_deep run (suc depth) name d c h e f = absurd (omega (arith, h))

-- ---- the parts, one after the other

-- the outline of a composite, by those of its parts
abbrev by_both : Drawing → Result (List Segment) Code → Result (List Segment) Code → Result (List Segment) Code
by_both d base accent = base >>= (λ b. accent >>= (λ a. joined_outline d b a))

base_ends : (d : Drawing) (base accent : Result (List Segment) Code) (refused : Refusal) → Refuses refused (reported_at Nowhere base)
    → Refuses refused (reported_at Nowhere (by_both d base accent))
base_ends d base accent Memory h = tt
base_ends d (Ok b) accent (Fault fault) h = absurd (cc)
base_ends d (Err code) accent (Fault fault) h = h

accent_ends : (d : Drawing) (base : List Segment) (accent : Result (List Segment) Code) (refused : Refusal) → Refuses refused (reported_at Nowhere accent)
    → Refuses refused (reported_at Nowhere (by_both d (Ok base) accent))
accent_ends d base accent Memory h = tt
accent_ends d base (Ok a) (Fault fault) h = absurd (cc)
accent_ends d base (Err code) (Fault fault) h = h

module _ (run : Kept) (depth : ℕ) (name : List ℕ) (d : Drawing) (c : Composite) (deep : depth ≡ 0 → ⊥) (drew : Some (Ok d) ≡ run name) (parts : Some c ≡ d.composite) where
  by-both : outline_within run depth name ≡ by_both d (outline_within run (depth - 1) c.base) (outline_within run (depth - 1) c.accent)
  by-both = composed run depth name d c deep drew parts

  pub base_refused : (refused : Refusal) → Refuses refused (reported_at Nowhere (outline_within run (depth - 1) c.base)) → Refuses refused (reported_at Nowhere (outline_within run depth name))
  base_refused refused h = subst (λ r. Refuses refused (reported_at Nowhere r)) (sym by-both) (base_ends d (outline_within run (depth - 1) c.base) (outline_within run (depth - 1) c.accent) refused h)

  pub accent_refused : (base : List Segment) (refused : Refusal) → reported_at Nowhere (outline_within run (depth - 1) c.base) ≡ Ok base → Refuses refused (reported_at Nowhere (outline_within run (depth - 1) c.accent))
      → Refuses refused (reported_at Nowhere (outline_within run depth name))
  accent_refused base refused b h =
      subst (λ r. Refuses refused (reported_at Nowhere r)) (sym (by-both ∙ ap (λ r. by_both d r (outline_within run (depth - 1) c.accent)) (reported_ok Nowhere (outline_within run (depth - 1) c.base) base b))) (accent_ends d base (outline_within run (depth - 1) c.accent) refused h)

  pub joined_both : (base accent : List Segment) → reported_at Nowhere (outline_within run (depth - 1) c.base) ≡ Ok base → reported_at Nowhere (outline_within run (depth - 1) c.accent) ≡ Ok accent
      → outline_within run depth name ≡ joined_outline d base accent
  joined_both base accent b a = by-both ∙ ap (λ r. by_both d r (outline_within run (depth - 1) c.accent)) (reported_ok Nowhere (outline_within run (depth - 1) c.base) base b) ∙ ap (λ r. by_both d (Ok base) r) (reported_ok Nowhere (outline_within run (depth - 1) c.accent) accent a)

-- ---- how many runs

pub runs_lonely : (run : Kept) (depth : ℕ) (name : List ℕ) (d : Drawing) → Some (Ok d) ≡ run name → None ≡ d.composite → runs_within run depth name ≡ 1
runs_lonely run zero name d e f = ap (runs_after (λ part. 0)) (sym e) ∙ ap (λ c. 1 + runs_for_parts (λ part. 0) c) (sym f)
runs_lonely run (suc depth) name d e f = ap (runs_after (runs_within run depth)) (sym e) ∙ ap (λ c. 1 + runs_for_parts (runs_within run depth) c) (sym f)

pub runs_composed : (run : Kept) (depth : ℕ) (name : List ℕ) (d : Drawing) (c : Composite) → (depth ≡ 0 → ⊥) → Some (Ok d) ≡ run name → Some c ≡ d.composite
    → runs_within run depth name ≡ 1 + (runs_within run (depth - 1) c.base + runs_within run (depth - 1) c.accent)
runs_composed run zero name d c h e f = absurd (h refl)
runs_composed run (suc depth) name d c h e f =
    let below : suc depth - 1 ≡ depth = omega arith in
    rw below (ap (runs_after (runs_within run depth)) (sym e) ∙ ap (λ c'. 1 + runs_for_parts (runs_within run depth) c') (sym f))

one_after : (part : List ℕ → ℕ) (own : Result Drawing Code) → 1 ≤ runs_after part (Some own)
one_after part (Ok d) = omega arith
one_after part (Err code) = omega arith

one_at_least : (run : Kept) (depth : ℕ) (name : List ℕ) (own : Result Drawing Code) → run name ≡ Some own → 1 ≤ runs_within run depth name
one_at_least run zero name own e = subst (λ r. 1 ≤ runs_after (λ part. 0) r) (sym e) (one_after (λ part. 0) own)
one_at_least run (suc depth) name own e = subst (λ r. 1 ≤ runs_after (runs_within run depth) r) (sym e) (one_after (runs_within run depth) own)

-- a glyph that is there is run
pub run_once : (m : FontBodies) (depth : ℕ) (name : List ℕ) (body : List Command) → m.glyphs name ≡ Some body → 1 ≤ runs_within (own m) depth name
run_once m depth name body e = one_at_least (own m) depth name (outcome_of (body_stop m body)) (own_there m name body e)

pub none_run : (run : Kept) (depth : ℕ) (name : List ℕ) → run name ≡ None → runs_within run depth name ≡ 0
none_run run zero name e = ap (runs_after (λ part. 0)) e
none_run run (suc depth) name e = ap (runs_after (runs_within run depth)) e
