-- Runs that are counted one after another.
use Rattle.std.proofs.Common.{◌≡◌, ℕ, zero, suc, ◌+◌, ◌≤◌, ◌^◌, ◌-◌, min, refl, ap, ◌∙◌, arith}
use Rattle.std.specs.Prelude.{Result, Ok, Err}
use Rattle.std.specs.Result.{OnOk}
use Rattle.t1_font.specs.Runs.{CountsSome}
use Rattle.t1_font.specs.RunCounts.{counted}

-- so many runs, and then so many more
pub counted_both : (count a b : ℕ) → counted (counted count a) b ≡ counted count (a + b)
counted_both count a zero =
    let same : a ≡ a + zero = omega arith in
    ap (counted count) same
counted_both count a (suc b) =
    let same : suc (a + b) ≡ a + suc b = omega arith in
    ap (λ n. min (n + 1) (2 ^ 64 - 1)) (counted_both count a b) ∙ ap (counted count) same

-- no run, of so many
pub none_of : (runs count : ℕ) → CountsSome runs count count
none_of runs count = (0, omega arith, refl)

-- all of them
pub all_of : (runs old new made : ℕ) → new ≡ counted old made → made ≤ runs → CountsSome runs old new
all_of runs old new made e h = (made, h, e)

pub all_counted : (runs old new : ℕ) → new ≡ counted old runs → CountsSome runs old new
all_counted runs old new e = all_of runs old new runs e (omega arith)

-- what holds anyway holds of a value
pub on_ok : {X E P : Type 0} (r : Result X E) → P → OnOk r P
on_ok (Ok x) p = p
on_ok (Err e) p = tt

-- some more, after those that were made
pub some_after : (runs old mid new made more : ℕ) → mid ≡ counted old made → made + more ≤ runs → CountsSome more mid new → CountsSome runs old new
some_after runs old mid new made more e h some = (
  made + some.0,
  omega (arith, h, some.1),
  some.2 ∙ ap (λ count. counted count some.0) e ∙ counted_both old made some.0,
)

-- the glyph itself was run, and then both parts
pub parts_counted : (old mid next new base accent all : ℕ) → mid ≡ counted old 1 → next ≡ counted mid base → new ≡ counted next accent → all ≡ 1 + (base + accent)
    → new ≡ counted old all
parts_counted old mid next new base accent all e f h whole =
    let sum : 1 + base + accent ≡ all = omega (arith, whole) in
    h ∙ ap (λ n. counted n accent) (f ∙ ap (λ n. counted n base) e ∙ counted_both old 1 base) ∙ counted_both old (1 + base) accent ∙ ap (counted old) sum

-- the glyph itself was run, and some of the glyphs for its base
pub base_counted : (old mid new base accent all : ℕ) → mid ≡ counted old 1 → CountsSome base mid new → all ≡ 1 + (base + accent) → CountsSome all old new
base_counted old mid new base accent all e h whole = some_after all old mid new 1 base e (omega (arith, whole)) h

-- the glyph itself was run, those for its base, and some of those for its accent
pub accent_counted : (old mid next new base accent all : ℕ) → mid ≡ counted old 1 → next ≡ counted mid base → CountsSome accent next new → all ≡ 1 + (base + accent)
    → CountsSome all old new
accent_counted old mid next new base accent all e f h whole =
    some_after all old next new (1 + base) accent (f ∙ ap (λ n. counted n base) e ∙ counted_both old 1 base) (omega (arith, whole)) h
