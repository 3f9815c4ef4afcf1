use Rattle.std.proofs.Common.{◌≡◌, ◌≤◌, ◌^◌, ℤ, ◌+ℤ◌, arith}
use Rattle.std.specs.Int.RustNames.{unsigned_abs, FitsSigned}
use Rattle.std.proofs.lemmas.Int.{ints}
use mir.Syntax.{w64}
use Rattle.t1_afm.proofs.Longs.{read, read_small}
use Rattle.t1_afm.proofs.whole.Sample.next.Goals as goal

sum_fits : (a b : ℤ) → unsigned_abs a ≤ 2 ^ 60 → unsigned_abs b ≤ 2 ^ 60 → FitsSigned w64 (read a +ℤ read b)
sum_fits a b h k = rw (read_small a h, read_small b k) (omega (arith, ints, h, k))

sum : (a b : ℤ) → unsigned_abs a ≤ 2 ^ 60 → unsigned_abs b ≤ 2 ^ 60 → read (read a +ℤ read b) ≡ a +ℤ b
sum a b h k = rw (read_small a h, read_small b k) (omega (arith, ints, h, k))

pub overflow_add-result : goal.overflow_add-result
overflow_add-result c = let s = c.args.self.now in sum_fits s.value s.first c.requires.value c.requires.first

pub overflow_add-result-2 : goal.overflow_add-result-2
overflow_add-result-2 c = let s = c.args.self.now in sum_fits s.first s.second c.requires.first c.requires.second

pub overflow_add-result-3 : goal.overflow_add-result-3
overflow_add-result-3 c = let s = c.args.self.now in sum_fits s.second s.third c.requires.second c.requires.third

pub returns-clause-value : goal.returns-clause-value
returns-clause-value c = let s = c.args.self.now in sum s.value s.first c.requires.value c.requires.first

pub returns-clause-first : goal.returns-clause-first
returns-clause-first c = let s = c.args.self.now in sum s.first s.second c.requires.first c.requires.second

pub returns-clause-second : goal.returns-clause-second
returns-clause-second c = let s = c.args.self.now in sum s.second s.third c.requires.second c.requires.third

pub returns-clause-third : goal.returns-clause-third
returns-clause-third c = read_small c.args.self.now.third c.requires.third
