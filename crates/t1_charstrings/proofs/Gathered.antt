-- Charstrings that are added one after another, the first of each key.
use Rattle.std.proofs.Common.{◌≡◌, ℕ, Bool, true, false, cond, List, Option, Some, None, refl, sym, ap}
use Rattle.std.specs.Prelude.{◌==◌}
use Rattle.std.specs.Option.{option_map, option_or}
use Rattle.std.specs.Str.{bytes_eq}
use Rattle.std.proofs.lemmas.Bool.{eqb-true}
use Rattle.std.proofs.lemmas.Slice.Eq.{bytes_eq-Decides}
use Rattle.t1_code.specs.declared.command.Command.{Command}
use Rattle.t1_run.specs.Run.{Subr, Glyph}
use Rattle.t1_charstrings.specs.Entries.{encrypted}

pub or-map : {X Y : Type 0} (f : X → Y) (r s : Option X) → option_or (option_map f r) (option_map f s) ≡ option_map f (option_or r s)
or-map f None s = refl
or-map f (Some x) s = refl

-- the charstring of a key stands at that key
pub subr-there : (lead n number : ℕ) (body : List Command)
    → cond (n == number) (Some (encrypted lead (Subr number) body)) None ≡ option_map (encrypted lead (Subr n)) (cond (n == number) (Some body) None)
subr-there lead n number body = by (n == number) refl where
  by : (b : Bool) → (n == number) ≡ b → cond b (Some (encrypted lead (Subr number) body)) None ≡ option_map (encrypted lead (Subr n)) (cond b (Some body) None)
  by true on = ap (λ m. Some (encrypted lead (Subr m) body)) (sym (eqb-true n number on))
  by false off = refl

pub glyph-there : (lead : ℕ) (g name : List ℕ) (body : List Command)
    → cond (bytes_eq g name) (Some (encrypted lead (Glyph name) body)) None ≡ option_map (encrypted lead (Glyph g)) (cond (bytes_eq g name) (Some body) None)
glyph-there lead g name body = by (bytes_eq g name) refl where
  by : (b : Bool) → bytes_eq g name ≡ b → cond b (Some (encrypted lead (Glyph name) body)) None ≡ option_map (encrypted lead (Glyph g)) (cond b (Some body) None)
  by true on = ap (λ m. Some (encrypted lead (Glyph m) body)) (sym ((bytes_eq-Decides g name).0 on))
  by false off = refl
