-- A composite's parts have names of StandardEncoding.
use Rattle.std.proofs.Common.{◌≡◌, ℕ, Bool, true, false, cond, List, [], ◌∷◌, refl, sym, ◌∙◌, ap, Option, Some, None}
use Rattle.std.specs.Prelude.{◌||◌, Ok, ℤ, pos, negsuc, nat_lt, nat_eq}
use Rattle.std.specs.List.{list_any}
use Rattle.std.specs.Map.{lookup}
use Rattle.std.specs.Option.{ok_or}
use Rattle.std.specs.Str.{bytes_eq}
use Rattle.std.proofs.lemmas.Slice.Eq.{bytes_eq-Decides}
use Rattle.t1_frac.specs.Outcome.{◌>>=◌}
use Rattle.t1_frac.specs.declared.fault.Code.TheVariants.{F44, F45}
use Rattle.t1_code.specs.Encoding.{is_standard_name, standard_name, standard_names}
use Rattle.t1_code.specs.declared.command.Command.{Command}
use Rattle.t1_run.specs.declared.outline.Accent.{Accent}
use Rattle.t1_run.specs.declared.outline.Composite.{Composite}
use Rattle.t1_run.specs.Composite.{HasStandardParts}
use Rattle.t1_run.specs.Run.{composite_of, standard_glyph}

abbrev has-name : List ℕ → List (ℕ × List ℕ) → Bool
has-name name rows = list_any (λ (row : ℕ × List ℕ). bytes_eq row.1 name) rows

-- a name that is found in a table is one of the table's
found-name : (test : ℕ → Bool) (rows : List (ℕ × List ℕ)) (name : List ℕ) → lookup test rows ≡ Some name → has-name name rows ≡ true
found-name test [] name e = absurd (cc)
found-name test (row ∷ rows) name e = by (test row.0) (found-name test rows name) e where
  same : (b : Bool) → row.1 ≡ name → (bytes_eq row.1 name || b) ≡ true
  same b is = ap (λ t. t || b) ((bytes_eq-Decides row.1 name).1 is)

  or-true : (a b : Bool) → b ≡ true → (a || b) ≡ true
  or-true true b h = refl
  or-true false b h = h

  by : (b : Bool) → (lookup test rows ≡ Some name → has-name name rows ≡ true) → cond b (Some row.1) (lookup test rows) ≡ Some name
      → has-name name (row ∷ rows) ≡ true
  by true later h = same (has-name name rows) (cc)
  by false later h = or-true (bytes_eq row.1 name) (has-name name rows) (later h)

standard : (code : ℕ) (name : List ℕ) → standard_name code ≡ Some name → is_standard_name name ≡ true
unfolding standard_name is_standard_name
standard code name e = found-name (nat_eq code) standard_names name e

encoded-name : (code : ℤ) (name : List ℕ) → standard_glyph code ≡ Some name → is_standard_name name ≡ true
encoded-name (negsuc n) name e = absurd (cc)
encoded-name (pos n) name e = by (nat_lt n 256) e where
  by : (b : Bool) → cond b (standard_name n) None ≡ Some name → is_standard_name name ≡ true
  by true h = standard n name h
  by false h = absurd (cc)

pub standard_parts : (glyphs : List ℕ → Option (List Command)) (a : Accent) (c : Composite) → composite_of glyphs a ≡ Ok c → HasStandardParts c
standard_parts glyphs a c e = by (standard_glyph a.base) refl (standard_glyph a.accent) refl e where
  made : (base accent : List ℕ) → Composite
  made base accent = record { base = base; accent = accent; asb = a.asb; adx = a.adx; ady = a.ady }

  last : (base accent : List ℕ) → standard_glyph a.base ≡ Some base → standard_glyph a.accent ≡ Some accent → (b : Option (List Command)) (t : Option (List Command))
      → (ok_or b F45 >>= (λ _. ok_or t F45 >>= (λ _. Ok (made base accent)))) ≡ Ok c → HasStandardParts c
  last base accent f g None t h = absurd (cc)
  last base accent f g (Some b) None h = absurd (cc)
  last base accent f g (Some b) (Some t) h =
      let is : made base accent ≡ c = cc in
      record {
        base = ap is_standard_name (sym (ap (λ x. x.base) is)) ∙ encoded-name a.base base f;
        accent = ap is_standard_name (sym (ap (λ x. x.accent) is)) ∙ encoded-name a.accent accent g;
      }

  by : (x : Option (List ℕ)) → standard_glyph a.base ≡ x → (y : Option (List ℕ)) → standard_glyph a.accent ≡ y
      → (ok_or x F44 >>= (λ base. ok_or y F44 >>= (λ accent. ok_or (glyphs base) F45 >>= (λ _. ok_or (glyphs accent) F45 >>= (λ _. Ok (made base accent)))))) ≡ Ok c
      → HasStandardParts c
  by None f y g h = absurd (cc)
  by (Some base) f None g h = absurd (cc)
  by (Some base) f (Some accent) g h = last base accent f g (glyphs base) (glyphs accent) h
