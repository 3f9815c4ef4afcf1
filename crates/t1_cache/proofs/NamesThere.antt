-- The glyphs that have a body, and the names of a source's glyphs.
use Rattle.std.proofs.Common.{◌≡◌, ℕ, Bool, true, false, List, [], ◌∷◌, refl, sym, subst, ◌∙◌, ap, Option, Some, None}
use Rattle.std.specs.Prelude.{Ok, ◌||◌}
use Rattle.std.specs.List.{AllByRecursion, list_any}
use Rattle.std.specs.Str.{bytes_eq}
use Rattle.std.proofs.lemmas.Bool.{or_right}
use Rattle.t1_code.specs.declared.command.Command.{Command}
use Rattle.t1_run.specs.Composite.{outline}
use Rattle.t1_run.specs.Run.{FontBodies, own}
use Rattle.t1_font.specs.Bodies.{bodies}
use Rattle.t1_font.specs.Glyphs.{glyph_of, glyph_names}
use Rattle.t1_cache.specs.There.{NamesThereLaw}
use Rattle.t1_cache.proofs.Judging.{IsFine, fine-reported}
use Rattle.t1_cache.proofs.Newest.{found}
use Rattle.t1_font.proofs.Lookups.{bytes_tell}
use Rattle.t1_font.proofs.Measuring.{own-none}
use Rattle.t1_cache.proofs.Renewing.{glyphs-of}

-- what holds of each of these names holds of one among them
all-among : (P : List ℕ → Type 0) (names : List (List ℕ)) → ((g : List ℕ) → list_any (bytes_eq g) names ≡ true → P g) → AllByRecursion P names
all-among P [] each = tt
all-among P (n ∷ names) each = (
  each n (ap (λ b. b || list_any (bytes_eq n) names) (bytes_tell.itself n)),
  all-among P names (λ g there. each g (or_right (bytes_eq g n) (list_any (bytes_eq g) names) there)),
)

one-among : (P : List ℕ → Type 0) (names : List (List ℕ)) (g : List ℕ) → AllByRecursion P names → list_any (bytes_eq g) names ≡ true → P g
one-among P [] g all h = absurd (cc)
one-among P (n ∷ names) g all h = by (bytes_eq g n) refl h (one-among P names g all.1) where
  by : (b : Bool) → bytes_eq g n ≡ b → (b || list_any (bytes_eq g) names) ≡ true → (list_any (bytes_eq g) names ≡ true → P g) → P g
  by true on h rest = subst P (sym (bytes_tell.same g n on)) all.0
  by false off h rest = rest h

-- a glyph that is fine has a body
fine-there : (m : FontBodies) (g : List ℕ) → IsFine (own m) (outline m) g → (body : List Command) × (m.glyphs g ≡ Some body)
fine-there m g fine = by (m.glyphs g) refl where
  by : (b : Option (List Command)) → m.glyphs g ≡ b → (body : List Command) × (m.glyphs g ≡ Some body)
  by (Some body) e = (body, e)
  by None e =
      let reported : glyph_of g None (outline m g) ≡ Ok fine.0 = ap (λ r. glyph_of g r (outline m g)) (sym (own-none m g e)) ∙ fine.1 in
      absurd (cc)

pub names_there : NamesThereLaw
names_there s = record {
  named = λ g body e. found (λ x. list_any (bytes_eq x) (glyph_names s.items) ≡ true) g body s.items (all-among (λ x. list_any (bytes_eq x) (glyph_names s.items) ≡ true) (glyph_names s.items) (λ x there. there)) e;
  there = λ reported e g among.
      let run = own (bodies s.items) in
      let draws = outline (bodies s.items) in
      fine-there (bodies s.items) g
      (one-among (IsFine run draws) (glyph_names s.items) g (fine-reported run draws (glyph_names s.items) reported (glyphs-of s reported e)) among);
}
