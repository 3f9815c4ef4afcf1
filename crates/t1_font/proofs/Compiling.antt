-- Bodies kept by number and by name, the first of each.
use Rattle.std.proofs.Common.{◌≡◌, ℕ, ◌+◌, ◌<◌, suc, Bool, true, false, cond, List, [], ◌∷◌, ◌++◌, length, get_or, drop, drop-cons, add-one, refl, sym, ap, ◌∙◌, Option, Some, None, is_some}
use Rattle.std.specs.Map.{lookup}
use Rattle.std.specs.Prelude.{Result, Ok, Err, OnOk}
use Rattle.std.specs.Option.{option_or}
use Rattle.std.specs.Result.{result_ok}
use Rattle.t1_frac.specs.declared.fault.Code.{Code}
use Rattle.t1_frac.specs.declared.fault.Place.{Place}
use Rattle.t1_frac.specs.Outcome.{reported_at}
use Rattle.t1_parts.specs.declared.item.Item.{Item}
use Rattle.t1_run.specs.Run.{FontBodies, Subr, Glyph}
use Rattle.t1_font.specs.KeptBodies.{SameBodies}

or-cond : {X : Type 0} (b : Bool) (x : X) (r s : Option X) → cond b (Some x) (option_or r s) ≡ option_or (cond b (Some x) r) s
or-cond true x r s = refl
or-cond false x r s = refl

-- a value that is put last is found where no other was
pub lookup-last : {K X : Type 0} (test : K → Bool) (es : List (K × X)) (k : K) (v : X)
    → lookup test (es ++ (k, v) ∷ []) ≡ option_or (lookup test es) (cond (test k) (Some v) None)
lookup-last test [] k v = refl
lookup-last test (e ∷ es) k v =
    ap (cond (test e.0) (Some e.1)) (lookup-last test es k v) ∙ or-cond (test e.0) e.1 (lookup test es) (cond (test k) (Some v) None)

pub or-none : {X : Type 0} (r : Option X) → r ≡ option_or r None
or-none None = refl
or-none (Some x) = refl

pub or-assoc : {X : Type 0} (r s t : Option X) → option_or (option_or r s) t ≡ option_or r (option_or s t)
or-assoc None s t = refl
or-assoc (Some x) s t = refl

pub none-there : {X : Type 0} (r : Option X) → is_some r ≡ false → r ≡ None
none-there None h = refl
none-there (Some x) h = absurd (cc)

pub same-maps : (m n : FontBodies) → ((k : ℕ) → m.subrs k ≡ n.subrs k) → ((g : List ℕ) → m.glyphs g ≡ n.glyphs g) → SameBodies m n
same-maps m n subrs glyphs (Subr k) = subrs k
same-maps m n subrs glyphs (Glyph g) = glyphs g

-- the items that are left begin with this one
pub item-first : (xs : List Item) (i : ℕ) (x : Item) → i < length xs → x ≡ get_or xs i x → drop i xs ≡ x ∷ drop (i + 1) xs
item-first xs i x h e = rw (add-one, drop-cons xs i x) (ap (λ y. y ∷ drop (suc i) xs) (sym e))

pub reported-ok : {X : Type 0} (place : Place) (r : Result X Code) (x : X) → reported_at place r ≡ Ok x → result_ok r ≡ Some x
reported-ok place (Ok y) x e = cc
reported-ok place (Err code) x e = absurd (cc)

-- what holds anyway holds after a value
pub on_ok : {X E P : Type 0} (r : Result X E) → P → OnOk r P
on_ok (Ok x) p = p
on_ok (Err e) p = tt
