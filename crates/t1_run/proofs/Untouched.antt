-- A glyph that edits don't touch runs and draws as before.
use Rattle.std.proofs.Common.{◌≡◌, ℕ, zero, suc, Bool, true, false, List, [], ◌∷◌, refl, ◌∙◌, ap, inl, inr, Option, Some, None}
use Rattle.std.specs.Prelude.{Result, Ok, Err}
use Rattle.std.specs.List.{list_any}
use Rattle.std.proofs.lemmas.Bool.{or_parts}
use Rattle.t1_frac.specs.Outcome.{◌>>=◌}
use Rattle.t1_frac.specs.declared.fault.Code.{Code}
use Rattle.t1_frac.specs.declared.fault.Code.TheVariants.{F46}
use Rattle.t1_frac.proofs.OutcomeLaws.{bind_ok}
use Rattle.t1_run.specs.declared.outline.Composite.{Composite}
use Rattle.t1_run.specs.declared.outline.Segment.{Segment}
use Rattle.t1_run.specs.Composite.{joined_outline, with_parts, drawn, outline_within, outline}
use Rattle.t1_run.specs.Footprint.{Includes, uses}
use Rattle.t1_run.specs.Run.{FontBodies, Key, Drawing, own}
use Rattle.t1_run.proofs.Agreeing.{own_same}
use Rattle.t1_run.proofs.Asked.{exact}
use Rattle.t1_run.specs.Touched.{SameBut, meets_run, meets_part, meets_parts, touched_within, is_touched, UntouchedLaw}

-- a key that a test finds is not among keys at which it finds nothing
unmet : (p : Key → Bool) (keys : List Key) → list_any p keys ≡ false → (k : Key) → p k ≡ true → Includes keys k → ⊥
unmet p [] h k used i = i
unmet p (x ∷ keys) h k used (inl e) = let h' = (or_parts (p x) (list_any p keys) h).0 in let e' = ap p e in cc
unmet p (x ∷ keys) h k used (inr i) = unmet p keys (or_parts (p x) (list_any p keys) h).1 k used i

-- a run that used no key is the same afterwards
pub own-kept : (keys : List Key) (m n : FontBodies) → SameBut keys m n → (g : List ℕ) (d : Drawing) → own m g ≡ Some (Ok d)
    → list_any (uses g d) keys ≡ false → own n g ≡ own m g
own-kept keys m n but g d e h =
    (own_same m n g (record { same = λ k i. but.same k (unmet (uses g d) keys h k ((exact m g d e k).0 i)) })).0

-- where parts that aren't touched draw as before
abbrev PartsKept : (part part' : List ℕ → Result (List Segment) Code) → (List ℕ → Bool) → Type 0
PartsKept part part' touched = (p : List ℕ) (o : List Segment) → part p ≡ Ok o → touched p ≡ false → part' p ≡ part p

parts-kept : (part part' : List ℕ → Result (List Segment) Code) (touched : List ℕ → Bool) → PartsKept part part' touched
    → (c : Option Composite) (d : Drawing) (o : List Segment) → with_parts part c d ≡ Ok o → meets_part touched c ≡ false
    → with_parts part' c d ≡ with_parts part c d
parts-kept part part' touched kept None d o e h = refl
parts-kept part part' touched kept (Some c) d o e h =
    let b = bind_ok (part c.base) (λ base. part c.accent >>= (λ accent. joined_outline d base accent)) o e in
    let t = bind_ok (part c.accent) (λ accent. joined_outline d b.0 accent) o b.2 in
    let h' = or_parts (touched c.base) (touched c.accent) h in
    ap (λ r. r >>= (λ base. part' c.accent >>= (λ accent. joined_outline d base accent))) (kept c.base b.0 b.1 h'.0)
    ∙ ap (λ r. part c.base >>= (λ base. r >>= (λ accent. joined_outline d base accent))) (kept c.accent t.0 t.1 h'.1)

abbrev KeptAs : FontBodies → FontBodies → List ℕ → (part part' : List ℕ → Result (List Segment) Code) → Option (Result Drawing Code) → Type 0
KeptAs m n g part part' r = (own n g ≡ r) × (drawn part' (own n g) ≡ drawn part r)

drawn-kept : (keys : List Key) (m n : FontBodies) → SameBut keys m n
    → (part part' : List ℕ → Result (List Segment) Code) (touched : List ℕ → Bool) → PartsKept part part' touched
    → (g : List ℕ) (r : Option (Result Drawing Code)) → own m g ≡ r → (o : List Segment) → drawn part r ≡ Ok o
    → meets_run keys g r ≡ false → meets_parts touched r ≡ false → KeptAs m n g part part' r
drawn-kept keys m n but part part' touched kept g None e o drew h h' = absurd (cc)
drawn-kept keys m n but part part' touched kept g (Some (Err code)) e o drew h h' = absurd (cc)
drawn-kept keys m n but part part' touched kept g (Some (Ok d)) e o drew h h' =
    let same = own-kept keys m n but g d e h ∙ e in
    (same, ap (drawn part') same ∙ parts-kept part part' touched kept d.composite d o drew h')

no-part : (c : Option Composite) → meets_part (λ p. false) c ≡ false
no-part None = refl
no-part (Some c) = refl

no-parts : (r : Option (Result Drawing Code)) → meets_parts (λ p. false) r ≡ false
no-parts None = refl
no-parts (Some (Err code)) = refl
no-parts (Some (Ok d)) = no-part d.composite

-- a glyph that draws and isn't touched, where parts nest so deep
pub within-kept : (keys : List Key) (m n : FontBodies) → SameBut keys m n
    → (depth : ℕ) (g : List ℕ) (o : List Segment) → outline_within (own m) depth g ≡ Ok o → touched_within depth m keys g ≡ false
    → (own n g ≡ own m g) × (outline_within (own n) depth g ≡ outline_within (own m) depth g)
within-kept keys m n but zero g o e h =
    drawn-kept keys m n but (λ p. Err F46) (λ p. Err F46) (λ p. false) (λ p o' e' h'. refl) g (own m g) refl o e h (no-parts (own m g))
within-kept keys m n but (suc depth) g o e h =
    let h' = or_parts (meets_run keys g (own m g)) (meets_parts (touched_within depth m keys) (own m g)) h in
    drawn-kept keys m n but (outline_within (own m) depth) (outline_within (own n) depth) (touched_within depth m keys)
    (λ p o' e' h''. (within-kept keys m n but depth p o' e' h'').1) g (own m g) refl o e h'.0 h'.1

pub untouched_kept : UntouchedLaw
unfolding outline is_touched
untouched_kept keys m n but g o e h = within-kept keys m n but 4 g o e h
