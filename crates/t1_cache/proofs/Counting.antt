-- Names that were found, each once, are as many as the glyphs that pass.
use Rattle.std.proofs.Common.{◌≡◌, ℕ, suc, Bool, true, false, cond, not, ◌&&◌, ◌||◌, List, [], ◌∷◌, filter, length, refl, sym, ◌∙◌, ap, inl, inr}
use Rattle.std.specs.List.{list_any}
use Rattle.std.specs.Str.{bytes_eq}
use Rattle.std.proofs.Math.Bool.{and-false, and-true}
use Rattle.std.proofs.lemmas.Bool.{cases_Bool}
use Rattle.t1_cache.specs.Laws.{AreDistinct, CountLaw}
use Rattle.t1_run.proofs.Asked.{bytes_self, bytes_same}

abbrev has : List (List ℕ) → List ℕ → Bool
has names g = list_any (bytes_eq g) names

-- the names but one
abbrev but : List ℕ → List (List ℕ) → List (List ℕ)
but x names = filter (λ y. not (bytes_eq x y)) names

has-but : (x g : List ℕ) (names : List (List ℕ)) → has (but x names) g ≡ (has names g && not (bytes_eq x g))
has-but x g [] = refl
has-but x g (y ∷ names) =
    elim (cases_Bool (bytes_eq x y)) [
      | inl on ↦ rw on (has-but x g names ∙ gone (bytes_eq g y) (has names g) (bytes_eq x g) (λ h. rw (bytes_same g y h) on))
      | inr off ↦ rw off (ap (λ t. bytes_eq g y || t) (has-but x g names) ∙ stays (bytes_eq g y) (has names g) (bytes_eq x g) (λ h. rw (bytes_same g y h) off))
    ]
  where
    gone : (a b c : Bool) → (a ≡ true → c ≡ true) → (b && not c) ≡ ((a || b) && not c)
    gone true b c h = rw (h refl) (and-false b)
    gone false b c h = refl

    stays : (a b c : Bool) → (a ≡ true → c ≡ false) → (a || (b && not c)) ≡ ((a || b) && not c)
    stays true b c h = rw (h refl) refl
    stays false b c h = refl

but-none : (x : List ℕ) (names : List (List ℕ)) → has names x ≡ false → but x names ≡ names
but-none x [] h = refl
but-none x (y ∷ names) h = one (bytes_eq x y) (has names x) h (but-none x names) where
  one : (a b : Bool) → (a || b) ≡ false → (b ≡ false → but x names ≡ names) → cond (not a) (y ∷ but x names) (but x names) ≡ y ∷ names
  one true b h rest = absurd (cc)
  one false b h rest = ap (λ t. y ∷ t) (rest h)

distinct-but : (x : List ℕ) (names : List (List ℕ)) → AreDistinct names → AreDistinct (but x names)
distinct-but x [] d = tt
distinct-but x (y ∷ names) d = one (bytes_eq x y) refl (distinct-but x names d.1) where
  one : (t : Bool) → bytes_eq x y ≡ t → AreDistinct (but x names) → AreDistinct (cond (not t) (y ∷ but x names) (but x names))
  one true e rest = rest
  one false e rest = (has-but x y names ∙ ap (λ t. t && not (bytes_eq x y)) d.0, rest)

one-less : (x : List ℕ) (names : List (List ℕ)) → AreDistinct names → has names x ≡ true → length names ≡ suc (length (but x names))
one-less x [] d h = absurd (cc)
one-less x (y ∷ names) d h =
    elim (cases_Bool (bytes_eq x y)) [
      | inl on ↦ rw on (ap (λ t. suc (length t)) (sym (but-none x names (ap (has names) (bytes_same x y on) ∙ d.0))))
      | inr off ↦ let h' : has names x ≡ true = rw off at h in rw off (ap suc (one-less x names d.1 h'))
    ]

none-there : (names : List (List ℕ)) → ((g : List ℕ) → has names g ≡ false) → names ≡ []
none-there [] h = refl
none-there (x ∷ names) h = let e : (bytes_eq x x || has names x) ≡ false = h x in let never : true ≡ false = rw (bytes_self x) at e in absurd (cc)

left : (a b c d : Bool) → (a ≡ true → d ≡ true) → (b ≡ true → d ≡ false) → (((a || b) && c) && not d) ≡ (b && c)
left true true c d f g = let never : true ≡ false = sym (f refl) ∙ g refl in absurd (cc)
left true false c d f g = rw (f refl) (and-false c)
left false true c d f g = rw (g refl) (and-true c)
left false false c d f g = refl

dropped : (a b c : Bool) → (a ≡ true → c ≡ false) → ((a || b) && c) ≡ (b && c)
dropped true b c f = rw (f refl) (sym (and-false b))
dropped false b c f = refl

apart : (n : List ℕ) (names : List (List ℕ)) → has names n ≡ false → (g : List ℕ) → has names g ≡ true → bytes_eq n g ≡ false
apart n names none g there =
    elim (cases_Bool (bytes_eq n g)) [
      | inl on ↦ let e : has names n ≡ true = ap (has names) (bytes_same n g on) ∙ there in let never : true ≡ false = sym e ∙ none in absurd (cc)
      | inr off ↦ off
    ]

pub found_count : CountLaw
found_count [] found p dn df h = ap length (none-there found h)
found_count (n ∷ names) found p dn df h = one (p n) refl (λ f d e. found_count names f p dn.1 d e) where
  one : (t : Bool) → p n ≡ t
      → ((f : List (List ℕ)) → AreDistinct f → ((g : List ℕ) → has f g ≡ (has names g && p g)) → length f ≡ length (filter p names))
      → length found ≡ length (cond t (n ∷ filter p names) (filter p names))
  one true e rest =
      let there : has found n ≡ true = h n ∙ ap (λ t. (t || has names n) && p n) (bytes_self n) ∙ e in
      one-less n found df there
      ∙ ap suc (rest (but n found) (distinct-but n found df) (λ g.
      has-but n g found ∙ ap (λ t. t && not (bytes_eq n g)) (h g)
      ∙ left (bytes_eq g n) (has names g) (p g) (bytes_eq n g) (λ a. rw (bytes_same g n a) (bytes_self n)) (apart n names dn.0 g)))
  one false e rest = rest found df (λ g. h g ∙ dropped (bytes_eq g n) (has names g) (p g) (λ a. ap p (bytes_same g n a) ∙ e))
