-- Records whose users are changed in place.
use Rattle.std.proofs.Common.{◌≡◌, ◌≤◌, ℕ, Bool, true, false, cond, not, ◌+◌, subst, arith, List, [], ◌∷◌, map, refl, sym, ap, ◌∙◌, Option, Some, inl, inr}
use Rattle.std.specs.Prelude.{◌||◌, ◌&&◌}
use Rattle.std.specs.Map.{lookup, set_value}
use Rattle.std.specs.Option.{option_map}
use Rattle.std.specs.Str.{bytes_eq}
use Rattle.std.proofs.Math.Bool.{and-true, or-false}
use Rattle.std.proofs.lemmas.Bool.{cases_Bool}
use Rattle.t1_font.proofs.Keeping.{map-cond}
use Rattle.t1_font.proofs.Lookups.{Distinguishes, again}
use Rattle.t1_cache.specs.Users.{is_name_among, among, HasUserRoom, UserSet}

apart : {Q : Type 0} (eq : Q → Q → Bool) → Distinguishes eq → (a b c : Q) → eq a b ≡ true → eq c b ≡ false → eq a c ≡ false
apart eq t a b c on off =
    elim (cases_Bool (eq a c)) [
      | inl e ↦ let both : eq c b ≡ true = ap (λ x. eq x b) (sym (t.same a c e)) ∙ on in let never : true ≡ false = sym both ∙ off in absurd (cc)
      | inr e ↦ e
    ]

-- a value that is put at a name is found there, and nothing else changes
put-at : {Q K X : Type 0} (eq : Q → Q → Bool) → Distinguishes eq → (name : K → Q) (p n : Q) (w v : X) (es : List (K × X)) → lookup (λ k. eq n (name k)) es ≡ Some v
    → lookup (λ k. eq p (name k)) (set_value (λ k. eq n (name k)) es w) ≡ cond (eq p n) (Some w) (lookup (λ k. eq p (name k)) es)
put-at eq t name p n w v [] h = absurd (cc)
put-at eq t name p n w v (e ∷ es) h =
    elim (cases_Bool (eq n (name e.0))) [
      | inl on ↦ rw (on, t.same n (name e.0) on) (again (eq p (name e.0)) (Some w) (Some e.1) (lookup (λ k. eq p (name k)) es))
      | inr off ↦
          let h' : lookup (λ k. eq n (name k)) es ≡ Some v = sym (ap (λ b. cond b (Some e.1) (lookup (λ k. eq n (name k)) es)) off) ∙ h in
          rw off
          (elim (cases_Bool (eq p (name e.0))) [
            | inl here ↦ rw (here, apart eq t p (name e.0) n here off) refl
            | inr there ↦ rw there (put-at eq t name p n w v es h')
          ])
    ]

pub rest-put : {K R X : Type 0} (rest : K × R → X) (es : List (K × R)) (test : K → Bool) (was now : R) → lookup test es ≡ Some was
    → ((k : K) → rest (k, now) ≡ rest (k, was)) → map rest (set_value test es now) ≡ map rest es
rest-put rest [] test was now h stays = refl
rest-put rest (e ∷ es) test was now h stays = by (test e.0) refl (λ h'. rest-put rest es test was now h' stays) where
  by : (b : Bool) → test e.0 ≡ b → (lookup test es ≡ Some was → map rest (set_value test es now) ≡ map rest es)
      → map rest (set_value test (e ∷ es) now) ≡ map rest (e ∷ es)
  by true on later =
      let h' : Some e.1 ≡ Some was = sym (ap (λ b. cond b (Some e.1) (lookup test es)) on) ∙ h in
      let is : e.1 ≡ was = cc in
      ap (λ b. map rest (cond b ((e.0, now) ∷ es) (e ∷ set_value test es now))) on
      ∙ ap (λ x. x ∷ map rest es) (stays e.0 ∙ ap (λ r. rest (e.0, r)) (sym is))
  by false off later =
      ap (λ b. map rest (cond b ((e.0, now) ∷ es) (e ∷ set_value test es now))) off
      ∙ ap (λ l. rest e ∷ l) (later (sym (ap (λ b. cond b (Some e.1) (lookup test es)) off) ∙ h))

-- the users of the record of a name
abbrev pub at : {Q K R : Type 0} → (Q → Q → Bool) → (K → Q) → (R → UserSet) → List (K × R) → Q → Option UserSet
at eq name users es q = option_map users (lookup (λ k. eq q (name k)) es)

pub reads-put : {Q K R X : Type 0} (eq : Q → Q → Bool) → Distinguishes eq → (name : K → Q) (read : R → X) (es : List (K × R)) (p : Q) (was now : R)
    → lookup (λ k. eq p (name k)) es ≡ Some was
    → (q : Q) → option_map read (lookup (λ k. eq q (name k)) (set_value (λ k. eq p (name k)) es now)) ≡ cond (eq q p) (Some (read now)) (option_map read (lookup (λ k. eq q (name k)) es))
reads-put eq t name read es p was now h q =
    ap (option_map read) (put-at eq t name q p now was es h) ∙ map-cond read (eq q p) now (lookup (λ k. eq q (name k)) es)

pub users-put : {Q K R : Type 0} (eq : Q → Q → Bool) → Distinguishes eq → (name : K → Q) (users : R → UserSet) (es : List (K × R)) (p : Q) (was now : R)
    → lookup (λ k. eq p (name k)) es ≡ Some was
    → (q : Q) → at eq name users (set_value (λ k. eq p (name k)) es now) q ≡ cond (eq q p) (Some (users now)) (at eq name users es q)
users-put eq t name users es p was now h q = reads-put eq t name users es p was now h q

-- what is read of the records is the same, where it is the same of the one that is put
pub reads-stay : {Q K R X : Type 0} (eq : Q → Q → Bool) → Distinguishes eq → (name : K → Q) (read : R → X) (es : List (K × R)) (p : Q) (was now : R)
    → lookup (λ k. eq p (name k)) es ≡ Some was → read now ≡ read was
    → (q : Q) → option_map read (lookup (λ k. eq q (name k)) (set_value (λ k. eq p (name k)) es now)) ≡ option_map read (lookup (λ k. eq q (name k)) es)
reads-stay eq t name read es p was now h same q =
    reads-put eq t name read es p was now h q
    ∙ elim (cases_Bool (eq q p)) [
      | inl on ↦
          ap (λ b. cond b (Some (read now)) (option_map read (lookup (λ k. eq q (name k)) es))) on ∙ ap Some same
          ∙ ap (option_map read) (sym h) ∙ ap (λ x. option_map read (lookup (λ k. eq x (name k)) es)) (sym (t.same q p on))
      | inr off ↦ ap (λ b. cond b (Some (read now)) (option_map read (lookup (λ k. eq q (name k)) es))) off
    ]

pub left : {Q K R : Type 0} (eq : Q → Q → Bool) → Distinguishes eq → (name : K → Q) (users : R → UserSet) (es : List (K × R)) (p : Q) (was now : R) (user : List ℕ)
    → lookup (λ k. eq p (name k)) es ≡ Some was
    → ((u : List ℕ) → is_name_among (λ k. k.items) (users now).names u ≡ (is_name_among (λ k. k.items) (users was).names u && not (bytes_eq u user)))
    → (q : Q) (u : List ℕ)
    → among (at eq name users (set_value (λ k. eq p (name k)) es now) q) u ≡ (among (at eq name users es q) u && not (eq q p && bytes_eq u user))
left eq t name users es p was now user h out q u =
    ap (λ s. among s u) (users-put eq t name users es p was now h q)
    ∙ elim (cases_Bool (eq q p)) [
      | inl on ↦
          ap (λ b. among (cond b (Some (users now)) (at eq name users es q)) u) on ∙ out u
          ∙ ap (λ r. among (option_map users r) u && not (bytes_eq u user)) (sym h)
          ∙ ap (λ x. among (at eq name users es x) u && not (bytes_eq u user)) (sym (t.same q p on))
          ∙ ap (λ b. among (at eq name users es q) u && not (b && bytes_eq u user)) (sym on)
      | inr off ↦
          ap (λ b. among (cond b (Some (users now)) (at eq name users es q)) u) off
          ∙ sym (and-true (among (at eq name users es q) u)) ∙ ap (λ b. among (at eq name users es q) u && not (b && bytes_eq u user)) (sym off)
    ]

pub came : {Q K R : Type 0} (eq : Q → Q → Bool) → Distinguishes eq → (name : K → Q) (users : R → UserSet) (es : List (K × R)) (p : Q) (was now : R) (user : List ℕ)
    → lookup (λ k. eq p (name k)) es ≡ Some was
    → ((u : List ℕ) → is_name_among (λ k. k.items) (users now).names u ≡ (is_name_among (λ k. k.items) (users was).names u || bytes_eq u user))
    → (q : Q) (u : List ℕ)
    → among (at eq name users (set_value (λ k. eq p (name k)) es now) q) u ≡ (among (at eq name users es q) u || (eq q p && bytes_eq u user))
came eq t name users es p was now user h put q u =
    ap (λ s. among s u) (users-put eq t name users es p was now h q)
    ∙ elim (cases_Bool (eq q p)) [
      | inl on ↦
          ap (λ b. among (cond b (Some (users now)) (at eq name users es q)) u) on ∙ put u
          ∙ ap (λ r. among (option_map users r) u || bytes_eq u user) (sym h)
          ∙ ap (λ x. among (at eq name users es x) u || bytes_eq u user) (sym (t.same q p on))
          ∙ ap (λ b. among (at eq name users es q) u || (b && bytes_eq u user)) (sym on)
      | inr off ↦
          ap (λ b. among (cond b (Some (users now)) (at eq name users es q)) u) off
          ∙ sym (or-false (among (at eq name users es q) u)) ∙ ap (λ b. among (at eq name users es q) u || (b && bytes_eq u user)) (sym off)
    ]

pub room-put : {Q K R : Type 0} (eq : Q → Q → Bool) → Distinguishes eq → (name : K → Q) (users : R → UserSet) (es : List (K × R)) (p : Q) (was now : R)
    → lookup (λ k. eq p (name k)) es ≡ Some was → (users was).room ≤ (users now).room + 1
    → (q : Q) (count : ℕ) → HasUserRoom (cond (eq q p) (count + 1) count) (at eq name users es q)
    → HasUserRoom count (at eq name users (set_value (λ k. eq p (name k)) es now) q)
room-put eq t name users es p was now h takes q count had =
    subst (HasUserRoom count) (sym (users-put eq t name users es p was now h q))
    (elim (cases_Bool (eq q p)) [
      | inl on ↦
          let found : at eq name users es q ≡ Some (users was) = ap (at eq name users es) (t.same q p on) ∙ ap (option_map users) h in
          let had' : HasUserRoom (count + 1) (Some (users was)) = rw (on, found) at had in
          subst (λ b. HasUserRoom count (cond b (Some (users now)) (at eq name users es q))) (sym on) (omega (arith, had', takes))
      | inr off ↦
          let had' : HasUserRoom count (at eq name users es q) = rw off at had in
          subst (λ b. HasUserRoom count (cond b (Some (users now)) (at eq name users es q))) (sym off) had'
    ])

pub room-stays : {Q K R : Type 0} (eq : Q → Q → Bool) → Distinguishes eq → (name : K → Q) (users : R → UserSet) (es : List (K × R)) (p : Q) (was now : R)
    → lookup (λ k. eq p (name k)) es ≡ Some was → (users was).room ≤ (users now).room
    → (q : Q) (count : ℕ) → HasUserRoom count (at eq name users es q) → HasUserRoom count (at eq name users (set_value (λ k. eq p (name k)) es now) q)
room-stays eq t name users es p was now h keeps q count had =
    subst (HasUserRoom count) (sym (users-put eq t name users es p was now h q))
    (elim (cases_Bool (eq q p)) [
      | inl on ↦
          let found : at eq name users es q ≡ Some (users was) = ap (at eq name users es) (t.same q p on) ∙ ap (option_map users) h in
          let had' : HasUserRoom count (Some (users was)) = rw found at had in
          subst (λ b. HasUserRoom count (cond b (Some (users now)) (at eq name users es q))) (sym on) (omega (arith, had', keeps))
      | inr off ↦ subst (λ b. HasUserRoom count (cond b (Some (users now)) (at eq name users es q))) (sym off) had
    ])
