-- Keys of entries, and the bodies at them.
use Rattle.std.proofs.Common.{◌≡◌, ℕ, true, List, [], ◌∷◌, refl, ap, ◌∙◌, inl, inr}
use Rattle.std.specs.List.{list_any}
use Rattle.std.proofs.lemmas.Bool.{or_left, or_right}
use Rattle.t1_run.specs.Run.{FontBodies, Key, Subr, Glyph}
use Rattle.t1_run.specs.RunKeys.{body_at, key_eq}
use Rattle.t1_run.specs.Footprint.{Includes, SameAt}
use Rattle.t1_run.specs.Touched.{is_key_of}
use Rattle.t1_font.proofs.Lookups.{bytes_tell, numbers_tell}

-- what holds of each Subr and of each glyph
pub at-key : (P : Key → Type 0) → ((n : ℕ) → P (Subr n)) → ((g : List ℕ) → P (Glyph g)) → (k : Key) → P k
at-key P subr glyph (Subr n) = subr n
at-key P subr glyph (Glyph g) = glyph g

pub key-itself : (k : Key) → key_eq k k ≡ true
key-itself (Subr n) = numbers_tell.itself n
key-itself (Glyph g) = bytes_tell.itself g

pub key-same : (k j : Key) → key_eq k j ≡ true → k ≡ j
key-same (Subr n) (Subr m) e = ap Subr (numbers_tell.same n m e)
key-same (Glyph g) (Glyph h) e = ap Glyph (bytes_tell.same g h e)
key-same (Subr n) (Glyph h) e = absurd (cc)
key-same (Glyph g) (Subr m) e = absurd (cc)

-- a key that is included is among the keys
pub included : (keys : List Key) (k : Key) → Includes keys k → list_any (key_eq k) keys ≡ true
included [] k i = absurd i
included (x ∷ keys) k (inl e) = or_left (key_eq k x) (list_any (key_eq k) keys) (ap (key_eq k) e ∙ key-itself k)
included (x ∷ keys) k (inr i) = or_right (key_eq k x) (list_any (key_eq k) keys) (included keys k i)

pub glyph-key : (g : List ℕ) (k : Key) → is_key_of g k ≡ key_eq (Glyph g) k
glyph-key g (Subr n) = refl
glyph-key g (Glyph h) = refl

-- both fonts have the same at a key
pub same-at : (m n : FontBodies) (k : Key) → body_at m k ≡ body_at n k → SameAt m n k
same-at m n (Subr x) e = e
same-at m n (Glyph x) e = e

pub at-same : (m n : FontBodies) (k : Key) → SameAt m n k → body_at m k ≡ body_at n k
at-same m n (Subr x) e = e
at-same m n (Glyph x) e = e
