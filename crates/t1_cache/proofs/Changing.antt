-- Records changed at one key.
use Rattle.std.proofs.Common.{◌≡◌, ℕ, Bool, true, false, cond, not, List, [], ◌∷◌, ◌++◌, filter, map, refl, sym, ap, subst, ◌∙◌, Option, Some, None, inl, inr, arith}
use Rattle.std.specs.Prelude.{nat_eq}
use Rattle.std.specs.List.{find}
use Rattle.std.specs.Map.{lookup, remove_entry}
use Rattle.std.specs.Option.{option_map}
use Rattle.std.specs.Str.{bytes_eq}
use Rattle.std.specs.declared.alloc.Global.{Global}
use Rattle.std.specs.declared.vec.Vec.{Vec}
use Rattle.indexmap.specs.IndexMap.{insert_entry}
use Rattle.t1_run.specs.Run.{Key, Subr, Glyph}
use Rattle.t1_run.specs.RunKeys.{body_at, key_eq}
use Rattle.t1_run.specs.Footprint.{Includes, SameAt}
use Rattle.t1_cache.specs.declared.records.GlyphRecord.{GlyphRecord}
use Rattle.t1_cache.specs.declared.records.SubrRecord.{SubrRecord}
use Rattle.t1_cache.specs.Bodies.{glyph_body, record_bodies, subr_body}
use Rattle.t1_cache.specs.Changed.{ChangedBodiesLaw, RestLaw}
use Rattle.t1_cache.specs.Recorded.{RecordedGlyph, kept_of}
use Rattle.t1_cache.specs.Users.{among, glyph_rest, is_name_among, subr_rest, GlyphRest, HasUserRoom, SubrRest, UserSet}
use Rattle.t1_font.proofs.Keys.{key-itself, key-same, at-same, same-at}
use Rattle.t1_font.proofs.Keeping.{map-cond}
use Rattle.t1_font.proofs.Lookups.{Distinguishes, inserted-at, lookup-but}
use Rattle.t1_cache.proofs.Putting.{at}

-- ---- a record that is put in

pub nothing-read : {R X : Type 0} (read : R → X) (r : Option R) → option_map read r ≡ None → r ≡ None
nothing-read read None e = refl
nothing-read read (Some r) e = absurd (cc)

-- what is read of the records is that of the one that is put in, at its name
pub reads-inserted : {Q K R X : Type 0} (eq : Q → Q → Bool) → Distinguishes eq → (name : K → Q) (read : R → X) (es : List (K × R)) (k : K) (r : R)
    → (q : Q) → option_map read (lookup (λ x. eq q (name x)) (insert_entry (λ x y. eq (name x) (name y)) es k r))
    ≡ cond (eq q (name k)) (Some (read r)) (option_map read (lookup (λ x. eq q (name x)) es))
reads-inserted eq t name read es k r q =
    ap (option_map read) (inserted-at eq t name q k r es) ∙ map-cond read (eq q (name k)) r (lookup (λ x. eq q (name x)) es)

module _ {Q K R : Type 0} (eq : Q → Q → Bool) (t : Distinguishes eq) (name : K → Q) (users : R → UserSet) (es : List (K × R)) (k : K) (r : R)
    (absent : lookup (λ x. eq (name k) (name x)) es ≡ None) where
  there-none : (q : Q) → eq q (name k) ≡ true → at eq name users es q ≡ None
  there-none q on = ap (at eq name users es) (t.same q (name k) on) ∙ ap (option_map users) absent

  -- one without users lists none
  pub users-inserted : (users r).names ≡ []
      → (q : Q) (u : List ℕ) → among (at eq name users (insert_entry (λ x y. eq (name x) (name y)) es k r) q) u ≡ among (at eq name users es q) u
  users-inserted empty q u = ap (λ s. among s u) (reads-inserted eq t name users es k r q) ∙ by (eq q (name k)) refl where
    by : (b : Bool) → eq q (name k) ≡ b → among (cond b (Some (users r)) (at eq name users es q)) u ≡ among (at eq name users es q) u
    by true on = ap (λ names. is_name_among (λ n. n.items) names u) empty ∙ ap (λ s. among s u) (sym (there-none q on))
    by false off = refl

  -- room stays
  pub room-inserted : (q : Q) (count : ℕ) → HasUserRoom count (at eq name users es q)
      → HasUserRoom count (at eq name users (insert_entry (λ x y. eq (name x) (name y)) es k r) q)
  room-inserted q count had = subst (HasUserRoom count) (sym (reads-inserted eq t name users es k r q)) (by (eq q (name k)) refl) where
    by : (b : Bool) → eq q (name k) ≡ b → HasUserRoom count (cond b (Some (users r)) (at eq name users es q))
    by true on = let none : count ≡ 0 = subst (HasUserRoom count) (there-none q on) had in omega (arith, none)
    by false off = had

-- what is put into the record of a name, where it has one
module _ {Q K R X : Type 0} (eq : Q → Q → Bool) (t : Distinguishes eq) (name : K → Q) (read : R → X) (es : List (K × R)) (p : Q) (x : X) where
  put-at : (q : Q) → eq q p ≡ true → lookup (λ k. eq q (name k)) es ≡ lookup (λ k. eq p (name k)) es
  put-at q on = ap (λ n. lookup (λ k. eq n (name k)) es) (t.same q p on)

  pub put-there : (was : R) → lookup (λ k. eq p (name k)) es ≡ Some was
      → (q : Q) → cond (eq q p) (Some x) (option_map read (lookup (λ k. eq q (name k)) es))
      ≡ cond (eq q p) (option_map (λ y. x) (option_map read (lookup (λ k. eq q (name k)) es))) (option_map read (lookup (λ k. eq q (name k)) es))
  put-there was there q = by (eq q p) refl where
    by : (b : Bool) → eq q p ≡ b → cond b (Some x) (option_map read (lookup (λ k. eq q (name k)) es))
        ≡ cond b (option_map (λ y. x) (option_map read (lookup (λ k. eq q (name k)) es))) (option_map read (lookup (λ k. eq q (name k)) es))
    by true on = ap (λ r. option_map (λ y. x) (option_map read r)) (sym (put-at q on ∙ there))
    by false off = refl

-- at a name that was taken out and put in again
pub again-at : {X : Type 0} (b : Bool) (x : X) (y r : X) → cond b x (cond b y r) ≡ cond b x r
again-at true x y r = refl
again-at false x y r = refl

pub kept-last : (es : List (Vec ℕ Global × GlyphRecord)) (e : Vec ℕ Global × GlyphRecord) → map kept_of (es ++ e ∷ []) ≡ map kept_of es ++ kept_of e ∷ []
kept-last [] e = refl
kept-last (x ∷ es) e = ap (λ l. kept_of x ∷ l) (kept-last es e)

-- ---- a record that is taken out

-- entries of which none has the key are all but those of it
none-left : {K R : Type 0} (test : K → Bool) (xs : List (K × R)) → lookup test xs ≡ None → xs ≡ filter (λ e. not (test e.0)) xs
none-left test [] gone = refl
none-left test (x ∷ xs) gone = by (test x.0) refl gone (none-left test xs) where
  by : (b : Bool) → test x.0 ≡ b → cond b (Some x.1) (lookup test xs) ≡ None → (lookup test xs ≡ None → xs ≡ filter (λ e. not (test e.0)) xs)
      → x ∷ xs ≡ cond (not b) (x ∷ filter (λ e. not (test e.0)) xs) (filter (λ e. not (test e.0)) xs)
  by true on gone rest = absurd (cc)
  by false off gone rest = ap (λ l. x ∷ l) (rest gone)

-- where no other entry has the key, all but those of it are left
pub all-but : {K R : Type 0} (test : K → Bool) (es : List (K × R)) → lookup test (remove_entry test es) ≡ None
    → remove_entry test es ≡ filter (λ e. not (test e.0)) es
all-but test [] gone = refl
all-but test (e ∷ es) gone = by (test e.0) refl gone (all-but test es) where
  by : (b : Bool) → test e.0 ≡ b → lookup test (cond b es (e ∷ remove_entry test es)) ≡ None
      → (lookup test (remove_entry test es) ≡ None → remove_entry test es ≡ filter (λ e. not (test e.0)) es)
      → cond b es (e ∷ remove_entry test es) ≡ cond (not b) (e ∷ filter (λ e. not (test e.0)) es) (filter (λ e. not (test e.0)) es)
  by true on gone rest = none-left test es gone
  by false off gone rest = ap (λ l. e ∷ l) (rest (sym (ap (λ b. cond b (Some e.1) (lookup test (remove_entry test es))) off) ∙ gone))

-- what is read of the records is nothing at the name that is taken out
pub reads-removed : {Q K R X : Type 0} (eq : Q → Q → Bool) → Distinguishes eq → (name : K → Q) (read : R → X) (es : List (K × R)) (p : Q)
    → lookup (λ x. eq p (name x)) (remove_entry (λ x. eq p (name x)) es) ≡ None
    → (q : Q) → option_map read (lookup (λ x. eq q (name x)) (remove_entry (λ x. eq p (name x)) es)) ≡ cond (eq q p) None (option_map read (lookup (λ x. eq q (name x)) es))
reads-removed eq t name read es p gone q =
    ap (λ l. option_map read (lookup (λ x. eq q (name x)) l)) (all-but (λ x. eq p (name x)) es gone)
    ∙ ap (option_map read) (lookup-but eq t name p q es)
    ∙ none (eq q p)
  where
    none : (b : Bool) → option_map read (cond b None (lookup (λ x. eq q (name x)) es)) ≡ cond b None (option_map read (lookup (λ x. eq q (name x)) es))
    none true = refl
    none false = refl

pub kept-but : (p : List ℕ) (es : List (Vec ℕ Global × GlyphRecord)) → map kept_of (filter (λ e. not (bytes_eq p e.0.items)) es) ≡ filter (λ k. not (bytes_eq p k.name)) (map kept_of es)
kept-but p [] = refl
kept-but p (e ∷ es) = by (bytes_eq p e.0.items) (kept-but p es) where
  by : (b : Bool) → map kept_of (filter (λ e. not (bytes_eq p e.0.items)) es) ≡ filter (λ k. not (bytes_eq p k.name)) (map kept_of es)
      → map kept_of (cond (not b) (e ∷ filter (λ e. not (bytes_eq p e.0.items)) es) (filter (λ e. not (bytes_eq p e.0.items)) es))
      ≡ cond (not b) (kept_of e ∷ filter (λ k. not (bytes_eq p k.name)) (map kept_of es)) (filter (λ k. not (bytes_eq p k.name)) (map kept_of es))
  by true rest = rest
  by false rest = ap (λ l. kept_of e ∷ l) rest

-- ---- bodies of the changed records

pub changed_bodies : ChangedBodiesLaw
changed_bodies key m n but old new same sets k = same-at (record_bodies new) n k (sets k ∙ by (key_eq k key) refl) where
  by : (b : Bool) → key_eq k key ≡ b → cond b (body_at n key) (body_at (record_bodies old) k) ≡ body_at n k
  by true on = ap (body_at n) (sym (key-same k key on))
  by false off = at-same (record_bodies old) m k (same k) ∙ at-same m n k (but.same k apart) where
    apart : Includes (key ∷ []) k → ⊥
    apart (inl e) = let never : true ≡ false = sym (key-itself k) ∙ ap (key_eq k) (sym e) ∙ off in absurd (cc)
    apart (inr i) = i

-- ---- records that differ in their users alone

subr-rests : (es : List (ℕ × SubrRecord)) (n : ℕ) → subr_body es n ≡ option_map (λ (r : SubrRest). r.body) (find (λ (r : SubrRest). nat_eq n r.number) (map subr_rest es))
subr-rests [] n = refl
subr-rests (e ∷ es) n = by (nat_eq n e.0) (subr-rests es n) where
  by : (b : Bool) → subr_body es n ≡ option_map (λ (r : SubrRest). r.body) (find (λ (r : SubrRest). nat_eq n r.number) (map subr_rest es))
      → option_map (λ (r : SubrRecord). r.body) (cond b (Some e.1) (lookup (nat_eq n) es))
      ≡ option_map (λ (r : SubrRest). r.body) (cond b (Some (subr_rest e)) (find (λ (r : SubrRest). nat_eq n r.number) (map subr_rest es)))
  by true rest = refl
  by false rest = rest

glyph-rests : (es : List (Vec ℕ Global × GlyphRecord)) (g : List ℕ)
    → glyph_body es g ≡ option_map (λ (r : GlyphRest). r.body) (find (λ (r : GlyphRest). bytes_eq g r.name) (map glyph_rest es))
glyph-rests [] g = refl
glyph-rests (e ∷ es) g = by (bytes_eq g e.0.items) (glyph-rests es g) where
  by : (b : Bool) → glyph_body es g ≡ option_map (λ (r : GlyphRest). r.body) (find (λ (r : GlyphRest). bytes_eq g r.name) (map glyph_rest es))
      → option_map (λ (r : GlyphRecord). r.body) (cond b (Some e.1) (lookup (λ key. bytes_eq g key.items) es))
      ≡ option_map (λ (r : GlyphRest). r.body) (cond b (Some (glyph_rest e)) (find (λ (r : GlyphRest). bytes_eq g r.name) (map glyph_rest es)))
  by true rest = refl
  by false rest = rest

abbrev kept-rest : GlyphRest → RecordedGlyph
kept-rest r = record { name = r.name; run = r.run; box = r.bbox }

kept-rests : (es : List (Vec ℕ Global × GlyphRecord)) → map kept_of es ≡ map kept-rest (map glyph_rest es)
kept-rests [] = refl
kept-rests (e ∷ es) = ap (λ l. kept_of e ∷ l) (kept-rests es)

pub rest_same : RestLaw
rest_same old new e = (each, kept-rests new.glyphs.entries ∙ ap (λ r. map kept-rest r.glyphs) e ∙ sym (kept-rests old.glyphs.entries)) where
  each : (k : Key) → SameAt (record_bodies new) (record_bodies old) k
  each (Subr n) =
      subr-rests new.subrs.entries n ∙ ap (λ r. option_map (λ (x : SubrRest). x.body) (find (λ (x : SubrRest). nat_eq n x.number) r.subrs)) e ∙ sym (subr-rests old.subrs.entries n)
  each (Glyph g) =
      glyph-rests new.glyphs.entries g ∙ ap (λ r. option_map (λ (x : GlyphRest). x.body) (find (λ (x : GlyphRest). bytes_eq g x.name) r.glyphs)) e
      ∙ sym (glyph-rests old.glyphs.entries g)
