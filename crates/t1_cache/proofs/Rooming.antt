-- Room that is made for users that join.
use Rattle.std.proofs.Common.{◌≡◌, ◌<◌, ◌+◌, ◌⊎◌, ℕ, Bool, true, false, cond, List, [], ◌∷◌, length, take, get_or, refl, sym, ap, subst, ◌∙◌, Option, Some, None, inl, inr, arith}
use Rattle.std.specs.Prelude.{◌||◌, ◌&&◌}
use Rattle.std.specs.Map.{lookup, set_value}
use Rattle.std.specs.Option.{option_map, unwrap_or}
use Rattle.std.specs.Str.{bytes_eq}
use Rattle.std.specs.declared.alloc.Global.{Global}
use Rattle.std.specs.declared.vec.Vec.{Vec}
use Rattle.std.proofs.lemmas.Bool.{and_parts}
use Rattle.std.proofs.lemmas.List.Sums.{count_by_more_no, count_by_more_yes, sum_by-append}
use Rattle.indexmap.specs.IndexMap.{insert_entry}
use Rattle.t1_code.specs.declared.command.Command.{Command}
use Rattle.t1_run.specs.Run.{Key, Subr, Glyph, own}
use Rattle.t1_run.specs.RunKeys.{body_at, key_eq}
use Rattle.t1_run.specs.Touched.{is_user}
use Rattle.t1_font.specs.declared.owned_key.OwnedKey.{OwnedKey}
use Rattle.t1_cache.specs.declared.records.Records.{Records}
use Rattle.t1_cache.specs.Bodies.{record_bodies}
use Rattle.t1_cache.specs.Room.{IsRoomier, MayJoin, RoomLaw}
use Rattle.t1_cache.specs.Users.{has_pair, HasUserRoom, Pairs, UserSet, users_at, pairs_of_key}
use Rattle.t1_font.specs.OwnedKeys.{key_of}
use Rattle.t1_font.proofs.Keys.{key-same}
use Rattle.t1_font.proofs.Lookups.{Distinguishes, bytes_tell, inserted-at}
use Rattle.t1_cache.proofs.Putting.{at, users-put}
use Rattle.t1_cache.proofs.There.{uses_there}

-- ---- roomier sets

pub roomier-itself : (s : Option UserSet) → IsRoomier s s
roomier-itself None = tt
roomier-itself (Some s) = (refl, omega arith)

pub roomier-twice : (a b c : Option UserSet) → IsRoomier a b → IsRoomier b c → IsRoomier a c
roomier-twice None None None h i = tt
roomier-twice None None (Some c) h i = i
roomier-twice None (Some b) c h i = absurd h
roomier-twice (Some a) None c h i = absurd h
roomier-twice (Some a) (Some b) None h i = i
roomier-twice (Some a) (Some b) (Some c) h i = let x = h.1 in let y = i.1 in (i.0 ∙ h.0, omega (arith, x, y))

pub joins-still : (count : ℕ) (a b : Option UserSet) → IsRoomier a b → MayJoin count a → MayJoin count b
joins-still count None None h may = tt
joins-still count None (Some b) h may = absurd h
joins-still count (Some a) None h may = absurd h
joins-still count (Some a) (Some b) h may = let x = h.1 in omega (arith, x, may)

-- ---- room that is made at one record

pub roomier-put : {Q K R : Type 0} (eq : Q → Q → Bool) → Distinguishes eq → (name : K → Q) (users : R → UserSet) (es : List (K × R)) (p : Q) (was now : R)
    → lookup (λ k. eq p (name k)) es ≡ Some was → IsRoomier (Some (users was)) (Some (users now))
    → (q : Q) → IsRoomier (at eq name users es q) (at eq name users (set_value (λ k. eq p (name k)) es now) q)
roomier-put eq t name users es p was now h more q =
    subst (IsRoomier (at eq name users es q)) (sym (users-put eq t name users es p was now h q)) (by (eq q p) refl)
  where
    by : (b : Bool) → eq q p ≡ b → IsRoomier (at eq name users es q) (cond b (Some (users now)) (at eq name users es q))
    by true on =
        let found : at eq name users es q ≡ Some (users was) = ap (at eq name users es) (t.same q p on) ∙ ap (option_map users) h in
        subst (λ s. IsRoomier s (Some (users now))) (sym found) more
    by false off = roomier-itself (at eq name users es q)

-- ---- counts

pub count-inserted : {Q K : Type 0} (eq : Q → Q → Bool) → Distinguishes eq → (name : K → Q) (es : List (K × ℕ)) (k : K) (count : ℕ)
    → count ≡ unwrap_or (lookup (λ x. eq (name k) (name x)) es) 0 + 1
    → (q : Q) → unwrap_or (lookup (λ x. eq q (name x)) (insert_entry (λ x y. eq (name x) (name y)) es k count)) 0
    ≡ cond (eq q (name k)) (unwrap_or (lookup (λ x. eq q (name x)) es) 0 + 1) (unwrap_or (lookup (λ x. eq q (name x)) es) 0)
count-inserted eq t name es k count is q =
    ap (λ r. unwrap_or r 0) (inserted-at eq t name q k count es) ∙ by (eq q (name k)) refl
  where
    by : (b : Bool) → eq q (name k) ≡ b → unwrap_or (cond b (Some count) (lookup (λ x. eq q (name x)) es)) 0
        ≡ cond b (unwrap_or (lookup (λ x. eq q (name x)) es) 0 + 1) (unwrap_or (lookup (λ x. eq q (name x)) es) 0)
    by true on = is ∙ ap (λ n. unwrap_or (lookup (λ x. eq n (name x)) es) 0 + 1) (sym (t.same q (name k) on))
    by false off = refl

-- ---- room for each key

body-there : {R : Type 0} (users : R → UserSet) (body : R → List Command) (r : Option R) (b : List Command) → option_map body r ≡ Some b
    → (s : UserSet) × (option_map users r ≡ Some s)
body-there users body None b e = absurd (cc)
body-there users body (Some x) b e = (users x, refl)

-- what has a body has users
users-there : (records : Records) (k : Key) (b : List Command) → body_at (record_bodies records) k ≡ Some b → (s : UserSet) × (users_at records k ≡ Some s)
users-there records (Subr n) b e = body-there _ (λ r. r.body) _ b e
users-there records (Glyph g) b e = body-there _ (λ r. r.body) _ b e

-- keys that are wanted have a pair
some-wanted : (joins : Pairs) (k : Key) → (pairs_of_key joins k ≡ 0) ⊎ ((u : List ℕ) × (has_pair joins k u ≡ true))
some-wanted [] k = inl refl
some-wanted (p ∷ joins) k = by (key_eq k (key_of p.0)) refl (some-wanted joins k) where
  by : (b : Bool) → key_eq k (key_of p.0) ≡ b → (pairs_of_key joins k ≡ 0) ⊎ ((u : List ℕ) × (has_pair joins k u ≡ true))
      → (pairs_of_key (p ∷ joins) k ≡ 0) ⊎ ((u : List ℕ) × (has_pair (p ∷ joins) k u ≡ true))
  by true on rest = inr (
    p.1.items,
    ap (λ b. (b && bytes_eq p.1.items p.1.items) || has_pair joins k p.1.items) on
        ∙ ap (λ b. b || has_pair joins k p.1.items) (bytes_tell.itself p.1.items),
  )
  by false off (inl none) = inl (sum_by-append (λ x. cond (key_eq k (key_of x.0)) 1 0) (p ∷ []) joins ∙ ap (λ b. (0 + cond b 1 0) + pairs_of_key joins k) off ∙ (omega (arith, none)))
  by false off (inr there) = inr (
    there.0,
    ap (λ b. (b && bytes_eq there.0 p.1.items) || has_pair joins k there.0) off ∙ there.1,
  )

pub room_for_joins : RoomLaw
room_for_joins m names joins are records same may k = by (users_at records k) refl (may k) where
  at-same : (k : Key) → body_at (record_bodies records) k ≡ body_at m k
  at-same (Subr n) = same (Subr n)
  at-same (Glyph g) = same (Glyph g)

  by : (s : Option UserSet) → users_at records k ≡ s → MayJoin (pairs_of_key joins k) s → HasUserRoom (pairs_of_key joins k) s
  by (Some s) e fits = fits
  by None e fits =
      elim (some-wanted joins k) [
        | inl none ↦ none
        | inr there ↦
            let used = (and_parts (names there.0) (is_user k (own m there.0)) (sym (are k there.0) ∙ there.1)).1 in
            let body = uses_there m there.0 k used in
            let users = users-there records k body.0 (at-same k ∙ body.1) in
            let never : None ≡ Some users.0 = sym e ∙ users.1 in
            absurd (cc)
      ]

-- one more that joins
pub wanted-more : (joins : Pairs) (i : ℕ) (p : OwnedKey × Vec ℕ Global) (k : Key) → i < length joins → p ≡ get_or joins i p
    → pairs_of_key (take (i + 1) joins) k ≡ cond (key_eq k (key_of p.0)) (pairs_of_key (take i joins) k + 1) (pairs_of_key (take i joins) k)
wanted-more joins i p k less is = by (key_eq k (key_of p.0)) refl where
  by : (b : Bool) → key_eq k (key_of p.0) ≡ b → pairs_of_key (take (i + 1) joins) k ≡ cond b (pairs_of_key (take i joins) k + 1) (pairs_of_key (take i joins) k)
  by true on = count_by_more_yes (λ x. key_eq k (key_of x.0)) joins i p less (ap (λ x. key_eq k (key_of x.0)) (sym is) ∙ on)
  by false off = count_by_more_no (λ x. key_eq k (key_of x.0)) joins i p less (ap (λ x. key_eq k (key_of x.0)) (sym is) ∙ off)

-- one more has its room, and the others keep theirs
pub room-more : (old new : Key → Option UserSet) (key : Key) (count : Key → ℕ) → ((k : Key) → IsRoomier (old k) (new k))
    → MayJoin (count key + 1) (new key) → ((k : Key) → MayJoin (count k) (old k))
    → (k : Key) → MayJoin (cond (key_eq k key) (count k + 1) (count k)) (new k)
room-more old new key count sets more may k = by (key_eq k key) refl where
  by : (b : Bool) → key_eq k key ≡ b → MayJoin (cond b (count k + 1) (count k)) (new k)
  by true on = subst (λ j. MayJoin (count j + 1) (new j)) (sym (key-same k key on)) more
  by false off = joins-still (count k) (old k) (new k) (sets k) (may k)
