-- One write after another.
use Rattle.std.proofs.Common.{◌≡◌, ℕ, ◌≤◌, true, nat_eq, List, [], ◌∷◌, ◌++◌, length, Option, None, Some, take, drop, refl, sym, ap, ◌∙◌, append_assoc, append-nil, subst, MutBor, Result, Ok, Err, arith}
use Rattle.std.proofs.lemmas.Bool.{eqb-true}
use Rattle.std.specs.Result.{MatchResult, OnOk}
use Rattle.std.proofs.lemmas.List.{take-append-drop, take-take}
use Rattle.std.proofs.KnownBytes.{Appends-trans, Appends-nil}
use Rattle.std.specs.Io.KnownBytes.{Appends, Keeps}
use Rattle.t1_frac.specs.declared.fault.Fault.{Fault}
use Rattle.t1_code.specs.declared.outlet.Outlet.{Outlet}
use Rattle.t1_code.specs.declared.parts.OutError.{OutError}
use Rattle.t1_code.specs.declared.parts.OutError.TheVariants as out
use Rattle.t1_code.specs.Parts.{PassesFile, Prints}
use Rattle.t1_code.specs.Counted.{Tally, WritesAll, WritesFront, one_more}
use Rattle.t1_code.specs.Writing.{Passes, Stops, Puts, Writes}

-- where a text has no byte
pub nothing_left : (rest : List ℕ) → nat_eq (length rest) 0 ≡ true → rest ≡ []
nothing_left [] h = refl
nothing_left (x ∷ rest) h = absurd (omega (arith, eqb-true (length (x ∷ rest)) 0 h))

-- The laws of a way to write, with All for a call that wrote all its bytes and Front for one that failed after a beginning of them.
pub record IsWriting {S : Type 0} (All Front : S → S → List ℕ → Type 0) : Type 0 where
  pub none : (a : S) → All a a []
  pub join : (a b c : S) (xs ys : List ℕ) → All a b xs → All b c ys → All a c (xs ++ ys)
  pub fails : (a b c : S) (xs ys : List ℕ) → All a b xs → Front b c ys → Front a c (xs ++ ys)
  pub longer : (a b : S) (xs ys : List ℕ) → Front a b xs → Front a b (xs ++ ys)

module _ {W : Type 0} (contents : W → Option (List ℕ)) where
  WritesAll-nil : (w : Tally W) → WritesAll contents w w []
  WritesAll-nil w = record { appends = Appends-nil (contents w.inner); failures = refl; turns = refl }

  pub WritesAll-append : (a b c : Tally W) (xs ys : List ℕ) → WritesAll contents a b xs → WritesAll contents b c ys → WritesAll contents a c (xs ++ ys)
  WritesAll-append a b c xs ys p q = record {
    appends = Appends-trans _ _ _ xs ys p.appends q.appends;
    failures = q.failures ∙ p.failures;
    turns = q.turns ∙ p.turns;
  }

  -- what goes out first, and then a beginning of the next
  pub WritesFront-append : (a b c : Tally W) (xs ys : List ℕ) → WritesAll contents a b xs → WritesFront contents b c ys → WritesFront contents a c (xs ++ ys)
  WritesFront-append a b c xs ys p q = record {
    appends = (xs ++ q.appends.0, q.appends.1, ap (λ l. xs ++ l) q.appends.2 ∙ sym (append_assoc xs q.appends.0 q.appends.1), Appends-trans _ _ _ xs q.appends.0 p.appends q.appends.3);
    failures = q.failures ∙ ap one_more p.failures;
    turns = q.turns ∙ p.turns;
  }

  -- a beginning of the bytes begins what they begin
  pub WritesFront-longer : (a b : Tally W) (xs ys : List ℕ) → WritesFront contents a b xs → WritesFront contents a b (xs ++ ys)
  WritesFront-longer a b xs ys p = record {
    appends = (p.appends.0, p.appends.1 ++ ys, ap (λ l. l ++ ys) p.appends.2 ∙ append_assoc p.appends.0 p.appends.1 ys, p.appends.3);
    failures = p.failures;
    turns = p.turns;
  }

  -- straight to the writer
  pub writing : IsWriting (WritesAll contents) (WritesFront contents)
  writing = record { none = WritesAll-nil; join = WritesAll-append; fails = WritesFront-append; longer = WritesFront-longer }

  Passes-nil : (a : Outlet W) → Passes contents a a []
  Passes-nil a = record { same = refl; sent = []; parts = append-nil a.chunk; writes = WritesAll-nil a.out.now }

  Passes-append : (a b c : Outlet W) (xs ys : List ℕ) → Passes contents a b xs → Passes contents b c ys → Passes contents a c (xs ++ ys)
  Passes-append a b c xs ys p q = record {
    same = q.same ∙ p.same;
    sent = p.sent ++ q.sent;
    parts = sym (append_assoc a.chunk xs ys) ∙ ap (λ l. l ++ ys) p.parts ∙ append_assoc p.sent b.chunk ys ∙ ap (λ l. p.sent ++ l) q.parts ∙ sym (append_assoc p.sent q.sent c.chunk);
    writes = WritesAll-append a.out.now b.out.now c.out.now p.sent q.sent p.writes q.writes;
  }

  Stops-append : (a b c : Outlet W) (xs ys : List ℕ) → Passes contents a b xs → Stops contents b c ys → Stops contents a c (xs ++ ys)
  Stops-append a b c xs ys p q =
      let texts : p.sent ++ (b.chunk ++ ys) ≡ a.chunk ++ (xs ++ ys) = sym (append_assoc p.sent b.chunk ys) ∙ ap (λ l. l ++ ys) (sym p.parts) ∙ append_assoc a.chunk xs ys in
      record {
        same = q.same ∙ p.same;
        writes = subst (WritesFront contents a.out.now c.out.now) texts (WritesFront-append a.out.now b.out.now c.out.now p.sent (b.chunk ++ ys) p.writes q.writes);
      }

  Stops-longer : (a b : Outlet W) (xs ys : List ℕ) → Stops contents a b xs → Stops contents a b (xs ++ ys)
  Stops-longer a b xs ys p = record {
    same = p.same;
    writes = subst (WritesFront contents a.out.now b.out.now) (append_assoc a.chunk xs ys) (WritesFront-longer a.out.now b.out.now (a.chunk ++ xs) ys p.writes);
  }

  -- by way of a chunk that waits
  pub passing : IsWriting (Passes contents) (Stops contents)
  passing = record { none = Passes-nil; join = Passes-append; fails = Stops-append; longer = Stops-longer }

module _ {S : Type 0} {All Front : S → S → List ℕ → Type 0} (laws : IsWriting All Front) where
  -- a beginning of the bytes went out, and the rest is left
  abbrev pub Written : S → S → List ℕ → List ℕ → Type 0
  Written start now bytes rest = (done : List ℕ) × (bytes ≡ done ++ rest) × All start now done

  pub Written-none : (w : S) (bytes : List ℕ) → Written w w bytes bytes
  Written-none w bytes = ([], refl, laws.none w)

  pub Written-from : (w : S) (bytes parts : List ℕ) → bytes ≡ parts → Written w w bytes parts
  Written-from w bytes parts e = ([], e, laws.none w)

  -- the front of the rest goes out too
  pub Written-step : (start old new : S) (bytes front rest : List ℕ) → Written start old bytes (front ++ rest) → All old new front → Written start new bytes rest
  Written-step start old new bytes front rest p q =
      (p.0 ++ front, p.1 ∙ sym (append_assoc p.0 front rest), laws.join start old new p.0 front p.2 q)

  -- a call fails within the front of the rest
  pub Written-fails : (start old new : S) (bytes front rest : List ℕ) → Written start old bytes (front ++ rest) → Front old new front → Front start new bytes
  Written-fails start old new bytes front rest p q =
      subst (Front start new) (append_assoc p.0 front rest ∙ sym p.1)
      (laws.longer start new (p.0 ++ front) rest (laws.fails start old new p.0 front p.2 q))

  -- nothing is left
  pub Written-all : (start new : S) (bytes : List ℕ) → Written start new bytes [] → All start new bytes
  Written-all start new bytes p = subst (All start new) (sym (append-nil p.0) ∙ sym p.1) p.2

  -- the last part goes out, and its call's result is handed on
  pub Written-last : {T E : Type 0} (r : Result T E) (start old new : S) (bytes last : List ℕ) → Written start old bytes last
      → MatchResult r (λ done. All old new last) (λ error. Front old new last) → MatchResult r (λ done. All start new bytes) (λ error. Front start new bytes)
  Written-last (Ok x) start old new bytes last p q =
      Written-all start new bytes (Written-step start old new bytes last [] (subst (Written start old bytes) (sym (append-nil last)) p) q)
  Written-last (Err e) start old new bytes last p q =
      Written-fails start old new bytes last [] (subst (Written start old bytes) (sym (append-nil last)) p) q

-- one call took a beginning of what it was handed, which was a beginning of the rest
pub Written-more : {W : Type 0} (contents : W → Option (List ℕ)) (start old new : Tally W) (bytes rest : List ℕ) (handed count : ℕ) → Written (writing contents) start old bytes rest
    → count ≤ handed → Appends (contents old.inner) (contents new.inner) (take count (take handed rest)) → new.failures ≡ old.failures → new.turns ≡ old.turns
    → Written (writing contents) start new bytes (drop count rest)
Written-more contents start old new bytes rest handed count p within appends failures turns = (
  p.0 ++ take count rest,
  p.1 ∙ ap (λ l. p.0 ++ l) (sym (take-append-drop count rest)) ∙ sym (append_assoc p.0 (take count rest) (drop count rest)),
  WritesAll-append contents start old new p.0 (take count rest) p.2 (record { appends = rw take-take at appends; failures = failures; turns = turns }),
)

-- a call fails and nothing of the rest went out
pub Written-broken : {W : Type 0} (contents : W → Option (List ℕ)) (start old new : Tally W) (bytes rest : List ℕ) → Written (writing contents) start old bytes rest
    → Keeps (contents old.inner) (contents new.inner) → new.failures ≡ one_more old.failures → new.turns ≡ old.turns → WritesFront contents start new bytes
Written-broken contents start old new bytes rest p keeps failures turns =
    Written-fails (writing contents) start old new bytes [] rest p
    (record { appends = ([], [], refl, none (contents old.inner) (contents new.inner) keeps); failures = failures; turns = turns }) where
      none : (a b : Option (List ℕ)) → Keeps a b → Appends a b []
      none None b h = tt
      none (Some x) None h = absurd h
      none (Some x) (Some y) h = h ∙ sym (append-nil x)

module _ {W : Type 0} (contents : W → Option (List ℕ)) where
  -- bytes that the chunk takes wait there
  kept_passes : (old new : Outlet W) (bytes : List ℕ) → new.out ≡ old.out → new.chunk ≡ old.chunk ++ bytes → Passes contents old new bytes
  kept_passes old new bytes out kept = record {
    same = ap (λ r. r.ghost_name) out;
    sent = [];
    parts = sym kept;
    writes = subst (λ t. WritesAll contents old.out.now t []) (ap (λ r. r.now) (sym out)) ((writing contents).none old.out.now);
  }

  -- the front of the rest waits too, after room was made for it
  pub Written-kept : (start old roomy new : Outlet W) (bytes rest front after : List ℕ) → Written (passing contents) start old bytes rest → rest ≡ front ++ after
      → Passes contents old roomy [] → new.out ≡ roomy.out → new.chunk ≡ roomy.chunk ++ front → Written (passing contents) start new bytes after
  Written-kept start old roomy new bytes rest front after p e q out kept =
      Written-step (passing contents) start old new bytes front after (rw e at p) ((passing contents).join old roomy new [] front q (kept_passes roomy new front out kept))

  -- a call of a new outlet fails: what the writer behind it took
  pub outlet_fails : (lent : MutBor (Tally W)) (a b : Outlet W) (last : Tally W) (bytes : List ℕ) → a.out ≡ lent → a.chunk ≡ [] → Stops contents a b bytes
      → (lent.ghost_name ≡ b.out.ghost_name → last ≡ b.out.now) → WritesFront contents lent.now last bytes
  outlet_fails lent a b last bytes made none p back =
      let returned : last ≡ b.out.now = back (sym (p.same ∙ ap (λ r. r.ghost_name) made)) in
      rw (sym made, returned) (subst (λ l. WritesFront contents a.out.now b.out.now (l ++ bytes)) none p.writes)

  -- a new outlet passes bytes on and sends what waits: what the writer behind it took
  pub outlet_sent : {T E : Type 0} (r : Result T E) (lent : MutBor (Tally W)) (a b c : Outlet W) (last : Tally W) (bytes : List ℕ) → a.out ≡ lent → a.chunk ≡ [] → Passes contents a b bytes
      → Puts contents b c [] r → OnOk r (c.chunk ≡ []) → (lent.ghost_name ≡ c.out.ghost_name → last ≡ c.out.now) → Writes contents lent.now last bytes r
  outlet_sent (Ok x) lent a b c last bytes made none p q empty back =
      let all = (passing contents).join a b c bytes [] p q in
      let texts : all.sent ≡ bytes = sym (append-nil all.sent) ∙ ap (λ l. all.sent ++ l) (sym empty) ∙ sym all.parts ∙ ap (λ l. l ++ (bytes ++ [])) none ∙ append-nil bytes in
      let returned : last ≡ c.out.now = back (sym (all.same ∙ ap (λ r. r.ghost_name) made)) in
      rw (sym made, returned) (subst (WritesAll contents a.out.now c.out.now) texts all.writes)
  outlet_sent (Err e) lent a b c last bytes made none p q empty back =
      outlet_fails lent a c last bytes made none (subst (Stops contents a c) (append-nil bytes) ((passing contents).fails a b c bytes [] p q)) back

module _ {W : Type 0} (contents : W → Option (List ℕ)) (lent : MutBor (Tally W)) (a b : Outlet W) (file : Result (List ℕ) Fault) (made : a.out ≡ lent) (none : a.chunk ≡ []) where
  -- a file that didn't pass, by way of a new outlet
  pub file_fails : (error : OutError) (last : Tally W) → PassesFile {T = Unit {0}} contents a b file (Err error) → (lent.ghost_name ≡ b.out.ghost_name → last ≡ b.out.now)
      → Prints {T = Unit {0}} contents lent.now last file (Err error)
  file_fails out.Write last p back = (p.0, p.1, outlet_fails contents lent a b last p.0 made none p.2 back)
  file_fails (out.Fault fault) last p back =
      let same : b.out ≡ lent = ap (λ o. o.out) p.1 ∙ made in
      (p.0, back (sym (ap (λ r. r.ghost_name) same)) ∙ ap (λ r. r.now) same)
  file_fails out.Memory last p back = absurd p

  -- a file that passed on, and the last call, which sends what waits
  pub file_unsent : (c : Outlet W) (last : Tally W) → PassesFile {T = Unit {0}} contents a b file (Ok tt) → Stops contents b c [] → (lent.ghost_name ≡ c.out.ghost_name → last ≡ c.out.now)
      → Prints {T = Unit {0}} contents lent.now last file (Err out.Write)
  file_unsent c last p q back = (p.0, p.1, outlet_sent contents {T = Unit {0}} {E = Unit {0}} (Err tt) lent a b c last p.0 made none p.2 q tt back)

  pub file_sent : (c : Outlet W) (last : Tally W) → PassesFile {T = Unit {0}} contents a b file (Ok tt) → Passes contents b c [] → c.chunk ≡ [] → (lent.ghost_name ≡ c.out.ghost_name → last ≡ c.out.now)
      → Prints {T = Unit {0}} contents lent.now last file (Ok tt)
  file_sent c last p q empty back = (p.0, p.1, outlet_sent contents {T = Unit {0}} {E = Unit {0}} (Ok tt) lent a b c last p.0 made none p.2 q empty back)
