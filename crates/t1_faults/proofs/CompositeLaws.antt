-- The composites that are told with faults: they change nothing else of them, and are found one after another.
use Rattle.std.proofs.Common.{◌≡◌, ◌∙◌, ℕ, zero, suc, Bool, true, false, not, cond, ◌&&◌, ◌||◌, ◌+◌, ◌-◌, ◌<◌, ◌≤◌, ◌⊎◌, List, [], ◌∷◌, ◌++◌, length, map, drop, get_or, set, filter, filter_map, Option, None, Some, Ok, refl, sym, ap, inl, inr, arith, length-append}
use Rattle.std.specs.Prelude.{nat_eq}
use Rattle.std.specs.Borrow.{Bor}
use Rattle.std.specs.List.{AllByRecursion, cons_option, list_any}
use Rattle.std.specs.Option.{option_or}
use Rattle.std.specs.Str.{bytes_eq}
use Rattle.std.proofs.lemmas.List.{append-nil, append_assoc, drop_more}
use Rattle.std.proofs.lemmas.List.Elements.{filter_map-append}
use Rattle.t1_frac.specs.declared.fault.Code.{Code}
use Rattle.t1_frac.specs.declared.fault.Fault.{Fault}
use Rattle.t1_frac.specs.declared.fault.Place.{Place}
use Rattle.t1_frac.specs.declared.fault.Place.TheVariants as places
use Rattle.t1_run.specs.declared.outline.Composite.{Composite}
use Rattle.t1_run.specs.Run.{Drawing}
use Rattle.t1_font.proofs.Compiling.{or-assoc, or-none}
use Rattle.t1_font.proofs.Lookups.{numbers_tell}
use Rattle.t1_faults.specs.declared.call_chains.CallChain.{CallChain}
use Rattle.t1_faults.specs.declared.found.FoundFault.{FoundFault}
use Rattle.t1_faults.specs.Composites.{OwnRuns, composites_of, each_with, faulty_of_run, faulty_under, faulty_within, found_of_parts, is_chain_of, is_first_naming, names_glyph, with_composites, with_names}
use Rattle.t1_chain.specs.GlyphFailures.{parts_found}
use Rattle.t1_faults.specs.GlyphRuns.{composites_on, each_numbered, first_naming, names_kept}
use Rattle.t1_run.specs.RunKeys.{has_number}
use Rattle.t1_faults.specs.Telling.{IsAccountedFor, IsMet, IsTold, TellsWord}
use Rattle.t1_faults.proofs.KeptLaws.{same_turned}

-- ---- faults with composites are the faults

pub told_still : (code : Code) (place : Place) (composites : List FoundFault → FoundFault → List (List ℕ)) (before : List FoundFault) (faults : List FoundFault) → IsTold code place faults → IsTold code place (each_with composites before faults)
told_still code place composites before [] h = absurd h
told_still code place composites before (fault ∷ faults) (inl h) = inl h
told_still code place composites before (fault ∷ faults) (inr h) = inr (told_still code place composites (before ++ fault ∷ []) faults h)

met_still : (code : Code) (g : List ℕ) (composites : List FoundFault → FoundFault → List (List ℕ)) (before : List FoundFault) (faults : List FoundFault) → IsMet code g faults → IsMet code g (each_with composites before faults)
met_still code g composites before [] h = absurd h
met_still code g composites before (fault ∷ faults) (inl h) = inl h
met_still code g composites before (fault ∷ faults) (inr h) = inr (met_still code g composites (before ++ fault ∷ []) faults h)

either_still : (code : Code) (g : List ℕ) (composites : List FoundFault → FoundFault → List (List ℕ)) (before : List FoundFault) (faults : List FoundFault) → IsTold code (places.Glyph g) faults ⊎ IsMet code g faults
    → IsTold code (places.Glyph g) (each_with composites before faults) ⊎ IsMet code g (each_with composites before faults)
either_still code g composites before faults (inl h) = inl (told_still code (places.Glyph g) composites before faults h)
either_still code g composites before faults (inr h) = inr (met_still code g composites before faults h)

pub answered_still : (run : OwnRuns) (composites : List FoundFault → FoundFault → List (List ℕ)) (before : List FoundFault) (faults : List FoundFault) (fault : Fault) → IsAccountedFor run faults fault
    → IsAccountedFor run (each_with composites before faults) fault
answered_still run composites before faults fault (inl h) = inl (told_still fault.code fault.place composites before faults h)
answered_still run composites before faults fault (inr w) = inr (w.0, w.1, w.2, w.3, w.4, either_still w.2 w.1 composites before faults w.5)

pub words_still : (ls : List (List ℕ)) (composites : List FoundFault → FoundFault → List (List ℕ)) (before : List FoundFault) (faults : List FoundFault) → AllByRecursion (TellsWord ls) faults
    → AllByRecursion (TellsWord ls) (each_with composites before faults)
words_still ls composites before [] h = tt
words_still ls composites before (fault ∷ faults) h = (h.0, words_still ls composites (before ++ fault ∷ []) faults h.1)

pub none_still : (composites : List FoundFault → FoundFault → List (List ℕ)) (before : List FoundFault) (faults : List FoundFault) → each_with composites before faults ≡ [] → faults ≡ []
none_still composites before [] h = refl
none_still composites before (fault ∷ faults) h = absurd (cc)

-- ---- the first fault that names a glyph

drop_next : {X : Type 0} (xs : List X) (i : ℕ) (x : X) → i < length xs → x ≡ get_or xs i x → drop i xs ≡ x ∷ drop (i + 1) xs
drop_next xs i x inside is = drop_more xs i x inside ∙ ap (λ y. y ∷ drop (i + 1) xs) (sym is)

either : (a b : Bool) (n : ℕ) → option_or (cond a (Some n) None) (cond b (Some n) None) ≡ cond (a || b) (Some n) None
either true b n = refl
either false b n = refl

-- both of two tests, one after another
pub one_of_two : (o : Option ℕ) (a b : Bool) (n : ℕ) → option_or (option_or o (cond a (Some n) None)) (cond b (Some n) None) ≡ option_or o (cond (a || b) (Some n) None)
one_of_two o a b n = or-assoc o (cond a (Some n) None) (cond b (Some n) None) ∙ ap (option_or o) (either a b n)

-- one chain more
pub chain_next : (chains : List CallChain) (i : ℕ) (x : CallChain) (g name : List ℕ) (n : ℕ) (old new whole : Option ℕ) → i < length chains → x ≡ get_or chains i x → name ≡ x.glyph
    → new ≡ option_or old (cond (bytes_eq g name) (Some n) None) → option_or old (cond (list_any (is_chain_of g) (drop i chains)) (Some n) None) ≡ whole
    → option_or new (cond (list_any (is_chain_of g) (drop (i + 1) chains)) (Some n) None) ≡ whole
chain_next chains i x g name n old new whole inside is same put before =
    let later = list_any (is_chain_of g) (drop (i + 1) chains) in
    ap (λ o. option_or o (cond later (Some n) None)) (put ∙ ap (λ s. option_or old (cond (bytes_eq g s) (Some n) None)) same)
    ∙ one_of_two old (bytes_eq g x.glyph) later n
    ∙ ap (λ cs. option_or old (cond (list_any (is_chain_of g) cs) (Some n) None)) (sym (drop_next chains i x inside is))
    ∙ before

naming_or : (o : Option ℕ) (b : Bool) (n : ℕ) (later : Option ℕ) → option_or (option_or o (cond b (Some n) None)) later ≡ option_or o (cond b (Some n) later)
naming_or o true n later = or-assoc o (Some n) later
naming_or o false n later = or-assoc o None later

-- one fault more
pub naming_next : (faults : List FoundFault) (i : ℕ) (x : FoundFault) (g : List ℕ) (old new whole : Option ℕ) → i < length faults → x ≡ get_or faults i x
    → new ≡ option_or old (cond (names_glyph g x) (Some i) None) → option_or old (first_naming i (drop i faults) g) ≡ whole
    → option_or new (first_naming (i + 1) (drop (i + 1) faults) g) ≡ whole
naming_next faults i x g old new whole inside is put before =
    let later = first_naming (i + 1) (drop (i + 1) faults) g in
    ap (λ o. option_or o later) put ∙ naming_or old (names_glyph g x) i later ∙ ap (λ fs. option_or old (first_naming i fs g)) (sym (drop_next faults i x inside is)) ∙ before

-- ---- what is under a glyph

-- the numbers of the base, and those of the accent
both_added : (numbers : List ℕ → Option ℕ) (below : List ℕ → List (List ℕ)) (base accent : List ℕ) (c : Composite) (old mid new : List ℕ) → base ≡ c.base → accent ≡ c.accent
    → mid ≡ old ++ filter_map numbers (below base) → new ≡ mid ++ filter_map numbers (below accent)
    → new ≡ old ++ filter_map numbers (below c.base ++ below c.accent)
both_added numbers below base accent c old mid new b a first second =
    second ∙ ap (λ x. x ++ filter_map numbers (below accent)) first ∙ append_assoc old (filter_map numbers (below base)) (filter_map numbers (below accent))
    ∙ ap (λ x. old ++ x) (sym (filter_map-append numbers (below base) (below accent)))
    ∙ ap (λ x. old ++ filter_map numbers (below x ++ below accent)) b ∙ ap (λ x. old ++ filter_map numbers (below c.base ++ below x)) a

pub found_deep : (numbers : List ℕ → Option ℕ) (run : OwnRuns) (depth : ℕ) (g base accent : List ℕ) (d : Drawing) (c : Composite) (old mid new : List ℕ) → 0 < depth → run g ≡ Some (Ok d) → d.composite ≡ Some c
    → base ≡ c.base → accent ≡ c.accent → mid ≡ old ++ filter_map numbers (faulty_within run (depth - 1) base) → new ≡ mid ++ filter_map numbers (faulty_within run (depth - 1) accent)
    → new ≡ old ++ filter_map numbers (faulty_within run depth g)
found_deep numbers run zero g base accent d c old mid new above there parts b a first second = absurd (omega (arith, above))
found_deep numbers run (suc k) g base accent d c old mid new above there parts b a first second =
    let same : suc k - 1 ≡ k = omega arith in
    let whole : faulty_within run (suc k) g ≡ faulty_within run k c.base ++ faulty_within run k c.accent =
    ap (faulty_of_run (faulty_within run k) g) there ∙ ap (found_of_parts (faulty_within run k)) parts in
    both_added numbers (faulty_within run k) base accent c old mid new b a
    (first ∙ ap (λ i. old ++ filter_map numbers (faulty_within run i base)) same) (second ∙ ap (λ i. mid ++ filter_map numbers (faulty_within run i accent)) same)
    ∙ ap (λ t. old ++ filter_map numbers t) (sym whole)

pub found_under : (numbers : List ℕ → Option ℕ) (run : OwnRuns) (g base accent : List ℕ) (d : Drawing) (c : Composite) (old mid new : List ℕ) → run g ≡ Some (Ok d) → d.composite ≡ Some c → base ≡ c.base → accent ≡ c.accent
    → mid ≡ old ++ filter_map numbers (faulty_within run 3 base) → new ≡ mid ++ filter_map numbers (faulty_within run 3 accent) → new ≡ old ++ filter_map numbers (faulty_under run g)
found_under numbers run g base accent d c old mid new there parts b a first second =
    let whole : faulty_under run g ≡ faulty_within run 3 c.base ++ faulty_within run 3 c.accent =
    ap (λ r. found_of_parts (faulty_within run 3) (parts_found r)) there ∙ ap (found_of_parts (faulty_within run 3)) parts in
    both_added numbers (faulty_within run 3) base accent c old mid new b a first second ∙ ap (λ t. old ++ filter_map numbers t) (sym whole)

-- ---- the composites by the numbers of faults

pub kept_by_number : (n s : ℕ) (old new put : Option (List (List ℕ))) → new ≡ cond (nat_eq s n) put old → names_kept new ≡ cond (nat_eq n s) (names_kept put) (names_kept old)
kept_by_number n s old new put e = ap names_kept e ∙ by (nat_eq s n) ∙ ap (λ b. cond b (names_kept put) (names_kept old)) (same_turned n s) where
  by : (b : Bool) → names_kept (cond b put old) ≡ cond b (names_kept put) (names_kept old)
  by true = refl
  by false = refl

-- those of a number are taken out, one added, and put back
pub name_added : (n s : ℕ) (name : List ℕ) (old mid new : ℕ → List (List ℕ)) (taken put : List (List ℕ)) → taken ≡ old s → ((i : ℕ) → mid i ≡ cond (nat_eq i s) [] (old i))
    → put ≡ taken ++ name ∷ [] → ((i : ℕ) → new i ≡ cond (nat_eq i s) put (mid i)) → new n ≡ old n ++ cond (nat_eq n s) (name ∷ []) []
name_added n s name old mid new taken put is others added all = by (nat_eq n s) refl where
  by : (b : Bool) → nat_eq n s ≡ b → new n ≡ old n ++ cond (nat_eq n s) (name ∷ []) []
  by true e =
      all n ∙ ap (λ b. cond b put (mid n)) e ∙ added ∙ ap (λ t. t ++ name ∷ []) (is ∙ ap old (sym (numbers_tell.same n s e)))
      ∙ ap (λ b. old n ++ cond b (name ∷ []) []) (sym e)
  by false e =
      all n ∙ ap (λ b. cond b put (mid n)) e ∙ others n ∙ ap (λ b. cond b [] (old n)) e ∙ sym (append-nil (old n))
      ∙ ap (λ b. old n ++ cond b (name ∷ []) []) (sym e)

-- a number that comes again later
pub again_later : (n s : ℕ) (after : List ℕ) → has_number after s ≡ true → has_number after n ≡ (nat_eq n s || has_number after n)
again_later n s after later = by (nat_eq n s) refl where
  by : (b : Bool) → nat_eq n s ≡ b → has_number after n ≡ (b || has_number after n)
  by true e = ap (has_number after) (numbers_tell.same n s e) ∙ later
  by false e = refl

-- one that doesn't
pub last_time : (n s : ℕ) (after : List ℕ) (name : List ℕ) (old new : List (List ℕ)) → has_number after s ≡ false → new ≡ old ++ cond (nat_eq n s) (name ∷ []) []
    → new ++ cond (has_number after n) (name ∷ []) [] ≡ old ++ cond (nat_eq n s || has_number after n) (name ∷ []) []
last_time n s after name old new last put = ap (λ t. t ++ cond (has_number after n) (name ∷ []) []) put ∙ by (nat_eq n s) refl where
  by : (b : Bool) → nat_eq n s ≡ b → (old ++ cond b (name ∷ []) []) ++ cond (has_number after n) (name ∷ []) [] ≡ old ++ cond (b || has_number after n) (name ∷ []) []
  by true e =
      let none : has_number after n ≡ false = ap (has_number after) (numbers_tell.same n s e) ∙ last in
      ap (λ b. (old ++ name ∷ []) ++ cond b (name ∷ []) []) none ∙ append-nil (old ++ name ∷ [])
  by false e = ap (λ t. t ++ cond (has_number after n) (name ∷ []) []) (append-nil old)

one_kept : (kept : List (List ℕ)) (b : Bool) (name : List ℕ) (rest : List (List ℕ)) → (kept ++ cond b (name ∷ []) []) ++ rest ≡ kept ++ cond b (name ∷ rest) rest
one_kept kept true name rest = append_assoc kept (name ∷ []) rest
one_kept kept false name rest = ap (λ t. t ++ rest) (append-nil kept)

-- one glyph more
pub glyph_next : (numbers : List ℕ → Option ℕ) (run : OwnRuns) (glyphs : List (Bor (List ℕ))) (i n : ℕ) (x : Bor (List ℕ)) (under : List ℕ) (old new whole : List (List ℕ)) → i < length glyphs
    → drop i glyphs ≡ x ∷ drop (i + 1) glyphs → under ≡ filter_map numbers (faulty_under run x.now) → new ≡ old ++ cond (has_number under n) (x.now ∷ []) []
    → old ++ composites_on numbers run (map (λ name. name.now) (drop i glyphs)) n ≡ whole
    → new ++ composites_on numbers run (map (λ name. name.now) (drop (i + 1) glyphs)) n ≡ whole
glyph_next numbers run glyphs i n x under old new whole inside left is put before =
    let later = composites_on numbers run (map (λ name. name.now) (drop (i + 1) glyphs)) n in
    ap (λ t. t ++ later) (put ∙ ap (λ u. old ++ cond (has_number u n) (x.now ∷ []) []) is)
    ∙ one_kept old (has_number (filter_map numbers (faulty_under run x.now)) n) x.now later
    ∙ ap (λ gs. old ++ composites_on numbers run (map (λ name. name.now) gs) n) (sym left)
    ∙ before

-- ---- each fault is given its composites

-- the first k of these faults, of which the first has the number n, have the composites of their numbers
abbrev pub given : (ℕ → List (List ℕ)) → ℕ → ℕ → List FoundFault → List FoundFault
given composites n zero faults = faults
given composites n (suc k) [] = []
given composites n (suc k) (fault ∷ faults) = with_names (composites n) fault ∷ given composites (n + 1) k faults

-- one fault more
given_one : (composites : ℕ → List (List ℕ)) (n k : ℕ) (faults : List FoundFault) (d new : FoundFault) → k < length faults
    → new ≡ with_names (composites (n + k)) (get_or (given composites n k faults) k d) → set (given composites n k faults) k new ≡ given composites n (suc k) faults
given_one composites n k [] d new inside is = absurd (omega (arith, inside))
given_one composites n zero (fault ∷ faults) d new inside is =
    let same : n + 0 ≡ n = omega arith in
    ap (λ f. f ∷ faults) (is ∙ ap (λ m. with_names (composites m) fault) same)
given_one composites n (suc k) (fault ∷ faults) d new inside is =
    let same : n + suc k ≡ n + 1 + k = omega arith in
    ap (λ fs. with_names (composites n) fault ∷ fs)
    (given_one composites (n + 1) k faults d new (omega (arith, inside)) (is ∙ ap (λ m. with_names (composites m) (get_or (given composites (n + 1) k faults) k d)) same))

pub given_next : (composites : ℕ → List (List ℕ)) (k : ℕ) (faults now : List FoundFault) (names : List (List ℕ)) (old new : FoundFault) → k < length faults → now ≡ given composites 0 k faults
    → old ≡ get_or now k old → names ≡ composites k → new ≡ with_names names old → set now k new ≡ given composites 0 (k + 1) faults
given_next composites k faults now names old new inside so_far there is put =
    let same : 0 + k ≡ k = omega arith in
    let on : suc k ≡ k + 1 = omega arith in
    ap (λ fs. set fs k new) so_far
    ∙ given_one composites 0 k faults old new inside (put
    ∙ ap (λ ns. with_names ns old) (is ∙ ap composites (sym same))
    ∙ ap (with_names (composites (0 + k))) (there ∙ ap (λ fs. get_or fs k old) so_far))
    ∙ ap (λ m. given composites 0 m faults) on

pub given_all : (composites : ℕ → List (List ℕ)) (n k : ℕ) (faults : List FoundFault) → length faults ≤ k → given composites n k faults ≡ each_numbered composites n faults
given_all composites n zero [] h = refl
given_all composites n (suc k) [] h = refl
given_all composites n zero (fault ∷ faults) h = absurd (omega (arith, h))
given_all composites n (suc k) (fault ∷ faults) h = ap (λ fs. with_names (composites n) fault ∷ fs) (given_all composites (n + 1) k faults (omega (arith, h)))

-- ---- the fault of a number is the first that names a glyph

-- whether there is a number, and it is this one
abbrev is_numbered : ℕ → Option ℕ → Bool
is_numbered n None = false
is_numbered n (Some m) = nat_eq n m

other_number : (n m : ℕ) → (m < n) ⊎ (n < m) → nat_eq n m ≡ false
other_number n m apart = by (nat_eq n m) refl where
  by : (b : Bool) → nat_eq n m ≡ b → b ≡ false
  by false e = refl
  by true e = let same = numbers_tell.same n m e in elim apart [
    | inl below ↦ absurd (omega (arith, below, same))
    | inr above ↦ absurd (omega (arith, above, same))
  ]

-- no fault has a number before that of the first
none_before : (n s : ℕ) (faults : List FoundFault) (g : List ℕ) → n < s → is_numbered n (first_naming s faults g) ≡ false
none_before n s [] g before = refl
none_before n s (fault ∷ faults) g before = by (none_before n (s + 1) faults g (omega (arith, before))) (names_glyph g fault) where
  by : is_numbered n (first_naming (s + 1) faults g) ≡ false → (b : Bool) → is_numbered n (cond b (Some s) (first_naming (s + 1) faults g)) ≡ false
  by below true = other_number n s (inr before)
  by below false = below

number_tells : (s : ℕ) (before faults : List FoundFault) (fault : FoundFault) (g : List ℕ)
    → is_numbered (s + length before) (first_naming s (before ++ fault ∷ faults) g) ≡ is_first_naming before fault g
number_tells s [] faults fault g = by (names_glyph g fault) where
  by : (b : Bool) → is_numbered (s + 0) (cond b (Some s) (first_naming (s + 1) faults g)) ≡ (b && true)
  by true = let same : s + 0 ≡ s = omega arith in ap (λ n. nat_eq n s) same ∙ numbers_tell.itself s
  by false = none_before (s + 0) (s + 1) faults g (omega arith)
number_tells s (first ∷ before) faults fault g = by (number_tells (s + 1) before faults fault g) (names_glyph g first) where
  none : (b : Bool) → false ≡ (b && false)
  none true = refl
  none false = refl

  by : is_numbered (s + 1 + length before) (first_naming (s + 1) (before ++ fault ∷ faults) g) ≡ (names_glyph g fault && not (list_any (names_glyph g) before)) → (b : Bool)
      → is_numbered (s + suc (length before)) (cond b (Some s) (first_naming (s + 1) (before ++ fault ∷ faults) g)) ≡ (names_glyph g fault && not (b || list_any (names_glyph g) before))
  by below true = other_number (s + suc (length before)) s (inl (omega arith)) ∙ none (names_glyph g fault)
  by below false =
      let same : s + suc (length before) ≡ s + 1 + length before = omega arith in
      ap (λ n. is_numbered n (first_naming (s + 1) (before ++ fault ∷ faults) g)) same ∙ below

-- a number is among those of glyphs where one of them has it
some_numbered : (numbers : List ℕ → Option ℕ) (n : ℕ) (test : List ℕ → Bool) → ((g : List ℕ) → is_numbered n (numbers g) ≡ test g) → (gs : List (List ℕ))
    → has_number (filter_map numbers gs) n ≡ list_any test gs
some_numbered numbers n test same [] = refl
some_numbered numbers n test same (g ∷ gs) = by (numbers g) ∙ ap (λ b. b || has_number (filter_map numbers gs) n) (same g) ∙ ap (λ b. test g || b) (some_numbered numbers n test same gs) where
  by : (o : Option ℕ) → has_number (cons_option o (filter_map numbers gs)) n ≡ (is_numbered n o || has_number (filter_map numbers gs) n)
  by None = refl
  by (Some m) = refl

same_composites : (run : OwnRuns) (glyphs : List (List ℕ)) (before faults : List FoundFault) (fault : FoundFault)
    → composites_on (first_naming 0 (before ++ fault ∷ faults)) run glyphs (length before) ≡ composites_of run glyphs before fault
same_composites run glyphs before faults fault =
    let numbers = first_naming 0 (before ++ fault ∷ faults) in
    let from_0 : 0 + length before ≡ length before = omega arith in
    let same : (λ (g : List ℕ). has_number (filter_map numbers (faulty_under run g)) (length before)) ≡ (λ g. list_any (is_first_naming before fault) (faulty_under run g)) =
    λ j. λ g. some_numbered numbers (length before) (is_first_naming before fault) (λ p. ap (λ n. is_numbered n (numbers p)) (sym from_0) ∙ number_tells 0 before faults fault p) (faulty_under run g) j in
    ap (λ test. filter test glyphs) same

same_each : (run : OwnRuns) (glyphs : List (List ℕ)) (before faults : List FoundFault)
    → each_numbered (composites_on (first_naming 0 (before ++ faults)) run glyphs) (length before) faults ≡ each_with (composites_of run glyphs) before faults
same_each run glyphs before [] = refl
same_each run glyphs before (fault ∷ faults) =
    let rest : (before ++ fault ∷ []) ++ faults ≡ before ++ fault ∷ faults = append_assoc before (fault ∷ []) faults in
    let count : length before + 1 ≡ length (before ++ fault ∷ []) = sym (length-append before (fault ∷ [])) in
    ap (λ names. with_names names fault ∷ each_numbered (composites_on (first_naming 0 (before ++ fault ∷ faults)) run glyphs) (length before + 1) faults) (same_composites run glyphs before faults fault)
    ∙ ap (λ fs. with_names (composites_of run glyphs before fault) fault ∷ fs)
    (ap (λ n. each_numbered (composites_on (first_naming 0 (before ++ fault ∷ faults)) run glyphs) n faults) count
    ∙ ap (λ all. each_numbered (composites_on (first_naming 0 all) run glyphs) (length (before ++ fault ∷ [])) faults) (sym rest)
    ∙ same_each run glyphs (before ++ fault ∷ []) faults)

-- faults with the composites of their numbers
pub same_numbered : (run : OwnRuns) (glyphs : List (List ℕ)) (faults : List FoundFault) → each_numbered (composites_on (first_naming 0 faults) run glyphs) 0 faults ≡ with_composites run glyphs faults
same_numbered run glyphs faults = same_each run glyphs [] faults
