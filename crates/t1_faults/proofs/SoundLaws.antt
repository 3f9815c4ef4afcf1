-- No fault is found exactly where check finds none.
use Rattle.std.proofs.Common.{◌≡◌, ◌∙◌, ℕ, zero, suc, Bool, true, false, cond, ◌||◌, List, [], ◌∷◌, ◌++◌, length, map, Option, None, Some, Result, Ok, Err, refl, sym, ap, subst, inl, inr}
use Rattle.std.specs.Prelude.{nat_lt, flat_map, option_map}
use Rattle.std.specs.List.{list_any, AllByRecursion}
use Rattle.std.specs.Option.{option_to_list}
use Rattle.std.specs.Str.{bytes_eq}
use Rattle.std.proofs.lemmas.Bool.{cases_Bool}
use Rattle.t1_frac.specs.declared.fault.Code.{Code}
use Rattle.t1_frac.specs.declared.fault.Code.TheVariants.{F22}
use Rattle.t1_frac.specs.declared.fault.Place.{Place}
use Rattle.t1_frac.specs.declared.fault.Place.TheVariants as places
use Rattle.t1_parts.specs.declared.item.Item.{Item}
use Rattle.t1_parts.specs.declared.item.Item.TheVariants.{Plain, Section, Subr, Glyph}
use Rattle.t1_code.specs.declared.command.Command.{Command}
use Rattle.t1_code.specs.Words.{command_of_word, command_then, commands, commands_of_words}
use Rattle.t1_run.specs.Run.{Drawing}
use Rattle.t1_run.specs.declared.outline.Composite.{Composite}
use Rattle.t1_run.proofs.Asked.{bytes_same, bytes_self}
use Rattle.t1_font.specs.Bodies.{bodies_check, words_check}
use Rattle.t1_font.specs.Glyphs.{glyph_names}
use Rattle.t1_font.specs.MeasuredGlyphs.{glyph_metrics_at}
use Rattle.t1_font.proofs.Measuring.{first-ok, next-ok}
use Rattle.t1_faults.specs.declared.found.FoundFault.{FoundFault}
use Rattle.t1_faults.specs.declared.placed.PlacedWord.{PlacedWord}
use Rattle.t1_faults.specs.declared.run_fault.RunFault.{RunFault}
use Rattle.t1_faults.specs.Entries.{Entry, placed_words}
use Rattle.t1_faults.specs.Found.{at_entry, at_word, body_faults, refused_code, in_entry, length_faults, met_faults, word_faults}
use Rattle.t1_faults.specs.Composites.{OwnRuns}
use Rattle.t1_faults.specs.Judging.{entry_faults, first_fault_of_run, join_fault, join_faults, or_else, run_faults, sound_parts, sound_run, sound_within}
use Rattle.t1_faults.specs.Met.{met_in}
use Rattle.t1_faults.proofs.TakenLaws.{AreOf}

-- ---- lists without elements

pub both_none : {X : Type 0} (xs ys : List X) → xs ++ ys ≡ [] → (xs ≡ []) × (ys ≡ [])
both_none [] ys e = (refl, e)
both_none (x ∷ xs) ys e = absurd (cc)

pub none_joined : {X : Type 0} (xs ys : List X) → xs ≡ [] → ys ≡ [] → xs ++ ys ≡ []
none_joined xs ys e f = ap (λ l. l ++ ys) e ∙ f

none_listed : {X Y : Type 0} (f : X → Y) (o : Option X) → option_to_list (option_map f o) ≡ [] → o ≡ None
none_listed f None e = refl
none_listed f (Some x) e = absurd (cc)

nothing_listed : {X Y : Type 0} (f : X → Y) (o : Option X) → o ≡ None → option_to_list (option_map f o) ≡ []
nothing_listed f o e = ap (λ x. option_to_list (option_map f x)) e

no_others : (xs ys : List FoundFault) → or_else xs ys ≡ [] → (xs ≡ []) × (ys ≡ [])
no_others [] ys e = (refl, e)
no_others (x ∷ xs) ys e = absurd (cc)

-- ---- words without a fault

-- words without a fault are commands
words_sound : (place : Place) (ws : List PlacedWord) → word_faults place ws ≡ [] → (cs : List Command) × (commands_of_words (map (λ w. w.word) ws) ≡ Ok cs)
words_sound place [] e = ([], refl)
words_sound place (w ∷ ws) e = by (λ h. words_sound place ws h) (command_of_word w.word) refl where
  by : (word_faults place ws ≡ [] → (cs : List Command) × (commands_of_words (map (λ w. w.word) ws) ≡ Ok cs)) → (r : Result Command Code) → command_of_word w.word ≡ r → (cs : List Command) × (commands_of_words (map (λ w. w.word) (w ∷ ws)) ≡ Ok cs)
  by below (Ok c) h =
      let rest : word_faults place ws ≡ [] = rw h at e in
      let more = below rest in
      (c ∷ more.0, ap (λ r. command_then r (commands_of_words (map (λ w. w.word) ws))) h ∙ ap (command_then (Ok c)) more.1)
  by below (Err code) h = let some : at_word place w code ∷ word_faults place ws ≡ [] = rw h at e in absurd (cc)

-- words that are commands have no fault
words_fine : (place : Place) (ws : List PlacedWord) (cs : List Command) → commands_of_words (map (λ w. w.word) ws) ≡ Ok cs → word_faults place ws ≡ []
words_fine place [] cs e = refl
words_fine place (w ∷ ws) cs e = by (λ more f. words_fine place ws more f) (command_of_word w.word) refl where
  rest : ((more : List Command) → commands_of_words (map (λ w. w.word) ws) ≡ Ok more → word_faults place ws ≡ []) → (c : Command) (r : Result (List Command) Code) → commands_of_words (map (λ w. w.word) ws) ≡ r → command_then (Ok c) r ≡ Ok cs → word_faults place ws ≡ []
  rest below c (Ok more) f h = below more f
  rest below c (Err code) f h = absurd (cc)

  by : ((more : List Command) → commands_of_words (map (λ w. w.word) ws) ≡ Ok more → word_faults place ws ≡ []) → (r : Result Command Code) → command_of_word w.word ≡ r → word_faults place (w ∷ ws) ≡ []
  by below (Ok c) h =
      let all : command_then (Ok c) (commands_of_words (map (λ w. w.word) ws)) ≡ Ok cs = rw h at e in
      rw h (rest below c (commands_of_words (map (λ w. w.word) ws)) refl all)
  by below (Err code) h = let none : Err code ≡ Ok cs = rw h at e in absurd (cc)

pub long_as : (ws : List PlacedWord) → length (map (λ w. w.word) ws) ≡ length ws
long_as [] = refl
long_as (w ∷ ws) = ap suc (long_as ws)

-- a body without a fault compiles
body_sound : (e : Entry) (ws : List (List ℕ)) → map (λ w. w.word) (placed_words e) ≡ ws → body_faults e ≡ [] → (cs : List Command) × (commands ws ≡ Ok cs)
unfolding commands
body_sound e ws is none =
    let parts = both_none (length_faults e (placed_words e)) (word_faults e.place (placed_words e)) none in
    let read = words_sound e.place (placed_words e) parts.1 in
    let same = ap commands_of_words (sym is) ∙ read.1 in
    elim (cases_Bool (nat_lt 65535 (length (placed_words e)))) [
      | inl long ↦ let some : at_entry e F22 ∷ [] ≡ [] = rw long at parts.0 in absurd (cc)
      | inr short ↦
          let count : nat_lt 65535 (length ws) ≡ false = ap (λ l. nat_lt 65535 (length l)) (sym is) ∙ ap (nat_lt 65535) (long_as (placed_words e)) ∙ short in
          (read.0, rw count same)
    ]

-- a body that compiles has no fault
pub body_fine : (e : Entry) (ws : List (List ℕ)) (cs : List Command) → map (λ w. w.word) (placed_words e) ≡ ws → commands ws ≡ Ok cs → body_faults e ≡ []
unfolding commands
body_fine e ws cs is compiled =
    elim (cases_Bool (nat_lt 65535 (length ws))) [
      | inl long ↦ let none : Err F22 ≡ Ok cs = rw long at compiled in absurd (cc)
      | inr short ↦
          let read : commands_of_words ws ≡ Ok cs = rw short at compiled in
          let count : nat_lt 65535 (length (placed_words e)) ≡ false = ap (nat_lt 65535) (sym (long_as (placed_words e)) ∙ ap length is) ∙ short in
          none_joined (length_faults e (placed_words e)) (word_faults e.place (placed_words e)) (rw count refl)
          (words_fine e.place (placed_words e) cs (ap commands_of_words is ∙ read))
    ]

-- ---- entries without a fault

words_pass : (place : Place) (ws : List (List ℕ)) (cs : List Command) → commands ws ≡ Ok cs → words_check place ws ≡ Ok tt
unfolding words_check
words_pass place ws cs e = rw e refl

pub words_there : (place : Place) (ws : List (List ℕ)) → words_check place ws ≡ Ok tt → (cs : List Command) × (commands ws ≡ Ok cs)
unfolding words_check
words_there place ws e = by (commands ws) refl where
  by : (r : Result (List Command) Code) → commands ws ≡ r → (cs : List Command) × (commands ws ≡ Ok cs)
  by (Ok cs) h = (cs, h)
  by (Err code) h = let none : Err (record { code = code; place = place }) ≡ Ok tt = rw h at e in absurd (cc)

none_mapped : {X Y : Type 0} (f : X → Y) (xs : List X) → map f xs ≡ [] → xs ≡ []
none_mapped f [] e = refl
none_mapped f (x ∷ xs) e = absurd (cc)

-- where entries have no fault of their own, all bodies compile, and runs met nothing
pub items_sound : (in_glyph : List ℕ → Option RunFault) (in_subr : ℕ → ℕ → List RunFault) (items : List Item) (es : List Entry) → AreOf items es → flat_map (entry_faults in_glyph in_subr) es ≡ []
    → (bodies_check items ≡ Ok tt) × AllByRecursion (λ e. met_in in_glyph in_subr e.place (length (placed_words e)) ≡ []) es
items_sound in_glyph in_subr [] [] are none = (refl, tt)
items_sound in_glyph in_subr [] (e ∷ es) are none = absurd are
items_sound in_glyph in_subr (Plain l ∷ items) es are none = items_sound in_glyph in_subr items es are none
items_sound in_glyph in_subr (Section before n after ∷ items) es are none = items_sound in_glyph in_subr items es are none
items_sound in_glyph in_subr (Subr n words closing ∷ items) [] are none = absurd are
items_sound in_glyph in_subr (Subr n words closing ∷ items) (e ∷ es) are none =
    let parts = both_none (entry_faults in_glyph in_subr e) (flat_map (entry_faults in_glyph in_subr) es) none in
    let own = no_others (body_faults e) (run_faults in_glyph in_subr e) parts.0 in
    let read = body_sound e words are.1 own.0 in
    let s = items_sound in_glyph in_subr items es are.2 parts.1 in
    (rw (words_pass (places.Subr n) words read.0 read.1) s.0, (none_mapped (in_entry e (placed_words e)) (met_in in_glyph in_subr e.place (length (placed_words e))) own.1, s.1))
items_sound in_glyph in_subr (Glyph name words closing ∷ items) [] are none = absurd are
items_sound in_glyph in_subr (Glyph name words closing ∷ items) (e ∷ es) are none =
    let parts = both_none (entry_faults in_glyph in_subr e) (flat_map (entry_faults in_glyph in_subr) es) none in
    let own = no_others (body_faults e) (run_faults in_glyph in_subr e) parts.0 in
    let read = body_sound e words are.1 own.0 in
    let s = items_sound in_glyph in_subr items es are.2 parts.1 in
    (rw (words_pass (places.Glyph name) words read.0 read.1) s.0, (none_mapped (in_entry e (placed_words e)) (met_in in_glyph in_subr e.place (length (placed_words e))) own.1, s.1))

or_second : (a b : Bool) → b ≡ true → (a || b) ≡ true
or_second true b h = refl
or_second false b h = h

or_first : (a b : Bool) → a ≡ true → (a || b) ≡ true
or_first true b h = refl
or_first false b h = absurd (cc)

-- where all bodies compile, none has a fault
pub bodies_fine : (items : List Item) (es : List Entry) → AreOf items es → bodies_check items ≡ Ok tt → AllByRecursion (λ e. body_faults e ≡ []) es
bodies_fine [] [] are checked = tt
bodies_fine [] (e ∷ es) are checked = absurd are
bodies_fine (Plain l ∷ items) es are checked = bodies_fine items es are checked
bodies_fine (Section before n after ∷ items) es are checked = bodies_fine items es are checked
bodies_fine (Subr n words closing ∷ items) [] are checked = absurd are
bodies_fine (Subr n words closing ∷ items) (e ∷ es) are checked =
    let read = words_there (places.Subr n) words (first-ok (words_check (places.Subr n) words) (bodies_check items) tt checked) in
    (body_fine e words read.0 are.1 read.1, bodies_fine items es are.2 (next-ok (words_check (places.Subr n) words) (bodies_check items) tt checked))
bodies_fine (Glyph name words closing ∷ items) [] are checked = absurd are
bodies_fine (Glyph name words closing ∷ items) (e ∷ es) are checked =
    let read = words_there (places.Glyph name) words (first-ok (words_check (places.Glyph name) words) (bodies_check items) tt checked) in
    (body_fine e words read.0 are.1 read.1, bodies_fine items es are.2 (next-ok (words_check (places.Glyph name) words) (bodies_check items) tt checked))

-- entries whose bodies have no fault and in which runs met nothing have no fault of their own
pub entries_fine : (in_glyph : List ℕ → Option RunFault) (in_subr : ℕ → ℕ → List RunFault) (es : List Entry) → AllByRecursion (λ e. body_faults e ≡ []) es → ((place : Place) (count : ℕ) → met_in in_glyph in_subr place count ≡ [])
    → flat_map (entry_faults in_glyph in_subr) es ≡ []
entries_fine in_glyph in_subr [] bodies none = refl
entries_fine in_glyph in_subr (e ∷ es) bodies none =
    none_joined (entry_faults in_glyph in_subr e) (flat_map (entry_faults in_glyph in_subr) es)
    (ap (λ fs. or_else fs (run_faults in_glyph in_subr e)) bodies.0 ∙ ap (met_faults e) (none e.place (length (placed_words e))))
    (entries_fine in_glyph in_subr es bodies.1 none)

-- ---- joins

both_sound : (part : List ℕ → Bool) → ((p : List ℕ) → part p ≡ true) → (c : Option Composite) → sound_parts part c ≡ true
both_sound part all None = refl
both_sound part all (Some c) = rw (all c.base, all c.accent) refl

one_sound : (part : List ℕ → Bool) → ((p : List ℕ) → part p ≡ true) → (r : Option (Result Drawing Code)) → first_fault_of_run r ≡ None → sound_run part r ≡ true
one_sound part all None e = refl
one_sound part all (Some (Err code)) e = absurd (cc)
one_sound part all (Some (Ok d)) e = both_sound part all d.composite

all_sound : (run : OwnRuns) → ((g : List ℕ) → first_fault_of_run (run g) ≡ None) → (depth : ℕ) (g : List ℕ) → sound_within run depth g ≡ true
all_sound run fine zero g = one_sound (λ part. true) (λ p. refl) (run g) (fine g)
all_sound run fine (suc depth) g = one_sound (sound_within run depth) (all_sound run fine depth) (run g) (fine g)

pub joins_sound : (run : OwnRuns) (items : List Item) (es : List Entry) → AreOf items es → ((g : List ℕ) → first_fault_of_run (run g) ≡ None) → flat_map (join_faults run) es ≡ []
    → (g : List ℕ) → list_any (bytes_eq g) (glyph_names items) ≡ true → refused_code (glyph_metrics_at run g) ≡ None
joins_sound run [] es are fine none g h = absurd (cc)
joins_sound run (Plain l ∷ items) es are fine none g h = joins_sound run items es are fine none g h
joins_sound run (Section before n after ∷ items) es are fine none g h = joins_sound run items es are fine none g h
joins_sound run (Subr n words closing ∷ items) [] are fine none g h = absurd are
joins_sound run (Subr n words closing ∷ items) (e ∷ es) are fine none g h =
    joins_sound run items es are.2 fine (both_none (join_faults run e) (flat_map (join_faults run) es) none).1 g h
joins_sound run (Glyph name words closing ∷ items) [] are fine none g h = absurd are
joins_sound run (Glyph name words closing ∷ items) (e ∷ es) are fine none g h =
    let parts = both_none (join_faults run e) (flat_map (join_faults run) es) none in
    let listed : join_fault run e.place ≡ None = none_listed (at_entry e) (join_fault run e.place) parts.0 in
    let judged : cond (sound_within run 4 name) (refused_code (glyph_metrics_at run name)) None ≡ None = ap (join_fault run) (sym are.0) ∙ listed in
    let here : refused_code (glyph_metrics_at run name) ≡ None =
    sym (ap (λ b. cond b (refused_code (glyph_metrics_at run name)) None) (all_sound run fine 4 name)) ∙ judged in
    elim (cases_Bool (bytes_eq g name)) [
      | inl same ↦ subst (λ x. refused_code (glyph_metrics_at run x) ≡ None) (sym (bytes_same g name same)) here
      | inr other ↦ joins_sound run items es are.2 fine parts.1 g (rw other at h)
    ]

pub joins_fine : (run : OwnRuns) (items : List Item) (es : List Entry) → AreOf items es
    → ((g : List ℕ) → list_any (bytes_eq g) (glyph_names items) ≡ true → refused_code (glyph_metrics_at run g) ≡ None) → flat_map (join_faults run) es ≡ []
joins_fine run [] [] are fine = refl
joins_fine run [] (e ∷ es) are fine = absurd are
joins_fine run (Plain l ∷ items) es are fine = joins_fine run items es are fine
joins_fine run (Section before n after ∷ items) es are fine = joins_fine run items es are fine
joins_fine run (Subr n words closing ∷ items) [] are fine = absurd are
joins_fine run (Subr n words closing ∷ items) (e ∷ es) are fine =
    none_joined (join_faults run e) (flat_map (join_faults run) es) (nothing_listed (at_entry e) (join_fault run e.place) (ap (join_fault run) are.0))
    (joins_fine run items es are.2 fine)
joins_fine run (Glyph name words closing ∷ items) [] are fine = absurd are
joins_fine run (Glyph name words closing ∷ items) (e ∷ es) are fine =
    let here = fine name (or_first (bytes_eq name name) (list_any (bytes_eq name) (glyph_names items)) (bytes_self name)) in
    none_joined (join_faults run e) (flat_map (join_faults run) es)
    (nothing_listed (at_entry e) (join_fault run e.place) (ap (join_fault run) are.0 ∙ either (sound_within run 4 name) (refused_code (glyph_metrics_at run name)) here))
    (joins_fine run items es are.2 (λ g h. fine g (or_second (bytes_eq g name) (list_any (bytes_eq g) (glyph_names items)) h)))
  where
    either : (b : Bool) (x : Option Code) → x ≡ None → cond b x None ≡ None
    either true x e = e
    either false x e = refl
