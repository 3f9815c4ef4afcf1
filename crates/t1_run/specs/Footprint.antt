-- What a run and an outline depend on: what is asked of the font meanwhile. With the laws of it, and of the count of steps.
use Rattle.std.specs.Prelude.{◌≡◌, ◌⊎◌, ◌↔◌, ◌+◌, ◌≤◌, ℕ, zero, suc, Bool, true, false, ◌||◌, ◌==◌, List, [], ◌∷◌, ◌++◌, Option, Some, None, Result, Ok, Err}
use Rattle.std.specs.List.{list_any}
use Rattle.std.specs.Str.{bytes_eq}
use Rattle.t1_frac.specs.declared.fault.Code.{Code}
use Rattle.t1_frac.specs.declared.fault.Code.TheVariants.{F47}
use Rattle.t1_code.specs.declared.command.Command.{Command}
use Rattle.t1_run.specs.declared.outline.Composite.{Composite}
use Rattle.t1_run.specs.State.{State, initial}
use Rattle.t1_run.specs.Step.{Step, Next, Call, Back, End, Compose, Fault}
use Rattle.t1_run.specs.Words.{step}
use Rattle.t1_run.specs.Run.{FontBodies, Key, Subr, Glyph, RunEnd, OutOfWords, Returned, Drawing, standard_glyph, entering, call_within, own}
use Rattle.t1_run.specs.Composite.{outline}

-- ---- what a run asks of the maps

-- profile: the keys that commands ask for from a state on, in their order
abbrev pub KeysFrom : Type 0
KeysFrom = State → List Key

-- profile: the keys after a call that stopped so: those of the words after it, from the state that it left
abbrev pub keys_after : KeysFrom → RunEnd → List Key
keys_after next (OutOfWords s) = next s
keys_after next (Returned s) = next s
keys_after next _ = []

-- profile: the base, and then the accent where the font has the base
abbrev pub keys_of_names : List ℕ → List ℕ → Option (List Command) → List Key
keys_of_names base accent None = Glyph base ∷ []
keys_of_names base accent (Some _) = Glyph base ∷ Glyph accent ∷ []

-- profile: parts are asked for where both codes have names
abbrev pub keys_of_parts : FontBodies → Option (List ℕ) → Option (List ℕ) → List Key
keys_of_parts m (Some base) (Some accent) = keys_of_names base accent (m.glyphs base)
keys_of_parts m _ _ = []

-- profile: the keys of a word's step and of what comes after it, where so many Subrs more may be active, by the keys of calls; a
-- call asks for its Subr, whether it is there or not
abbrev pub keys_of_step : FontBodies → ℕ → (ℕ → KeysFrom) → KeysFrom → Step → List Key
keys_of_step m levels called next (Next s) = next s
keys_of_step m levels called next (Call n s) = Subr n ∷ (called n s ++ keys_after next (call_within m levels n s))
keys_of_step m levels called next (Compose a s) = keys_of_parts m (standard_glyph a.base) (standard_glyph a.accent)
keys_of_step m levels called next _ = []

-- profile: the keys of words one after another
abbrev pub keys_of_words : FontBodies → ℕ → (ℕ → KeysFrom) → List Command → KeysFrom
keys_of_words m levels called [] s = []
keys_of_words m levels called (c ∷ cs) s = keys_of_step m levels called (keys_of_words m levels called cs) (step c s)

-- profile: the keys of a Subr's body, where there is one
abbrev pub keys_of_body : (List Command → KeysFrom) → Option (List Command) → ℕ → KeysFrom
keys_of_body keys None n s = []
keys_of_body keys (Some body) n s = keys body (entering n s)

-- profile, limits: the keys that a called Subr's body asks for, where so many Subrs more may be active
abbrev pub keys_of_call : FontBodies → ℕ → ℕ → KeysFrom
keys_of_call m zero n s = []
keys_of_call m (suc levels) n s = keys_of_body (keys_of_words m levels (keys_of_call m levels)) (m.subrs n) n s

-- profile: what the run of a body asks of the maps, where there is a body
abbrev pub asked_of : FontBodies → Option (List Command) → List Key
asked_of m None = []
asked_of m (Some body) = keys_of_words m 10 (keys_of_call m 10) body initial

-- profile: the glyph, and what the run of its own body asks of the maps, whether it is there or not
unfoldable pub foot : FontBodies → List ℕ → List Key
foot m glyph = Glyph glyph ∷ asked_of m (m.glyphs glyph)

-- ---- what an outline asks of them

-- profile: what the outlines of both parts depend on
abbrev pub asked_by_parts : (List ℕ → List Key) → Option Composite → List Key
asked_by_parts part None = []
asked_by_parts part (Some c) = part c.base ++ part c.accent

-- profile: the same, where the glyph's own run has no fault
abbrev pub asked_after : (List ℕ → List Key) → Option (Result Drawing Code) → List Key
asked_after part None = []
asked_after part (Some (Err fault)) = []
asked_after part (Some (Ok d)) = asked_by_parts part d.composite

-- profile: a glyph's own footprint and those of its parts, so deep
abbrev pub foot_within : FontBodies → ℕ → List ℕ → List Key
foot_within m zero glyph = foot m glyph
foot_within m (suc depth) glyph = foot m glyph ++ asked_after (foot_within m depth) (own m glyph)

-- profile: the footprint of a glyph's outline
unfoldable pub outline_foot : FontBodies → List ℕ → List Key
outline_foot m glyph = foot_within m 4 glyph

-- ---- laws

-- profile: the key is among these
abbrev pub Includes : List Key → Key → Type 0
Includes [] k = ⊥
Includes (first ∷ ks) k = (first ≡ k) ⊎ Includes ks k

-- profile: both pairs of maps give the same for this key
abbrev pub SameAt : FontBodies → FontBodies → Key → Type 0
SameAt m n (Subr k) = m.subrs k ≡ n.subrs k
SameAt m n (Glyph g) = m.glyphs g ≡ n.glyphs g

-- profile: both pairs of maps give the same body, or both none, for each of these keys
pub record AgreeOn (m n : FontBodies) (ks : List Key) : Type 0 where
  pub same : (k : Key) → Includes ks k → SameAt m n k

-- profile: what a glyph's own body draws, or its fault, and its footprint are the same in all fonts that agree on the
-- footprint
abbrev pub FootprintLaw : Type 0
FootprintLaw = (m n : FontBodies) (g : List ℕ) → AgreeOn m n (foot m g) → (own n g ≡ own m g) × (foot n g ≡ foot m g)

-- profile: so are a glyph's outline, or its fault, and the footprint of the outline
abbrev pub OutlineFootprintLaw : Type 0
OutlineFootprintLaw =
    (m n : FontBodies) (g : List ℕ) → AgreeOn m n (outline_foot m g)
    → (outline n g ≡ outline m g) × (outline_foot n g ≡ outline_foot m g)

-- profile: the glyph is a part of the composite
abbrev pub is_part : List ℕ → Option Composite → Bool
is_part g None = false
is_part g (Some c) = bytes_eq c.base g || bytes_eq c.accent g

-- profile: the key is a Subr that was entered, or a part
abbrev pub asks : Option Composite → List ℕ → Key → Bool
asks composite entered (Subr n) = list_any (λ m. m == n) entered
asks composite entered (Glyph g) = is_part g composite

-- profile: the key is the glyph, a Subr that its run entered, or one of its parts
abbrev pub uses : List ℕ → Drawing → Key → Bool
uses g d (Subr n) = asks d.composite d.entered (Subr n)
uses g d (Glyph h) = bytes_eq g h || asks d.composite d.entered (Glyph h)

-- profile: the footprint of a run without a fault is the glyph, the Subrs entered and the parts, and nothing else
abbrev pub ExactLaw : Type 0
ExactLaw = (m : FontBodies) (g : List ℕ) (d : Drawing) → own m g ≡ Some (Ok d) → (k : Key) → Includes (foot m g) k ↔ (uses g d k ≡ true)

-- profile: the maps have the composite's parts
abbrev pub HasParts : FontBodies → Option Composite → Type 0
HasParts m None = Unit {0}
HasParts m (Some c) = ((base : List Command) × (m.glyphs c.base ≡ Some base)) × ((accent : List Command) × (m.glyphs c.accent ≡ Some accent))

-- profile: a composite without a fault has its parts
abbrev pub PartsLaw : Type 0
PartsLaw = (m : FontBodies) (g : List ℕ) (d : Drawing) → own m g ≡ Some (Ok d) → HasParts m d.composite

-- ---- steps

-- profile: each state that the step leaves is one with this
abbrev pub Leaves : (State → Type 0) → Step → Type 0
Leaves P (Next s) = P s
Leaves P (Call n s) = P s
Leaves P (Back s) = P s
Leaves P (End s) = P s
Leaves P (Compose a s) = P s
Leaves P (Fault fault) = Unit {0}

-- profile, limits: what a run of so many steps at most promises
pub record StepsLaw : Type 0 where
  -- a run without a fault made at most 100,000
  pub bounded : (m : FontBodies) (g : List ℕ) (d : Drawing) → own m g ≡ Some (Ok d) → d.steps ≤ 100000
  -- each word is one step more
  pub counted : (c : Command) (s : State) → Leaves (λ t. t.steps ≡ s.steps + 1) (step c s)
  -- a word is refused by F47 exactly where so many steps were made before it
  pub last : (c : Command) (s : State) → (step c s ≡ Fault F47) ↔ (100000 ≤ s.steps)
