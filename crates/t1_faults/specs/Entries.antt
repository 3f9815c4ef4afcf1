-- The entries of a source where they stand.
use Rattle.std.specs.Prelude.{ℕ, ◌+◌, Option, None, Some, List, [], ◌∷◌, ◌++◌, drop}
use Rattle.t1_frac.specs.declared.fault.Place.{Place}
use Rattle.t1_frac.specs.declared.fault.Place.TheVariants as places
use Rattle.t1_parts.specs.declared.body.EntryBody.{EntryBody}
use Rattle.t1_parts.specs.declared.item.Item.{Item}
use Rattle.t1_parts.specs.declared.item.Item.TheVariants.{Subr, Glyph}
use Rattle.t1_parts.specs.Entries.{opened_body}
use Rattle.t1_faults.specs.Placed.{opened_words}
use Rattle.t1_faults.specs.declared.placed.PlacedWord.{PlacedWord}

-- profile, places: an entry where it stands: whose it is, the number of its first line, that line, and the lines after it
pub record Entry : Type 0 where
  pub place : Place
  pub number : ℕ
  pub line : List ℕ
  pub later : List (List ℕ)

-- profile, places: the words of an entry's body where they stand
abbrev pub placed_words : Entry → List PlacedWord
placed_words e = opened_words e.number e.line e.later

-- profile, places: whose an item is, where it is an entry
abbrev pub place_in : Item → Option Place
place_in (Subr n words closing) = Some (places.Subr n)
place_in (Glyph g words closing) = Some (places.Glyph g)
place_in _ = None

-- profile, entries: how many lines a body takes after its first; none where it isn't ended
abbrev pub more_lines : Option EntryBody → ℕ
more_lines None = 0
more_lines (Some body) = body.more

-- profile, places: how many lines an item takes after its first
abbrev pub span : Option Place → List ℕ → List (List ℕ) → ℕ
span None l ls = 0
span (Some place) l ls = more_lines (opened_body l ls)

-- profile, places: the entry on these lines, where the item on them is one
abbrev pub entry_at : Option Place → ℕ → List ℕ → List (List ℕ) → List Entry
entry_at None number l ls = []
entry_at (Some place) number l ls = record { place = place; number = number; line = l; later = ls } ∷ []

-- profile, places: the entries among these items, which begin on these lines one after another, the first on this number
abbrev pub entries_from : ℕ → List (List ℕ) → List Item → List Entry
entries_from number ls [] = []
entries_from number [] (item ∷ items) = []
entries_from number (l ∷ ls) (item ∷ items) =
    entry_at (place_in item) number l ls
    ++ entries_from (number + 1 + span (place_in item) l ls) (drop (span (place_in item) l ls) ls) items
