-- The fault of reading a source, where it stands.
use Rattle.std.specs.Prelude.{ℕ, ◌+◌, ◌-◌, None, Some, List, []}
use Rattle.std.specs.List.{prefix_len, slice_index_or}
use Rattle.t1_frac.specs.Words.{is_blank}
use Rattle.t1_frac.specs.declared.fault.Code.{Code}
use Rattle.t1_frac.specs.declared.fault.Fault.{Fault}
use Rattle.t1_frac.specs.declared.fault.Place.{Place}
use Rattle.t1_frac.specs.declared.fault.Place.TheVariants as places
use Rattle.t1_text.specs.Lines.{trimmed}
use Rattle.t1_chain.specs.declared.failure.Detail.TheVariants.{Nothing}
use Rattle.t1_faults.specs.Openings.{detail_on}
use Rattle.t1_faults.specs.declared.found.FoundFault.{FoundFault}

-- profile, faults: a fault on a line of this number: all of the line but the blanks at both ends
abbrev pub fault_on_line : List (List ℕ) → Code → ℕ → FoundFault
fault_on_line ls code number =
    let l = slice_index_or ls (number - 1) [] in
    record {
      code = code;
      place = places.Line number;
      line = number;
      column = prefix_len is_blank l + 1;
      word = Some (trimmed l);
      detail = detail_on ls code l;
      chains = [];
      composites = [];
    }

-- profile, faults: a fault of the source as a whole, at its front
abbrev pub at_front : Code → Place → FoundFault
at_front code place = record {
  code = code;
  place = place;
  line = 1;
  column = 1;
  word = None;
  detail = Nothing;
  chains = [];
  composites = [];
}

-- profile, faults: a fault of reading these lines, where it stands
abbrev pub placed_reading : List (List ℕ) → Code → Place → FoundFault
placed_reading ls code (places.Line number) = fault_on_line ls code number
placed_reading ls code place = at_front code place

-- profile, faults: the same of a fault with its place
abbrev pub reading_fault : List (List ℕ) → Fault → FoundFault
reading_fault ls fault = placed_reading ls fault.code fault.place
