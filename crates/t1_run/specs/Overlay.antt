-- Bodies with some of them changed.
use Rattle.std.specs.Prelude.{Option, Some, None}

-- word: what a change sets, or takes out; what was there where nothing is changed
abbrev pub after_change : {X : Type 0} → Option (Option X) → Option X → Option X
after_change None was = was
after_change (Some now) was = now
