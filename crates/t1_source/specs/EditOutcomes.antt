-- What a call that edits answers.
use Rattle.std.specs.Prelude.{◌≡◌, Result, Ok, Err}
use Rattle.t1_source.specs.declared.edit.Cause.{Cause}
use Rattle.t1_source.specs.declared.edit.Rule.{Rule}
use Rattle.t1_source.specs.declared.edit.Cause.TheVariants as causes

-- word, edits: a cause is the rule that the definition gives, or out of memory
abbrev pub ReportsRule : {Y : Type 0} → Cause → Result Y Rule → Type 0
ReportsRule causes.Memory given = Unit {0}
ReportsRule (causes.Rule rule) given = given ≡ Err rule
ReportsRule (causes.Fault fault) given = ⊥

-- word, edits: an edit answers what a definition gives: its value, as the view sees it, or its rule, unless memory
-- ran out
abbrev pub Edits : {X Y : Type 0} → (X → Y) → Result X Cause → Result Y Rule → Type 0
Edits view (Ok x) given = given ≡ Ok (view x)
Edits view (Err cause) given = ReportsRule cause given
