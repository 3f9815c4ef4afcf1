use Rattle.std.proofs.Common.{◌≡◌, ◌||◌, ℕ, List, drop}
use Rattle.t1_font.specs.Names.{is_name_kept}
use Rattle.t1_font.proofs.StandardTable.{in_table}
use Rattle.t1_font.proofs.standard_names.StandardNames.new.Given as goal

-- the names so far, or those of the rows that are left
abbrev pub invariant-loop-name : goal.invariant-loop-name
invariant-loop-name l = (g : List ℕ) → (is_name_kept l.names.keys g || in_table (drop l.name-index l.table) g) ≡ in_table l.table g
