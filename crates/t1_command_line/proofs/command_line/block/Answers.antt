use Rattle.std.proofs.Common.{ap, refl, rules, map, Bool, true, false, not, ◌&&◌, List, [], ◌∷◌, ◌++◌, ℕ, ◌≡◌, ◌∙◌}
use Rattle.std.specs.Borrow.{Bor}
use Rattle.std.proofs.lemmas.Result.{IfOk-weaker}
use Rattle.std.proofs.lemmas.List.{nil_from_length}
use Rattle.clap.specs.Words.{AddsConflicts, Rule, rule_of}
use Rattle.clap.specs.Walk.{is_empty, is_free_arg}
use Rattle.clap.specs.declared.builder.arg.Arg.{Arg}
use Rattle.t1_command_line.specs.CommandLine.{block_rule}
use Rattle.t1_command_line.proofs.Rules.{is_global}
use Rattle.t1_command_line.proofs.command_line.block.Goals as goal

abbrev Texts : Type 0
Texts = List (Bor (List ℕ))

-- whether an argument has no rule on another, of what it excludes
abbrev free_by : Arg → Bool → Texts → Bool
free_by a exclusive conflicts =
    not exclusive
    && (is_empty conflicts
    && (is_empty a.needs.items
    && (is_empty a.r_ifs.items && (is_empty a.r_ifs_all.items && (is_empty a.r_unless.items && is_empty a.r_unless_all.items)))))

-- the rule of the option once it conflicts with another argument
conflicting : (old new : Arg) (x : Bor (List ℕ)) → rule_of old ≡ record block_rule { is_free = true } → old.exclusive ≡ false
    → new.conflicts.items ≡ x ∷ [] → rule_of (record old { conflicts = new.conflicts }) ≡ block_rule
conflicting old new x rule exclusive conflicts =
    ap (λ e. record (rule_of old) { is_free = free_by old e new.conflicts.items }) exclusive ∙ ap (λ items. record (rule_of old) { is_free = free_by old false items }) conflicts
    ∙ ap (λ (r : Rule). record r { is_free = false }) rule

-- an argument that has no rule on another needs none
third : (a b n rest : Bool) → (a && (b && (n && rest))) ≡ true → n ≡ true
third true true true rest h = refl
third true true false rest h = let never : false ≡ true = h in absurd (cc)
third true false n rest h = let never : false ≡ true = h in absurd (cc)
third false b n rest h = let never : false ≡ true = h in absurd (cc)

emptied : {A : Type 0} (xs : List A) → is_empty xs ≡ true → xs ≡ []
emptied [] h = refl
emptied (x ∷ xs) h = nil_from_length _ (search (rules, h))

needs_none : (a : Arg) → is_free_arg a ≡ true → a.needs.items ≡ []
needs_none a free = emptied a.needs.items (third _ _ _ _ free)

-- what the option conflicts with is all that it excludes
abbrev excluded : (old new : Arg) (xs : Texts) → AddsConflicts old new xs → old.conflicts.items ≡ [] → new.conflicts.items ≡ xs
excluded old new xs h none = h.1 ∙ ap (λ items. items ++ xs) none

pub returns-clause-rule : goal.returns-clause-rule
returns-clause-rule c =
    IfOk-weaker c.conflicts_with.result _ _
    (λ r h. ap rule_of h.0
    ∙ conflicting c.block_alone.result r _ c.block_alone.ensures.rule c.block_alone.ensures.free.0 (excluded c.block_alone.result r _ h c.block_alone.ensures.free.1))
    c.conflicts_with.ensures

pub returns-clause-conflicts : goal.returns-clause-conflicts
returns-clause-conflicts c =
    IfOk-weaker c.conflicts_with.result _ _
    (λ r h. ap (map (λ (id : Bor (List ℕ)). id.now)) (excluded c.block_alone.result r _ h c.block_alone.ensures.free.1))
    c.conflicts_with.ensures

pub returns-clause-alone : goal.returns-clause-alone
returns-clause-alone c =
    IfOk-weaker c.conflicts_with.result _ _
    (λ r h. (
      ap (λ (a : Arg). a.exclusive) h.0 ∙ c.block_alone.ensures.free.0,
      ap (λ (a : Arg). a.needs.items) h.0 ∙ needs_none c.block_alone.result (ap (λ (r : Rule). r.is_free) c.block_alone.ensures.rule),
    ))
    c.conflicts_with.ensures

pub returns-clause-local : goal.returns-clause-local
returns-clause-local c =
    IfOk-weaker c.conflicts_with.result _ _ (λ r h. ap is_global h.0 ∙ c.block_alone.ensures.local) c.conflicts_with.ensures
