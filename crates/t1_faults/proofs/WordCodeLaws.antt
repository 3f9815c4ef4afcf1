-- What compiling one word answers.
use Rattle.std.proofs.Common.{◌≡◌, ◌∙◌, ℕ, List, [], ◌∷◌, Option, None, Some, Result, Ok, Err, refl, sym, ap, subst}
use Rattle.t1_frac.specs.Outcome.{fault_at, reported_at, Refuses}
use Rattle.t1_frac.specs.Words.{words}
use Rattle.t1_frac.specs.declared.fault.Code.{Code}
use Rattle.t1_frac.specs.declared.fault.Fault.{Fault}
use Rattle.t1_frac.specs.declared.fault.Place.TheVariants.{Nowhere}
use Rattle.t1_frac.specs.declared.fault.Refusal.{Refusal}
use Rattle.t1_frac.specs.declared.fault.Refusal.TheVariants as refusals
use Rattle.t1_code.specs.declared.command.Command.{Command}
use Rattle.t1_code.specs.Words.{command_of_word, command_then, commands}
use Rattle.t1_code.specs.FoundCommands.{after_others}
use Rattle.t1_faults.specs.Found.{refused_code}

-- the commands of one word
one_command : (word : List ℕ) (ws : List (List ℕ)) → words word ≡ word ∷ [] → ws ≡ words word → commands ws ≡ command_then (command_of_word word) (Ok [])
unfolding commands
one_command word ws one is = rw (is, one) refl

pub word_ok : (word : List ℕ) (others made : List Command) (ws : List (List ℕ)) → words word ≡ word ∷ [] → ws ≡ words word
    → reported_at Nowhere (after_others others (commands ws)) ≡ Ok made → ◌≡◌ {A = Option Code} None (refused_code (command_of_word word))
word_ok word others made ws one is h = by (command_of_word word) refl where
  by : (r : Result Command Code) → command_of_word word ≡ r → ◌≡◌ {A = Option Code} None (refused_code (command_of_word word))
  by (Ok c) e = sym (ap refused_code e)
  by (Err code) e =
      let all : commands ws ≡ Err code = one_command word ws one is ∙ ap (λ r. command_then r (Ok [])) e in
      let none : ◌≡◌ {A = Result (List Command) Fault} (Err (fault_at Nowhere code)) (Ok made) = sym (ap (λ r. reported_at Nowhere (after_others others r)) all) ∙ h in
      absurd (cc)

pub word_err : (word : List ℕ) (others : List Command) (ws : List (List ℕ)) (r : Refusal) (fault : Fault) → words word ≡ word ∷ [] → ws ≡ words word → r ≡ refusals.Fault fault
    → Refuses r (reported_at Nowhere (after_others others (commands ws))) → ◌≡◌ {A = Option Code} (Some fault.code) (refused_code (command_of_word word))
word_err word others ws r fault one is same h = by (command_of_word word) refl where
  by : (x : Result Command Code) → command_of_word word ≡ x → ◌≡◌ {A = Option Code} (Some fault.code) (refused_code (command_of_word word))
  by (Ok c) e =
      let all : commands ws ≡ Ok (c ∷ []) = one_command word ws one is ∙ ap (λ x. command_then x (Ok [])) e in
      let refused = subst (λ x. Refuses x (reported_at Nowhere (after_others others (commands ws)))) same h in
      let none = sym (ap (λ x. reported_at Nowhere (after_others others x)) all) ∙ refused in
      absurd (cc)
  by (Err code) e =
      let all : commands ws ≡ Err code = one_command word ws one is ∙ ap (λ x. command_then x (Ok [])) e in
      let refused = subst (λ x. Refuses x (reported_at Nowhere (after_others others (commands ws)))) same h in
      let both : ◌≡◌ {A = Result (List Command) Fault} (Err (fault_at Nowhere code)) (Err fault) = sym (ap (λ x. reported_at Nowhere (after_others others x)) all) ∙ refused in
      let equal : fault_at Nowhere code ≡ fault = cc in
      ap (λ (f : Fault). Some f.code) (sym equal) ∙ sym (ap refused_code e)
