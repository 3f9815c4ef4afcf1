use Rattle.std.proofs.Common.{◌≡◌, ℕ, List}
use Rattle.std.specs.List.{find}
use Rattle.std.specs.Option.{option_or}
use Rattle.t1_source.specs.Codes.{lowest_code, name_of_code}
use Rattle.t1_text.specs.Tokens.{is_token}
use Rattle.t1_font.specs.Names.{code_kept}
use Rattle.t1_font.proofs.Ordering.{codes_from}
use Rattle.t1_font.proofs.codes.codes_of.Given as goal

-- the code of each name, by the codes so far, else by those that are left
abbrev pub invariant-loop-code : goal.invariant-loop-code
invariant-loop-code l =
    (g : List ℕ) → option_or (code_kept l.codes.entries g) (find (λ k. is_token g (name_of_code l.source k)) (codes_from l.code)) ≡ lowest_code (name_of_code l.source) g
