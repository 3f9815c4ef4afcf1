-- Words that are read one after another.
use Rattle.std.proofs.Common.{◌≡◌, ◌∙◌, ◌++◌, ◌∷◌, List, length, take, min, refl, sym, ap, arith, append_assoc}
use Rattle.std.proofs.lemmas.List.{length-take, take-append-le}
use Rattle.std.specs.Prelude.{[], Result, Ok, Err}
use Rattle.t1_frac.specs.declared.fault.Code.{Code}
use Rattle.t1_code.specs.declared.command.Command.{Command}
use Rattle.t1_code.specs.Words.{command_then}
use Rattle.t1_code.specs.FoundCommands.{after_others}

-- after nothing they are the commands alone
pub after_nothing : (read : Result (List Command) Code) → after_others [] read ≡ read
after_nothing (Ok commands) = refl
after_nothing (Err code) = refl

-- a further command, in front of those that are left
pub read_more : (read now : List Command) (command : Command) (rest after whole : Result (List Command) Code) → now ≡ read ++ command ∷ [] → rest ≡ command_then (Ok command) after
    → after_others read rest ≡ whole → after_others now after ≡ whole
read_more read now command rest after whole e is all = ap (λ t. after_others t after) e ∙ one_more after ∙ ap (after_others read) (sym is) ∙ all where
  one_more : (after : Result (List Command) Code) → after_others (read ++ command ∷ []) after ≡ after_others read (command_then (Ok command) after)
  one_more (Ok commands) = ap Ok (append_assoc read (command ∷ []) commands)
  one_more (Err code) = refl

-- it comes after the first ones
pub front_stays : (first read now : List Command) (command : Command) → now ≡ read ++ command ∷ [] → take (length first) read ≡ first → take (length first) now ≡ first
front_stays first read now command e front =
    let size : min (length first) (length read) ≡ length first = sym (length-take (length first) read) ∙ ap length front in
    ap (take (length first)) e ∙ take-append-le (length first) read (command ∷ []) (omega (arith, size)) ∙ front
