use Rattle.std.proofs.Common.{◌∙◌, ◌++◌, ap, sym, take}
use Rattle.std.specs.Prelude.{codes}
use Rattle.std.specs.Fmt.{signed_decimal}
use Rattle.t1_afm.specs.Afm.{code_number}
use Rattle.t1_afm.proofs.Digits.{no_code}
use Rattle.t1_afm.proofs.chars.put_code.Goals as goal

pub returns-in-None-clause-front : goal.returns-in-None-clause-front
returns-in-None-clause-front c =
    let none = no_code ∙ sym (ap (λ code. codes "C " ++ (signed_decimal (code_number code) ++ codes " ; WX ")) c.in-None.is) in
    c.put_text.ensures.front ∙ ap (λ l. take c.args.place c.args.bytes.now ++ l) none
