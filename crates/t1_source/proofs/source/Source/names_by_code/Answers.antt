use Rattle.std.proofs.Common.{rules, ◌≡◌, sym, ◌∙◌, ap}
use Rattle.t1_source.specs.Codes.{slot_name}
use Rattle.t1_parts.specs.Encoding.{slots}
use Rattle.t1_source.proofs.CodeLaws.{standard_named, array_named}
use Rattle.t1_source.proofs.source.Source.names_by_code.Goals as goal

pub returns-then-standard : goal.returns-then-standard
returns-then-standard c = λ code small. c.standard_names.ensures code small ∙ standard_named c.args.self.now code (sym c.standard.ensures ∙ c.if-standard.true)

pub returns : goal.returns
returns c = λ code small.
    let clear : c.as_slice.result.now ≡ c.args.self.now.clear = search rules in
    c.array_names.ensures code small ∙ ap (λ l. slot_name (slots l) code) clear ∙ array_named c.args.self.now code (sym c.standard.ensures ∙ c.if-standard.false)
