use Rattle.std.proofs.Common.{rules, ◌≡◌, ◌<◌, None, Some, length, option_map, set, refl, sym, ◌∙◌, ap, arith}
use Rattle.std.proofs.lemmas.List.{get_or-replicate, length-set}
use Rattle.t1_text.specs.Tokens.{tokens}
use Rattle.t1_parts.specs.Encoding.{slot_of_tokens}
use Rattle.t1_source.specs.Codes.{name_at}
use Rattle.t1_source.proofs.CodeLaws.{no_name_more, name_more}
use Rattle.t1_source.proofs.codes.slot_names.Goals.{in-Some, in_default}
use Rattle.t1_source.proofs.codes.slot_names.Goals as goal

pub loop-line-init : goal.loop-line-init
loop-line-init c = (refl, λ code small. ap (option_map (λ n. n.now)) (get_or-replicate 256 code None None small))

pub loop-line-preserved : goal.loop-line-preserved
loop-line-preserved c =
    let line = c.line-item.result in
    let lines = c.args.lines.now in
    let at = c.loop-line.line-index in
    let old = c.loop-line.names in
    elim c.match-slot_of.branch [
      | in-Some w ↦
          let code = w.in-Some.code in
          let name = w.in-Some.name in
          let slot : slot_of_tokens (tokens line) ≡ Some (code, name.now) = search rules in
          let small : code < 256 = search rules in
          let within : code < length old = omega (arith, small, c.loop-line.invariant.0) in
          let named : c.match-slot_of.names ≡ set old code (Some name) = w.names-is in (
            ap length named ∙ length-set old code (Some name) ∙ c.loop-line.invariant.0,
            λ k low. ap (λ ns. name_at ns k) named ∙ name_more lines at line code name old (search rules) c.line-item.is slot within c.loop-line.invariant.1 k low,
          )
      | in_default w ↦
          let slot : slot_of_tokens (tokens line) ≡ None = search rules in (
            ap length w.names-is ∙ c.loop-line.invariant.0,
            λ k low. ap (λ ns. name_at ns k) w.names-is ∙ c.loop-line.invariant.1 k low ∙ sym (no_name_more lines at line k (search rules) c.line-item.is slot),
          )
    ]
