use Rattle.std.proofs.Common.{rules, ◌≡◌, ◌<◌, false, None, Some, length, get_or, set, refl, sym, ◌∙◌, ap, arith}
use Rattle.std.specs.Str.{bytes_eq}
use Rattle.std.proofs.lemmas.List.{get_or-replicate, length-set}
use Rattle.t1_text.specs.Tokens.{tokens}
use Rattle.t1_parts.specs.Encoding.{slot_of_tokens}
use Rattle.t1_source.proofs.CodeLaws.{no_slot_more, slot_more}
use Rattle.t1_source.proofs.codes.codes_named.Goals.{in-Some, in_default}
use Rattle.t1_source.proofs.codes.codes_named.Goals as goal

pub loop-line-init : goal.loop-line-init
loop-line-init c = (refl, λ code small. get_or-replicate 256 code false false small)

pub loop-line-preserved : goal.loop-line-preserved
loop-line-preserved c =
    let line = c.line-item.result in
    let lines = c.args.lines.now in
    let at = c.loop-line.line-index in
    let old = c.loop-line.named in
    elim c.match-slot_of.branch [
      | in-Some w ↦
          let code = w.in-Some.code in
          let found = w.in-Some.found.now in
          let slot : slot_of_tokens (tokens line) ≡ Some (code, found) = search rules in
          let small : code < 256 = search rules in
          let within : code < length old = omega (arith, small, c.loop-line.invariant.0) in
          let named : c.match-slot_of.named ≡ set old code (bytes_eq c.args.name.now found) = w.named-is ∙ ap (set old code) w.same.ensures in (
            ap length named ∙ length-set old code (bytes_eq c.args.name.now found) ∙ c.loop-line.invariant.0,
            λ k low. ap (λ bs. get_or bs k false) named ∙ slot_more c.args.name.now lines at line code found old (search rules) c.line-item.is slot within c.loop-line.invariant.1 k low,
          )
      | in_default w ↦
          let slot : slot_of_tokens (tokens line) ≡ None = search rules in (
            ap length w.named-is ∙ c.loop-line.invariant.0,
            λ k low. ap (λ bs. get_or bs k false) w.named-is ∙ c.loop-line.invariant.1 k low ∙ sym (no_slot_more c.args.name.now lines at line k (search rules) c.line-item.is slot),
          )
    ]
