use Rattle.std.proofs.Common.{◌≡◌, ◌-◌, ◌∙◌, ap, drop, length, sym, take}
use Rattle.std.specs.Str.{bytes_eq}
use Rattle.std.proofs.lemmas.Bool.Decides.{same_from_decides}
use Rattle.std.proofs.lemmas.Slice.Eq.{bytes_eq-Decides}
use Rattle.t1_code.proofs.Scanning.{ends_join}
use Rattle.t1_code.proofs.command.is_same_by_ends.Goals as goal

-- the first four bytes and the fifth are the same, so that the last four decide
pub returns : goal.returns
returns c =
    let one = c.args.one.now in
    let other = c.args.other.now in
    let need = c.requires in
    let firsts = c.in-Some-Some in
    let lasts = c.in-Some-Some-2 in
    let front : take 4 one ≡ take 4 other =
    sym firsts.ensures.cases.0 ∙ (bytes_eq-Decides firsts.front.now firsts.others.now).0 (sym c.same_four.ensures ∙ c.if-not-same_four.false) ∙ firsts.ensures'.cases.0 in
    c.same_four-2.ensures
    ∙ same_from_decides (bytes_eq lasts.back.now lasts.last.now) (bytes_eq one other) (
      λ e. ends_join one other need.same need.long need.short front c.if-one-other.false
          (sym lasts.ensures.cases.1 ∙ (bytes_eq-Decides lasts.back.now lasts.last.now).0 e ∙ lasts.ensures'.cases.1),
      λ e. (bytes_eq-Decides lasts.back.now lasts.last.now).1 (lasts.ensures.cases.1 ∙ ap (λ l. drop (length l - 4) l) e ∙ sym lasts.ensures'.cases.1),
    )
    (bytes_eq-Decides one other)
