use Rattle.std.proofs.Common.{option_map, sym, ◌∙◌, ap}
use Rattle.t1_parts.proofs.KeyLaws.{more_names}
use Rattle.t1_parts.proofs.gathered.keep_name.Goals as goal

pub returns-in_ok-insert : goal.returns-in_ok-insert
returns-in_ok-insert c =
    λ items n item named. more_names c.args.glyphs.now.keys _ items n _ item (sym named ∙ ap (option_map (λ name. name.now)) c.in-Some.is) c.in_ok-insert.ensures.keys
