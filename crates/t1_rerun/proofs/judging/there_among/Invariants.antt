use Rattle.std.proofs.Common.{◌≡◌, ◌++◌, filter, is_some, map, drop}
use Rattle.t1_rerun.proofs.judging.there_among.Given as goal

-- those so far that have a body, in front of those among the names that are left
abbrev pub invariant-loop-name : goal.invariant-loop-name
invariant-loop-name g l =
    map (λ name. name.now) l.there.items ++ filter (λ x. is_some (g.B.Bodies.glyphs l.bodies x)) (map (λ name. name.now) (drop l.name-index l.found))
    ≡ filter (λ x. is_some (g.B.Bodies.glyphs l.bodies x)) (map (λ name. name.now) l.found)
