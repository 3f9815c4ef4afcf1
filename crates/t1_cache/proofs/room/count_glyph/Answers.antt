use Rattle.std.proofs.Common.{◌∙◌, ◌+◌, ap}
use Rattle.std.specs.Option.{unwrap_or}
use Rattle.std.specs.Str.{bytes_eq}
use Rattle.t1_cache.specs.Room.{glyph_count}
use Rattle.t1_font.proofs.Lookups.{bytes_tell}
use Rattle.t1_cache.proofs.Rooming.{count-inserted}
use Rattle.t1_cache.proofs.room.count_glyph.Goals as goal

pub returns-clause-counts : goal.returns-clause-counts
returns-clause-counts c = λ g.
    ap (λ es. glyph_count es g) c.in_ok-insert.ensures.entries
    ∙ count-inserted bytes_eq bytes_tell (λ k. k.now) c.args.counts.now.entries c.args.name (c.unwrap_or-count.result + 1)
    (ap (λ n. n + 1) (c.unwrap_or-count.ensures ∙ ap (λ r. unwrap_or r 0) (c.copied.ensures ∙ c.get.ensures.value))) g
