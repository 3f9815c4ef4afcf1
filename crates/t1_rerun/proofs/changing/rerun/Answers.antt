use Rattle.t1_rerun.proofs.changing.rerun.Goals as goal

pub rerun_found-requires-clause-traced : goal.rerun_found-requires-clause-traced
rerun_found-requires-clause-traced g c = c.requires

pub rerun_found-requires-clause-once : goal.rerun_found-requires-clause-once
rerun_found-requires-clause-once g c = c.in_ok-found.ensures.once

pub rerun_found-requires-clause-stale : goal.rerun_found-requires-clause-stale
rerun_found-requires-clause-stale g c = c.in_ok-found.ensures.stale

pub returns-clause-checked : goal.returns-clause-checked
returns-clause-checked g c = c.rerun_found.ensures.checked

pub returns-clause-renewal : goal.returns-clause-renewal
returns-clause-renewal g c = c.rerun_found.ensures.renewal

pub returns-clause-later : goal.returns-clause-later
returns-clause-later g c = c.rerun_found.ensures.later

pub returns-clause-counted : goal.returns-clause-counted
returns-clause-counted g c = c.rerun_found.ensures.counted
