use Rattle.t1_session.proofs.ReadableLaws.{keeps_readable, opens_readable, prints_without_fault, reads_back, shows_without_fault}
use Rattle.t1_session.proofs.laws.a_session_reads_back.Goals as goal

pub returns-clause-opens : goal.returns-clause-opens
returns-clause-opens c = opens_readable

pub returns-clause-keeps : goal.returns-clause-keeps
returns-clause-keeps c = keeps_readable

pub returns-clause-reads : goal.returns-clause-reads
returns-clause-reads c = reads_back

pub returns-clause-prints : goal.returns-clause-prints
returns-clause-prints c = prints_without_fault

pub returns-clause-shows : goal.returns-clause-shows
returns-clause-shows c = shows_without_fault
