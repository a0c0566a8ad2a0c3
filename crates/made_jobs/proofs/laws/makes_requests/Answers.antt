use Rattle.made_jobs.proofs.ReadBack.{made-back, made-long}
use Rattle.made_jobs.proofs.laws.makes_requests.Goals as goal

pub returns-clause-reads : goal.returns-clause-reads
returns-clause-reads c = λ seed requests. made-back c.trace_grammar.ensures seed requests

pub returns-clause-count : goal.returns-clause-count
returns-clause-count c = λ seed requests. made-long seed requests
