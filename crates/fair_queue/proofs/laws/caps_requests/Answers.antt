use Rattle.fair_queue.specs.Arrivals.{input_of}
use Rattle.fair_queue.specs.Machine.{all_rounds, empty}
use Rattle.fair_queue.specs.Merged.{rests_of}
use Rattle.fair_queue.proofs.Clean.{clean-rests}
use Rattle.fair_queue.proofs.Traced.{job-capped}
use Rattle.fair_queue.proofs.laws.caps_requests.Goals as goal

pub returns : goal.returns
returns c = λ g cap bytes one. job-capped c.trace_grammar.ensures g cap (rests_of (all_rounds empty (input_of bytes).lines)) (input_of bytes).is_bad one (clean-rests bytes)
