use Rattle.rank_pair.proofs.deadline_laws.deadline_laws.Goals as goal

pub returns : goal.returns
returns c = record {
  start = c.start.ensures.keeps;
  writes = c.writes.ensures.keeps;
  written = c.written.ensures.keeps;
  activates = c.activates.ensures.keeps;
  accesses = c.accesses.ensures.keeps;
  closes = c.closes.ensures.keeps;
  answers = c.answers.ensures.keeps;
  unanswered = c.unanswered.ensures.keeps;
  begins = c.begins.ensures.keeps;
  serves = c.serves.ensures.keeps;
  turns = c.turns.ensures.turns;
  rests = c.turns.ensures.rests;
  waits = c.waits.ensures.waits;
  idles = c.waits.ensures.idles;
  meets = c.rules.ensures.meets;
  calm = c.rules.ensures.calm;
  low = c.rules.ensures.low;
  ends = c.rules.ensures.ends;
  bound = c.bounds.ensures.end;
  within = c.soon.ensures.within;
  small = c.soon.ensures.small;
  small_now = c.soon.ensures.now;
  small_target = c.soon.ensures.target;
}
