use Rattle.scheduler.proofs.steps.deadline_laws.Goals as goal

pub returns : goal.returns
returns c = record {
  start = c.start.ensures.keeps;
  turn = λ h log task next now until idle waiting later n place a k t. record {
    keeps = c.turn.ensures.keeps h log task next now until idle waiting later n place a k t;
    refreshes_in_time = c.turn.ensures.refreshes_in_time h log task next now until idle waiting later n place a k t;
    refreshes_evenly = c.turn.ensures.refreshes_evenly h log task next now until idle waiting later n place a k t;
    scrubs_in_step = c.turn.ensures.scrubs_in_step h log task next now until idle waiting later n place a k t;
    answers_the_alert = c.turn.ensures.answers_the_alert h log task next now until idle waiting later n place a k t;
    raised = c.turn.ensures.raised h log task next now until idle waiting later n place a k t;
    owing = c.turn.ensures.owing h log task next now until idle waiting later n place a k t;
  };
  within = c.soon.ensures.within;
  small = c.soon.ensures.small;
  rest = c.rest.ensures.keeps;
  at_end = c.rest.ensures.refreshes_in_time;
}
