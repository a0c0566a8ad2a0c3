use Rattle.trace_replay.proofs.turns.delivery_laws.Goals as goal

pub returns : goal.returns
returns c = record {
  agrees = c.agrees.ensures.controller;
  places_limit = c.limits.ensures.places;
  kept = c.issues_a_command.ensures.stays_underway;
  steps = c.issues_a_command.ensures.steps;
  log = c.gives_to_a_controller.ensures.log;
  given = c.gives_to_a_device.ensures.given;
  column = c.serves_by_columns.ensures.some;
  next = c.serves_by_columns.ensures.next;
  numbers = c.numbers_the_held.ensures.ranked;
  apart = c.numbers_the_held.ensures.apart;
  parts = c.takes_from_the_held.ensures.parts;
  answered = c.answers_as_the_device.ensures.device;
  stays = c.answers_as_the_device.ensures.stays;
}
