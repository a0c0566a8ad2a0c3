-- What a replay answers, once the end of its report is written, as far as it was.
use Rattle.std.proofs.Common.{◌≡◌, ◌∙◌, ℕ, inl, inr, true, false, Option, Some, None, is_some, IsSome, List, ◌++◌, refl, sym, ap, subst, append_assoc}
use Rattle.std.specs.List.{flat_map}
use Rattle.std.specs.Io.KnownBytes.{Appends}
use Rattle.std.proofs.KnownBytes.{Appends-trans}
use Rattle.std.proofs.lemmas.Grind.{flat_map-append}
use Rattle.ddr_io.specs.Sink.{AppendsPrefix}
use Rattle.ddr_io.specs.declared.status.Status.{Status}
use Rattle.ddr_io.specs.declared.status.Status.TheVariants as status
use Rattle.speed_bin.specs.declared.header.Header.{Header}
use Rattle.ddr_text.specs.Io.{io}
use Rattle.ddr_text.specs.Spelling.{spelled}
use Rattle.ddr_text.specs.declared.lines.TraceLine.{TraceLine}
use Rattle.reports.specs.Report.{report}
use Rattle.reports.specs.Whole.{whole}
use Rattle.trace_replay.specs.Ending.{end_lines}
use Rattle.trace_replay.specs.Replay.{Starts, Reports, refusal_of, IsServed, EndAnswers, Answers, RunAnswers}
use Rattle.trace_replay.specs.declared.ending.Ending.{Ending}
use Rattle.trace_replay.specs.declared.replay_loop.Ended.TheVariants.{Finished}
use Rattle.trace_replay.proofs.Closing.{whole-is}
use Rattle.ddr_text.proofs.Prefixes.{prefix-behind}

whole-bytes : (h : Header) (text : List ℕ) (trace : List TraceLine) (refused : Option ℕ) (start left before now : Option (List ℕ)) (ending : Ending) (s : IsServed h text trace refused start left before now ending)
    → (text ++ flat_map spelled (report h trace s.run)) ++ flat_map spelled (end_lines ending) ≡ text ++ flat_map spelled (whole h trace s.run ending.clock (refusal_of trace refused))
whole-bytes h text trace refused start left before now ending s =
    append_assoc text (flat_map spelled (report h trace s.run)) (flat_map spelled (end_lines ending))
    ∙ ap (λ l. text ++ l) (sym (flat_map-append spelled (report h trace s.run) (end_lines ending)))
    ∙ ap (λ l. text ++ flat_map spelled l) (whole-is h trace s.run ending.clock (refusal_of trace refused) ending s.ends)

reports : (h : Header) (text : List ℕ) (trace : List TraceLine) (refused : Option ℕ) (start left before now after : Option (List ℕ)) (ending : Ending) → IsServed h text trace refused start left before now ending
    → Appends now after (flat_map spelled (end_lines ending)) → Reports h text trace refused before after
reports h text trace refused start left before now after ending s last = record {
  run = s.run;
  clock = ending.clock;
  is_run = s.is_run;
  promises = s.promises;
  wrote = subst (Appends before after) (whole-bytes h text trace refused start left before now ending s)
      (Appends-trans before now after (text ++ flat_map spelled (report h trace s.run)) (flat_map spelled (end_lines ending)) s.wrote last);
}

starts : (h : Header) (text : List ℕ) (trace : List TraceLine) (refused : Option ℕ) (start left before now after : Option (List ℕ)) (ending : Ending) → IsServed h text trace refused start left before now ending
    → AppendsPrefix now after (flat_map spelled (end_lines ending)) → Starts h text trace refused before after
starts h text trace refused start left before now after ending s cut =
    let whole_cut : AppendsPrefix before after (text ++ flat_map spelled (whole h trace s.run ending.clock (refusal_of trace refused)))
    = subst (AppendsPrefix before after) (whole-bytes h text trace refused start left before now ending s)
    (prefix-behind before now after (text ++ flat_map spelled (report h trace s.run)) (flat_map spelled (end_lines ending)) s.wrote cut) in
    (_, inr (_, whole_cut.0, (s.run, ending.clock, s.is_run, refl), refl), whole_cut.2)

none-of : (refused : Option ℕ) → is_some refused ≡ false → refused ≡ None
none-of None e = refl
none-of (Some reason) e = cc

some-of : (refused : Option ℕ) → is_some refused ≡ true → IsSome refused
some-of None e = cc
some-of (Some reason) e = refl

pub finished : (answer : Status) (ending : Ending) (left left_after before now after : Option (List ℕ)) → RunAnswers (Finished ending) (io left left_after before now) → EndAnswers answer ending now after → Answers answer (io left left_after before after)
finished status.Ok ending left left_after before now after (h, text, trace, refused, job, within, s) e =
    let none = none-of refused (sym s.shown ∙ e.0) in
    inl (h, text, trace, refused, job, within, (none, s.used_up none, reports h text trace refused left left_after before now after ending s e.1))
finished status.Refused ending left left_after before now after (h, text, trace, refused, job, within, s) e =
    inl (h, text, trace, refused, job, within, (some-of refused (sym s.shown ∙ e.0), reports h text trace refused left left_after before now after ending s e.1))
finished status.WriteFault ending left left_after before now after (h, text, trace, refused, job, within, s) e = inl (h, text, trace, refused, job, within, starts h text trace refused left left_after before now after ending s e)
finished status.OutOfMemory ending left left_after before now after (h, text, trace, refused, job, within, s) e = inl (h, text, trace, refused, job, within, starts h text trace refused left left_after before now after ending s e)
finished status.ReadFault ending left left_after before now after r e = absurd e
finished status.Usage ending left left_after before now after r e = absurd e
finished status.Broken ending left left_after before now after r e = absurd e
