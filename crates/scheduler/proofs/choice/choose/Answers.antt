use Rattle.std.proofs.Common.{◌≡◌, subst, arith, Option, Some, None, IfSome, ◌+◌}
use Rattle.std.proofs.Math.Logic.{∥∥₁_map}
use Rattle.speed_bin.specs.Log.{Log}
use Rattle.speed_bin.specs.declared.header.Header.{Header}
use Rattle.scheduler.specs.declared.choice.Candidate.{Candidate}
use Rattle.scheduler.specs.Board.{IsBoardOf}
use Rattle.scheduler.specs.Ledger.{StandsFor}
use Rattle.scheduler.specs.Choice.{IsCandidate, IsBestBelow}
use Rattle.scheduler.proofs.Best.{none_more, some_more}
use Rattle.scheduler.proofs.choice.choose.Goals as goal

at_log : (o : Option Candidate) (P : Header → Log → Candidate → Type 0) (Q : Header → Log → Type 0) (h : Header) (log : Log) → IfSome o (λ c. (h : Header) (log : Log) → Q h log → P h log c) → Q h log → IfSome o (λ c. P h log c)
at_log None P Q h log f q = tt
at_log (Some c) P Q h log f q = f h log q

at_board : (o : Option Candidate) (P : Header → Log → Candidate → Type 0) (Q R : Header → Log → Type 0) (h : Header) (log : Log) → IfSome o (λ c. (h : Header) (log : Log) → Q h log → R h log → P h log c) → Q h log → R h log → IfSome o (λ c. P h log c)
at_board None P Q R h log f q r = tt
at_board (Some c) P Q R h log f q r = f h log q r

each_log : (o : Option Candidate) (P : Header → Log → Candidate → Type 0) (Q : Header → Log → Type 0) → ((h : Header) (log : Log) → Q h log → IfSome o (λ c. P h log c)) → IfSome o (λ c. (h : Header) (log : Log) → Q h log → P h log c)
each_log None P Q f = tt
each_log (Some c) P Q f = f

pub loop-number-preserved : goal.loop-number-preserved
loop-number-preserved c =
    let n = c.loop-number.number in
    let ws = c.args.queue.now in
    let asked = c.args.asked.now in
    let from = c.args.ledger.now.from in
    let S = (λ (h : Header) (log : Log). StandsFor c.args.ledger.now h log) in
    let B = (λ (h : Header) (log : Log). IsBoardOf c.board_of-board.result ws log) in
    let i = c.loop-number.invariant in
    let d = c.candidate_of.ensures in record {
      none = none_more n asked ws c.better_of-best.result c.loop-number.best c.candidate_of.result c.better_of-best.ensures i.none d.none;
      some = each_log c.better_of-best.result (λ h log k. IsBestBelow (n + 1) h ws log from asked k) S (λ h log s.
          some_more n h ws log from asked c.better_of-best.result c.loop-number.best c.candidate_of.result c.better_of-best.ensures i.none
          (at_log c.loop-number.best (λ h l k. IsBestBelow n h ws l from asked k) S h log i.some s) d.none
          (at_board c.candidate_of.result (λ h l k. IsCandidate h ws l from asked n k) S B h log d.some s (c.board_of-board.ensures h log s)));
    }

pub returns-clause-some : goal.returns-clause-some
returns-clause-some c =
    let end : c.loop-number.number ≡ 32 = omega arith in
    subst (λ n. IfSome c.loop-number.best (λ candidate. (h : Header) (log : Log) → StandsFor c.args.ledger.now h log → IsBestBelow n h c.args.queue.now log c.args.ledger.now.from c.args.asked.now candidate)) end c.loop-number.invariant.some

pub candidate_of-requires-clause-ledger : goal.candidate_of-requires-clause-ledger
candidate_of-requires-clause-ledger c = ∥∥₁_map c.requires.ledger (λ m. (m.0, m.1, m.2, c.board_of-board.ensures m.0 m.1 m.2))
