use Rattle.std.proofs.Common.{◌≡◌, ◌∙◌, ◌&&◌, ◌==◌, ap, arith, length, take}
use Rattle.std.proofs.Math.Seq.{take-length}
use Rattle.command_words.specs.Command.{bank_number}
use Rattle.speed_bin.specs.Log.{open_at}
use Rattle.requests.specs.Queue.{in_bank, hits}
use Rattle.scheduler.specs.Board.{or_at, first_at, kept}
use Rattle.scheduler.proofs.First.{noted, same_bank, banks_more, get-inside, none_kept}
use Rattle.scheduler.proofs.board.board_of.Goals as goal

pub loop-at-init : goal.loop-at-init
loop-at-init c = record {
  oldest = λ b low. none_kept 32 b;
  hit = λ h log s b low. none_kept 32 b;
  banks = λ i waiting low. absurd (omega arith);
}

pub loop-at-preserved : goal.loop-at-preserved
loop-at-preserved c =
    let w = c.index-queue-at.result in record {
      oldest = λ b low. noted (in_bank b) c.args.queue.now c.loop-at.at w _ _ (c.loop-at.invariant.oldest b low) (c.note.ensures.oldest b low) c.index-queue-at.is c.loop-at-test.true;
      hit = λ h log s b low. noted (hits b (open_at b log)) c.args.queue.now c.loop-at.at w (kept c.loop-at.board.hit b) _ (c.loop-at.invariant.hit h log s b low)
          (c.note.ensures.hit b low
          ∙ ap (λ t. or_at (kept c.loop-at.board.hit b) (bank_number w.place.bank == b && t) c.loop-at.at) (c.is_open-is_hit.ensures h log s)
          ∙ ap (λ t. or_at (kept c.loop-at.board.hit b) t c.loop-at.at) (same_bank (bank_number w.place.bank) b w.place.row (λ k. open_at k log)))
          c.index-queue-at.is c.loop-at-test.true;
      banks = λ i v low e. banks_more c.args.queue.now c.loop-at.at i w v c.loop-at.invariant.banks c.note.ensures.low c.index-queue-at.is c.loop-at-test.true low e;
    }

pub returns : goal.returns
returns c = λ h log s.
    let end : c.loop-at.at ≡ length c.args.queue.now = omega arith in record {
      oldest = λ b low. c.loop-at.invariant.oldest b low ∙ ap (λ n. first_at (in_bank b) (take n c.args.queue.now)) end ∙ ap (λ xs. first_at (in_bank b) xs) (take-length c.args.queue.now);
      hit = λ b low. c.loop-at.invariant.hit h log s b low ∙ ap (λ n. first_at (hits b (open_at b log)) (take n c.args.queue.now)) end ∙ ap (λ xs. first_at (hits b (open_at b log)) xs) (take-length c.args.queue.now);
      banks = λ i v e. c.loop-at.invariant.banks i v (let k = get-inside c.args.queue.now i v e in omega (arith, k, end)) e;
    }
