use Rattle.std.proofs.Common.{rules, ◌≡◌, ◌&&◌, false, Some}
use Rattle.speed_bin.specs.Alert.{alert_after}
use Rattle.backoff.proofs.Standing.{stands_after_precharge}
use Rattle.backoff.proofs.alert.Alert.after_precharge.Goals as goal

pub returns-then-closed-clause-log : goal.returns-then-closed-clause-log
returns-then-closed-clause-log c =
    let value : Some c.args.clock ≡ alert_after false (c.args.closed && c.args.hot) c.args.clock c.args.self.now = search rules in
    stands_after_precharge c.args.self.now _ c.args.clock c.args.hot c.args.closed c.requires value

pub returns-else-is_none-clause-log : goal.returns-else-is_none-clause-log
returns-else-is_none-clause-log c =
    let value : c.args.self.now ≡ alert_after false (c.args.closed && c.args.hot) c.args.clock c.args.self.now = search rules in
    stands_after_precharge c.args.self.now _ c.args.clock c.args.hot c.args.closed c.requires value
