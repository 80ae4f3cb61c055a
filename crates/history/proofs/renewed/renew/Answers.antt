-- `history::renewed::renew` meets its contract.
use Rattle.history.proofs.RenewedLaws.{renew_done}
use Rattle.history.proofs.renewed.renew.Goals as goal

pub returns : goal.returns
returns c =
    renew_done _ _ _ (c.read_log.ensures _ c.of.ensures) c.in_ok-window.was
    c.requires _ c.largest-seen.ensures _ c.with_times.ensures
