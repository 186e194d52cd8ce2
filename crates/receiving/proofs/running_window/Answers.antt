-- `receiving::running_window`: a usable queue's window is asked for.
use Rattle.counting.specs.Lent.{lent}
use Rattle.judge.specs.Taken.{receiver_fits}
use Rattle.window.specs.Window.{remembered_window}
use Rattle.receiving.proofs.running_window.Goals as goal

pub window_for-requires : goal.window_for-requires
window_for-requires c =
    let k = c.requires.0 in
    (lent c.args.plan.now c.args.queue k, (receiver_fits k).0, c.requires.1, remembered_window c.args.plan.now c.args.queue c.requires.2 k.queue_fits)
