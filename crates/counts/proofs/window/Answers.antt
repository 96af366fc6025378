-- `counts::window`: whole turns and the rest (proofs/Windows.antt).
use Rattle.counts.proofs.Windows.{window-whole}
use Rattle.counts.proofs.window.Goals as goal

pub returns : goal.returns
returns c = window-whole _ _ c.args.runs.runs _ _ _ _ c.turned.ensures c.rest.ensures
