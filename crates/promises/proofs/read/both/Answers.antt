-- The verdict is the bit that judging writes (proofs/Laws.antt).
use Rattle.promises.proofs.Laws.{quick-agrees}
use Rattle.promises.proofs.read.both.Goals as goal

pub returns-clause-same_number : goal.returns-clause-same_number
returns-clause-same_number c = (quick-agrees _ _ _ _ _ _ c.requires c.judge-judged.ensures c.quick-verdict.ensures).0

pub returns-clause-same_verdict : goal.returns-clause-same_verdict
returns-clause-same_verdict c = (quick-agrees _ _ _ _ _ _ c.requires c.judge-judged.ensures c.quick-verdict.ensures).1
