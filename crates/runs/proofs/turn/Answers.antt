-- `runs::turn`: an edge where the list has just come to changes no edge (proofs/Edges.antt).
use Rattle.std.proofs.Common.{rules}
use Rattle.runs.proofs.Edges.{edge-pushed}
use Rattle.runs.proofs.turn.Goals as goal

pub returns : goal.returns
returns c =
    record {
      long = search rules;
      low = search rules;
      high = search rules;
      parity = search rules;
      same = λ i. edge-pushed c.args.runs.now c.args.n c.args.at i (search rules);
    }
