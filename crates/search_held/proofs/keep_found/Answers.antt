-- `search_held::keep_found`: settled, and marked.
use Rattle.search_held.proofs.keep_found.Goals as goal

pub returns : goal.returns
returns c = record {
  kept = c.settle.ensures;
  visits = c.visit.ensures;
}
