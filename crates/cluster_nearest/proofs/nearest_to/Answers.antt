-- `cluster_nearest::nearest_to` meets its contract.
use Rattle.cluster_index.specs.Index.{add_terms}
use Rattle.cluster_index.specs.Lent.{entries_lent}
use mathlib.Core.Path.{sym, ◌∙◌}
use Rattle.cluster_nearest.proofs.nearest_to.Goals as goal

pub returns : goal.returns
returns c =
    let a = c.args in
    record {
      sums = c.add_terms.ensures ∙ (λ i. add_terms (entries_lent a.index) (c.clear.ensures i) (sym c.places_of-p.ensures.holds i));
      answer = c.first_above_zero.ensures;
    }
