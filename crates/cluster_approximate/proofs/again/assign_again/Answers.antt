-- `cluster_approximate::again::assign_again` meets its contract: where no group dissolves each document stays.
use mathlib.Core.Path.{sym, ap, ◌∙◌}
use mathlib.Core.Bool.{false}
use lib.IntN.{pos}
use lib.Ieee.{fin}
use lib.ListN.{length, replicate}
use Rattle.documents.specs.Lent.{lent}
use Rattle.cluster_approximate.specs.Laws.Staying.{all_stay}
use Rattle.cluster_approximate.proofs.again.assign_again.Goals as goal

pub returns-then-none_dissolve : goal.returns-then-none_dissolve
returns-then-none_dissolve c =
    let a = c.args in record {
      taken = all_stay (lent a.documents) a.cut a.minimum a.centroids.now a.known.now (length a.starts.now)
          (length a.slots.now) (length a.weights.now) (length a.sums.now) (length a.keys.now) a.ids.now a.counts.now a.taken.now
          (sym c.none_dissolve.ensures ∙ c.if-none_dissolve.true);
      competing = c.clear.ensures.competing;
      counts = c.clear.ensures.counts;
      starts = c.clear.ensures.starts;
      slots = c.clear.ensures.slots;
      weights = c.clear.ensures.weights;
      sums = c.clear.ensures.sums;
      keys = c.clear.ensures.keys;
    }

pub returns : goal.returns
returns c =
    let t = c.take_again in
    let e = c.clear-2.ensures in record {
      taken = t.ensures;
      competing = e.competing ∙ ap (λ n. replicate n 0) t.auto.competing;
      counts = e.counts;
      starts = e.starts ∙ ap (λ n. replicate n 0) t.auto.starts;
      slots = e.slots ∙ ap (λ n. replicate n 0) t.auto.slots;
      weights = e.weights ∙ ap (λ n. replicate n (fin false 0 (pos 0))) t.auto.weights;
      sums = e.sums ∙ ap (λ n. replicate n (fin false 0 (pos 0))) t.auto.sums;
      keys = e.keys ∙ ap (λ n. replicate n 0) t.auto.keys;
    }
