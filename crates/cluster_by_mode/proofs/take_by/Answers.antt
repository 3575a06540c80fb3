-- `cluster_by_mode::take_by` meets its contract.
use Rattle.documents.specs.Lent.{lent}
use Rattle.cluster_by_mode.specs.Modes.{ranks_by}
use mathlib.Core.Path.{sym, ap, ◌∙◌}
use mathlib.Core.List.{◌++◌}
use lib.ListN.{length, take, drop}
use Rattle.cluster_by_mode.proofs.take_by.Goals as goal

pub shape_of-competing-in-RandomKmeans : goal.shape_of-competing-in-RandomKmeans
shape_of-competing-in-RandomKmeans c = c.clear.auto.numbers

pub shape_of-counts-in-RandomKmeans : goal.shape_of-counts-in-RandomKmeans
shape_of-counts-in-RandomKmeans c = c.assign.auto.counts

pub shape_of-starts-in-RandomKmeans : goal.shape_of-starts-in-RandomKmeans
shape_of-starts-in-RandomKmeans c = c.assign.auto.starts

pub shape_of-slots-in-RandomKmeans : goal.shape_of-slots-in-RandomKmeans
shape_of-slots-in-RandomKmeans c = c.assign.auto.slots

pub shape_of-weights-in-RandomKmeans : goal.shape_of-weights-in-RandomKmeans
shape_of-weights-in-RandomKmeans c = c.assign.auto.weights

pub shape_of-sums-in-RandomKmeans : goal.shape_of-sums-in-RandomKmeans
shape_of-sums-in-RandomKmeans c = c.assign.auto.sums

pub shape_of-keys-in-RandomKmeans : goal.shape_of-keys-in-RandomKmeans
shape_of-keys-in-RandomKmeans c = c.clear-in-RandomKmeans.auto.numbers

pub shape_of-taken-in-RandomKmeans : goal.shape_of-taken-in-RandomKmeans
shape_of-taken-in-RandomKmeans c = c.assign.auto.taken

pub returns-in-RandomKmeans : goal.returns-in-RandomKmeans
returns-in-RandomKmeans c =
    let a = c.args in let f = c.assign in
    let taken = f.ensures.taken ∙ ap (λ g. ranks_by g (lent a.documents) a.minimum a.centroids.now a.known.now
    (length a.competing.now) (length a.starts.now) (length a.slots.now) (length a.weights.now) (length a.sums.now) (length a.counts.now)
    (length a.keys.now) (take (length a.taken.now) a.ids.now) ++ drop (length a.ids.now) a.taken.now) (sym c.in-RandomKmeans.is) in
    record {
      taken = taken;
      competing = c.clear.ensures;
      counts = f.ensures.counts;
      starts = f.ensures.starts;
      slots = f.ensures.slots;
      weights = f.ensures.weights;
      sums = f.ensures.sums;
      keys = c.clear-in-RandomKmeans.ensures;
    }

pub shape_of-competing-in-RandomKmeansInvertedIndexApprox : goal.shape_of-competing-in-RandomKmeansInvertedIndexApprox
shape_of-competing-in-RandomKmeansInvertedIndexApprox c = c.assign-in-RandomKmeansInvertedIndexApprox.auto.competing

pub shape_of-counts-in-RandomKmeansInvertedIndexApprox : goal.shape_of-counts-in-RandomKmeansInvertedIndexApprox
shape_of-counts-in-RandomKmeansInvertedIndexApprox c = c.assign-in-RandomKmeansInvertedIndexApprox.auto.counts

pub shape_of-starts-in-RandomKmeansInvertedIndexApprox : goal.shape_of-starts-in-RandomKmeansInvertedIndexApprox
shape_of-starts-in-RandomKmeansInvertedIndexApprox c = c.assign-in-RandomKmeansInvertedIndexApprox.auto.starts

pub shape_of-slots-in-RandomKmeansInvertedIndexApprox : goal.shape_of-slots-in-RandomKmeansInvertedIndexApprox
shape_of-slots-in-RandomKmeansInvertedIndexApprox c = c.assign-in-RandomKmeansInvertedIndexApprox.auto.slots

pub shape_of-weights-in-RandomKmeansInvertedIndexApprox : goal.shape_of-weights-in-RandomKmeansInvertedIndexApprox
shape_of-weights-in-RandomKmeansInvertedIndexApprox c = c.assign-in-RandomKmeansInvertedIndexApprox.auto.weights

pub shape_of-sums-in-RandomKmeansInvertedIndexApprox : goal.shape_of-sums-in-RandomKmeansInvertedIndexApprox
shape_of-sums-in-RandomKmeansInvertedIndexApprox c = c.assign-in-RandomKmeansInvertedIndexApprox.auto.sums

pub shape_of-keys-in-RandomKmeansInvertedIndexApprox : goal.shape_of-keys-in-RandomKmeansInvertedIndexApprox
shape_of-keys-in-RandomKmeansInvertedIndexApprox c = c.assign-in-RandomKmeansInvertedIndexApprox.auto.keys

pub shape_of-taken-in-RandomKmeansInvertedIndexApprox : goal.shape_of-taken-in-RandomKmeansInvertedIndexApprox
shape_of-taken-in-RandomKmeansInvertedIndexApprox c = c.assign-in-RandomKmeansInvertedIndexApprox.auto.taken

pub returns-in-RandomKmeansInvertedIndexApprox : goal.returns-in-RandomKmeansInvertedIndexApprox
returns-in-RandomKmeansInvertedIndexApprox c =
    let a = c.args in let f = c.assign-in-RandomKmeansInvertedIndexApprox in
    let taken = f.ensures.taken ∙ ap (λ g. ranks_by g (lent a.documents) a.minimum a.centroids.now a.known.now
    (length a.competing.now) (length a.starts.now) (length a.slots.now) (length a.weights.now) (length a.sums.now) (length a.counts.now)
    (length a.keys.now) (take (length a.taken.now) a.ids.now) ++ drop (length a.ids.now) a.taken.now) (sym c.in-RandomKmeansInvertedIndexApprox.is) in
    record {
      taken = taken;
      competing = f.ensures.competing;
      counts = f.ensures.counts;
      starts = f.ensures.starts;
      slots = f.ensures.slots;
      weights = f.ensures.weights;
      sums = f.ensures.sums;
      keys = f.ensures.keys;
    }
