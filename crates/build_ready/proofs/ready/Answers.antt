-- `ready` judges what there is before blocks are made, and leaves zeros.
use Rattle.documents.specs.Lent.{lent}
use Rattle.build_meaning.specs.Building.{scratches, scratch_lengths}
use Rattle.build_ready.proofs.Laws.{under-8, under-4, judged}
use Rattle.build_ready.proofs.ready.Goals as goal

pub shape_of-order : goal.shape_of-order
shape_of-order c = c.clear_scratch.auto.order

pub shape_of-blocks : goal.shape_of-blocks
shape_of-blocks c = c.clear_scratch.auto.blocks

pub shape_of-sorted : goal.shape_of-sorted
shape_of-sorted c = c.clear_scratch.auto.sorted

pub shape_of-known : goal.shape_of-known
shape_of-known c = c.clear_scratch.auto.known

pub shape_of-taken : goal.shape_of-taken
shape_of-taken c = c.clear_scratch.auto.taken

pub shape_of-counts : goal.shape_of-counts
shape_of-counts c = c.clear_scratch.auto.counts

pub shape_of-starts : goal.shape_of-starts
shape_of-starts c = c.clear_scratch.auto.starts

pub shape_of-slots : goal.shape_of-slots
shape_of-slots c = c.clear_scratch.auto.slots

pub shape_of-weights : goal.shape_of-weights
shape_of-weights c = c.clear_scratch.auto.weights

pub shape_of-sums : goal.shape_of-sums
shape_of-sums c = c.clear_scratch.auto.sums

pub shape_of-keys : goal.shape_of-keys
shape_of-keys c = c.clear_scratch.auto.keys

pub returns : goal.returns
unfolding scratch_lengths
returns c =
    let a = c.args in record {
      answer = judged a.dimension a.blocking (lent a.documents) a.ids.now a.centroids.now
          (scratches a.order.now a.blocks.now a.sorted.now a.known.now a.taken.now a.counts.now a.starts.now a.slots.now a.weights.now
          a.sums.now a.keys.now)
          (record {
            order = under-8 _ c.well_formed.1.1.1.1.1.0.1;
            blocks = under-8 _ c.well_formed.1.1.1.1.1.1.0.1;
            sorted = under-8 _
                c.well_formed.1.1.1.1.1.1.1.0.1;
            known = under-8 _ c.well_formed.1.1.1.1.1.1.1.1.0.1;
            taken = under-8 _
                c.well_formed.1.1.1.1.1.1.1.1.1.0.1;
            counts = under-8 _ c.well_formed.1.1.1.1.1.1.1.1.1.1.0.1;
            starts = under-8 _
                c.well_formed.1.1.1.1.1.1.1.1.1.1.1.0.1;
            slots = under-8 _ c.well_formed.1.1.1.1.1.1.1.1.1.1.1.1.0.1;
            weights = under-4 _
                c.well_formed.1.1.1.1.1.1.1.1.1.1.1.1.1.0.1;
            sums = under-4 _ c.well_formed.1.1.1.1.1.1.1.1.1.1.1.1.1.1.0.1;
            keys
                = under-8 _ c.well_formed.1.1.1.1.1.1.1.1.1.1.1.1.1.1.1.0.1;
          })
          c.judge-verdict.result c.judge-verdict.ensures;
      scratch = c.clear_scratch.ensures;
    }
