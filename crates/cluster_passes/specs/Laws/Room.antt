-- Laws of Room: scores cut to the centroids are room enough.
use Rattle.std.specs.Prelude.{ℕ, min, List, length}
use Rattle.std.proofs.Common.{arith}
use Rattle.documents.specs.Documents.{Documents}
use Rattle.cluster_passes.specs.Room.{Room}

-- a score for each centroid is room enough
pub room_cut : (d : Documents) (centroids : List ℕ) (s a b n k : ℕ) → Room d centroids s a b n k → Room d centroids s a b (min (length centroids) n) k
room_cut d centroids s a b n k r =
    let i = r.index in
    record {
      some = r.some;
      index = record {
        offsets = i.offsets;
        below = i.below;
        slots = i.slots;
        weights = i.weights;
        short = i.short;
        sums = omega (arith, i.sums);
      };
      counters = r.counters;
    }
