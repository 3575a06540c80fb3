-- How long the lent buffers must be. Document 01, "Numbered refusals".
use Rattle.std.specs.Prelude.{ℕ, ◌+◌, max, Bool, ◌&&◌, List, map, length, leb}
use Rattle.sequences.specs.Lists.{joined}
use Rattle.configuration.specs.declared.BlockingStrategy.{BlockingStrategy}
use Rattle.documents.specs.Documents.{Documents, terms}
use Rattle.scratch.specs.declared.ScratchLengths.{ScratchLengths}
use Rattle.build_admission.specs.Admission.{centroids_used}
use Rattle.build_meaning.specs.Built.{Input, Built}

-- what the work is counted by: list ids, centroids used, terms of these, and the dimension
pub record Sizes : Type 0 where
  pub ids : ℕ
  pub centroids : ℕ
  pub centroid_terms : ℕ
  pub dimension : ℕ

abbrev pub sizes : ℕ → ℕ → ℕ → ℕ → Sizes
sizes n c t d = record { ids = n; centroids = c; centroid_terms = t; dimension = d }

abbrev pub sizes_for : ℕ → BlockingStrategy → Documents → List ℕ → List ℕ → Sizes
sizes_for dimension blocking d ids centroids =
    let used = centroids_used blocking centroids in
    sizes (length ids) (length used) (length (joined (map (terms d) used))) dimension

unfoldable pub sizes_of : Input → Sizes
sizes_of g = sizes_for g.dimension g.blocking g.documents g.ids g.centroids

-- the lengths of the scratch buffers: the one formula
abbrev pub scratch_needs : Sizes → ScratchLengths
scratch_needs s = record {
  order = s.ids;
  blocks = s.ids + 1;
  sorted = s.ids;
  known = s.centroids;
  taken = s.ids;
  counts = max s.centroids s.dimension;
  starts = s.dimension + 1;
  slots = s.centroid_terms;
  weights = s.centroid_terms;
  sums = max s.centroids s.dimension;
  keys = s.dimension;
}

abbrev pub scratch_suffices : ScratchLengths → ScratchLengths → Bool
scratch_suffices need lent =
    leb need.order lent.order && (leb need.blocks lent.blocks && (leb need.sorted lent.sorted && (leb need.known lent.known
    && (leb need.taken lent.taken && (leb need.counts lent.counts && (leb need.starts lent.starts && (leb need.slots lent.slots
    && (leb need.weights lent.weights && (leb need.sums lent.sums && leb need.keys lent.keys)))))))))

-- the lengths of the output buffers
pub record Output : Type 0 where
  pub postings : ℕ
  pub block_offsets : ℕ
  pub summary_components : ℕ
  pub component_offsets : ℕ
  pub summary_ids : ℕ
  pub codes : ℕ
  pub minimums : ℕ
  pub steps : ℕ

unfoldable pub output_suffices : Built → Output → Bool
output_suffices b lent =
    leb (length b.postings) lent.postings && (leb (length b.block_offsets) lent.block_offsets && (leb (length b.summaries.summary_components) lent.summary_components
    && (leb (length b.summaries.component_offsets) lent.component_offsets && (leb (length b.summaries.summary_ids) lent.summary_ids && (leb (length b.summaries.codes) lent.codes
    && (leb (length b.summaries.minimums) lent.minimums && leb (length b.summaries.steps) lent.steps))))))
