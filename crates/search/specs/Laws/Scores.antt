-- The scores of an accepted search are sums from +0 over the query's components, and never a NaN: of blocks, where the stored arrays are
-- f32 and bytes as their types say, and of pages, whatever they hold.
use Rattle.std.specs.Prelude.{ℕ, ◌<◌, ◌≡◌, Bool, true, not, List, length, T, Float, Ok}
use Rattle.std.proofs.Common.{arith}
use Rattle.std.specs.Float.Ieee.{is_nan}
use Rattle.std.proofs.lemmas.Bool.{not-false}
use Rattle.refusal.specs.First.{first_of}
use Rattle.refusal.specs.Laws.First.{faultless}
use Rattle.documents.specs.Documents.{paired, dot}
use Rattle.documents.specs.Checks.{slices_hold}
use Rattle.documents.specs.Laws.Bounds.{slices-bound, dot-number}
use Rattle.sparse_scores.specs.Scores.{score_of}
use Rattle.sparse_scores.specs.Laws.WalkLaws.{scores-at}
use Rattle.sparse_scores.specs.WellFormed.{well_formed}
use Rattle.sparse_scores.specs.Promises.{Typed}
use Rattle.sparse_scores.specs.Laws.Promises.{parts, score-no-nan}
use Rattle.search_probe.specs.Probed.{Lends}
use Rattle.search.specs.Order.{score_at}
use Rattle.search.specs.Searched.{Question, block_count, scores_for, tests}
use Rattle.search.specs.Dots.{query_terms}

-- ---- the score of a block
module _ (q : Question) (l : Lends) (b : Bool) (accepted : first_of (tests q l b) ≡ Ok tt) (typed : Typed q.layout (query_terms q.terms)) (s : ℕ) (below : s < block_count q) where
  own : well_formed (length q.postings) q.block_offsets q.layout ≡ true
  own = not-false (well_formed (length q.postings) q.block_offsets q.layout) (faultless (tests q l b) accepted).1.1.1.0

  pub block-score : score_at (scores_for q) s ≡ score_of q.layout (query_terms q.terms) s
  block-score = let e = (parts (length q.postings) q.block_offsets q.layout own).as_many in scores-at q.layout (query_terms q.terms) s (omega arith)

  pub block-score-number : T (not (is_nan (score_at (scores_for q) s)))
  block-score-number =
      rw block-score
      (score-no-nan (length q.postings) q.block_offsets q.layout (query_terms q.terms) own
      (slices-bound q.terms.query_components q.terms.query_values (not-false (slices_hold q.terms.query_components q.terms.query_values) (faultless (tests q l b) accepted).1.0)) typed s
      below)

-- ---- the score of a page: its values and the query's are in their bound
pub page-score-number : (qs : List ℕ) (ws : List Float) (cs : List ℕ) (vs : List Float) → slices_hold qs ws ≡ true → slices_hold cs vs ≡ true → T (not (is_nan (dot (paired qs ws) (paired cs vs))))
page-score-number qs ws cs vs h k = dot-number (paired qs ws) (paired cs vs) (slices-bound qs ws h) (slices-bound cs vs k)
