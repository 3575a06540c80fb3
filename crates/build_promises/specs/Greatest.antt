-- Of each block of a built list: what its summary keeps comes first among the block's maxima, the greatest first, so none that is kept is
-- smaller than one left out.
use Rattle.std.specs.Prelude.{ℕ, ◌≤◌, ◌<◌, ◌≡◌, true, List, length, get_or, take}
use Rattle.std.specs.Float.{nan}
use Rattle.sequences.specs.Lists.{sorted_by}
use Rattle.float32.specs.Order.{at_most}
use Rattle.documents.specs.Documents.{Term, term, falling}
use Rattle.summary_terms.specs.Summaries.{block_maximum, kept, lower}
use Rattle.build_meaning.specs.Built.{Input}

-- the summary of a block: so many of its maxima, the greatest first by total order, then put in rising components
pub record Greatest (g : Input) (block : List ℕ) (s : List Term) : Type 0 where
  pub count : ℕ
  pub taken : kept g.summarization (block_maximum g.documents block) ≡ take count (falling (block_maximum g.documents block))
  pub sorted : s ≡ sorted_by lower (take count (falling (block_maximum g.documents block)))
  -- a kept one stands before count, one left out from count on
  pub none_smaller : (i j : ℕ) → i < count → count ≤ j → j < length (falling (block_maximum g.documents block))
      → at_most (get_or (falling (block_maximum g.documents block)) j (term 0 nan)).value (get_or (falling (block_maximum g.documents block)) i (term 0 nan)).value ≡ true
