-- Laws of Greatest: it holds of each block of a built list.
use Rattle.std.specs.Prelude.{ℕ, ◌<◌, List, [], ◌∷◌, get_or}
use Rattle.std.proofs.Common.{arith}
use Rattle.sequences.specs.Lists.{EachOf, sorted_by}
use Rattle.quantizing.specs.Demand3.{F32s}
use Rattle.summary_terms.specs.Summaries.{block_terms, block_maximum, lower, summary}
use Rattle.summary_terms.specs.Laws.Promises.{kept-first, values-fall}
use Rattle.summary_terms.specs.Laws.Finishing.{maxima-held}
use Rattle.summary_terms.specs.Laws.Whole.{block_held}
use Rattle.build_meaning.specs.Built.{Input, block_documents}
use Rattle.build_promises.specs.Greatest.{Greatest}

-- a slice of u32 and one of f32 hold nothing else
module _ (g : Input) (narrow : (k : ℕ) → get_or g.documents.components k 0 < 4294967296) (fs : F32s g.documents.values) where
  pub keeps-greatest : (block : List ℕ) → Greatest g block (summary g.summarization g.documents block)
  unfolding summary
  keeps-greatest block =
      let k = kept-first g.summarization (block_maximum g.documents block) in
      let H = maxima-held (block_terms g.documents block) (block_held g.documents block narrow fs) in
      record { count = k.0; taken = k.1; sorted = (λ j. sorted_by lower (k.1 j)); none_smaller = λ i j p q l. values-fall (block_maximum g.documents block) H i j (omega arith) l }

  -- so it is of every block of the list
  pub list-keeps-greatest : EachOf (λ block. Greatest g block (summary g.summarization g.documents block)) (block_documents g)
  list-keeps-greatest = go (block_documents g)
    where
      go : (bs : List (List ℕ)) → EachOf (λ block. Greatest g block (summary g.summarization g.documents block)) bs
      go [] = tt
      go (b ∷ bs) = (keeps-greatest b, go bs)
