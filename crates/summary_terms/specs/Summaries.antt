-- The block maximum and the two summaries. Document 01, "Block maximum and summaries".
use Rattle.std.specs.Prelude.{ℕ, suc, Bool, List, map, length, take, leb, Float}
use Rattle.std.specs.Float.{binary32}
use Rattle.std.specs.Float.Ieee.{mul, le}
use Rattle.configuration.specs.declared.SummarizationStrategy.{SummarizationStrategy}
use Rattle.configuration.specs.declared.SummarizationStrategy.TheVariants.{FixedSize, EnergyPreserving}
use Rattle.sequences.specs.Lists.{from, before, sorted_by}
use Rattle.documents.specs.Documents.{Term, Documents, sum, falling, largest}
pub use Rattle.summary_maximum.specs.Maximum.{block_terms, maximum, block_maximum}
unfoldable pub use Rattle.summary_maximum.specs.Maximum.{maxima}

-- the sums of the first 1, 2, .. values
abbrev pub running_sums : List Float → List Float
running_sums vs = map (λ i. sum (take (suc i) vs)) (from 0 (length vs))

-- how many values go up to the first running sum at least total x energy; else all
unfoldable pub enough : Float → List Float → ℕ
enough energy vs = let goal = mul binary32 (sum vs) energy in suc (length (before (λ s. le goal s) (running_sums vs)))

-- greatest first, and the total is summed in that order too
unfoldable pub preserving : Float → List Term → List Term
preserving energy ts = take (enough energy (map (λ t. t.value) (falling ts))) (falling ts)

-- the n greatest, or as many of the greatest as reach the energy; the greatest first
abbrev pub kept : SummarizationStrategy → List Term → List Term
kept (FixedSize n) ts = largest n ts
kept (EnergyPreserving energy) ts = preserving energy ts

-- of a block's terms: those that its summary keeps, the greatest first
unfoldable pub summary_of : SummarizationStrategy → List Term → List Term
summary_of s ts = kept s (maxima ts)

-- then rising components
abbrev pub lower : Term → Term → Bool
lower a b = leb a.component b.component

unfoldable pub summary : SummarizationStrategy → Documents → List ℕ → List Term
summary s d block = sorted_by lower (kept s (block_maximum d block))
