-- The blocks of a list share it out, however it is blocked.
use Rattle.std.specs.Prelude.{ℕ, suc, ◌/◌, ◌<◌, ◌≡◌, length}
use mathlib.Core.List.{[], Permᴰ}
use Rattle.configuration.specs.declared.BlockingStrategy.{BlockingStrategy}
use Rattle.configuration.specs.declared.BlockingStrategy.TheVariants.{FixedSize, RandomKmeans}
use Rattle.sequences.specs.Lists.{joined}
use Rattle.build_meaning.specs.Built.{Input, block_documents}
use Rattle.build_meaning.specs.Laws.Shares.{clustered-share, fixed-share, fixed-short}

-- by a fixed size: the blocks, one after another, are the list, and a list shorter than a block has none; by clusters: each listed posting
-- lies in one block, as often as it is listed
abbrev pub SharedBy : BlockingStrategy → Input → Type 0
SharedBy (FixedSize size) g = ((q : ℕ) → length g.ids / size ≡ suc q → joined (block_documents g) ≡ g.ids) × (length g.ids < size → block_documents g ≡ [])
SharedBy (RandomKmeans fraction minimum algorithm) g = Permᴰ (joined (block_documents g)) g.ids

pub shared-by : (g : Input) (k : BlockingStrategy) → g.blocking ≡ k → SharedBy k g
shared-by g (FixedSize size) e = (λ q h. fixed-share g size q e h, λ h. fixed-short g size e h)
shared-by g (RandomKmeans fraction minimum algorithm) e = clustered-share g fraction minimum algorithm e
