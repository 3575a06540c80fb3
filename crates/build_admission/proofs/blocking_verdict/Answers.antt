-- Each answer is that of the tests that led to it.
use Rattle.build_admission.proofs.Laws.{no_size, many-blocks, few-blocks, centroids-wrong, centroids-right}
use Rattle.build_admission.proofs.blocking_verdict.Goals as goal

pub returns-then-block_size-eq0 : goal.returns-then-block_size-eq0
returns-then-block_size-eq0 c = let a = c.args in no_size a.blocking a.ids a.listed _ c.in-FixedSize.is c.if-block_size-eq0.true

pub returns-then-too_many_blocks : goal.returns-then-too_many_blocks
returns-then-too_many_blocks c =
    let a = c.args in many-blocks a.blocking a.ids a.listed _ c.in-FixedSize.is c.if-block_size-eq0.false _ c.too_many_blocks.ensures c.if-too_many_blocks.true

pub returns-then-wrong_centroids : goal.returns-then-wrong_centroids
returns-then-wrong_centroids c = let a = c.args in centroids-wrong a.blocking a.ids a.listed _ _ _ c.in-RandomKmeans.is _ c.wrong_centroids.ensures c.if-wrong_centroids.true

pub returns-else-too_many_blocks : goal.returns-else-too_many_blocks
returns-else-too_many_blocks c =
    let a = c.args in few-blocks a.blocking a.ids a.listed _ c.in-FixedSize.is c.if-block_size-eq0.false _ c.too_many_blocks.ensures c.if-too_many_blocks.false

pub returns-else-wrong_centroids : goal.returns-else-wrong_centroids
returns-else-wrong_centroids c = let a = c.args in centroids-right a.blocking a.ids a.listed _ _ _ c.in-RandomKmeans.is _ c.wrong_centroids.ensures c.if-wrong_centroids.false
