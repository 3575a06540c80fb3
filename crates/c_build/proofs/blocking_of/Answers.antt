-- `blocking_of` takes what the number chooses.
use Rattle.c_build.proofs.Choices.{fixed-chosen, clusters-chosen}
use Rattle.c_build.proofs.blocking_of.Goals as goal

pub returns-then-blocking-eq0 : goal.returns-then-blocking-eq0
returns-then-blocking-eq0 c = fixed-chosen c.args.blocking c.args.block_size c.args.centroid_fraction c.args.min_cluster_size c.args.doc_cut c.if-blocking-eq0.true

pub returns : goal.returns
returns c = clusters-chosen c.args.blocking c.args.block_size c.args.centroid_fraction c.args.min_cluster_size c.args.doc_cut _ c.if-blocking-eq0.false c.algorithm_of.ensures
