-- `algorithm_of` takes what the number chooses.
use Rattle.c_build.proofs.Choices.{exact-chosen, approximate-chosen}
use Rattle.c_build.proofs.algorithm_of.Goals as goal

pub returns-then-blocking-eq1 : goal.returns-then-blocking-eq1
returns-then-blocking-eq1 c = exact-chosen c.args.blocking c.args.doc_cut c.if-blocking-eq1.true

pub returns : goal.returns
returns c = approximate-chosen c.args.blocking c.args.doc_cut c.if-blocking-eq1.false
