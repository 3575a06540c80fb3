-- What the parts say of what the build left.
use Rattle.replay.specs.Case.{used}
use Rattle.replay.proofs.builds.Laws.{agreed-of}
use Rattle.replay.proofs.builds.builds_with.Goals as goal

pub returns : goal.returns
unfolding used
returns c =
    agreed-of c.args.w.now _ _ c.agreed.ensures c.build-answer.ensures
