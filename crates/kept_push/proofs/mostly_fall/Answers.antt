-- `kept_push::mostly_fall` meets its contract: scores that fall belong to entries that stand.
use Rattle.kept_push.proofs.Soundness.{fallen-stand}
use Rattle.kept_push.proofs.mostly_fall.Goals as goal

pub returns-then-all_fall : goal.returns-then-all_fall
returns-then-all_fall c =
    let a = c.args in
    fallen-stand a.packed.now a.scores.now a.from a.to _ c.all_fall.ensures c.if-all_fall.true
