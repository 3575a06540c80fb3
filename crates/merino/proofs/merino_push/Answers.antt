-- `merino_push` shows what `kept_list::push` leaves.
use Rattle.merino.proofs.Laws.{push-crosses}
use Rattle.merino.proofs.merino_push.Goals as goal

pub returns : goal.returns
returns c =
    push-crosses _ _ _ _ _ _ _ c.verdict_number.ensures c.push-verdict.ensures c.new.ensures
