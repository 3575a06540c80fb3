-- `kept_push::push` meets its contract: a refusal leaves all as it was, and else `settle` has done its part.
use Rattle.std.proofs.Common.{◌∙◌, refl, sym}
use Rattle.refusal.specs.Laws.First.{handed-up}
use Rattle.kept_list.specs.Lent.{lent}
use Rattle.kept_push.proofs.Verdicts.{refused-leaves, accepted-leaves}
use Rattle.kept_push.proofs.push.Goals as goal

pub returns-in_err-admit : goal.returns-in_err-admit
returns-in_err-admit c =
    let a = c.args in
    let up = handed-up c.from_residual.result _ c.from_residual.ensures.1 in
    refused-leaves a.k a.e (lent a.length.now a.packed.now a.scores.now) _ (up ∙ sym (c.in_err-admit.was) ∙ c.admit.ensures) _ up

pub returns : goal.returns
returns c =
    let a = c.args in
    accepted-leaves a.k a.e (lent a.length.now a.packed.now a.scores.now) _ (sym (c.in_ok-admit.was) ∙ c.admit.ensures) refl _ c.settle.ensures
