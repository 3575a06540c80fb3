-- `kept_entries::push` meets its contract: a refusal leaves all as it was, and else `settle` has done its part.
use Rattle.std.proofs.Common.{◌∙◌, refl, sym}
use Rattle.refusal.specs.Laws.First.{handed-up}
use Rattle.kept_push.proofs.Verdicts.{refused-leaves, accepted-leaves}
use Rattle.kept_entries.specs.Entries.{as_lent}
use Rattle.kept_entries.proofs.Verdicts.{verdict-is}
use Rattle.kept_entries.proofs.push.Goals as goal

pub returns-in_err-admit : goal.returns-in_err-admit
returns-in_err-admit c =
    let a = c.args in
    let v = c.admit.ensures ∙ verdict-is a.k a.length a.e a.entries.now c.is_well_kept-sound.result c.is_well_kept-sound.ensures in
    rw (handed-up c.from_residual.result _ c.from_residual.ensures.1) (refused-leaves a.k a.e (as_lent a.length a.entries.now) _ (sym c.in_err-admit.was ∙ v) _ refl)

pub returns : goal.returns
returns c =
    let a = c.args in
    let v = c.admit.ensures ∙ verdict-is a.k a.length a.e a.entries.now c.is_well_kept-sound.result c.is_well_kept-sound.ensures in
    accepted-leaves a.k a.e (as_lent a.length a.entries.now) _ (sym c.in_ok-admit.was ∙ v) refl _ c.settle.ensures
