-- The three parts.
use Rattle.build_meaning.specs.Building.{outputs}
use Rattle.build_small.specs.Short.{made}
use Rattle.replay.proofs.builds.Laws.{agreed-by}
use Rattle.replay.proofs.builds.buffers.agreed.Goals as goal

pub returns : goal.returns
returns c =
    let a = c.args in
    agreed-by a.w.now (made a.answer (outputs a.postings.now a.offsets.now a.components.now a.component_offsets.now a.ids.now a.codes.now
    a.minimums.now a.steps.now)) c.sizes.ensures c.numbers.ensures c.entries.ensures
