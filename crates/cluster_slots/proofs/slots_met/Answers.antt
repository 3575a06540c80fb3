-- `cluster_slots::slots_met` meets its contract.
use Rattle.documents.specs.Documents.{documents}
use Rattle.cluster_slots.specs.Laws.Loops.{key-meets}
use Rattle.cluster_slots.proofs.slots_met.Goals as goal

pub returns : goal.returns
returns c =
    let a = c.args in
    let e = c.entries_of-p in
    let k = c.component_of_term_key in
    key-meets (documents a.starts.now a.slots.now a.weights.now) a.key k.result e.result k.ensures e.ensures
