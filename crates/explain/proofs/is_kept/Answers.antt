-- `explain::is_kept`: as many as there are of the first are looked through.
use Rattle.explain.proofs.Kept.{kept-is}
use Rattle.explain.proofs.is_kept.Goals as goal

pub returns : goal.returns
returns c = let a = c.args in kept-is a.posting.0 a.length _ a.packed.now _ c.min-most.ensures c.contains.ensures.value
