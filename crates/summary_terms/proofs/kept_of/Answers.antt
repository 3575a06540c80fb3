-- Each strategy by its own count.
use Rattle.summary_terms.proofs.Loops.{kept_fixed, kept-energy}
use Rattle.summary_terms.proofs.kept_of.Goals as goal

pub returns-in-FixedSize : goal.returns-in-FixedSize
returns-in-FixedSize c =
    kept_fixed c.args.strategy c.args.keys.now _ c.min.result c.in-FixedSize.is c.min.ensures

pub returns-in-EnergyPreserving : goal.returns-in-EnergyPreserving
returns-in-EnergyPreserving c =
    kept-energy c.args.strategy c.args.keys.now _ c.total.result _ c.in-EnergyPreserving.is c.total.ensures c.reached.ensures
