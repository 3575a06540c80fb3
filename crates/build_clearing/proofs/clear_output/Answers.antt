-- `clear_output` leaves zeros.
use Rattle.build_meaning.specs.Building.{outputs, cleared_output}
use Rattle.build_clearing.proofs.clear_output.Goals as goal

pub returns : goal.returns
unfolding cleared_output
returns c =
    λ j. outputs (c.clear.ensures j) (c.clear-2.ensures j) (c.clear-3.ensures j) (c.clear-4.ensures j)
    (c.clear-5.ensures j) (c.clear-6.ensures j) (c.clear-7.ensures j) (c.clear-8.ensures j)
