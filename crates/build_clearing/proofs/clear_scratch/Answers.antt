-- `clear_scratch` leaves zeros.
use Rattle.build_meaning.specs.Building.{scratches, cleared_scratch}
use Rattle.build_clearing.proofs.clear_scratch.Goals as goal

pub returns : goal.returns
unfolding cleared_scratch
returns c =
    λ j. scratches (c.clear.ensures j) (c.clear-2.ensures j) (c.clear-3.ensures j) (c.clear-4.ensures j)
    (c.clear-5.ensures j) (c.clear-6.ensures j) (c.clear-7.ensures j) (c.clear-8.ensures j)
    (c.clear-9.ensures j) (c.clear-10.ensures j) (c.clear-11.ensures j)
