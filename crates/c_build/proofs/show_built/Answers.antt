-- `show_built` gives the numbers of the answer.
use Rattle.c_build.proofs.Choices.{refused-numbers, built-numbers}
use Rattle.c_build.proofs.show_built.Goals as goal

pub returns-in-Err : goal.returns-in-Err
returns-in-Err c = refused-numbers _ _ _ c.in-Err.is c.number.ensures

pub returns-in-Ok : goal.returns-in-Ok
returns-in-Ok c = built-numbers _ _ c.in-Ok.is
