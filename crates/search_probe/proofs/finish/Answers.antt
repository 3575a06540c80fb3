-- `search_probe::finish`: by what the turns came to.
use mathlib.Core.Path.{sym, ap}
use Rattle.search_probe.specs.Probed.{answer_of}
use Rattle.search_probe.proofs.finish.Goals as goal

pub returns-in-Ok : goal.returns-in-Ok
returns-in-Ok c = ap (λ x. answer_of x c.args.kept) (sym c.in-Ok.is)

pub returns-in-Err : goal.returns-in-Err
returns-in-Err c = ap (λ x. answer_of x c.args.kept) (sym c.in-Err.is)
