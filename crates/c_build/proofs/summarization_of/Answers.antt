-- `summarization_of` takes what the number chooses.
use Rattle.c_build.proofs.Choices.{number-chosen, energy-chosen}
use Rattle.c_build.proofs.summarization_of.Goals as goal

pub returns-then-summarization-eq0 : goal.returns-then-summarization-eq0
returns-then-summarization-eq0 c = number-chosen c.args.summarization c.args.n_components c.args.summary_energy c.if-summarization-eq0.true

pub returns : goal.returns
returns c = energy-chosen c.args.summarization c.args.n_components c.args.summary_energy c.if-summarization-eq0.false
