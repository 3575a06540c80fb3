-- What each step leaves, one after another.
use mathlib.Core.Path.{ap, ◌∙◌}
use Rattle.sort.specs.Sorted.{sorted}
use Rattle.summary_terms.proofs.finish.Goals as goal

pub returns : goal.returns
returns c =
    record { keys_are = c.sort.ensures ∙ ap sorted c.join_keys.ensures; places_are = c.forget.ensures; maxima_are = c.clear.ensures; answer = c.kept_of.ensures }
