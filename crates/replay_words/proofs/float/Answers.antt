-- The word's value.
use mathlib.Core.Path.{ap, ◌∙◌}
use Rattle.float32.specs.Key.{value_of}
use Rattle.replay_words.proofs.float.Goals as goal

pub returns : goal.returns
returns c = c.value_of_key.ensures ∙ ap value_of c.word.ensures
