-- A word past the end is 0.
use native.Mathlib.Omega.{arith}
use Rattle.sequences.specs.Laws.Lists.{past_end}
use Rattle.replay_words.proofs.word_after.Goals as goal

pub returns-else-at-words : goal.returns-else-at-words
returns-else-at-words c = let a = c.args in past_end a.words.now _ 0 (omega arith)
