-- So many places from the front hold words, and those left are as they were.
use mathlib.Core.Path.{◌≡◌}
use mathlib.Core.List.{◌++◌}
use lib.ListN.{length, take, drop}
use Rattle.replay_words.specs.Words.{spread}
use Rattle.replay_words.proofs.fill.Given as goal

abbrev pub invariant-loop-i : goal.invariant-loop-i
invariant-loop-i g l = l.numbers ≡ take l.i (spread g.N.FromWord.from_word (length l.initial.numbers) l.words) ++ drop l.i l.initial.numbers
