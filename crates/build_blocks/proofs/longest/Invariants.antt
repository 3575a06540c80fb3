-- `longest` answers the greatest count of terms. The loop's invariant: the most so far, or the longest of those left, is the longest of all.
use Prim.Native.Nat.{max}
use mathlib.Core.Path.{◌≡◌}
use lib.ListN.{drop}
use Rattle.documents.specs.Lent.{lent}
use Rattle.build_blocks.specs.Longest.{longest_of}
use Rattle.build_blocks.proofs.longest.Given as goal

abbrev pub invariant-loop-id : goal.invariant-loop-id
invariant-loop-id l = max l.most (longest_of (lent l.documents) (drop l.id-index l.ids)) ≡ longest_of (lent l.documents) l.ids
