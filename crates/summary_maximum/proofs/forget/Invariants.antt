-- The loop's invariant: what is left to clear leads to the same places.
use mathlib.Core.Path.{◌≡◌}
use Prim.Native.Nat.{ℕ}
use mathlib.Core.List.{List, foldl}
use lib.ListN.{drop, set}
use Rattle.documents.specs.TermKeys.{component_of}
use Rattle.summary_maximum.proofs.forget.Given as goal

abbrev pub invariant-loop-key : goal.invariant-loop-key
invariant-loop-key l = foldl (λ (l : List ℕ) k. set l (component_of k) 0) l.places (drop l.key-index l.keys) ≡ foldl (λ l k. set l (component_of k) 0) l.initial.places l.keys
