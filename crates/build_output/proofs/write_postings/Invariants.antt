-- `write_postings` sets a posting for each document from the start on: what is left to set, set, is all set.
use Prim.Native.Nat.{◌-◌, ◌≤◌, min}
use mathlib.Core.Path.{◌≡◌}
use mathlib.Core.List.{[], map}
use lib.ListN.{length, drop}
use lib.Seq.{sets}
use Rattle.documents.specs.Documents.{documents}
use Rattle.build_sizes.specs.Sized.{posting_of}
use Rattle.build_output.proofs.write_postings.Given as goal

abbrev pub invariant-loop-i : goal.invariant-loop-i
invariant-loop-i l = (l.i ≤ l.end) × (l.end ≡ min (length l.order) (length l.initial.postings)) × (length l.postings ≡ length l.initial.postings) × (sets l.postings l.i (drop l.i (map (posting_of (documents l.offsets [] [])) l.order)) ≡ sets l.initial.postings 0 (map (posting_of (documents l.offsets [] [])) l.order))
