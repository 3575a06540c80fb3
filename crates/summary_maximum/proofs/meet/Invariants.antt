-- The loop's invariant: the terms left lead to the same state as all of them.
use mathlib.Core.Path.{◌≡◌}
use mathlib.Core.List.{foldl}
use lib.ListN.{length}
use Rattle.std.specs.Iterator.Adapters.{zip_first, zip_second}
use Rattle.std.specs.Slice.Iter.{iter_rest}
use Rattle.documents.specs.Documents.{paired}
use Rattle.summary_maximum.specs.Meeting as meeting
use Rattle.summary_maximum.proofs.meet.Given as goal

abbrev pub invariant-loop-component : goal.invariant-loop-component
invariant-loop-component l =
    let cs = iter_rest (zip_first l.component-iterator) in
    let vs = iter_rest (zip_second l.component-iterator) in
    (length cs ≡ length vs) × (foldl (meeting.meets_below l.limit) (meeting.met l.met l.keys l.places l.maxima) (paired cs vs) ≡ foldl (meeting.meets_below l.limit) (meeting.met l.count l.initial.keys l.initial.places l.initial.maxima) (paired l.components l.values))
