-- Events of which one stops the search.
use Rattle.std.specs.Prelude.{Bool, true, false, List, [], ◌∷◌}
use Rattle.search_probe.specs.Probing.{passed, stopped, found}
use Rattle.search.specs.Trace.{Event, at}

abbrev pub stops_in : List Event → Bool
stops_in [] = false
stops_in (at i passed ∷ es) = stops_in es
stops_in (at i (stopped r) ∷ es) = true
stops_in (at i (found e) ∷ es) = stops_in es
