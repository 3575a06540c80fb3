-- What an accepted search leaves where it was lent: the k best, in order, and all that the next search needs.
use Rattle.std.specs.Prelude.{ℕ, ◌≡◌, true, List, ◌++◌, Ok}
use Rattle.refusal.specs.First.{first_of}
use Rattle.kept_list.specs.Entry.{better}
use Rattle.kept_list.specs.Keep.{k_best}
use Rattle.kept_list.specs.Lent.{entries, written}
use Rattle.kept_list.specs.Push.{well_kept}
use Rattle.search_probe.specs.Probing.{left}
use Rattle.search_probe.specs.Probed.{Lends, bytes_of, rest_of}
use Rattle.search.specs.Searched.{Question, swept, room, tests}
use Rattle.search.specs.Trace.{entries_of, events_of}
use Rattle.search.specs.Promises.{SearchPromises}

-- an accepted search, its blocks in this order, that left x
pub record Ran (q : Question) (l : Lends) (blocks : List ℕ) (x : Lends) : Type 0 where
  pub accepted : first_of (tests q l true) ≡ Ok tt
  pub promises : SearchPromises q l blocks (swept q blocks l)
  -- the kept list and the visit bytes where they lie; what lies past them is as it was
  pub kept_is : x.kept ≡ written (left (swept q blocks l)).kept l.kept
  pub visits_is : x.visits ≡ (left (swept q blocks l)).visits ++ rest_of q.terms l.visits
  -- the entries are the k best of those that it began with and of all evaluated
  pub keeps_best : entries x.kept ≡ k_best better q.k (entries l.kept ++ entries_of (events_of promises.sweeps.story))
  -- the next search finds no fault with them for the same k (12), nor with the room (4), and it looks at the bytes that this one left
  pub well_kept_again : well_kept q.k x.kept ≡ true
  pub room_again : room q x true ≡ true
  pub bytes_again : bytes_of q.terms x.visits ≡ (left (swept q blocks l)).visits
