-- What is laid down in lent memory, whether the search came to its end or stopped: the kept entries, and the visit bytes.
use Rattle.std.specs.Prelude.{◌≡◌, refl, ◌++◌}
use Rattle.std.proofs.Common.{ap, ◌∙◌}
use Rattle.kept_list.specs.Lent.{entries, written}
use Rattle.kept_list.specs.Laws.Laid.{entries-written}
use Rattle.search_probe.specs.Probing.{Reached, goes_on, stops_at, left}
use Rattle.search_probe.specs.Probed.{Terms, Lends, rest_of, laid}

module _ (t : Terms) (l : Lends) where
  pub laid-list : (r : Reached) → (laid t l r).lent.kept ≡ written (left r).kept l.kept
  laid-list (goes_on s) = refl
  laid-list (stops_at r i s) = refl

  pub laid_kept : (r : Reached) → entries (laid t l r).lent.kept ≡ (left r).kept
  laid_kept r = ap entries (laid-list r) ∙ entries-written (left r).kept l.kept

  pub laid-visits : (r : Reached) → (laid t l r).lent.visits ≡ (left r).visits ++ rest_of t l.visits
  laid-visits (goes_on s) = refl
  laid-visits (stops_at r i s) = refl
