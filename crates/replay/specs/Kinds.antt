-- Whether a recorded answer is what the call means, by the case's kind; a kind that is none agrees with nothing.
use Rattle.std.specs.Prelude.{ℕ, Bool, false, cond, List, ◌==◌}
use Rattle.replay_leaves.specs.Case.{packs_agree, blocks_agree, quantizes_agree, pushes_agree}
use Rattle.replay_search.specs.Case.{searches_agree}
use Rattle.replay.specs.Case.{agrees}

abbrev pub agrees_by : ℕ → List ℕ → Bool
agrees_by kind w =
    cond (kind == 1) (packs_agree w)
    (cond (kind == 2) (blocks_agree w)
    (cond (kind == 3) (quantizes_agree w)
    (cond (kind == 4) (pushes_agree w) (cond (kind == 5) (searches_agree w) (cond (kind == 6) (agrees w) false)))))
