-- The entries of the index that terms meet, and what is found and set back by them alone.
use Rattle.std.specs.Prelude.{ℕ, zero, suc, ◌-◌, ◌≡◌, Bool, false, not, ◌&&◌, ◌||◌, cond, length, get_or, set, take, drop, replicate, leb, ltb, eqb, pos, Float}
use Rattle.std.proofs.Common.{Option, Some, None}
use mathlib.Core.List.{List, [], ◌∷◌, ◌++◌, map, foldl}
use Rattle.std.specs.Float.{nan, fin}
use Rattle.number_types.specs.declared.CentroidSlot.{CentroidSlot}
use Rattle.float32.specs.Order.{at_most}
use Rattle.documents.specs.Documents.{Term, Documents, terms}
use Rattle.cluster_index.specs.Index.{add_terms}
use Rattle.cluster_nearest.specs.Nearest.{last_no_less}
use Rattle.cluster_slots.specs.declared.Best.{Best}

-- the slots that a term meets: those of its component's entries
abbrev pub slots_of : Documents → Term → List ℕ
slots_of index q = map (λ e. e.component) (terms index q.component)

-- those that the terms meet, one after another
abbrev pub met : Documents → List Term → List ℕ
met index [] = []
met index (q ∷ qs) = slots_of index q ++ met index qs

abbrev pub none : Float
none = fin false 0 (pos 0)

-- scores that are all +0
abbrev pub Clear : List Float → Type 0
Clear xs = xs ≡ replicate (length xs) none

-- ---- the best of the slots met
abbrev pub best : ℕ → Float → Best
best s x = record { slot = record { 0 = s }; score = x }

-- the best so far gives way to a greater score by total order, and to the same score at a later slot
abbrev pub gives_way : Best → ℕ → Float → Bool
gives_way b s x = at_most b.score x && (ltb b.slot.0 s || not (at_most x b.score))

abbrev pub if_better : Best → ℕ → Float → Best
if_better b s x = cond (gives_way b s x) (best s x) b

-- a slot past the scores is passed over
abbrev pub better : List Float → Best → ℕ → Best
better xs b s = cond (ltb s (length xs)) (if_better b s (get_or xs s nan)) b

abbrev pub best_met : Documents → List Float → List Term → Best
best_met index xs qs = foldl (better xs) (best 0 none) (met index qs)

-- ---- one past the last of the first n slots whose score is at least +0; 0 where there is none
abbrev pub from_zero : List Float → ℕ → ℕ
from_zero xs zero = zero
from_zero xs (suc n) = cond (at_most none (get_or xs n nan)) (suc n) (from_zero xs n)

-- the slot before a place, of which there is none before the first
abbrev pub last_before : ℕ → Option CentroidSlot
last_before zero = None
last_before (suc n) = Some (record { 0 = n })

-- ---- the centroid that is chosen
-- by the place of the last slot from +0 on; where there is none, by all slots
abbrev pub none_above : ℕ → List ℕ → List Float → ℕ → ℕ
none_above first cs xs past = cond (eqb past 0) (last_no_less first cs xs) (get_or cs (past - 1) 0)

unfoldable pub chosen : ℕ → List ℕ → Documents → List Float → List Term → ℕ
chosen first cs index xs qs =
    let b = best_met index xs qs in
    cond (at_most b.score none) (none_above first cs xs (from_zero xs (length xs))) (get_or cs b.slot.0 0)

-- ---- scores set back
abbrev pub clear_at : List Float → ℕ → List Float
clear_at xs s = set xs s none

abbrev pub clear_met : Documents → List Float → List Term → List Float
clear_met index xs qs = foldl clear_at xs (met index qs)

-- ---- by the entries met, or by all scores where the terms meet as many entries
abbrev pub meet_many : Documents → List Float → List Term → Bool
meet_many index xs qs = leb (length xs) (length (met index qs))

abbrev pub chosen_by : ℕ → List ℕ → Documents → List Float → List Term → ℕ
chosen_by first cs index xs qs = cond (meet_many index xs qs) (last_no_less first cs xs) (chosen first cs index xs qs)

abbrev pub set_back : Documents → List Float → List Term → List Float
set_back index xs qs = cond (meet_many index xs qs) (replicate (length xs) none) (clear_met index xs qs)

-- only the slots of centroids that compete count
abbrev pub added : List ℕ → Documents → List Float → List Term → List Float
added cs index xs qs = add_terms index (take (length cs) xs) qs

unfoldable pub nearest_by_keys : ℕ → List ℕ → Documents → List Float → List Term → ℕ
nearest_by_keys first cs index xs qs = chosen_by first cs index (added cs index xs qs) qs

unfoldable pub scores_after : List ℕ → Documents → List Float → List Term → List Float
scores_after cs index xs qs = set_back index (added cs index xs qs) qs ++ drop (length cs) xs
