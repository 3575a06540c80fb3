-- The kept list as it lies in lent memory: a length, and the packed numbers and scores side by side.
use Rattle.std.specs.Prelude.{ℕ, suc, min, Bool, ◌&&◌, cond, List, [], ◌∷◌, ◌++◌, map, length, get_or, take, drop, leb, Float}
use Rattle.std.specs.Float.{nan}
use Rattle.kept_list.specs.declared.Scored.{Scored}
use Rattle.kept_list.specs.Keep.{insert_after, keep}
use Rattle.kept_list.specs.Entry.{scored, better}

pub record Lent : Type 0 where
  pub size : ℕ
  pub packed : List ℕ
  pub scores : List Float

abbrev pub lent : ℕ → List ℕ → List Float → Lent
lent n ps xs = record { size = n; packed = ps; scores = xs }

abbrev pub packed_of : Scored → ℕ
packed_of e = e.packed

abbrev pub score_of : Scored → Float
score_of e = e.score

abbrev pub beside : List ℕ → List Float → List Scored
beside [] xs = []
beside (p ∷ ps) [] = []
beside (p ∷ ps) (x ∷ xs) = scored p x ∷ beside ps xs

abbrev pub entry_at : ℕ → List ℕ → List Float → Scored
entry_at i ps xs = scored (get_or ps i 0) (get_or xs i nan)

-- the entries that are kept
abbrev pub entries : Lent → List Scored
entries l = beside (take l.size l.packed) (take l.size l.scores)

-- the entries laid down from the start; what lies past them is unchanged
abbrev pub written : List Scored → Lent → Lent
written es l = lent (length es) (map packed_of es ++ drop (length es) l.packed) (map score_of es ++ drop (length es) l.scores)

-- e among the entries, in a list with room for one more
abbrev pub inserted : Scored → Lent → Lent
inserted e l = written (insert_after better e (entries l)) l

-- both slices have places for n entries
abbrev pub places : ℕ → Lent → Bool
places n l = leb n (length l.packed) && leb n (length l.scores)

-- the entries that there are after a push
abbrev pub after : ℕ → Lent → ℕ
after k l = min (suc l.size) k

-- a push without its refusals: where no more than k are kept and there are places for the result, the entries are those
-- that `keep` gives, and else nothing changes
unfoldable pub settled : ℕ → Scored → Lent → Lent
settled k e l = cond (leb l.size k && places (after k l) l) (written (keep better k e (entries l)) l) l
