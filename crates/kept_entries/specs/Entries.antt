-- The kept list as a list of entries, and the two slices that it stands for.
use Rattle.std.specs.Prelude.{ℕ, Bool, ◌&&◌, ◌||◌, List, map, leb, ltb, eqb}
use Rattle.std.specs.Float.{nan}
use Rattle.kept_list.specs.declared.Scored.{Scored}
use Rattle.kept_list.specs.Entry.{scored, better}
use Rattle.kept_list.specs.Lent.{Lent, lent, packed_of, score_of}

-- what stands where there is no entry
abbrev pub no_entry : Scored
no_entry = scored 0 nan

-- a slice of entries as the two slices side by side
abbrev pub as_lent : ℕ → List Scored → Lent
as_lent n es = lent n (map packed_of es) (map score_of es)

-- whether e comes into a list of n entries with so much room: below k where there is a place for it, at k where it is better than the worst
abbrev pub goes_in : ℕ → ℕ → ℕ → Scored → Scored → Bool
goes_in k n room worst e = (ltb n k && ltb n room) || (((eqb n k && leb k room) && ltb 0 k) && better e worst)
