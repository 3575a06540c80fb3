-- The same scores, by a walk of the entries of each query component: what the loops do to the lent scores.
use Rattle.std.specs.Prelude.{ℕ, suc, ◌≡◌, cond, List, [], ◌∷◌, get_or, set, ltb, eqb, Float}
use Rattle.std.proofs.Math.Seq.{slice}
use Rattle.std.specs.Float.{nan, binary32}
use Rattle.std.specs.Float.Ieee.{add, mul}
use Rattle.sequences.specs.Lists.{between}
use Rattle.quantizing.specs.Quantizing.{read_back}
use Rattle.sparse_scores.specs.Layout.{Entry}

-- where the scores of n summaries lie, with the minimums and the steps
module _ (n : ℕ) (minimums steps : List Float) where
  -- an entry's value times the query's, added to the score of its summary
  unfoldable pub grown : Float → Entry → List Float → List Float
  grown value e scores =
      cond (ltb e.summary n)
      (set scores e.summary (add binary32 (get_or scores e.summary nan) (mul binary32 (read_back (get_or minimums e.summary nan) (get_or steps e.summary nan) e.code) value)))
      scores

  unfoldable pub grown_by : Float → List Entry → List Float → List Float
  grown_by value [] scores = scores
  grown_by value (e ∷ es) scores = grown_by value es (grown value e scores)

-- a range holds the entries of the component c, if it stands at a place; else it is empty
abbrev pub Spans : List ℕ → List ℕ → ℕ → ℕ → ℕ → ℕ → Type 0
Spans components offsets place c start end = (es : List Entry) → slice start end es ≡ cond (eqb (get_or components place (suc c)) c) (get_or (between offsets es) place []) []
