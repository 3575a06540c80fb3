-- What a search shows to C: four numbers of its answer, and the lent memory as it then lies; how many are kept stands there.
use Rattle.std.specs.Prelude.{ℕ, cond, List, eqb, Float}
use Rattle.search_probe.specs.declared.Answer.{Answer}
use Rattle.search_probe.specs.Probed.{Lends, in_numbers}
use Rattle.search.specs.Searched.{Question, Searched, SearchedInOrder, searched, searched_in_order}

pub record Shown : Type 0 where
  pub number : ℕ
  pub position : ℕ
  pub evaluated : ℕ
  pub skipped : ℕ
  pub lent : Lends
  pub block_scores : List Float
  pub block_order : List ℕ

abbrev pub shown : ℕ → ℕ → ℕ → ℕ → Lends → List Float → List ℕ → Shown
shown n p e s l xs bs = record { number = n; position = p; evaluated = e; skipped = s; lent = l; block_scores = xs; block_order = bs }

abbrev pub of_answer : Answer → Lends → List Float → List ℕ → Shown
of_answer a l xs bs = shown (in_numbers a).number (in_numbers a).position (in_numbers a).evaluated (in_numbers a).skipped l xs bs

-- in number order the order places are not looked at
abbrev pub plain : Searched → List ℕ → Shown
plain s bs = of_answer s.found.answer s.found.lent s.block_scores bs

abbrev pub sorted : SearchedInOrder → Shown
sorted s = of_answer s.found.answer s.found.lent s.block_scores s.block_order

-- the choice of the order: 0 for number order, 1 for greater score first; any other number does as 1, and is reserved
unfoldable pub seen : ℕ → Question → Lends → List Float → List ℕ → Shown
seen by_score q l xs bs = cond (eqb by_score 0) (plain (searched q l xs) bs) (sorted (searched_in_order q l xs bs))
