-- The score of each summary. Document 01, "Scores".
use Rattle.std.specs.Prelude.{ℕ, min, List, ◌++◌, map, length, get_or, take, drop, Float}
use Rattle.std.specs.Float.{nan, binary32}
use Rattle.std.specs.Float.Ieee.{mul}
use Rattle.sequences.specs.Lists.{joined, from, with_key}
use Rattle.documents.specs.Documents.{Term, sum}
use Rattle.quantizing.specs.Quantizing.{read_back}
use Rattle.sparse_scores.specs.Layout.{Layout, Entry, entries_of}

-- a summary has a minimum and a step
abbrev pub summary_count : Layout → ℕ
summary_count l = min (length l.minimums) (length l.steps)

-- the value that an entry of a summary stands for
abbrev pub value_of : Layout → ℕ → Entry → Float
value_of l s e = read_back (get_or l.minimums s nan) (get_or l.steps s nan) e.code

-- what a query's term adds to a summary's score: (read-back x query value), where the layout has an entry of that component for the summary
abbrev pub added_by : Layout → ℕ → Term → List Float
added_by l s q = map (λ e. mul binary32 (value_of l s e) q.value) (with_key (λ e. e.summary) s (entries_of l q.component))

-- over the query's terms as they come
unfoldable pub score_of : Layout → List Term → ℕ → Float
score_of l query s = sum (joined (map (added_by l s) query))

unfoldable pub scores_of : Layout → List Term → List Float
scores_of l query = map (score_of l query) (from 0 (summary_count l))

-- what a buffer holds when a result was put at its front, as much of it as it takes; past it nothing changes
abbrev pub put_in : {A : Type 0} → List A → List A → List A
put_in result buffer = take (length buffer) result ++ drop (length result) buffer
