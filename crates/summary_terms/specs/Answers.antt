-- What summarizing a block's terms answers, and what it leaves in the lent buffers.
use Rattle.std.specs.Prelude.{ℕ, min, ◌≡◌, false, length, drop, set, replicate, pos, Float}
use mathlib.Core.List.{List, ◌++◌, map, foldl}
use Rattle.std.specs.Float.{fin}
use Rattle.documents.specs.Documents.{Term, falling}
use Rattle.documents.specs.TermKeys.{term_key}
use Rattle.configuration.specs.declared.SummarizationStrategy.{SummarizationStrategy}
use Rattle.summary_terms.specs.Summaries.{maxima, summary_of}

-- components from here on are left out: those that find no place in a buffer, and those from the dimension on
abbrev pub limit_of : ℕ → ℕ → ℕ → ℕ → ℕ
limit_of dimension keys places maxima = min (min dimension keys) (min places maxima)

abbrev pub zero : Float
zero = fin false 0 (pos 0)

-- what summarizing terms answers and leaves: r, and the three buffers afterwards
pub record Summarizes (strategy : SummarizationStrategy) (ts : List Term) (keys places : List ℕ) (maxs : List Float) (r : ℕ) (keys' places' : List ℕ) (maxs' : List Float) : Type 0 where
  -- how many terms the summary keeps
  pub answer : r ≡ length (summary_of strategy ts)
  -- the keys of the terms, each component once with its maximum, the greatest first; then what was there
  pub keys_left : keys' ≡ map term_key (falling (maxima ts)) ++ drop (length (maxima ts)) keys
  -- 0 at each component of the terms, and what was there elsewhere
  pub places_left : places' ≡ foldl (λ l t. set l t.component 0) places ts
  -- +0 for each component, from the start on, and then what was there
  pub maxima_left : maxs' ≡ replicate (length (maxima ts)) zero ++ drop (length (maxima ts)) maxs
