-- A summary as it is read back.
use Rattle.std.specs.Prelude.{ℕ}
use mathlib.Core.List.{List, map, zip_with}
use Rattle.sequences.specs.Lists.{between, joined, with_key}
use Rattle.documents.specs.Documents.{Term, term}
use Rattle.sparse_scores.specs.Layout.{Layout, entries}
use Rattle.sparse_scores.specs.Scores.{value_of}

-- the terms of a summary: each component that has an entry for it, with the value that the entry stands for
unfoldable pub terms_of : Layout → ℕ → List Term
unfolding zip_with
terms_of l s =
    joined (zip_with (λ c es. map (λ e. term c (value_of l s e)) (with_key (λ e. e.summary) s es)) l.summary_components (between l.component_offsets (entries l.summary_ids l.codes)))
