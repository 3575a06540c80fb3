-- The layout that is built from the summaries of a list's blocks. Document 01, "Quantizing" and "Sparse layout".
use Rattle.std.specs.Prelude.{ℕ, suc, List, [], ◌∷◌, ◌++◌, map, Float}
use Rattle.sequences.specs.Lists.{joined, offsets_from, keys, groups}
use Rattle.documents.specs.Documents.{Term}
use Rattle.quantizing.specs.Quantizing.{least, step_for, code_of}
use Rattle.sparse_scores.specs.Layout.{Layout}

abbrev pub values : List Term → List Float
values ts = map (λ t. t.value) ts

-- a component of a summary, with the summary's number and the code of its value there
pub record Entry : Type 0 where
  pub component : ℕ
  pub summary : ℕ
  pub code : ℕ

abbrev pub entry : ℕ → ℕ → ℕ → Entry
entry c b k = record { component = c; summary = b; code = k }

-- the entry of a term, where the least value and the step of its summary are given
abbrev pub entry_of : ℕ → Float → Float → Term → Entry
entry_of b low step t = entry t.component b (code_of low step t.value)

abbrev pub entries_of : ℕ → List Term → List Entry
entries_of b ts = map (entry_of b (least (values ts)) (step_for (values ts))) ts

-- summaries numbered from b on
abbrev pub entries_from : ℕ → List (List Term) → List Entry
entries_from b [] = []
entries_from b (s ∷ ss) = entries_of b s ++ entries_from (suc b) ss

-- rising components; the entries of each as they come
abbrev pub gathered : List Entry → List (List Entry)
gathered es = groups (λ e. e.component) es

unfoldable pub layout : List (List Term) → Layout
layout summaries =
    let es = entries_from 0 summaries in
    record {
      summary_components = keys (λ e. e.component) es;
      component_offsets = offsets_from 0 (gathered es);
      summary_ids = map (λ e. e.summary) (joined (gathered es));
      codes = map (λ e. e.code) (joined (gathered es));
      minimums = map (λ s. least (values s)) summaries;
      steps = map (λ s. step_for (values s)) summaries;
    }
