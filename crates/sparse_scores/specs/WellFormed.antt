-- What refusal 9 asks of a list to be searched. Document 01, "Numbers" and "Numbered refusals".
use Rattle.std.specs.Prelude.{ℕ, suc, Bool, ◌&&◌, ◌||◌, List, length, leb, ltb, eqb, Float}
use Rattle.sequences.specs.Lists.{every, first_or, last_or, between, never_falls, strictly_rise}
use Rattle.blocking.specs.Limits.{list_limit, block_limit}
use Rattle.quantizing.specs.Quantizing.{minimum_allowed, step_allowed}
use Rattle.sparse_scores.specs.Layout.{Layout}

-- one block offset more than blocks, never falling, the last one not past the postings; none is looked at when there are no summaries
unfoldable pub blocks_hold : ℕ → ℕ → List ℕ → Bool
blocks_hold postings blocks os = eqb blocks 0 || (eqb (length os) (suc blocks) && (never_falls os && leb (last_or 0 os) postings))

-- arrays that belong together are equally long; there is one component offset more than components
unfoldable pub lengths_hold : Layout → Bool
lengths_hold l = eqb (length l.component_offsets) (suc (length l.summary_components)) && (eqb (length l.summary_ids) (length l.codes) && eqb (length l.minimums) (length l.steps))

-- component offsets start at 0, never fall and end at the entry count
unfoldable pub offsets_hold : List ℕ → ℕ → Bool
offsets_hold os count = eqb (first_or 1 os) 0 && (never_falls os && eqb (last_or 0 os) count)

-- summary ids are below the summary count, and strictly rise within a component
unfoldable pub ids_hold : ℕ → List ℕ → List ℕ → Bool
ids_hold summaries os ids = every (λ i. ltb i summaries) ids && every strictly_rise (between os ids)

unfoldable pub bounds_hold : List Float → List Float → Bool
bounds_hold minimums steps = every minimum_allowed minimums && every step_allowed steps

unfoldable pub well_formed : ℕ → List ℕ → Layout → Bool
well_formed postings block_offsets l =
    (leb (length l.minimums) block_limit && leb postings list_limit)
    && (blocks_hold postings (length l.minimums) block_offsets
    && (lengths_hold l
    && (strictly_rise l.summary_components
    && (offsets_hold l.component_offsets (length l.summary_ids)
    && (ids_hold (length l.minimums) l.component_offsets l.summary_ids
    && bounds_hold l.minimums l.steps)))))
