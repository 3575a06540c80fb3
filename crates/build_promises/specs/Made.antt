-- What a caller of a build has, from its contract's equation and its answer alone: the built list where it stands, with all that is
-- promised of it; or the refusal, with everything zero.
use Rattle.std.specs.Prelude.{ℕ, suc, ◌<◌, ◌≡◌, true, [], get_or, take, drop, Ok, Err}
use Rattle.refusal.specs.declared.Refusal.{Refusal}
use Rattle.refusal.specs.First.{FirstFault}
use Rattle.sparse_scores.specs.Layout.{arrays}
use Rattle.sparse_scores.specs.WellFormed.{well_formed}
use Rattle.sparse_layout.specs.Near.{StoredNear}
use Rattle.build_meaning.specs.declared.BuiltSizes.{BuiltSizes}
use Rattle.build_meaning.specs.Built.{Input, block_documents, Built, built}
use Rattle.build_meaning.specs.Building.{Outputs, outputs, Lent, tests, verdict_of, cleared_output, cleared_scratch, sizes_built}
use Rattle.build_promises.specs.Greatest.{Greatest}
use Rattle.build_promises.specs.Shared.{SharedBy}
use Rattle.build_promises.specs.Near.{summary_at}

-- the list that stands in front of the output buffers, by the sizes that the answer gives
abbrev pub standing : BuiltSizes → Outputs → Built
standing n o = record {
  postings = take n.postings o.postings;
  block_offsets = take n.block_offsets o.block_offsets;
  summaries = arrays (take n.summary_components o.summary_components) (take (suc n.summary_components) o.component_offsets)
      (take n.entries o.summary_ids) (take n.entries o.codes)
      (take n.summaries o.minimums) (take n.summaries o.steps);
}

-- and what lies past it
abbrev pub past : BuiltSizes → Outputs → Outputs
past n o =
    outputs (drop n.postings o.postings) (drop n.block_offsets o.block_offsets) (drop n.summary_components o.summary_components)
    (drop (suc n.summary_components) o.component_offsets)
    (drop n.entries o.summary_ids) (drop n.entries o.codes) (drop n.summaries o.minimums) (drop n.summaries o.steps)

-- a list was built: `lent` is what was lent at entry, and `after` what lies there at exit
pub record Made (g : Input) (lent : Lent) (sizes : BuiltSizes) (after : Lent) : Type 0 where
  pub accepted : verdict_of g lent ≡ Ok tt
  pub sizes_are : sizes ≡ sizes_built (built g)
  -- the result stands in front of its buffers; past it nothing changed, and scratch is zero
  pub list : standing sizes after.output ≡ built g
  pub unchanged : past sizes after.output ≡ past sizes lent.output
  pub scratch : after.scratch ≡ cleared_scratch lent.scratch
  -- the blocks share out the list, and each block's summary keeps the greatest of its maxima
  pub shared : SharedBy g.blocking g
  pub greatest : (b : ℕ) → Greatest g (get_or (block_documents g) b []) (summary_at g b)
  -- a search does not refuse the list for 9
  pub well_formed : well_formed sizes.postings (standing sizes after.output).block_offsets (standing sizes after.output).summaries ≡ true
  -- and reads each block's summary near to what was summarized
  pub near : (b : ℕ) → b < sizes.summaries → StoredNear (standing sizes after.output).summaries b (summary_at g b)

-- a build was refused: for the first of its tests that finds a fault, and all that was lent is zero
pub record Unmade (g : Input) (lent : Lent) (reason : Refusal) (after : Lent) : Type 0 where
  pub refused : verdict_of g lent ≡ Err reason
  pub first : FirstFault (tests g lent) reason
  pub output : after.output ≡ cleared_output lent.output
  pub scratch : after.scratch ≡ cleared_scratch lent.scratch
