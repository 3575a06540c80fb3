-- What a build promises, over the definitions alone: each summary can be stored, and a built list is never refused for 9. Blocks share out
-- the list by Laws/Shares.
use Rattle.std.specs.Prelude.{ℕ, ◌≤◌, ◌<◌, ◌≡◌, true, length, get_or, Ok}
use Rattle.std.proofs.Common.{arith, sym}
use Rattle.std.proofs.Math.Path.{subst}
use Rattle.std.proofs.lemmas.List.{length-map}
use borrow.Author.Tests.{ltb-false, not-false}
use Rattle.refusal.specs.First.{Faultless}
use Rattle.refusal.specs.Laws.First.{faultless, faultless-both}
use Rattle.sequences.specs.Lists.{EachOf}
use Rattle.sequences.specs.Laws.Lists.{or_left, every_front}
use Rattle.blocking.specs.Limits.{list_limit, block_limit}
use Rattle.documents.specs.Documents.{packed}
use Rattle.documents.specs.Checks.{documents_hold, terms_hold_below}
use Rattle.documents.specs.Documents.{terms}
use Rattle.quantizing.specs.Demand3.{F32s}
use Rattle.sparse_scores.specs.WellFormed.{well_formed}
use Rattle.sparse_layout.specs.Layouts.{layout}
use Rattle.sparse_layout.specs.Passes.{Storable}
use Rattle.sparse_layout.specs.Laws.Passes.{built-passes}
use Rattle.build_admission.specs.Admission.{centroids_used, input_tests}
use Rattle.build_meaning.specs.Built.{Input, blocks, summaries, built}
use Rattle.build_meaning.specs.Building.{Lent, room_tests, tests, verdict_of}
use Rattle.build_meaning.specs.Laws.Offsets.{blocks-hold, as_many, few-blocks}
use Rattle.build_meaning.specs.Laws.Stored.{summaries-storable}

-- a slice of u32 and one of f32 hold nothing else
module _ (g : Input) (lent : Lent) (narrow : (k : ℕ) → get_or g.documents.components k 0 < 4294967296) (fs : F32s g.documents.values) (accepted : verdict_of g lent ≡ Ok tt) where
  found : Faultless (input_tests g.dimension g.blocking g.documents g.ids g.centroids) × Faultless (room_tests g lent)
  unfolding verdict_of tests
  found = faultless-both (input_tests g.dimension g.blocking g.documents g.ids g.centroids) (room_tests g lent) (faultless (tests g lent) accepted)

  short : length g.ids ≤ list_limit
  unfolding input_tests
  short = ltb-false list_limit (length g.ids) (or_left _ _ found.0.0)

  hold : documents_hold g.dimension g.documents g.ids ≡ true
  unfolding input_tests documents_hold
  hold = every_front (λ i. terms_hold_below g.dimension (terms g.documents i)) g.ids (centroids_used g.blocking g.centroids) (not-false _ found.0.1.1.0)

  few : length (summaries g) ≤ block_limit
  unfolding input_tests
  few = few-blocks g found.0.1.1.1.1.1

  -- each summary can be stored
  pub storable : EachOf Storable (summaries g)
  storable = summaries-storable g narrow fs hold (not-false _ found.1.1.0)

  -- refusal 9 finds nothing in a built list
  pub built-well-formed : well_formed (length (built g).postings) (built g).block_offsets (built g).summaries ≡ true
  unfolding built
  built-well-formed =
      subst (λ n. well_formed n (blocks g).block_offsets (layout (summaries g)) ≡ true) (sym (length-map (blocks g).documents (packed g.documents)))
      (built-passes (summaries g) storable (length (blocks g).documents) (blocks g).block_offsets few (let e = as_many g in let s = short in omega arith) (blocks-hold g))
