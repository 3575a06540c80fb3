-- What a search reads of a built list: each block's summary, near to what was summarized. Demand 3, of stored codes.
use Rattle.std.specs.Prelude.{ℕ, ◌<◌, ◌≡◌, get_or, Ok}
use native.Mathlib.Omega.{arith}
use Rattle.std.proofs.Math.Path.{subst}
use mathlib.Core.List.{List, []}
use Rattle.std.proofs.Math.ListN.{length, length-map}
use Rattle.sequences.specs.Laws.Lists.{map_at}
use Rattle.sequences.specs.Laws.Each.{each_at}
use Rattle.documents.specs.Documents.{Term}
use Rattle.quantizing.specs.Demand3.{F32s}
use Rattle.quantizing.specs.Quantizing.{least}
use Rattle.summary_terms.specs.Summaries.{summary}
use Rattle.sparse_layout.specs.Layouts.{values, layout}
use Rattle.sparse_layout.specs.Passes.{Storable}
use Rattle.sparse_layout.specs.Near.{StoredNear}
use Rattle.sparse_layout.specs.Laws.Near.{stored-near}
use Rattle.build_meaning.specs.Built.{Input, block_documents, summaries, built}
use Rattle.build_meaning.specs.Building.{Lent, verdict_of}
use Rattle.build_meaning.specs.Promises.{storable}

-- the summary of the block with a number
abbrev pub summary_at : Input → ℕ → List Term
summary_at g b = summary g.summarization g.documents (get_or (block_documents g) b [])

-- a slice of u32 and one of f32 hold nothing else
module _ (g : Input) (lent : Lent) (narrow : (k : ℕ) → get_or g.documents.components k 0 < 4294967296) (fs : F32s g.documents.values) (accepted : verdict_of g lent ≡ Ok tt) where
  -- every summary of the list
  pub built-near : (b : ℕ) → b < length (built g).summaries.minimums → StoredNear (built g).summaries b (summary_at g b)
  unfolding built layout summaries
  built-near b h =
      let m = length-map (summaries g) (λ s. least (values s)) in
      let n = length-map (block_documents g) (summary g.summarization g.documents) in
      let below : b < length (summaries g) = omega arith in
      subst (StoredNear (layout (summaries g)) b) (map_at (summary g.summarization g.documents) (block_documents g) b [] [] (omega arith))
      (stored-near (summaries g) b (each_at Storable (summaries g) b [] below (storable g lent narrow fs accepted)))
