-- Blocks made or refused, and then the end of a build: together that is the build.
use Rattle.std.specs.Prelude.{Result, Ok, Err}
use Rattle.build_meaning.specs.declared.BuiltSizes.{BuiltSizes}
use Rattle.refusal.specs.declared.Refusal.{Refusal}
use Prim.Native.Nat.{ℕ, ◌<◌}
use mathlib.Core.Path.{◌≡◌, refl, sym, ap, ◌∙◌}
use mathlib.Core.List.{List}
use lib.ListN.{length, get_or}
use lib.Dec.{T}
use lib.Ieee.{Float, nan, binary32, fits}
use Rattle.clearing.specs.Laws.Zeros.{zeros-twice}
use Rattle.build_meaning.specs.Built.{Input, Blocked, blocked_by}
use Rattle.build_meaning.specs.Building.{Outputs, Scratches, scratches, lent, zeros, cleared_output, cleared_scratch, leaves, builds}
use Rattle.build_ready.specs.Made as blocking
use Rattle.build_layout.specs.Laid as layout
use Rattle.build_result.specs.Finished.{finished, finished_by, slots_by}
use Rattle.build_whole.specs.Laws.Whole.{makes, refused-so, written-so}

-- making blocks leaves the slots zero
slots-are : (b : Result ℕ Refusal) (s1 : Scratches) (v : Result (Unit {0}) Refusal) (m : Blocked) (s : Scratches) → blocking.left b s1 ≡ blocking.left_by v m s → s1.slots ≡ zeros s.slots
unfolding cleared_scratch
slots-are b s1 (Ok _) m s e = ap (λ l. l.scratch.slots) e
slots-are b s1 (Err r) m s e = ap (λ l. l.scratch.slots) e

module _ (g : Input) (s : Scratches) (b : Result ℕ Refusal) (s1 : Scratches) (e : blocking.left b s1 ≡ blocking.left_by (makes g s) (blocked_by g.blocking g.documents g.centroids g.ids) s)
    (narrow : (k : ℕ) → get_or g.documents.components k 0 < 4294967296) (fit : (k : ℕ) → T (fits binary32 (get_or g.documents.values k nan))) (o : Outputs) where
  pub built-so : (r : Result BuiltSizes Refusal) (o' : Outputs) (order' blocks' counts' starts' slots' keys' : List ℕ) (sums' : List Float)
      → finished (layout.left r o' keys' counts' sums' starts') order' blocks' ≡ finished_by b g.dimension g.summarization g.documents (length g.ids) o s1.order s1.blocks s1.keys s1.counts s1.sums s1.starts
      → slots' ≡ slots_by b s1.slots → length s1.order ≡ length s.order → length s1.blocks ≡ length s.blocks
      → leaves r (lent o' (scratches order' blocks' s1.sorted s1.known s1.taken counts' starts' slots' s1.weights sums' keys')) ≡ builds g (lent o s)
  built-so r o' order' blocks' counts' starts' slots' keys' sums' f q lo lb = go b refl f q
    where
      still : zeros s1.slots ≡ s1.slots
      still = let p = slots-are b s1 (makes g s) (blocked_by g.blocking g.documents g.centroids g.ids) s e in ap zeros p ∙ zeros-twice s.slots ∙ sym p

      go : (z : Result ℕ Refusal) → b ≡ z
          → finished (layout.left r o' keys' counts' sums' starts') order' blocks' ≡ finished_by z g.dimension g.summarization g.documents (length g.ids) o s1.order s1.blocks s1.keys s1.counts s1.sums s1.starts
          → slots' ≡ slots_by z s1.slots
          → leaves r (lent o' (scratches order' blocks' s1.sorted s1.known s1.taken counts' starts' slots' s1.weights sums' keys')) ≡ builds g (lent o s)
      go (Err x) w f q =
          (λ j. leaves (f j).written.answer (lent (f j).written.output (scratches (f j).order (f j).blocks s1.sorted s1.known s1.taken (f j).written.places (f j).written.entry_counts (q j) s1.weights (f j).written.maxima (f j).written.keys)))
          ∙ refused-so g s b s1 e x o (cleared_output o) w refl
      go (Ok n) w f q =
          ap (λ z. leaves r (lent o' (scratches order' blocks' s1.sorted s1.known s1.taken counts' starts' z s1.weights sums' keys'))) (q ∙ still)
          ∙ written-so g s b s1 e n w narrow fit o r o' order' blocks' counts' starts' keys' sums' (ap (λ f. f.written) f) (ap (λ f. f.order) f) lo (ap (λ f. f.blocks) f) lb
