-- The whole of making: what the verdict says of the parts, and what they leave together.
use Rattle.std.specs.Prelude.{Result, Ok, Err}
use Prim.Native.Nat.{ℕ, suc, ◌/◌, ◌≤◌, ◌<◌, ◌^◌}
use native.Mathlib.Omega.{arith}
use native.Mathlib.Nat.{div-le_self}
use mathlib.Core.Path.{◌≡◌, refl, sym, ap, ◌∙◌, subst}
use mathlib.Core.Bool.{true, false, not}
use mathlib.Core.List.{List, [], ◌∷◌, ◌++◌, map}
use lib.ListN.{length, length-append, length-map, length-replicate}
use lib.IntN.{pos}
use lib.Dec.{leb}
use lib.Ieee.{Float, fin}
use borrow.Author.Tests.{leb-true, lt-leb, not-false}
use Rattle.refusal.specs.declared.Refusal.{Refusal}
use Rattle.refusal.specs.declared.Refusal.TheVariants.{BufferTooShort}
use Rattle.refusal.specs.First.{◌gives◌, first_of, Faultless}
use Rattle.refusal.specs.Laws.First.{faultless, faultless-both, accepted-by}
use Rattle.configuration.specs.declared.BlockingStrategy.{BlockingStrategy}
use Rattle.configuration.specs.declared.BlockingStrategy.TheVariants.{FixedSize, RandomKmeans}
use Rattle.configuration.specs.declared.ClusteringAlgorithm.{ClusteringAlgorithm}
use Rattle.configuration.specs.declared.SummarizationStrategy.TheVariants as summarization
use Rattle.clearing.specs.Laws.Zeros.{zeros-twice, float-zeros-twice}
use Rattle.scratch.specs.declared.ScratchLengths.{ScratchLengths}
use Rattle.scratch.specs.Scratches.{Scratches, scratches, scratch_lengths, cleared_scratch}
use Rattle.sequences.specs.Lists.{every, joined}
use Rattle.sequences.specs.Laws.Lists.{both, or_left, every_append as every-both}
use Rattle.blocking.specs.Limits.{centroid_limit}
use Rattle.documents.specs.Documents.{Documents, terms}
use Rattle.documents.specs.Checks.{terms_hold_below, documents_hold}
use Rattle.cluster_index.specs.Index.{entry, entries_from}
use Rattle.blocking.specs.Blocking.{blocking_tests, fixed_offsets}
use Rattle.build_admission.specs.Admission.{centroids_used, blocking_faults, input_tests}
use Rattle.cluster_meaning.specs.Clusters.{assigned_by, clusters}
use Rattle.clustering.specs.Laws.Enough.{enough}
use Rattle.build_meaning.specs.Built.{Blocked, input, in_clusters, blocked_by}
use Rattle.build_meaning.specs.Needs.{sizes, sizes_for, scratch_needs, scratch_suffices}
use Rattle.build_meaning.specs.Building.{laid}
use Rattle.build_meaning.specs.Laws.Offsets.{right-count}
use Rattle.build_ready.specs.Made.{make_tests, left, holding, left_by}
use Rattle.build_blocks.specs.Fits.{CutFits, GroupFits}

-- ---- each buffer is as long as it must be
pub record Fits (x l : ScratchLengths) : Type 0 where
  pub order : x.order ≤ l.order
  pub blocks : x.blocks ≤ l.blocks
  pub sorted : x.sorted ≤ l.sorted
  pub known : x.known ≤ l.known
  pub taken : x.taken ≤ l.taken
  pub counts : x.counts ≤ l.counts
  pub starts : x.starts ≤ l.starts
  pub slots : x.slots ≤ l.slots
  pub weights : x.weights ≤ l.weights
  pub sums : x.sums ≤ l.sums
  pub keys : x.keys ≤ l.keys

fits-of : (x l : ScratchLengths) → scratch_suffices x l ≡ true → Fits x l
fits-of x l h =
    let f0 = both (leb x.order l.order) _ h in
    let f1 = both (leb x.blocks l.blocks) _ f0.1 in
    let f2 = both (leb x.sorted l.sorted) _ f1.1 in
    let f3 = both (leb x.known l.known) _ f2.1 in
    let f4 = both (leb x.taken l.taken) _ f3.1 in
    let f5 = both (leb x.counts l.counts) _ f4.1 in
    let f6 = both (leb x.starts l.starts) _ f5.1 in
    let f7 = both (leb x.slots l.slots) _ f6.1 in
    let f8 = both (leb x.weights l.weights) _ f7.1 in
    let f9 = both (leb x.sums l.sums) _ f8.1 in
    record {
      order = leb-true x.order l.order f0.0;
      blocks = leb-true x.blocks l.blocks f1.0;
      sorted = leb-true x.sorted l.sorted f2.0;
      known = leb-true x.known l.known f3.0;
      taken = leb-true x.taken l.taken f4.0;
      counts = leb-true x.counts l.counts f5.0;
      starts = leb-true x.starts l.starts f6.0;
      slots = leb-true x.slots l.slots f7.0;
      weights = leb-true x.weights l.weights f8.0;
      sums = leb-true x.sums l.sums f9.0;
      keys = leb-true x.keys l.keys f9.1;
    }

-- ---- scratch that is zero stays as long as it is
cleared-twice : (s : Scratches) → cleared_scratch (cleared_scratch s) ≡ cleared_scratch s
unfolding cleared_scratch
cleared-twice s = λ j. scratches (zeros-twice s.order j) (zeros-twice s.blocks j) (zeros-twice s.sorted j) (zeros-twice s.known j) (zeros-twice s.taken j) (zeros-twice s.counts j) (zeros-twice s.starts j) (zeros-twice s.slots j) (float-zeros-twice s.weights j) (float-zeros-twice s.sums j) (zeros-twice s.keys j)

cleared-lengths : (s : Scratches) → scratch_lengths (cleared_scratch s) ≡ scratch_lengths s
unfolding cleared_scratch scratch_lengths
cleared-lengths s = λ j. record {
  order = length-replicate {A = ℕ} (length s.order) 0 j;
  blocks = length-replicate {A = ℕ} (length s.blocks) 0 j;
  sorted = length-replicate {A = ℕ} (length s.sorted) 0 j;
  known = length-replicate {A = ℕ} (length s.known) 0 j;
  taken = length-replicate {A = ℕ} (length s.taken) 0 j;
  counts = length-replicate {A = ℕ} (length s.counts) 0 j;
  starts = length-replicate {A = ℕ} (length s.starts) 0 j;
  slots = length-replicate {A = ℕ} (length s.slots) 0 j;
  weights = length-replicate (length s.weights) (fin false 0 (pos 0)) j;
  sums = length-replicate (length s.sums) (fin false 0 (pos 0)) j;
  keys = length-replicate {A = ℕ} (length s.keys) 0 j;
}

-- ---- the parts of the tests
entry-count : (d : Documents) (i : ℕ) (cs : List ℕ) → length (entries_from d i cs) ≡ length (joined (map (terms d) cs))
entry-count d i [] = refl
entry-count d i (c ∷ cs) =
    length-append (map (entry i) (terms d c)) (entries_from d (suc i) cs) ∙ (let a = length-map (terms d c) (entry i) in let b = entry-count d (suc i) cs in let e = length-append (terms d c) (joined (map (terms d) cs)) in omega arith)

-- ---- the verdict over the lent buffers
module _ (dimension : ℕ) (k : BlockingStrategy) (d : Documents) (ids centroids : List ℕ) (s : Scratches) (v : Result (Unit {0}) Refusal) (judged : v ≡ first_of (make_tests dimension k d ids centroids s)) where
  pub refused-made : (z : Scratches) (r : Refusal) → v ≡ Err r → z ≡ cleared_scratch s → left (Err r) z ≡ left_by (first_of (make_tests dimension k d ids centroids s)) (blocked_by k d centroids ids) s
  refused-made z r h c = ap (left (Err r)) c ∙ ap (λ w. left_by w (blocked_by k d centroids ids) s) (sym h ∙ judged)

  module _ (h : v ≡ Ok tt) where
    faults : Faultless (input_tests dimension k d ids centroids) × Faultless ((not (scratch_suffices (scratch_needs (sizes_for dimension k d ids centroids)) (scratch_lengths s)) gives BufferTooShort) ∷ [])
    faults = faultless-both (input_tests dimension k d ids centroids) _ (faultless (make_tests dimension k d ids centroids s) (sym judged ∙ h))

    room : scratch_suffices (scratch_needs (sizes_for dimension k d ids centroids)) (scratch_lengths s) ≡ true
    room = not-false _ faults.1.0

    room_for : Fits (scratch_needs (sizes_for dimension k d ids centroids)) (scratch_lengths s)
    room_for = fits-of (scratch_needs (sizes_for dimension k d ids centroids)) (scratch_lengths s) room

    accepted-as : (r : Result ℕ Refusal) (z : Scratches) → left r z ≡ left_by (Ok tt) (blocked_by k d centroids ids) s → left r z ≡ left_by (first_of (make_tests dimension k d ids centroids s)) (blocked_by k d centroids ids) s
    accepted-as r z w = w ∙ ap (λ w. left_by w (blocked_by k d centroids ids) s) (sym h ∙ judged)

    module _ (z : Scratches) (c : z ≡ cleared_scratch s) where
      as_long : scratch_lengths z ≡ scratch_lengths s
      as_long = ap scratch_lengths c ∙ cleared-lengths s

      -- fixed blocking
      module _ (size : ℕ) (q : k ≡ FixedSize size) where
        pub cut_fits : CutFits size (length ids) (length z.order) (length z.blocks)
        unfolding input_tests scratch_lengths
        cut_fits =
            let b = subst (λ k. Faultless (blocking_faults k (length ids) (length centroids))) q faults.0.1.1.1.1.1 in
            let o : length z.order ≡ length s.order = ap (λ l. l.order) as_long in
            let w : length z.blocks ≡ length s.blocks = ap (λ l. l.blocks) as_long in
            let i = div-le_self (length ids) size in
            record {
              accepted = accepted-by (blocking_tests (length ids) size (length z.blocks)) (or_left _ _ faults.0.0, (b.0, (b.1.0, (lt-leb (length z.blocks) (length ids / size) (omega (arith, room_for.blocks)), tt))));
              listed = omega (arith, room_for.order);
            }

        pub cut-made : (count : ℕ) (order blocks : List ℕ) → count ≡ length (fixed_offsets (length ids) size) → order ≡ laid ids z.order → blocks ≡ laid (fixed_offsets (length ids) size) z.blocks
            → left (Ok count) (scratches order blocks z.sorted z.known z.taken z.counts z.starts z.slots z.weights z.sums z.keys) ≡ left_by (first_of (make_tests dimension k d ids centroids s)) (blocked_by k d centroids ids) s
        cut-made count order blocks e o b =
            accepted-as (Ok count) (scratches order blocks z.sorted z.known z.taken z.counts z.starts z.slots z.weights z.sums z.keys)
            ((λ j. left (Ok (e j)) (scratches ((o ∙ ap (λ z. laid ids z.order) c) j) ((b ∙ ap (λ z. laid (fixed_offsets (length ids) size) z.blocks) c) j) (c j).sorted (c j).known (c j).taken (c j).counts (c j).starts (c j).slots (c j).weights (c j).sums (c j).keys))
            ∙ ap (λ k. left_by (Ok tt) (blocked_by k d centroids ids) s) (sym q))

      -- clusters
      module _ (fraction : Float) (minimum : ℕ) (algorithm : ClusteringAlgorithm) (q : k ≡ RandomKmeans fraction minimum algorithm) where
        used : centroids_used k centroids ≡ centroids
        used = ap (λ k. centroids_used k centroids) q

        fits_in : Fits (scratch_needs (sizes (length ids) (length centroids) (length (joined (map (terms d) centroids))) dimension)) (scratch_lengths z)
        fits_in = subst (λ u. Fits (scratch_needs (sizes (length ids) (length u) (length (joined (map (terms d) u))) dimension)) (scratch_lengths z)) used (subst (Fits (scratch_needs (sizes_for dimension k d ids centroids))) (sym as_long) room_for)

        terms-hold : (documents_hold dimension d ids ≡ true) × (documents_hold dimension d centroids ≡ true)
        unfolding input_tests documents_hold
        terms-hold =
            both (documents_hold dimension d ids) (documents_hold dimension d centroids)
            (sym (every-both (λ i. terms_hold_below dimension (terms d i)) ids centroids) ∙ ap (λ l. every (λ i. terms_hold_below dimension (terms d i)) (ids ++ l)) (sym used) ∙ not-false _ faults.0.1.1.0)

        right : (length ids ≡ 0 → ⊥) → (0 < length centroids) × (length centroids ≤ centroid_limit) × (length centroids ≤ length ids)
        unfolding input_tests
        right some = right-count (input dimension k (summarization.FixedSize 0) d ids centroids) fraction (length ids) (length centroids) (subst (λ k. Faultless (blocking_faults k (length ids) (length centroids))) q faults.0.1.1.1.1.1).0 some

        -- no slice is as long as 2^64
        module _ (few : length ids < 2 ^ 64) (short : length s.slots < 2 ^ 64) where
          pub group-fits : GroupFits z d ids centroids
          unfolding scratch_lengths
          group-fits =
              record {
                cleared = c ∙ sym (ap cleared_scratch c ∙ cleared-twice s);
                some = λ some. (right some).0;
                enough = λ some. let r = right some in
                    let f = fits_in in
                    let t = entry-count d 0 centroids in
                    let l : length z.slots ≡ length s.slots = ap (λ l. l.slots) as_long in
                    enough dimension d ids centroids z terms-hold.0 terms-hold.1 (λ _. r.0) few (omega (arith, short, l))
                    (omega (arith, f.order)) (omega (arith, f.order, r.2)) (omega (arith, f.sorted)) (omega (arith, f.taken)) (omega (arith, f.known)) (omega (arith, f.counts)) (omega (arith, f.sums)) (omega (arith, f.starts)) (omega (arith, f.keys)) (omega (arith, f.slots)) (omega (arith, f.weights));
                offsets = λ some. let r = right some in let f = fits_in in omega (arith, f.blocks, r.2);
              }

        pub group-made : (count : ℕ) (after : Scratches) → count ≡ length (in_clusters (clusters (assigned_by algorithm d minimum centroids ids))).block_offsets
            → after ≡ holding (in_clusters (clusters (assigned_by algorithm d minimum centroids ids))) z
            → left (Ok count) after ≡ left_by (first_of (make_tests dimension k d ids centroids s)) (blocked_by k d centroids ids) s
        group-made count after e w =
            accepted-as (Ok count) after
            ((λ j. left (Ok (e j)) (w j)) ∙ ap (λ z. left (Ok (length made.block_offsets)) (in_front z)) (ap cleared_scratch c ∙ cleared-twice s)
            ∙ ap (λ k. left_by (Ok tt) (blocked_by k d centroids ids) s) (sym q))
          where
            made : Blocked
            made = in_clusters (clusters (assigned_by algorithm d minimum centroids ids))

            in_front : Scratches → Scratches
            in_front z = scratches (laid made.documents z.order) (laid made.block_offsets z.blocks) z.sorted z.known z.taken z.counts z.starts z.slots z.weights z.sums z.keys
