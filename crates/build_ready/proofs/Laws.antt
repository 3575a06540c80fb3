-- The first refusal, and scratch whose lengths are numbers of 64 bits.
use Rattle.std.specs.Prelude.{Result, Ok, Err}
use Prim.Native.Nat.{ℕ, ◌*◌, ◌<◌}
use native.Mathlib.Omega.{arith}
use mathlib.Core.Path.{◌≡◌, refl, sym, ap, ◌∙◌}
use mathlib.Core.Bool.{Bool, true, false, not, ◌&&◌, cond}
use mathlib.Core.List.{List, [], ◌∷◌, ◌++◌}
use lib.ListN.{length}
use lib.Dec.{leb}
use borrow.Author.Tests.{leb-true, leb-false, le-leb, lt-leb}
use Rattle.refusal.specs.declared.Refusal.{Refusal}
use Rattle.refusal.specs.declared.Refusal.TheVariants.{BufferTooShort}
use Rattle.refusal.specs.First.{Test, ◌gives◌, first_of}
use Rattle.refusal.specs.Laws.First.{faultless, first-after, first-refused}
use Rattle.configuration.specs.declared.BlockingStrategy.{BlockingStrategy}
use Rattle.documents.specs.Documents.{Documents}
use Rattle.build_admission.specs.Admission.{input_tests}
use Rattle.build_meaning.specs.Needs.{sizes_for, scratch_needs, scratch_suffices}
use Rattle.build_meaning.specs.Building.{Scratches, scratch_lengths}
use Rattle.scratch.specs.declared.ScratchLengths.{ScratchLengths}
use Rattle.build_scratch.specs.Lengths.{capped, shown}
use Rattle.build_ready.specs.Made.{make_tests}

pub refused-early : (a b : List Test) (v : Result (Unit {0}) Refusal) (r : Refusal) → v ≡ first_of a → v ≡ Err r → Err r ≡ first_of (a ++ b)
refused-early a b v r e h = sym (first-refused a b r (sym e ∙ h))

abbrev room_test : ScratchLengths → ScratchLengths → List Test
room_test x lent = (not (scratch_suffices (shown x) lent) gives BufferTooShort) ∷ []

late : (a : List Test) (v : Result (Unit {0}) Refusal) (x : ScratchLengths) (needed lent : ScratchLengths) (b : Bool) → v ≡ first_of a → v ≡ Ok tt → needed ≡ shown x → b ≡ scratch_suffices needed lent
    → first_of (a ++ room_test x lent) ≡ cond (not b) (Err BufferTooShort) (Ok tt)
late a v x needed lent b e h n s = first-after a (room_test x lent) (faultless a (sym e ∙ h)) ∙ ap (λ b. cond (not b) (Err BufferTooShort) (Ok tt)) (sym (s ∙ ap (λ n. scratch_suffices n lent) n))

module _ (a : List Test) (v : Result (Unit {0}) Refusal) (x : ScratchLengths) (needed lent : ScratchLengths) (b : Bool) (e : v ≡ first_of a) (h : v ≡ Ok tt) (n : needed ≡ shown x) (s : b ≡ scratch_suffices needed lent) where
  pub refused-late : b ≡ false → Err BufferTooShort ≡ first_of (a ++ room_test x lent)
  refused-late f = sym (late a v x needed lent b e h n s ∙ ap (λ b. cond (not b) (Err BufferTooShort) (Ok tt)) f)

  pub accepted-late : b ≡ true → Ok tt ≡ first_of (a ++ room_test x lent)
  accepted-late f = sym (late a v x needed lent b e h n s ∙ ap (λ b. cond (not b) (Err BufferTooShort) (Ok tt)) f)

-- ---- no slice is as long as the greatest u64
pub record Short (s : Scratches) : Type 0 where
  pub order : length s.order < 18446744073709551615
  pub blocks : length s.blocks < 18446744073709551615
  pub sorted : length s.sorted < 18446744073709551615
  pub known : length s.known < 18446744073709551615
  pub taken : length s.taken < 18446744073709551615
  pub counts : length s.counts < 18446744073709551615
  pub starts : length s.starts < 18446744073709551615
  pub slots : length s.slots < 18446744073709551615
  pub weights : length s.weights < 18446744073709551615
  pub sums : length s.sums < 18446744073709551615
  pub keys : length s.keys < 18446744073709551615

pub under-8 : (n : ℕ) → n * 8 < 9223372036854775808 → n < 18446744073709551615
under-8 n h = omega arith

pub under-4 : (n : ℕ) → n * 4 < 9223372036854775808 → n < 18446744073709551615
under-4 n h = omega arith

cap : (a b : ℕ) → b < 18446744073709551615 → leb (capped a) b ≡ leb a b
cap a b h = go (leb a b) refl
  where
    go : (t : Bool) → leb a b ≡ t → leb (capped a) b ≡ t
    go true e = le-leb (capped a) b (let k = leb-true a b e in omega arith)
    go false e = lt-leb (capped a) b (let k = leb-false a b e in omega arith)

capped-suffices : (x : ScratchLengths) (s : Scratches) → Short s → scratch_suffices (shown x) (scratch_lengths s) ≡ scratch_suffices x (scratch_lengths s)
unfolding shown scratch_lengths
capped-suffices x s h =
    λ j. cap x.order (length s.order) h.order j && (cap x.blocks (length s.blocks) h.blocks j
    && (cap x.sorted (length s.sorted) h.sorted j && (cap x.known (length s.known) h.known j
    && (cap x.taken (length s.taken) h.taken j && (cap x.counts (length s.counts) h.counts j
    && (cap x.starts (length s.starts) h.starts j && (cap x.slots (length s.slots) h.slots j
    && (cap x.weights (length s.weights) h.weights j && (cap x.sums (length s.sums) h.sums j && cap x.keys (length s.keys) h.keys j)))))))))

-- ---- the verdict over the lent buffers
pub judged : (dimension : ℕ) (k : BlockingStrategy) (d : Documents) (ids centroids : List ℕ) (s : Scratches) → Short s → (v : Result (Unit {0}) Refusal)
    → v ≡ first_of (input_tests dimension k d ids centroids ++ ((not (scratch_suffices (shown (scratch_needs (sizes_for dimension k d ids centroids))) (scratch_lengths s)) gives BufferTooShort) ∷ []))
    → v ≡ first_of (make_tests dimension k d ids centroids s)
judged dimension k d ids centroids s short v e = e ∙ ap (λ b. first_of (input_tests dimension k d ids centroids ++ ((not b gives BufferTooShort) ∷ []))) (capped-suffices (scratch_needs (sizes_for dimension k d ids centroids)) s short)
