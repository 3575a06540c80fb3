-- How many terms a summary keeps, as a loop counts them.
use Rattle.std.specs.Prelude.{ℕ, zero, suc, min, ◌≡◌, refl, Bool, true, false, cond, length, take, pos, Float}
use Rattle.std.proofs.Common.{arith, sym, ap, ◌∙◌, length-take}
use mathlib.Core.List.{List, [], ◌∷◌, map, foldl}
use Rattle.std.proofs.lemmas.List.{length-map}
use Rattle.std.specs.Float.{fin, binary32}
use Rattle.std.specs.Float.Ieee.{add, mul, le}
use Rattle.configuration.specs.declared.SummarizationStrategy.{SummarizationStrategy}
use Rattle.configuration.specs.declared.SummarizationStrategy.TheVariants.{FixedSize, EnergyPreserving}
use Rattle.sequences.specs.Lists.{from, before}
use Rattle.documents.specs.Documents.{Term, sum, falling, largest}
use Rattle.summary_terms.specs.Summaries.{running_sums, enough, preserving, kept}
use Rattle.summary_terms.specs.Steps.{reached_by, kept_count}

-- ---- the running sums, each from the one before
abbrev pub sums_from : Float → List Float → List Float
sums_from a [] = []
sums_from a (v ∷ vs) = add binary32 a v ∷ sums_from (add binary32 a v) vs

map-from : (g : ℕ → Float) (a n : ℕ) → map g (from (suc a) n) ≡ map (λ i. g (suc i)) (from a n)
map-from g a zero = refl
map-from g a (suc n) = ap (λ l. g (suc a) ∷ l) (map-from g (suc a) n)

pub running-sums : (vs : List Float) → running_sums vs ≡ sums_from (fin false 0 (pos 0)) vs
running-sums vs = go (fin false 0 (pos 0)) vs
  where
    go : (a : Float) (vs : List Float) → map (λ i. foldl (add binary32) a (take (suc i) vs)) (from 0 (length vs)) ≡ sums_from a vs
    go a [] = refl
    go a (v ∷ vs) = ap (λ l. add binary32 a v ∷ l) (map-from (λ i. foldl (add binary32) a (take (suc i) (v ∷ vs))) 0 (length vs) ∙ go (add binary32 a v) vs)

-- ---- up to the first that is at least the goal
reached-is : (goal a : Float) (vs : List Float) → reached_by goal a vs ≡ min (suc (length (before (λ s. le goal s) (sums_from a vs)))) (length vs)
unfolding reached_by
reached-is goal a [] = omega arith
reached-is goal a (v ∷ vs) = go (le goal (add binary32 a v)) (reached-is goal (add binary32 a v) vs)
  where
    go : (b : Bool) → reached_by goal (add binary32 a v) vs ≡ min (suc (length (before (λ s. le goal s) (sums_from (add binary32 a v) vs)))) (length vs)
        → suc (cond b 0 (reached_by goal (add binary32 a v) vs)) ≡ min (suc (length (cond b [] (add binary32 a v ∷ before (λ s. le goal s) (sums_from (add binary32 a v) vs))))) (suc (length vs))
    go true i = let z : ◌≡◌ {A = ℕ} 1 (min 1 (suc (length vs))) = omega arith in z
    go false i =
        ap suc i
        ∙ (let z : suc (min (suc (length (before (λ s. le goal s) (sums_from (add binary32 a v) vs)))) (length vs)) ≡ min (suc (suc (length (before (λ s. le goal s) (sums_from (add binary32 a v) vs)))))
        (suc (length vs)) = omega arith in z)

pub kept-count : (s : SummarizationStrategy) (ts : List Term) → kept_count s (map (λ t. t.value) (falling ts)) ≡ length (kept s ts)
unfolding largest preserving enough
kept-count (FixedSize n) ts = ap (min n) (length-map (falling ts) (λ t. t.value)) ∙ sym (length-take n (falling ts))
kept-count (EnergyPreserving energy) ts =
    let vs = map (λ t. t.value) (falling ts) in
    reached-is (mul binary32 (sum vs) energy) (fin false 0 (pos 0)) vs
    ∙ ap (λ l. min (suc (length (before (λ s. le (mul binary32 (sum vs) energy) s) l))) (length vs)) (sym (running-sums vs))
    ∙ ap (min (suc (length (before (λ s. le (mul binary32 (sum vs) energy) s) (running_sums vs))))) (length-map (falling ts) (λ t. t.value))
    ∙ sym (length-take (enough energy vs) (falling ts))
