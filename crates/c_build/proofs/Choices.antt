-- What the numbers choose, and the numbers of an answer.
use Rattle.std.specs.Prelude.{Result, Ok, Err}
use Prim.Native.Nat.{ℕ}
use mathlib.Core.Path.{◌≡◌, sym, ap, ◌∙◌}
use borrow.Author.Tests.{eq-eqb, ne_eqb}
use lib.Ieee.{Float}
use Rattle.refusal.specs.declared.Refusal.{Refusal}
use Rattle.refusal.specs.Refusals.{number_of}
use Rattle.configuration.specs.declared.BlockingStrategy.TheVariants.{FixedSize, RandomKmeans}
use Rattle.configuration.specs.declared.ClusteringAlgorithm.{ClusteringAlgorithm}
use Rattle.configuration.specs.declared.ClusteringAlgorithm.TheVariants as algorithm
use Rattle.configuration.specs.declared.SummarizationStrategy.TheVariants as summary
use Rattle.build_meaning.specs.declared.BuiltSizes.{BuiltSizes}
use Rattle.build_meaning.specs.Building.{numbers, in_numbers}
use Rattle.c_build.specs.Chosen.{algorithm_of, blocking_of, summarization_of}

-- ---- the choices
pub exact-chosen : (b cut : ℕ) → b ≡ 1 → algorithm.RandomKmeans ≡ algorithm_of b cut
unfolding algorithm_of
exact-chosen b cut e = simp (eq-eqb b 1 e)

pub approximate-chosen : (b cut : ℕ) → (b ≡ 1 → ⊥) → algorithm.RandomKmeansInvertedIndexApprox cut ≡ algorithm_of b cut
unfolding algorithm_of
approximate-chosen b cut n = simp (ne_eqb b 1 n)

pub fixed-chosen : (b size : ℕ) (fraction : Float) (minimum cut : ℕ) → b ≡ 0 → FixedSize size ≡ blocking_of b size fraction minimum cut
unfolding blocking_of
fixed-chosen b size fraction minimum cut e = simp (eq-eqb b 0 e)

pub clusters-chosen : (b size : ℕ) (fraction : Float) (minimum cut : ℕ) (a : ClusteringAlgorithm) → (b ≡ 0 → ⊥) → a ≡ algorithm_of b cut → RandomKmeans fraction minimum a ≡ blocking_of b size fraction minimum cut
unfolding blocking_of
clusters-chosen b size fraction minimum cut a n e = simp (ne_eqb b 0 n) (ap (λ z. RandomKmeans fraction minimum z) e)

pub number-chosen : (s size : ℕ) (energy : Float) → s ≡ 0 → summary.FixedSize size ≡ summarization_of s size energy
unfolding summarization_of
number-chosen s size energy e = simp (eq-eqb s 0 e)

pub energy-chosen : (s size : ℕ) (energy : Float) → (s ≡ 0 → ⊥) → summary.EnergyPreserving energy ≡ summarization_of s size energy
unfolding summarization_of
energy-chosen s size energy n = simp (ne_eqb s 0 n)

-- ---- the numbers of a build's answer
pub refused-numbers : (a : Result BuiltSizes Refusal) (r : Refusal) (n : ℕ) → a ≡ Err r → n ≡ number_of r → numbers n 0 0 0 0 0 ≡ in_numbers a
refused-numbers a r n e h = ap (λ m. numbers m 0 0 0 0 0) h ∙ ap in_numbers (sym e)

pub built-numbers : (a : Result BuiltSizes Refusal) (z : BuiltSizes) → a ≡ Ok z → numbers 0 z.postings z.block_offsets z.summary_components z.entries z.summaries ≡ in_numbers a
built-numbers a z e = ap in_numbers (sym e)
