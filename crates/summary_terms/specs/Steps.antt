-- From the met components and their maxima to the keys of a summary, as the program makes them.
use Rattle.std.specs.Prelude.{ℕ, suc, min, ◌≡◌, false, cond, length, set, take, drop, replicate, pos, Float}
use mathlib.Core.List.{List, [], ◌∷◌, ◌++◌, map, foldl, zip_with}
use Rattle.std.specs.Float.{fin, binary32}
use Rattle.std.specs.Float.Ieee.{add, mul, le}
use Rattle.configuration.specs.declared.SummarizationStrategy.{SummarizationStrategy}
use Rattle.configuration.specs.declared.SummarizationStrategy.TheVariants.{FixedSize, EnergyPreserving}
use Rattle.sort.specs.Sorted.{sorted}
use Rattle.documents.specs.Documents.{term, sum}
use Rattle.documents.specs.TermKeys.{term_key, component_of, value_of_term}
use Rattle.summary_maximum.specs.Meeting.{Met}

-- a component and its maximum in one key
abbrev pub key_of_pair : ℕ → Float → ℕ
key_of_pair k m = term_key (term (component_of k) m)

-- how many values, added to a sum one after another, it takes to be at least a goal; all, where none is
unfoldable pub reached_by : Float → Float → List Float → ℕ
reached_by goal a [] = 0
reached_by goal a (v ∷ vs) = suc (cond (le goal (add binary32 a v)) 0 (reached_by goal (add binary32 a v) vs))

-- how many of falling values a summary keeps
abbrev pub kept_count : SummarizationStrategy → List Float → ℕ
kept_count (FixedSize n) vs = min n (length vs)
kept_count (EnergyPreserving energy) vs = reached_by (mul binary32 (sum vs) energy) (fin false 0 (pos 0)) vs

-- components and maxima made term keys, the greatest first; the work space cleared; and how many of the keys are kept
pub record Finished (strategy : SummarizationStrategy) (ks ps : List ℕ) (ms : List Float) (r : ℕ) (keys places : List ℕ) (maxima : List Float) : Type 0 where
  pub keys_are : keys ≡ sorted (zip_with key_of_pair ks ms)
  pub places_are : places ≡ foldl (λ l k. set l (component_of k) 0) ps keys
  pub maxima_are : maxima ≡ replicate (length ms) (fin false 0 (pos 0))
  pub answer : r ≡ kept_count strategy (map value_of_term keys)

-- the same of those that are met, with what stands past them
pub record FinishedFirst (strategy : SummarizationStrategy) (s : Met) (r : ℕ) (keys places : List ℕ) (maxima : List Float) : Type 0 where
  pub front : List ℕ
  pub zeros : List Float
  pub finished : Finished strategy (take s.count s.keys) s.places (take s.count s.maxima) r front places zeros
  pub keys_are : keys ≡ front ++ drop s.count s.keys
  pub maxima_are : maxima ≡ zeros ++ drop s.count s.maxima
