-- A recorded build: what it was given, and whether an answer is the recorded one. src/builds.rt says which word is which.
use Rattle.std.specs.Prelude.{ℕ, Bool, ◌&&◌, List, map, length, replicate, ◌==◌, slice_index, Float}
use Rattle.float32.specs.Key.{key_of, value_of}
use Rattle.configuration.specs.declared.BlockingStrategy.{BlockingStrategy}
use Rattle.configuration.specs.declared.SummarizationStrategy.{SummarizationStrategy}
use Rattle.documents.specs.Documents.{documents}
use Rattle.build_meaning.specs.Built.{Input, input}
use Rattle.build_meaning.specs.Building.{Outputs, outputs, InNumbers, in_numbers}
use Rattle.build_small.specs.Short.{Made, made_short}
use Rattle.c_build.specs.Chosen.{blocking_of, summarization_of}
use Rattle.replay_words.specs.Words.{long, slice_at, spread, itself}
use Rattle.replay_expected.specs.Held.{held}

-- ---- what it was given
unfoldable pub blocking_in : List ℕ → BlockingStrategy
blocking_in w = blocking_of (long w 2) (long w 4) (value_of (slice_index w 6)) (long w 7) (long w 9)

unfoldable pub summarization_in : List ℕ → SummarizationStrategy
summarization_in w = summarization_of (long w 11) (long w 13) (value_of (slice_index w 15))

-- the numbers and the floats that the words stand for
abbrev pub longs : List ℕ → List ℕ
longs w = spread itself 1024 w

abbrev pub floats : List ℕ → List Float
floats w = spread value_of 1024 w

unfoldable pub input_in : List ℕ → Input
input_in w = input (slice_index w 1) (blocking_in w) (summarization_in w) (documents (slice_at w 16 (longs w)) (slice_at w 17 w) (slice_at w 18 (floats w))) (slice_at w 19 (longs w)) (slice_at w 20 (longs w))

-- the key of 11, which is in the floats before
abbrev pub odd_key : ℕ
odd_key = 3241148416

-- what is lent for the results: room enough, and nowhere zero
unfoldable pub used : Float → Outputs
used odd = outputs (replicate 64 5) (replicate 64 6) (replicate 32 7) (replicate 32 8) (replicate 256 9) (replicate 256 10) (replicate 64 odd) (replicate 64 odd)

-- ---- what it must leave
-- 0, and as many numbers in front of the outputs as the original has
abbrev pub sizes_held : List ℕ → InNumbers → Bool
sizes_held w z =
    (z.number == 0) && z.postings_written == length (slice_at w 21 w) && z.block_offsets_written == length (slice_at w 22 w) && z.summary_components_written == length (slice_at w 23 w)
    && z.entries_written == length (slice_at w 25 w) && z.summaries_written == length (slice_at w 27 w)

-- the original's numbers in front, and past them what was there before
abbrev pub numbers_held : List ℕ → List ℕ → List ℕ → List ℕ → List ℕ → Bool
numbers_held w postings offsets components component_offsets = held postings (slice_at w 21 w) 5 && held offsets (slice_at w 22 w) 6 && held components (slice_at w 23 w) 7
    && held component_offsets (slice_at w 24 w) 8

abbrev pub entries_held : List ℕ → List ℕ → List ℕ → List Float → List Float → Bool
entries_held w ids codes minimums steps = held ids (slice_at w 25 w) 9 && held codes (slice_at w 26 w) 10 && held (map key_of minimums) (slice_at w 27 w) odd_key && held (map key_of steps) (slice_at w 28 w)
    odd_key

-- accepted, with both
unfoldable pub agreed : List ℕ → Made → Bool
agreed w m =
    sizes_held w (in_numbers m.answer) && numbers_held w m.output.postings m.output.block_offsets m.output.summary_components m.output.component_offsets
    && entries_held w m.output.summary_ids m.output.codes m.output.minimums m.output.steps

-- whether a recorded build is what a build means
unfoldable pub agrees : List ℕ → Bool
agrees w = agreed w (made_short (input_in w) (used (value_of odd_key)))
