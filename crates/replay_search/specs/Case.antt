-- A recorded search: what it was given, and whether an answer is the recorded one. src/lib.rt says which word is which.
use Rattle.std.specs.Prelude.{ℕ, Bool, ◌&&◌, List, map, get_or, replicate, eqb, Float}
use Rattle.std.specs.Float.{nan}
use Rattle.float32.specs.Key.{key_of, value_of}
use Rattle.kept_list.specs.Lent.{lent}
use Rattle.sparse_scores.specs.Layout.{arrays}
use Rattle.search_probe.specs.Probed.{Lends, terms, lends}
use Rattle.search.specs.Searched.{Question, question}
use Rattle.c_search.specs.Found.{Shown, seen}
use Rattle.replay_words.specs.Words.{slice_at, spread, itself, low}
use Rattle.replay_expected.specs.Held.{held}

-- ---- what it was given
-- the query, the documents' terms and the list, of the words as numbers, floats, numbers of 16 bits and bytes
unfoldable pub question_from : List ℕ → List ℕ → List Float → List ℕ → List ℕ → Question
question_from w longs floats shorts bytes =
    question (get_or w 2 0) (value_of (get_or w 3 0)) (terms (slice_at w 8 w) (slice_at w 9 floats) (slice_at w 10 w) (slice_at w 11 floats)) (slice_at w 12 longs) (slice_at w 13 longs)
    (arrays (slice_at w 14 w) (slice_at w 15 longs) (slice_at w 16 shorts) (slice_at w 17 bytes) (slice_at w 18 floats) (slice_at w 19 floats))

unfoldable pub question_in : List ℕ → Question
question_in w = question_from w (spread itself 1024 w) (spread value_of 1024 w) (spread (low 65536) 1024 w) (spread (low 256) 1024 w)

-- the kept list and the visits before
unfoldable pub lent_in : List ℕ → Lends
lent_in w = lends (lent (get_or w 4 0) (spread itself 8 (slice_at w 20 w)) (spread value_of 8 (slice_at w 21 w))) (spread (low 256) 256 (slice_at w 22 w))

-- ---- what it must leave
abbrev pub counts_held : List ℕ → ℕ → ℕ → ℕ → ℕ → Bool
counts_held w number size evaluated skipped = eqb number 0 && eqb size (get_or w 5 0) && eqb evaluated (get_or w 6 0) && eqb skipped (get_or w 7 0)

-- what was recorded in front, and past it what was there before; a score that was not recorded is a NaN
abbrev pub buffers_held : List ℕ → List ℕ → List Float → List ℕ → List Float → List ℕ → Bool
buffers_held w packed scores visits block_scores order =
    held packed (slice_at w 23 w) 0 && held (map key_of scores) (slice_at w 24 w) (key_of nan) && held visits (slice_at w 25 w) 0 && held (map key_of block_scores) (slice_at w 26 w) (key_of nan)
    && held order (slice_at w 27 w) 6

-- accepted, with both
unfoldable pub found_as : List ℕ → Shown → Bool
found_as w s = counts_held w s.number s.lent.kept.size s.evaluated s.skipped && buffers_held w s.lent.kept.packed s.lent.kept.scores s.lent.visits s.block_scores
    s.block_order

-- of a question and what is lent, with room enough for dots and order that holds other numbers
unfoldable pub found_from : List ℕ → Question → Lends → Bool
found_from w q l = found_as w (seen (get_or w 1 0) q l (replicate 32 nan) (replicate 32 6))

-- whether a recorded search is what a search means
unfoldable pub searches_agree : List ℕ → Bool
searches_agree w = found_from w (question_in w) (lent_in w)
