-- Small searches, worked out whole, in one table: from the slices that are lent to the answer and what they hold at the end.
use Rattle.std.specs.Prelude.{ℕ, ◌≡◌, refl, Float}
use mathlib.Core.List.{List, [], ◌∷◌, zip_with}
use Rattle.std.specs.Float.Ieee.{is_nan, to_bits, of_bits, le, lt, eq, neg, add, mul, of_int}
use Rattle.std.specs.Float.{binary32}
use Rattle.sequences.specs.Lists.{insert_by, sorted_by}
use Rattle.refusal.specs.declared.Refusal.TheVariants.{NothingToKeep, PastTheTerms, WrongTerms}
use Rattle.float32.specs.Bound.{in_bound}
use Rattle.float32.specs.Key.{key_of}
use Rattle.float32.specs.Order.{at_most}
use Rattle.blocking.specs.Limits.{list_limit, block_limit}
use Rattle.packing.specs.Packing.{length_limit, pack_of, start_of, length_of}
use Rattle.documents.specs.Documents.{paired, dot}
use Rattle.documents.specs.Checks.{terms_hold, slices_hold}
use Rattle.kept_list.specs.Entry.{better}
use Rattle.kept_list.specs.Lent.{lent}
use Rattle.kept_list.specs.Push.{well_kept}
use Rattle.quantizing.specs.Quantizing.{step_allowed}
use Rattle.sparse_scores.specs.Layout.{Layout, arrays, entries, entries_at}
use Rattle.sparse_scores.specs.Scores.{score_of, scores_of}
use Rattle.sparse_scores.specs.WellFormed.{blocks_hold, lengths_hold, offsets_hold, ids_hold, bounds_hold, well_formed}
use Rattle.search_page.specs.Reading.{reading}
use Rattle.search_probe.specs.declared.Answer.TheVariants.{Refused, Stopped, Found}
use Rattle.search_postings.specs.Ranges.{range_reading}
use Rattle.search_probe.specs.Probed.{terms, Lends, lends, left}
use Rattle.search.specs.Order.{by_score}
use Rattle.search.specs.Searched.{Question, question, leaves, searched, leaves_in_order, searched_in_order}

abbrev pub f : ℕ → Float
f n = of_bits binary32 n

abbrev pub zero : Float
zero = f 0

abbrev pub half : Float
half = f 0x3f000000

abbrev pub one : Float
one = f 0x3f800000

abbrev pub two : Float
two = f 0x40000000

abbrev pub three : Float
three = f 0x40400000

abbrev pub four : Float
four = f 0x40800000

abbrev pub five : Float
five = f 0x40a00000

abbrev pub ten : Float
ten = f 0x41200000

abbrev pub hundred : Float
hundred = f 0x42c80000

-- six terms: the page at 0 scores 1, an empty page at 2 shares its start with the one that scores 3, the page at 3 scores 0, and the page
-- at 4 breaks its rules
abbrev pub six_components : List ℕ
six_components = 1 ∷ 2 ∷ 1 ∷ 3 ∷ 5 ∷ 5 ∷ []

abbrev pub six_values : List Float
six_values = one ∷ one ∷ three ∷ one ∷ one ∷ one ∷ []

-- the summaries of two blocks, whose scores are their codes
abbrev pub two_blocks : ℕ → ℕ → Layout
two_blocks a b = arrays (1 ∷ []) (0 ∷ 2 ∷ []) (0 ∷ 1 ∷ []) (a ∷ b ∷ []) (zero ∷ zero ∷ []) (one ∷ one ∷ [])

abbrev pub asked_over : Layout → Float → ℕ → List ℕ → List ℕ → Question
asked_over layout factor k postings offsets = question k factor (terms (1 ∷ []) (one ∷ []) six_components six_values) postings offsets layout

abbrev pub asked_by : Float → ℕ → List ℕ → List ℕ → Question
asked_by = asked_over (two_blocks 5 4)

abbrev pub asked : ℕ → List ℕ → List ℕ → Question
asked = asked_by half

-- the pages
abbrev pub first : ℕ
first = pack_of 0 2

abbrev pub empty : ℕ
empty = pack_of 2 0

abbrev pub second : ℕ
second = pack_of 2 1

abbrev pub third : ℕ
third = pack_of 3 1

abbrev pub broken : ℕ
broken = pack_of 4 2

abbrev pub past : ℕ
past = pack_of 5 2

abbrev pub holding : ℕ → List ℕ → List Float → List ℕ → Lends
holding n ps xs v = lends (lent n ps xs) v

abbrev pub fresh : List ℕ
fresh = 0 ∷ 0 ∷ 0 ∷ 0 ∷ 0 ∷ 0 ∷ 0 ∷ []

abbrev pub dots : List Float
dots = ten ∷ ten ∷ ten ∷ []

-- the scores of the two blocks, 5 and 4; what lies past them is unchanged
abbrev pub scored : List Float
scored = five ∷ four ∷ ten ∷ []

abbrev pub longer : List ℕ
longer = 0 ∷ 0 ∷ 0 ∷ 0 ∷ 0 ∷ 0 ∷ 0 ∷ 1 ∷ 1 ∷ 1 ∷ []

pub record Searches : Type 0 where
  -- full list, worst 10, factor 0.5: the block with score 5 is evaluated, that with 4 is skipped, and its page is not marked
  pub half_of_worst : searched (asked 1 (first ∷ second ∷ []) (0 ∷ 1 ∷ 2 ∷ [])) (holding 1 (7 ∷ []) (ten ∷ []) fresh) dots
      ≡ leaves (left (Found 1 1 1) (holding 1 (7 ∷ []) (ten ∷ []) (1 ∷ 0 ∷ 0 ∷ 0 ∷ 0 ∷ 0 ∷ 0 ∷ []))) scored
  -- below k nothing is skipped; the entry brought in stays first, and those found come after it
  pub not_full : searched (asked 3 (first ∷ second ∷ []) (0 ∷ 1 ∷ 2 ∷ [])) (holding 1 (7 ∷ 8 ∷ 9 ∷ []) (ten ∷ ten ∷ ten ∷ []) fresh) dots
      ≡ leaves (left (Found 3 2 0) (holding 3 (7 ∷ second ∷ first ∷ []) (ten ∷ three ∷ one ∷ []) (1 ∷ 0 ∷ 1 ∷ 0 ∷ 0 ∷ 0 ∷ 0 ∷ []))) scored
  -- the test is made at each block's turn: the first block fills the list, and 4 < 0.5 x 3 is false, so the second is evaluated too; the
  -- better entry replaces the worse
  pub replaces : searched (asked 1 (first ∷ second ∷ []) (0 ∷ 1 ∷ 2 ∷ [])) (holding 0 (7 ∷ []) (ten ∷ []) fresh) dots
      ≡ leaves (left (Found 1 2 0) (holding 1 (second ∷ []) (three ∷ []) (1 ∷ 0 ∷ 1 ∷ 0 ∷ 0 ∷ 0 ∷ 0 ∷ []))) scored
  -- and with what is kept then: nothing is kept at first, the first block fills the list with 3, and 4 < 2 x 3, so the second is skipped
  pub at_its_turn : searched (asked_by two 1 (second ∷ first ∷ []) (0 ∷ 1 ∷ 2 ∷ [])) (holding 0 (7 ∷ []) (ten ∷ []) fresh) dots
      ≡ leaves (left (Found 1 1 1) (holding 1 (second ∷ []) (three ∷ []) (0 ∷ 0 ∷ 1 ∷ 0 ∷ 0 ∷ 0 ∷ 0 ∷ []))) scored
  -- a start met again is passed over, and so is one that was visited before the search
  pub met-again : searched (asked 2 (first ∷ first ∷ third ∷ []) (0 ∷ 3 ∷ 3 ∷ [])) (holding 0 (7 ∷ 8 ∷ []) (ten ∷ ten ∷ []) (0 ∷ 0 ∷ 0 ∷ 9 ∷ 0 ∷ 0 ∷ 0 ∷ [])) dots
      ≡ leaves (left (Found 1 1 0) (holding 1 (first ∷ 8 ∷ []) (one ∷ ten ∷ []) (1 ∷ 0 ∷ 0 ∷ 9 ∷ 0 ∷ 0 ∷ 0 ∷ []))) scored
  -- an empty page shares its start with the next: the first one reached hides the other
  pub hides : searched (asked 2 (empty ∷ second ∷ []) (0 ∷ 2 ∷ 2 ∷ [])) (holding 0 (7 ∷ 8 ∷ []) (ten ∷ ten ∷ []) fresh) dots
      ≡ leaves (left (Found 1 1 0) (holding 1 (empty ∷ 8 ∷ []) (zero ∷ ten ∷ []) (0 ∷ 0 ∷ 1 ∷ 0 ∷ 0 ∷ 0 ∷ 0 ∷ []))) scored
  -- 14 at position 1: what was found before it stands, the posting is not marked, and the rest is not reached
  pub stops_14 : searched (asked 2 (first ∷ broken ∷ second ∷ []) (0 ∷ 3 ∷ 3 ∷ [])) (holding 0 (7 ∷ 8 ∷ []) (ten ∷ ten ∷ []) fresh) dots
      ≡ leaves (left (Stopped WrongTerms 1) (holding 1 (first ∷ 8 ∷ []) (one ∷ ten ∷ []) (1 ∷ 0 ∷ 0 ∷ 0 ∷ 0 ∷ 0 ∷ 0 ∷ []))) scored
  -- 13 at position 0, in a range that reaches past the terms
  pub stops_13 : searched (asked 2 (past ∷ first ∷ []) (0 ∷ 2 ∷ 2 ∷ [])) (holding 0 (7 ∷ 8 ∷ []) (ten ∷ ten ∷ []) fresh) dots
      ≡ leaves (left (Stopped PastTheTerms 0) (holding 0 (7 ∷ 8 ∷ []) (ten ∷ ten ∷ []) fresh)) scored
  -- 13 at a start that has no byte
  pub no_byte : searched (asked 2 (pack_of 9 0 ∷ []) (0 ∷ 1 ∷ 1 ∷ [])) (holding 0 (7 ∷ 8 ∷ []) (ten ∷ ten ∷ []) fresh) dots
      ≡ leaves (left (Stopped PastTheTerms 0) (holding 0 (7 ∷ 8 ∷ []) (ten ∷ ten ∷ []) fresh)) scored
  -- the first start past the term count: a longer buffer, in which its byte is that of a visit, gives it none
  pub byte_past_the_terms : searched (asked 2 (pack_of 7 0 ∷ []) (0 ∷ 1 ∷ 1 ∷ [])) (holding 0 (7 ∷ 8 ∷ []) (ten ∷ ten ∷ []) longer) dots
      ≡ leaves (left (Stopped PastTheTerms 0) (holding 0 (7 ∷ 8 ∷ []) (ten ∷ ten ∷ []) longer)) scored
  -- a page that breaks its rules is not looked at where its start was visited
  pub visited_broken : searched (asked 2 (broken ∷ []) (0 ∷ 1 ∷ 1 ∷ [])) (holding 0 (7 ∷ 8 ∷ []) (ten ∷ ten ∷ []) (0 ∷ 0 ∷ 0 ∷ 0 ∷ 1 ∷ 0 ∷ 0 ∷ [])) dots
      ≡ leaves (left (Found 0 0 0) (holding 0 (7 ∷ 8 ∷ []) (ten ∷ ten ∷ []) (0 ∷ 0 ∷ 0 ∷ 0 ∷ 1 ∷ 0 ∷ 0 ∷ []))) scored
  -- with k 0 nothing changes
  pub nothing_to_keep : searched (asked 0 (first ∷ []) (0 ∷ 1 ∷ 1 ∷ [])) (holding 0 (7 ∷ []) (ten ∷ []) fresh) dots ≡ leaves (left (Refused NothingToKeep) (holding 0 (7 ∷ []) (ten ∷ []) fresh)) dots
  -- the worst of two kept, 10, and not the best, 100: 5 < 0.5 x 10 is false, so the first block is evaluated, and 4 < 5, so the second is
  -- skipped
  pub worst_of_two : searched (asked 2 (first ∷ second ∷ []) (0 ∷ 1 ∷ 2 ∷ [])) (holding 2 (7 ∷ 8 ∷ []) (hundred ∷ ten ∷ []) fresh) dots
      ≡ leaves (left (Found 2 1 1) (holding 2 (7 ∷ 8 ∷ []) (hundred ∷ ten ∷ []) (1 ∷ 0 ∷ 0 ∷ 0 ∷ 0 ∷ 0 ∷ 0 ∷ []))) scored
  -- greater score first: block 1, whose score is 5, fills the list with 3, and then 4 < 2 x 3, so block 0 is skipped; in number order both
  -- would be evaluated
  pub by_score : searched_in_order (asked_over (two_blocks 4 5) two 1 (first ∷ second ∷ []) (0 ∷ 1 ∷ 2 ∷ [])) (holding 0 (7 ∷ []) (ten ∷ []) fresh) dots (8 ∷ 8 ∷ 8 ∷ [])
      ≡ leaves_in_order (left (Found 1 1 1) (holding 1 (second ∷ []) (three ∷ []) (0 ∷ 0 ∷ 1 ∷ 0 ∷ 0 ∷ 0 ∷ 0 ∷ []))) (four ∷ five ∷ ten ∷ []) (1 ∷ 0 ∷ 8 ∷ [])
  pub by_number : searched (asked_over (two_blocks 4 5) two 1 (first ∷ second ∷ []) (0 ∷ 1 ∷ 2 ∷ [])) (holding 0 (7 ∷ []) (ten ∷ []) fresh) dots
      ≡ leaves (left (Found 1 2 0) (holding 1 (second ∷ []) (three ∷ []) (1 ∷ 0 ∷ 1 ∷ 0 ∷ 0 ∷ 0 ∷ 0 ∷ []))) (four ∷ five ∷ ten ∷ [])

-- blocks of equal score go by number; the greater score goes first, -0 last
pub record Orders : Type 0 where
  pub ties : by_score (one ∷ five ∷ one ∷ five ∷ []) ≡ 1 ∷ 3 ∷ 0 ∷ 2 ∷ []
  pub zeros : by_score (neg zero ∷ zero ∷ []) ≡ 1 ∷ 0 ∷ []

pub worked-orders : Orders
unfolding by_score sorted_by insert_by at_most is_nan lt eq neg of_bits
worked-orders = record { ties = refl; zeros = refl }

pub worked-searches : Searches
unfolding searched searched_in_order by_score sorted_by insert_by slices_hold terms_hold in_bound paired zip_with well_formed list_limit block_limit blocks_hold lengths_hold offsets_hold ids_hold bounds_hold
    step_allowed well_kept better key_of scores_of score_of entries_at entries range_reading reading dot start_of length_of pack_of length_limit at_most is_nan to_bits of_bits le lt eq neg add mul of_int
worked-searches = record {
  half_of_worst = refl;
  not_full = refl;
  replaces = refl;
  at_its_turn = refl;
  met-again = refl;
  hides = refl;
  stops_14 = refl;
  stops_13 = refl;
  no_byte = refl;
  byte_past_the_terms = refl;
  visited_broken = refl;
  nothing_to_keep = refl;
  worst_of_two = refl;
  by_score = refl;
  by_number = refl;
}
