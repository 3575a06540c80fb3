-- The edges of a search, worked out: each refusal alone, each beside the next in the refusals' order, buffers that fit exactly and those
-- one short, and inputs at the limits of the rules.
use Rattle.std.specs.Prelude.{ℕ, ◌≡◌, refl, false, Float}
use mathlib.Core.List.{List, [], ◌∷◌, zip_with}
use Rattle.std.specs.Float.{nan, inf}
use Rattle.std.specs.Float.Ieee.{is_nan, to_bits, of_bits, le, lt, eq, neg, add, mul, of_int}
use Rattle.sequences.specs.Lists.{insert_by, sorted_by}
use Rattle.refusal.specs.declared.Refusal.{Refusal}
use Rattle.refusal.specs.declared.Refusal.TheVariants.{NothingToKeep, WrongQuery, WrongDocuments, MalformedList, WrongKeptList, BufferTooShort, WrongTerms}
use Rattle.float32.specs.Bound.{in_bound}
use Rattle.float32.specs.Key.{key_of}
use Rattle.float32.specs.Order.{at_most}
use Rattle.packing.specs.Packing.{length_limit, pack_of, start_of, length_of}
use Rattle.blocking.specs.Limits.{list_limit, block_limit}
use Rattle.documents.specs.Documents.{paired, dot}
use Rattle.documents.specs.Checks.{terms_hold, slices_hold}
use Rattle.kept_list.specs.Entry.{better}
use Rattle.kept_list.specs.Push.{well_kept}
use Rattle.quantizing.specs.Quantizing.{step_allowed}
use Rattle.sparse_scores.specs.Layout.{arrays, entries, entries_at}
use Rattle.sparse_scores.specs.Scores.{score_of, scores_of}
use Rattle.sparse_scores.specs.WellFormed.{blocks_hold, lengths_hold, offsets_hold, ids_hold, bounds_hold, well_formed}
use Rattle.search_page.specs.Reading.{reading}
use Rattle.search_postings.specs.Ranges.{range_reading}
use Rattle.search_probe.specs.declared.Answer.{Answer}
use Rattle.search_probe.specs.declared.Answer.TheVariants.{Refused, Stopped, Found}
use Rattle.search_probe.specs.Probed.{terms, Lends, left}
use Rattle.search.specs.Order.{by_score}
use Rattle.search.specs.Searched.{Question, question, leaves, searched, leaves_in_order, searched_in_order}
use Rattle.search.specs.Laws.Worked.{zero, half, one, two, three, four, five, ten, six_components, six_values, two_blocks, asked_over, asked, asked_by, first, second, broken, holding, fresh, dots, scored}

-- two pages in two blocks, asked for so many with a query, over values and block offsets that may be wrong
abbrev asking : ℕ → List ℕ → List Float → List Float → List ℕ → Question
asking k qs ws values offsets = question k half (terms qs ws six_components values) (first ∷ second ∷ []) offsets (two_blocks 5 4)

abbrev few_values : List Float
few_values = one ∷ one ∷ three ∷ one ∷ one ∷ []

abbrev offsets : List ℕ
offsets = 0 ∷ 1 ∷ 2 ∷ []

-- what is lent has room for k = 2, and no more
abbrev two-places : Lends
two-places = holding 0 (7 ∷ 8 ∷ []) (ten ∷ ten ∷ []) fresh

abbrev too_many : Lends
too_many = holding 3 (7 ∷ 8 ∷ []) (ten ∷ ten ∷ []) fresh

abbrev two-dots : List Float
two-dots = ten ∷ ten ∷ []

-- refused, with nothing changed
abbrev Refuses : Question → Lends → List Float → Refusal → Type 0
Refuses q l xs r = searched q l xs ≡ leaves (left (Refused r) l) xs

pub record Refusals : Type 0 where
  -- 11, 10, 6, 9 each as the only fault
  pub only_11 : Refuses (asking 0 (1 ∷ []) (one ∷ []) six_values offsets) two-places two-dots NothingToKeep
  pub query_falls : Refuses (asking 2 (2 ∷ 1 ∷ []) (one ∷ one ∷ []) six_values offsets) two-places two-dots WrongQuery
  pub query_lengths : Refuses (asking 2 (1 ∷ 2 ∷ []) (one ∷ []) six_values offsets) two-places two-dots WrongQuery
  pub query_infinite : Refuses (asking 2 (1 ∷ []) (inf false ∷ []) six_values offsets) two-places two-dots WrongQuery
  pub only_6 : Refuses (asking 2 (1 ∷ []) (one ∷ []) few_values offsets) two-places two-dots WrongDocuments
  pub offsets_few : Refuses (asking 2 (1 ∷ []) (one ∷ []) six_values (0 ∷ 2 ∷ [])) two-places two-dots MalformedList
  pub steps_alone : Refuses (asked_over (arrays [] (0 ∷ []) [] [] [] (one ∷ [])) half 2 [] []) two-places two-dots MalformedList
  -- 12: more kept than k, more than the buffers hold, a NaN, -0 before +0
  pub kept_above_k : Refuses (asking 1 (1 ∷ []) (one ∷ []) six_values offsets) (holding 2 (7 ∷ 8 ∷ []) (ten ∷ five ∷ []) fresh) two-dots WrongKeptList
  pub kept_above_buffers : Refuses (asking 3 (1 ∷ []) (one ∷ []) six_values offsets) too_many two-dots WrongKeptList
  pub kept_nan : Refuses (asking 2 (1 ∷ []) (one ∷ []) six_values offsets) (holding 1 (7 ∷ 8 ∷ []) (nan ∷ ten ∷ []) fresh) two-dots WrongKeptList
  pub kept_zeros : Refuses (asking 2 (1 ∷ []) (one ∷ []) six_values offsets) (holding 2 (7 ∷ 8 ∷ []) (neg zero ∷ zero ∷ []) fresh) two-dots WrongKeptList
  -- two neighbours at once: the earlier wins
  pub eleven_before_ten : Refuses (asking 0 (2 ∷ 1 ∷ []) (one ∷ one ∷ []) six_values offsets) two-places two-dots NothingToKeep
  pub ten_before_six : Refuses (asking 2 (2 ∷ 1 ∷ []) (one ∷ one ∷ []) few_values offsets) two-places two-dots WrongQuery
  pub six_before_nine : Refuses (asking 2 (1 ∷ []) (one ∷ []) few_values (0 ∷ 2 ∷ [])) two-places two-dots WrongDocuments
  pub nine_before_twelve : Refuses (asking 2 (1 ∷ []) (one ∷ []) six_values (0 ∷ 2 ∷ [])) too_many two-dots MalformedList
  pub twelve_before_four : Refuses (asking 2 (1 ∷ []) (one ∷ []) six_values offsets) too_many (ten ∷ []) WrongKeptList

-- buffers that fit exactly, and each of them one short (4)
pub record Fits : Type 0 where
  pub exactly : searched_in_order (asked 2 (first ∷ second ∷ []) offsets) two-places two-dots (8 ∷ 8 ∷ [])
      ≡ leaves_in_order (left (Found 2 2 0) (holding 2 (second ∷ first ∷ []) (three ∷ one ∷ []) (1 ∷ 0 ∷ 1 ∷ 0 ∷ 0 ∷ 0 ∷ 0 ∷ []))) (five ∷ four ∷ []) (0 ∷ 1 ∷ [])
  pub packed_short : Refuses (asked 2 (first ∷ second ∷ []) offsets) (holding 0 (7 ∷ []) (ten ∷ ten ∷ []) fresh) two-dots BufferTooShort
  pub scores-short : Refuses (asked 2 (first ∷ second ∷ []) offsets) (holding 0 (7 ∷ 8 ∷ []) (ten ∷ []) fresh) two-dots BufferTooShort
  pub visits_short : Refuses (asked 2 (first ∷ second ∷ []) offsets) (holding 0 (7 ∷ 8 ∷ []) (ten ∷ ten ∷ []) (0 ∷ 0 ∷ 0 ∷ 0 ∷ 0 ∷ 0 ∷ [])) two-dots BufferTooShort
  pub dots_short : Refuses (asked 2 (first ∷ second ∷ []) offsets) two-places (ten ∷ []) BufferTooShort
  pub order_short : searched_in_order (asked 2 (first ∷ second ∷ []) offsets) two-places two-dots (8 ∷ []) ≡ leaves_in_order (left (Refused BufferTooShort) two-places) two-dots (8 ∷ [])
  -- the greatest k needs as many places
  pub k_huge : Refuses (asked 18446744073709551615 (first ∷ second ∷ []) offsets) two-places two-dots BufferTooShort

abbrev answered : Question → Lends → Answer
answered q l = (searched q l dots).found.answer

abbrev full : Float → Lends
full x = holding 1 (7 ∷ []) (x ∷ []) fresh

abbrev none_kept : Lends
none_kept = holding 0 (7 ∷ []) (ten ∷ []) fresh

pub record Corners : Type 0 where
  -- no summaries: any block offsets, postings there all the same; nothing is searched. Components without entries are no fault
  pub no_summaries : searched (asked_over (arrays [] (0 ∷ []) [] [] [] []) half 1 (first ∷ broken ∷ []) (9 ∷ 3 ∷ 77 ∷ [])) none_kept [] ≡ leaves (left (Found 0 0 0) none_kept) []
  pub empty_components : answered (asked_over (arrays (4 ∷ 9 ∷ []) (0 ∷ 0 ∷ 0 ∷ []) [] [] [] []) half 1 [] []) none_kept ≡ Found 0 0 0
  -- equal entries are in order
  pub kept_equal : answered (asked 2 (first ∷ second ∷ []) offsets) (holding 2 (7 ∷ 7 ∷ []) (ten ∷ ten ∷ []) fresh) ≡ Found 2 1 1
  -- the factor a NaN, and factor 0 with an infinite worst, whose product is a NaN: nothing is skipped; an infinite worst skips both blocks
  pub nan_factor : answered (asked_by nan 1 (first ∷ second ∷ []) offsets) (full ten) ≡ Found 1 2 0
  pub zero_times_infinite : answered (asked_by zero 1 (first ∷ second ∷ []) offsets) (full (inf false)) ≡ Found 1 2 0
  pub infinite_worst : answered (asked 1 (first ∷ second ∷ []) offsets) (full (inf false)) ≡ Found 1 0 2
  -- a step of -0: each value is the minimum
  pub minus_zero_steps : (searched (asked_over (arrays (1 ∷ []) (0 ∷ 2 ∷ []) (0 ∷ 1 ∷ []) (5 ∷ 4 ∷ []) (two ∷ two ∷ []) (neg zero ∷ neg zero ∷ [])) half 1 (first ∷ second ∷ []) offsets) none_kept
      dots).block_scores ≡ two ∷ two ∷ ten ∷ []
  -- an empty page that starts at the term count has a byte and a score of +0
  pub at_the_end : searched (asked 1 (pack_of 6 0 ∷ []) (0 ∷ 1 ∷ 1 ∷ [])) none_kept dots ≡ leaves (left (Found 1 1 0) (holding 1 (pack_of 6 0 ∷ []) (zero ∷ []) (0 ∷ 0 ∷ 0 ∷ 0 ∷ 0 ∷ 0 ∷ 1 ∷ []))) scored
  -- any nonzero byte is a visit, and stays
  pub any_byte : searched (asked 1 (first ∷ []) (0 ∷ 1 ∷ 1 ∷ [])) (holding 0 (7 ∷ []) (ten ∷ []) (255 ∷ 0 ∷ 0 ∷ 0 ∷ 0 ∷ 0 ∷ 0 ∷ [])) dots
      ≡ leaves (left (Found 0 0 0) (holding 0 (7 ∷ []) (ten ∷ []) (255 ∷ 0 ∷ 0 ∷ 0 ∷ 0 ∷ 0 ∷ 0 ∷ []))) scored
  -- block offsets that start past 0 and end early: the other postings are not searched
  pub part_of_the_list : answered (asked 1 (broken ∷ first ∷ broken ∷ []) (1 ∷ 1 ∷ 2 ∷ [])) none_kept ≡ Found 1 1 0
  -- a sorted search whose order is not the number order, stopped in the block that has its turn first: scores and order stand
  pub sorted_stops : searched_in_order (asked_over (two_blocks 4 5) half 1 (first ∷ broken ∷ []) offsets) none_kept dots (8 ∷ 8 ∷ []) ≡ leaves_in_order (left (Stopped WrongTerms 1) none_kept) (four ∷ five
      ∷ ten ∷ []) (1 ∷ 0 ∷ [])

pub worked-corners : Refusals × Fits × Corners
unfolding searched searched_in_order by_score sorted_by insert_by slices_hold terms_hold in_bound paired zip_with well_formed list_limit block_limit blocks_hold lengths_hold offsets_hold ids_hold bounds_hold
    step_allowed well_kept better key_of scores_of score_of entries_at entries range_reading reading dot start_of length_of pack_of length_limit at_most is_nan to_bits of_bits le lt eq neg add mul of_int
worked-corners = (
  record {
    only_11 = refl;
    query_falls = refl;
    query_lengths = refl;
    query_infinite = refl;
    only_6 = refl;
    offsets_few = refl;
    steps_alone = refl;
    kept_above_k = refl;
    kept_above_buffers = refl;
    kept_nan = refl;
    kept_zeros = refl;
    eleven_before_ten = refl;
    ten_before_six = refl;
    six_before_nine = refl;
    nine_before_twelve = refl;
    twelve_before_four = refl;
  },
  record {
    exactly = refl;
    packed_short = refl;
    scores-short = refl;
    visits_short = refl;
    dots_short = refl;
    order_short = refl;
    k_huge = refl;
  },
  record {
    no_summaries = refl;
    empty_components = refl;
    kept_equal = refl;
    nan_factor = refl;
    zero_times_infinite = refl;
    infinite_worst = refl;
    minus_zero_steps = refl;
    at_the_end = refl;
    any_byte = refl;
    part_of_the_list = refl;
    sorted_stops = refl;
  },
)
