-- What a search gives back, and what it leaves in lent memory. Document 01, "Search" and "Numbered refusals".
use Rattle.refusal.specs.declared.Refusal.{Refusal}
use Rattle.std.specs.Prelude.{ℕ, Bool, not, ◌&&◌, List, [], ◌∷◌, length, eqb, leb, ltb, Float, Result, Ok, Err}
use Rattle.sequences.specs.Lists.{from}
use Rattle.refusal.specs.declared.Refusal.TheVariants.{NothingToKeep, WrongQuery, WrongDocuments, MalformedList, WrongKeptList, BufferTooShort}
use Rattle.refusal.specs.First.{Test, ◌gives◌, first_of}
use Rattle.documents.specs.Documents.{paired}
use Rattle.documents.specs.Checks.{slices_hold}
use Rattle.kept_list.specs.Lent.{places}
use Rattle.kept_list.specs.Push.{well_kept}
use Rattle.sparse_scores.specs.Layout.{Layout}
use Rattle.sparse_scores.specs.Scores.{scores_of, put_in}
use Rattle.sparse_scores.specs.WellFormed.{well_formed}
use Rattle.search_probe.specs.declared.Answer.TheVariants.{Refused}
use Rattle.search_probe.specs.Probing.{Given, Reached, sweep}
use Rattle.search_probe.specs.Probed.{Terms, Lends, Left, left, given, laid, opened}
use Rattle.search.specs.Order.{by_score}

-- what is asked, over which terms, and the list that is searched: its postings, its block offsets and its summaries
pub record Question : Type 0 where
  pub k : ℕ
  pub factor : Float
  pub terms : Terms
  pub postings : List ℕ
  pub block_offsets : List ℕ
  pub layout : Layout

abbrev pub question : ℕ → Float → Terms → List ℕ → List ℕ → Layout → Question
question k factor t ps os l = record { k = k; factor = factor; terms = t; postings = ps; block_offsets = os; layout = l }

-- a block for each stored minimum
abbrev pub block_count : Question → ℕ
block_count q = length q.layout.minimums

-- the score of each block
abbrev pub scores_for : Question → List Float
scores_for q = scores_of q.layout (paired q.terms.query_components q.terms.query_values)

-- the blocks have their turns in an order, with these scores
abbrev pub given_for : Question → Given
given_for q = given q.k q.factor q.terms q.postings q.block_offsets (scores_for q)

abbrev pub swept : Question → List ℕ → Lends → Reached
swept q blocks l = sweep (given_for q) blocks (opened q.terms l)

-- ---- refusals: 11, 10, 6, 9, 12, 4
-- kept buffers for k entries, a byte for each start from 0 to the term count, and so many places for the blocks
abbrev pub room : Question → Lends → Bool → Bool
room q l blocks = places q.k l.kept && (ltb (length q.terms.components) (length l.visits) && blocks)

abbrev pub tests : Question → Lends → Bool → List Test
tests q l blocks =
    (eqb q.k 0 gives NothingToKeep)
    ∷ (not (slices_hold q.terms.query_components q.terms.query_values) gives WrongQuery)
    ∷ (not (eqb (length q.terms.components) (length q.terms.values)) gives WrongDocuments)
    ∷ (not (well_formed (length q.postings) q.block_offsets q.layout) gives MalformedList)
    ∷ (not (well_kept q.k l.kept) gives WrongKeptList)
    ∷ (not (room q l blocks) gives BufferTooShort)
    ∷ []

-- ---- blocks in number order: what was found, and the scores
pub record Searched : Type 0 where
  pub found : Left
  pub block_scores : List Float

abbrev pub leaves : Left → List Float → Searched
leaves f xs = record { found = f; block_scores = xs }

abbrev pub if_accepted : Result (Unit {0}) Refusal → Searched → Lends → List Float → Searched
if_accepted (Ok _) done l xs = done
if_accepted (Err r) done l xs = leaves (left (Refused r) l) xs

-- a score for each stored minimum
abbrev pub score_places : Question → List Float → Bool
score_places q xs = leb (block_count q) (length xs)

unfoldable pub searched : Question → Lends → List Float → Searched
searched q l xs = if_accepted (first_of (tests q l (score_places q xs))) (leaves (laid q.terms l (swept q (from 0 (block_count q)) l)) (put_in (scores_for q) xs)) l xs

-- ---- greater score first: besides, the probing order
pub record SearchedInOrder : Type 0 where
  pub found : Left
  pub block_scores : List Float
  pub block_order : List ℕ

abbrev pub leaves_in_order : Left → List Float → List ℕ → SearchedInOrder
leaves_in_order f xs bs = record { found = f; block_scores = xs; block_order = bs }

abbrev pub if_accepted_in_order : Result (Unit {0}) Refusal → SearchedInOrder → Lends → List Float → List ℕ → SearchedInOrder
if_accepted_in_order (Ok _) done l xs bs = done
if_accepted_in_order (Err r) done l xs bs = leaves_in_order (left (Refused r) l) xs bs

-- and an order place
abbrev pub order_places : Question → List Float → List ℕ → Bool
order_places q xs bs = score_places q xs && leb (block_count q) (length bs)

unfoldable pub searched_in_order : Question → Lends → List Float → List ℕ → SearchedInOrder
searched_in_order q l xs bs =
    if_accepted_in_order (first_of (tests q l (order_places q xs bs)))
    (leaves_in_order (laid q.terms l (swept q (by_score (scores_for q)) l)) (put_in (scores_for q) xs) (put_in (by_score (scores_for q)) bs)) l xs bs
