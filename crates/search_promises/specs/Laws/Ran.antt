-- Laws of Ran: every accepted search has it, and the next one finds all that it needs.
use Rattle.std.specs.Prelude.{ℕ, ◌+◌, ◌≤◌, ◌≡◌, Bool, true, not, ◌&&◌, List, ◌++◌, map, length, take, drop, leb, ltb, eqb, Ok}
use Rattle.std.proofs.Common.{arith, sym, ap, ◌∙◌, subst, length-append, length-drop, take_at, length-take-le, leb-true, ltb-true, le-leb}
use Rattle.std.proofs.lemmas.List.{length-map}
use Rattle.std.proofs.lemmas.Bool.{not-false}
use Rattle.sequences.specs.Lists.{every}
use Rattle.sequences.specs.Laws.Lists.{both}
use Rattle.refusal.specs.First.{first_of, Faultless}
use Rattle.refusal.specs.Laws.First.{faultless, accepted-by}
use Rattle.documents.specs.Checks.{slices_hold}
use Rattle.kept_list.specs.declared.Scored.{Scored}
use Rattle.kept_list.specs.Entry.{better}
use Rattle.kept_list.specs.Laws.Entry.{better-order}
use Rattle.kept_list.specs.Keep.{k_best, in_order}
use Rattle.kept_list.specs.Laws.Best.{sorted-k_best, length-k_best}
use Rattle.kept_list.specs.Lent.{Lent, packed_of, score_of, entries, written, places}
use Rattle.kept_list.specs.Laws.Laid.{entries-written, room-written}
use Rattle.kept_list.specs.Laid.{RoomFor}
use Rattle.kept_list.specs.Push.{is_number, well_kept}
use Rattle.kept_list.specs.Laws.WellKept.{well-kept, is-well-kept}
use Rattle.sparse_scores.specs.WellFormed.{well_formed}
use Rattle.search_probe.specs.Probing.{State, left}
use Rattle.search_probe.specs.Probed.{Lends, bytes_of, rest_of, laid}
use Rattle.search.specs.Searched.{Question, given_for, swept, tests}
use Rattle.search.specs.Trace.{entries_of, starts_of, events_of}
use Rattle.search.specs.Laws.Told.{length_marked}
use Rattle.search.specs.Promises.{SearchPromises}
use Rattle.search.specs.Laws.Promises.{search-promises, visits-at-exit}
use Rattle.search.specs.Laws.KeptNumbers.{kept-numbers}
use Rattle.search.specs.Laws.Numbers.{roomy}
use Rattle.search_promises.specs.Ran.{Ran}
use Rattle.search_probe.specs.Laws.Laid.{laid-list}

module _ (q : Question) (l : Lends) (b : Bool) (accepted : first_of (tests q l b) ≡ Ok tt) (blocks : List ℕ) where
  faults : Faultless (tests q l b)
  faults = faultless (tests q l b) accepted

  abbrev last : State
  last = left (swept q blocks l)

  abbrev kept : Lent
  kept = written last.kept l.kept

  promises : SearchPromises q l blocks (swept q blocks l)
  promises = search-promises q l b accepted blocks

  abbrev all : List Scored
  all = entries l.kept ++ entries_of (events_of promises.sweeps.story)

  bytes : length q.terms.components + 1 ≤ length l.visits
  bytes = omega (arith, ltb-true (length q.terms.components) (length l.visits) (roomy q l b accepted).1.0)

  as_many : length last.visits ≡ length q.terms.components + 1
  as_many =
      ap length promises.sweeps.marks ∙ length_marked (bytes_of q.terms l.visits) (starts_of (given_for q) (events_of promises.sweeps.story))
      ∙ length-take-le (length q.terms.components + 1) l.visits bytes

  few : length last.kept ≤ q.k
  few = let z = ap length promises.sweeps.keeps_best in omega (arith, length-k_best better better-order q.k all)

  kept-best : entries kept ≡ k_best better q.k all
  kept-best = entries-written last.kept l.kept ∙ promises.sweeps.keeps_best

  kept-well : well_kept q.k kept ≡ true
  kept-well =
      is-well-kept q.k kept
      (record {
        few = few;
        held = omega (arith, length-append (map packed_of last.kept) (drop (length last.kept) l.kept.packed), length-map last.kept packed_of);
        held_scores = omega (arith, length-append (map score_of last.kept) (drop (length last.kept) l.kept.scores), length-map last.kept score_of);
        best-first = ap (in_order better) kept-best ∙ sorted-k_best better better-order q.k all;
        numbers = ap (λ m. every is_number (entries m)) (sym (laid-list q.terms l (swept q blocks l))) ∙ kept-numbers q l b accepted blocks;
      })

  room-kept : RoomFor q.k kept
  room-kept =
      let w = well-kept q.k l.kept (not-false (well_kept q.k l.kept) faults.1.1.1.1.0) in
      let p = both (leb q.k (length l.kept.packed)) (leb q.k (length l.kept.scores)) (roomy q l b accepted).0 in
      room-written q.k last.kept l.kept few
      (record { few = w.few; packed_places = leb-true q.k (length l.kept.packed) p.0; score_places = leb-true q.k (length l.kept.scores) p.1 })

  long : length (last.visits ++ rest_of q.terms l.visits) ≡ length l.visits
  long = omega (arith, length-append last.visits (rest_of q.terms l.visits), as_many, length-drop (length q.terms.components + 1) l.visits, bytes)

  room-left : (places q.k kept && (ltb (length q.terms.components) (length (last.visits ++ rest_of q.terms l.visits)) && true)) ≡ true
  room-left =
      let a : leb q.k (length kept.packed) ≡ true = le-leb q.k (length kept.packed) room-kept.packed_places in
      let c : leb q.k (length kept.scores) ≡ true = le-leb q.k (length kept.scores) room-kept.score_places in
      rw (a, c, long, (roomy q l b accepted).1.0)

  pub ran : Ran q l blocks (laid q.terms l (swept q blocks l)).lent
  ran =
      let k = laid-list q.terms l (swept q blocks l) in
      let v = visits-at-exit q l b accepted blocks in
      record {
        accepted = subst (λ c. first_of (tests q l c) ≡ Ok tt) (roomy q l b accepted).1.1 accepted;
        promises = promises;
        kept_is = k;
        visits_is = v;
        keeps_best = ap entries k ∙ kept-best;
        well_kept_again = ap (well_kept q.k) k ∙ kept-well;
        room_again = ap (λ m. places q.k m && (ltb (length q.terms.components) (length (laid q.terms l (swept q blocks l)).lent.visits) && true)) k
            ∙ ap (λ w. places q.k kept && (ltb (length q.terms.components) (length w) && true)) v ∙ room-left;
        bytes_again = ap (take (length q.terms.components + 1)) v ∙ take_at last.visits (rest_of q.terms l.visits) (length q.terms.components + 1) as_many;
      }

-- and so a search of any list over the same terms with the same k is accepted after it, if its query holds (10), its list is well formed
-- (9) and it has places for its blocks (4)
pub accepted-again : (q : Question) (l : Lends) (blocks : List ℕ) (x : Lends) → Ran q l blocks x
    → (r : Question) → r.k ≡ q.k → r.terms.components ≡ q.terms.components → r.terms.values ≡ q.terms.values → slices_hold r.terms.query_components r.terms.query_values ≡ true
    → well_formed (length r.postings) r.block_offsets r.layout ≡ true → first_of (tests r x true) ≡ Ok tt
accepted-again q l blocks x R r k c v h w =
    let f = faultless (tests q l true) R.accepted in
    accepted-by (tests r x true) (
      ap (λ z. eqb z 0) k ∙ f.0,
      (
        ap not h,
        (
          ap (λ z. not (eqb (length z) (length r.terms.values))) c ∙ ap (λ z. not (eqb (length q.terms.components) (length z))) v ∙ f.1.1.0,
          (
            ap not w,
            (
              ap (λ z. not (well_kept z x.kept)) k ∙ ap not R.well_kept_again,
              (
                ap (λ z. not (places z x.kept && (ltb (length r.terms.components) (length x.visits) && true))) k
                    ∙ ap (λ z. not (places q.k x.kept && (ltb (length z) (length x.visits) && true))) c ∙ ap not R.room_again,
                tt,
              ),
            ),
          ),
        ),
      ),
    )
