-- Two searches one after the other, the second with what the first left: together they are one.
use Rattle.std.specs.Prelude.{ℕ, ◌+◌, ◌≡◌, true, cond, List, ◌++◌, length, get_or, take}
use Rattle.std.proofs.Common.{arith, sym, ap, ◌∙◌, append_assoc}
use Rattle.sequences.specs.Lists.{among}
use Rattle.kept_list.specs.Entry.{better}
use Rattle.kept_list.specs.Laws.Entry.{better-order}
use Rattle.kept_list.specs.Keep.{k_best}
use Rattle.kept_list.specs.Laws.Best.{k_best-left}
use Rattle.kept_list.specs.Lent.{entries}
use Rattle.search_probe.specs.Probing.{left}
use Rattle.search_probe.specs.Probed.{Lends, bytes_of}
use Rattle.search.specs.Searched.{Question, given_for, swept}
use Rattle.search.specs.Trace.{Event, entries_of, starts_of, events_of}
use Rattle.search_promises.specs.Ran.{Ran}

module _ (q r : Question) (l : Lends) (blocks cs : List ℕ) (x y : Lends) (A : Ran q l blocks x) (B : Ran r x cs y) where
  abbrev pub first : List Event
  first = events_of A.promises.sweeps.story

  abbrev pub second : List Event
  second = events_of B.promises.sweeps.story

  -- what is kept at the end are the k best of all: those before both, and those evaluated in either
  pub chain-keeps : r.k ≡ q.k → entries y.kept ≡ k_best better q.k (entries l.kept ++ (entries_of first ++ entries_of second))
  chain-keeps same =
      B.keeps_best
      ∙ ap (λ k. k_best better k (entries x.kept ++ entries_of second)) same
      ∙ ap (λ es. k_best better q.k (es ++ entries_of second)) A.keeps_best
      ∙ k_best-left better better-order q.k (entries l.kept ++ entries_of first) (entries_of second)
      ∙ ap (k_best better q.k) (append_assoc (entries l.kept) (entries_of first) (entries_of second))

  -- no start is evaluated in both
  pub chain-once : length r.terms.components ≡ length q.terms.components → (s : ℕ) → among s (starts_of (given_for q) first) ≡ true → among s (starts_of (given_for r) second) ≡ true → ⊥
  chain-once same s a b =
      let P = A.promises.sweeps in
      let u = (B.promises.sweeps.unvisited s b).1 in
      let v = P.marks_at s (P.unvisited s a).0 in
      let before = get_or (bytes_of q.terms l.visits) s 0 in
      let w : get_or (left (swept q blocks l)).visits s 0 ≡ 1 = v ∙ ap (λ z. cond z 1 before) a in
      let z : get_or (left (swept q blocks l)).visits s 0 ≡ 0 = ap (λ z. get_or z s 0) (sym A.bytes_again) ∙ ap (λ n. get_or (take (n + 1) x.visits) s 0) (sym same) ∙ u in
      omega arith
