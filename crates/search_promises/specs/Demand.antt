-- What demand 2 comes to for the answer of a search: its counts, and what it did to the list that it began with.
use Rattle.std.specs.Prelude.{ℕ, ◌+◌, ◌≤◌, ◌<◌, ◌≡◌, true, false, length, get_or}
use Rattle.std.proofs.Common.{arith, sym, ap, ◌∙◌, subst}
use mathlib.Core.List.Memᴰ
use mathlib.Core.List.{List, ◌++◌, Memᴰ}
use Rattle.std.specs.Float.{nan}
use Rattle.sequences.specs.Lists.{EachOf, among}
use Rattle.kept_list.specs.declared.Scored.{Scored}
use Rattle.kept_list.specs.Entry.{better}
use Rattle.kept_list.specs.Laws.Entry.{better-order}
use Rattle.kept_list.specs.Laws.LeftOut.{left_out}
use Rattle.kept_list.specs.Lent.{entries}
use Rattle.search_probe.specs.Probing.{start_at}
use Rattle.search_probe.specs.Probed.{Lends, bytes_of, opened}
use Rattle.search.specs.Searched.{Question, given_for, swept}
use Rattle.search.specs.Trace.{starts_of, entries_of, events_of}
use Rattle.search.specs.Fates.{Posting}
use Rattle.search_promises.specs.Counts.{visited_in}
use Rattle.search_promises.specs.Ran.{Ran}
use Rattle.search_promises.specs.Ended.{Ended}
use Rattle.search_promises.specs.Laws.Evaluated as evaluated

-- whatever was kept and is not kept any more: k are kept now, and it is better than none of them
pub never-worse : (q : Question) (l : Lends) (blocks : List ℕ) (x : Lends) → Ran q l blocks x → (d : Scored) → Memᴰ d (entries l.kept) → (Memᴰ d (entries x.kept) → ⊥)
    → (length (entries x.kept) ≡ q.k) × EachOf (λ c. better d c ≡ false) (entries x.kept)
never-worse q l blocks x R d i o =
    let es = entries_of (events_of R.promises.sweeps.story) in
    subst (λ es. (length es ≡ q.k) × EachOf (λ c. better d c ≡ false) es) (sym R.keeps_best)
    (left_out better better-order q.k (entries l.kept ++ es) d (Memᴰ.append_left es i) (λ k. o (subst (Memᴰ d) (sym R.keeps_best) k)))

module _ (q : Question) (l : Lends) (blocks : List ℕ) (x : Lends) (n e m : ℕ) (E : Ended q l blocks x n e m) where
  -- with a NaN for the factor nothing is skipped
  pub nan-skips-none : q.factor ≡ nan → m ≡ 0
  nan-skips-none h = E.counts_skipped ∙ evaluated.nan-skips-none (given_for q) blocks (opened q.terms l) (swept q blocks l) E.runs.promises.sweeps h

  -- no more are evaluated than there are postings
  pub few-evaluated : e ≤ length q.postings
  few-evaluated = omega (arith, E.counts_evaluated, evaluated.few-evaluated (given_for q) blocks (opened q.terms l) (swept q blocks l) E.runs.promises.sweeps)

  -- as many are evaluated as starts became visited
  pub counts-marks : visited_in (bytes_of q.terms x.visits) ≡ visited_in (bytes_of q.terms l.visits) + e
  counts-marks =
      ap visited_in E.runs.bytes_again ∙ evaluated.counts-marks (given_for q) blocks (opened q.terms l) (swept q blocks l) E.runs.promises.sweeps
      ∙ ap (λ n. visited_in (bytes_of q.terms l.visits) + n) (sym E.counts_evaluated)

  -- with k above all that is kept and all postings nothing is skipped, and every start that was unvisited is evaluated
  module _ (large : length (entries l.kept) + length q.postings < q.k) where
    pub large-skips-none : m ≡ 0
    large-skips-none = E.counts_skipped ∙ evaluated.large-skips-none (given_for q) blocks (opened q.terms l) (swept q blocks l) E.runs.promises.sweeps large

    pub large-evaluates-all : (p : Posting (given_for q) blocks) → get_or (bytes_of q.terms l.visits) (start_at (given_for q) p.place) 0 ≡ 0
        → among (start_at (given_for q) p.place) (starts_of (given_for q) (events_of E.runs.promises.sweeps.story)) ≡ true
    large-evaluates-all = evaluated.large-evaluates-all (given_for q) blocks (opened q.terms l) (swept q blocks l) E.runs.promises.sweeps large E.last E.on
