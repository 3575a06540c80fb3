-- What is told from other buffers that begin the same, and so by crate explain_small, which has its own.
use Rattle.std.specs.Prelude.{ℕ, zero, suc, ◌+◌, ◌≤◌, ◌<◌, ◌≡◌, false, [], ◌∷◌, length, take, replicate, leb, ltb, Ok}
use Rattle.std.proofs.Common.{arith, sym, ◌∙◌, le-ltb}
use Rattle.std.proofs.Math.Path.{refl, ap}
use Rattle.std.proofs.lemmas.List.{length-replicate}
use Rattle.std.proofs.lemmas.Bool.{lt-leb}
use Rattle.refusal.specs.First.{first_of}
use Rattle.refusal.specs.Laws.First.{faultless, accepted-by}
use Rattle.kept_list.specs.Lent.{beside}
use Rattle.search_probe.specs.declared.Answer.TheVariants.{Found}
use Rattle.search_probe.specs.Probing.{Place, State, state, sweep}
use Rattle.search_probe.specs.Probed.{Lends, tests, bytes_of, laid, if_accepted, opened, probed}
use Rattle.search.specs.Trace.{turns}
use Rattle.explain_small.specs.Short.{fresh, fate_short}
use Rattle.explain_promises.specs.Telling.{Search, told, given_of, blocks_of, began_with, story_of, answered, Ended, TellsTrue}
use Rattle.explain_promises.specs.Laws.Met.{ended-on}
use Rattle.explain_promises.specs.Laws.True.{tells-true}

-- the search with other buffers
abbrev pub lent_as : Search → Lends → Search
lent_as q l = record {
  k = q.k;
  factor = q.factor;
  terms = q.terms;
  postings = q.postings;
  block_offsets = q.block_offsets;
  block_scores = q.block_scores;
  block_order = q.block_order;
  count = q.count;
  lent = l;
}

-- what is told from these is true of the search's story
pub record TellsFrom (q : Search) (l : Lends) : Type 0 where
  pub story_is : story_of (lent_as q l) ≡ story_of q
  pub tells : TellsTrue (lent_as q l)

module _ (q : Search) (l : Lends) (accepted : first_of (tests q.k q.terms l) ≡ Ok tt) (begins : opened q.terms l ≡ began_with q) (ended : Ended q) where
  abbrev last : State
  last = (ended-on q ended).1

  answered-so : answered (lent_as q l) ≡ Found (length last.kept) last.evaluated last.skipped
  unfolding probed
  answered-so =
      ap (λ v. (if_accepted v (laid q.terms l (sweep (given_of q) (blocks_of q) (opened q.terms l))) l).answer) accepted
      ∙ ap (λ s. (laid q.terms l (sweep (given_of q) (blocks_of q) s)).answer) begins
      ∙ ap (λ r. (laid q.terms l r).answer) (ended-on q ended).2

  pub tells-from : TellsFrom q l
  tells-from = record {
    story_is = ap (turns (given_of q) (blocks_of q)) begins;
    tells = tells-true (lent_as q l) (record { kept = length last.kept; evaluated = last.evaluated; skipped = last.skipped; found = answered-so });
  }

take-replicate : (n m x : ℕ) → n ≤ m → take n (replicate m x) ≡ replicate n x
take-replicate zero m x h = refl
take-replicate (suc n) zero x h = absurd (omega arith)
take-replicate (suc n) (suc m) x h = ap (λ l. x ∷ l) (take-replicate n m x (omega arith))

-- a search that begins with nothing kept and nothing visited, and is short
pub record BeginsShort (q : Search) : Type 0 where
  pub none_kept : q.lent.kept.size ≡ 0
  pub none_visited : bytes_of q.terms q.lent.visits ≡ replicate (length q.terms.components + 1) 0
  pub few : q.k ≤ 16
  pub few_terms : length q.terms.components < 64

module _ (q : Search) (short : BeginsShort q) (ended : Ended q) where
  accepts : first_of (tests q.k q.terms fresh) ≡ Ok tt
  accepts =
      let f = faultless (tests q.k q.terms q.lent) (ended-on q ended).0 in
      let a : ltb (length fresh.kept.packed) q.k ≡ false = le-ltb (length fresh.kept.packed) q.k (omega (arith, length-replicate {A = ℕ} 16 0, short.few)) in
      let c : leb (length fresh.visits) (length q.terms.components) ≡ false = lt-leb (length fresh.visits) (length q.terms.components)
      (omega (arith, length-replicate {A = ℕ} 64 0, short.few_terms)) in
      accepted-by (tests q.k q.terms fresh) (f.0, (f.1.0, (le-ltb q.k 0 (omega arith), (rw (a, c), tt))))

  begins-fresh : opened q.terms fresh ≡ began_with q
  begins-fresh =
      let few : length q.terms.components + 1 ≤ 64 = omega (arith, short.few_terms) in
      ap (λ v. state [] v 0 0) (take-replicate (length q.terms.components + 1) 64 0 few ∙ sym short.none_visited)
      ∙ ap (λ n. state (beside (take n q.lent.kept.packed) (take n q.lent.kept.scores)) (bytes_of q.terms q.lent.visits) 0 0) (sym short.none_kept)

  -- what explain_small tells of it is true
  pub short-tells : TellsFrom q fresh
  short-tells = tells-from q fresh accepts begins-fresh ended

  pub short-told : (i : Place) → fate_short q.k q.factor q.terms q.postings q.block_offsets q.block_scores q.block_order q.count i ≡ told (lent_as q fresh) i
  unfolding fate_short
  short-told i = refl
