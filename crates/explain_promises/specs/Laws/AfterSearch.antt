-- What is told of a search that came to its end from what it left, its blocks' scores and the order of their turns, is true of it.
use Rattle.refusal.specs.declared.Refusal.{Refusal}
use Rattle.std.specs.Prelude.{ℕ, zero, suc, ◌+◌, ◌≤◌, ◌<◌, Bool, false, ◌&&◌, length, get_or, leb, ltb, Float, Result, Ok, Err}
use Rattle.std.proofs.Common.{arith, sym, ◌∙◌, ext_get_or}
use Rattle.std.proofs.Math.Path.{◌≡◌, refl, ap}
use mathlib.Core.List.{List, [], ◌∷◌, map}
use Rattle.std.specs.Float.{nan}
use borrow.Author.Tests.{not-false, leb-true, ltb-true, le-ltb, lt-leb}
use Rattle.sequences.specs.Lists.{EachOf, from}
use Rattle.sequences.specs.Laws.Sorted.{each-sorted_by}
use Rattle.sequences.specs.Laws.Lists.{both, from_at as made_at, any-default}
use Rattle.sequences.specs.Laws.Each.{each_to}
use Rattle.refusal.specs.First.{first_of, Faultless}
use Rattle.refusal.specs.Laws.First.{faultless, accepted-by}
use Rattle.kept_list.specs.Lent.{entries, places}
use Rattle.kept_list.specs.Push.{sound, well_kept}
use Rattle.sparse_scores.specs.Scores.{put_in}
use Rattle.sparse_scores.specs.Laws.WalkLaws.{put_front}
use Rattle.search_probe.specs.declared.Answer.{Answer}
use Rattle.search_probe.specs.declared.Answer.TheVariants.{Found}
use Rattle.search_probe.specs.Probing.{sweep}
use Rattle.search_probe.specs.Probed.{Lends, given, laid, opened, listed, probed}
use Rattle.search_probe.specs.Probed as probing
use Rattle.search.specs.Order.{no_later, by_score}
use Rattle.search.specs.Searched.{Question, block_count, scores_for, given_for, swept, tests, Searched, leaves, if_accepted, score_places, searched, SearchedInOrder, leaves_in_order, if_accepted_in_order}
use Rattle.search.specs.Searched.{order_places, searched_in_order}
use Rattle.search.specs.Trace.{turns}
use Rattle.search.proofs.Keyed.{order-length}
use Rattle.search.specs.Laws.Numbers.{roomy, scores-many}
use Rattle.explain_promises.specs.Laws.Cuts.{length_from}
use Rattle.explain_promises.specs.Telling.{Search, story_of, answered, Ended, TellsTrue}
use Rattle.explain_promises.specs.Laws.Alike.{sweep-alike}
use Rattle.explain_promises.specs.Laws.True.{tells-true}

-- the search of a question, told from these scores and this order
abbrev pub search_of : Question → List Float → List ℕ → Lends → Search
search_of q block_scores order l = record {
  k = q.k;
  factor = q.factor;
  terms = q.terms;
  postings = q.postings;
  block_offsets = q.block_offsets;
  block_scores = block_scores;
  block_order = order;
  count = block_count q;
  lent = l;
}

-- the search had these turns and came to its end, and what is told is true of their story
pub record TellsOf (q : Question) (block_scores : List Float) (order : List ℕ) (l : Lends) (blocks : List ℕ) : Type 0 where
  pub story_is : story_of (search_of q block_scores order l) ≡ turns (given_for q) blocks (opened q.terms l)
  pub ended : Ended (search_of q block_scores order l)
  pub tells : TellsTrue (search_of q block_scores order l)

-- ---- numbers listed from where they were put
listed-put : (bs buffer : List ℕ) (n : ℕ) → length bs ≡ n → n ≤ length buffer → listed (put_in bs buffer) n ≡ bs
listed-put bs buffer n e h = ext_get_or 0 (listed (put_in bs buffer) n) bs (length_from (λ i. get_or (put_in bs buffer) i i) 0 n ∙ sym e) each
  where
    each : (i : ℕ) → i < length (listed (put_in bs buffer) n) → get_or (listed (put_in bs buffer) n) i 0 ≡ get_or bs i 0
    each i k =
        let l = length_from (λ i. get_or (put_in bs buffer) i i) 0 n in
        let z : 0 + i ≡ i = omega arith in
        made_at (λ i. get_or (put_in bs buffer) i i) 0 0 n i (omega arith)
        ∙ ap (λ j. get_or (put_in bs buffer) j j) z
        ∙ put_front i bs buffer i (omega arith) (omega arith)
        ∙ any-default bs i i 0 (omega arith)

listed-none : (a n : ℕ) → map (λ i. get_or [] i i) (from a n) ≡ from a n
listed-none a zero = refl
listed-none a (suc n) = ap (λ l. a ∷ l) (listed-none (suc a) n)

-- ---- each block of the order has a score
each_below : (a n m : ℕ) → a + n ≤ m → EachOf (λ b. b < m) (from a n)
each_below a zero m h = tt
each_below a (suc n) m h = (omega arith, each_below (suc a) n m (omega arith))

order_below : (xs : List Float) → EachOf (λ b. b < length xs) (by_score xs)
unfolding by_score
order_below xs = each-sorted_by (no_later xs) (λ b. b < length xs) (from 0 (length xs)) (each_below 0 (length xs) (length xs) (omega arith))

-- ---- an accepted search
module _ (q : Question) (l : Lends) (b : Bool) (accepted : first_of (tests q l b) ≡ Ok tt) where
  faults : Faultless (tests q l b)
  faults = faultless (tests q l b) accepted

  few-kept : ltb q.k l.kept.size ≡ false
  unfolding well_kept
  few-kept =
      let w = both (leb l.kept.size q.k && places l.kept.size l.kept) (sound (entries l.kept)) (not-false (well_kept q.k l.kept) faults.1.1.1.1.0) in
      le-ltb q.k l.kept.size (leb-true l.kept.size q.k (both (leb l.kept.size q.k) (places l.kept.size l.kept) w.0).0)

  -- it is accepted where its blocks are probed
  probing-accepts : first_of (probing.tests q.k q.terms l) ≡ Ok tt
  probing-accepts =
      let p = both (leb q.k (length l.kept.packed)) (leb q.k (length l.kept.scores)) (roomy q l b accepted).0 in
      let a : ltb (length l.kept.packed) q.k ≡ false = le-ltb (length l.kept.packed) q.k (leb-true q.k (length l.kept.packed) p.0) in
      let c : ltb (length l.kept.scores) q.k ≡ false = le-ltb (length l.kept.scores) q.k (leb-true q.k (length l.kept.scores) p.1) in
      let d : leb (length l.visits) (length q.terms.components) ≡ false =
      lt-leb (length l.visits) (length q.terms.components) (ltb-true (length q.terms.components) (length l.visits) (roomy q l b accepted).1.0) in
      accepted-by (probing.tests q.k q.terms l) (faults.1.0, (faults.1.1.0, (few-kept, (rw (a, c, d), tt))))

  module _ (block_scores : List Float) (order blocks : List ℕ) (listed-is : listed order (block_count q) ≡ blocks) (same : EachOf (λ c. get_or block_scores c nan ≡ get_or (scores_for q) c nan) blocks) where
    alike : (sweep (given q.k q.factor q.terms q.postings q.block_offsets block_scores) blocks (opened q.terms l) ≡ swept q blocks l)
        × (turns (given q.k q.factor q.terms q.postings q.block_offsets block_scores) blocks (opened q.terms l) ≡ turns (given_for q) blocks (opened q.terms l))
    alike = sweep-alike q.k q.factor q.terms q.postings q.block_offsets block_scores (scores_for q) blocks (opened q.terms l) same

    answered-so : (a : Answer) → (laid q.terms l (swept q blocks l)).answer ≡ a → answered (search_of q block_scores order l) ≡ a
    unfolding probed
    answered-so a h =
        let g = given q.k q.factor q.terms q.postings q.block_offsets block_scores in
        let s = opened q.terms l in
        ap (λ v. (probing.if_accepted v (laid q.terms l (sweep g (listed order (block_count q)) s)) l).answer) probing-accepts
        ∙ ap (λ bs. (laid q.terms l (sweep g bs s)).answer) listed-is
        ∙ ap (λ r. (laid q.terms l r).answer) alike.0
        ∙ h

    ended-tells : (n e m : ℕ) → (laid q.terms l (swept q blocks l)).answer ≡ Found n e m → TellsOf q block_scores order l blocks
    ended-tells n e m h =
        let end : Ended (search_of q block_scores order l) = record { kept = n; evaluated = e; skipped = m; found = answered-so (Found n e m) h } in
        record {
          story_is = ap (λ bs. turns (given q.k q.factor q.terms q.postings q.block_offsets block_scores) bs (opened q.terms l)) listed-is ∙ alike.1;
          ended = end;
          tells = tells-true (search_of q block_scores order l) end;
        }

  -- the blocks' scores are read where they were put
  scores-put : (xs : List Float) → block_count q ≤ length xs → (blocks : List ℕ) → EachOf (λ c. c < length (scores_for q)) blocks → EachOf (λ c. get_or (put_in (scores_for q) xs) c nan
      ≡ get_or (scores_for q) c nan) blocks
  scores-put xs h = each_to _ _ (λ c k. put_front nan (scores_for q) xs c k (omega (arith, scores-many q l b accepted)))

-- ---- the two searches: blocks in number order, and greater score first
module _ (q : Question) (l : Lends) (xs : List Float) where
  abbrev numbered : Searched
  numbered = leaves (laid q.terms l (swept q (from 0 (block_count q)) l)) (put_in (scores_for q) xs)

  abbrev sorted : List ℕ → SearchedInOrder
  sorted bs = leaves_in_order (laid q.terms l (swept q (by_score (scores_for q)) l)) (put_in (scores_for q) xs) (put_in (by_score (scores_for q)) bs)

  pub search-tells : (n e m : ℕ) → (searched q l xs).found.answer ≡ Found n e m → TellsOf q (searched q l xs).block_scores [] l (from 0 (block_count q))
  unfolding searched
  search-tells n e m h = go (first_of (tests q l (score_places q xs))) refl h
    where
      go : (v : Result (Unit {0}) Refusal) → first_of (tests q l (score_places q xs)) ≡ v → (if_accepted v numbered l xs).found.answer ≡ Found n e m → TellsOf q (if_accepted v numbered l xs).block_scores [] l
          (from 0 (block_count q))
      go (Ok tt) a h =
          let room = leb-true (block_count q) (length xs) (roomy q l (score_places q xs) a).1.1 in
          let below = each_below 0 (block_count q) (length (scores_for q)) (omega (arith, scores-many q l (score_places q xs) a)) in
          ended-tells q l (score_places q xs) a (put_in (scores_for q) xs) [] (from 0 (block_count q)) (listed-none 0 (block_count q)) (scores-put q l (score_places q xs) a xs room (from 0 (block_count q))
          below) n e m h
      go (Err r) a h = absurd (let z : ◌≡◌ {A = ℕ} 0 1 = cc in omega arith)

  pub sorted-search-tells : (bs : List ℕ) (n e m : ℕ) → (searched_in_order q l xs bs).found.answer ≡ Found n e m → TellsOf q (searched_in_order q l xs bs).block_scores
      (searched_in_order q l xs bs).block_order l (by_score (scores_for q))
  unfolding searched_in_order
  sorted-search-tells bs n e m h = go (first_of (tests q l (order_places q xs bs))) refl h
    where
      go : (v : Result (Unit {0}) Refusal) → first_of (tests q l (order_places q xs bs)) ≡ v → (if_accepted_in_order v (sorted bs) l xs bs).found.answer ≡ Found n e m
          → TellsOf q (if_accepted_in_order v (sorted bs) l xs bs).block_scores (if_accepted_in_order v (sorted bs) l xs bs).block_order l (by_score (scores_for q))
      go (Ok tt) a h =
          let p = both (score_places q xs) (leb (block_count q) (length bs)) (roomy q l (order_places q xs bs) a).1.1 in
          let room = leb-true (block_count q) (length xs) p.0 in
          let places = leb-true (block_count q) (length bs) p.1 in
          let many = order-length (scores_for q) ∙ scores-many q l (order_places q xs bs) a in
          ended-tells q l (order_places q xs bs) a (put_in (scores_for q) xs) (put_in (by_score (scores_for q)) bs) (by_score (scores_for q)) (listed-put (by_score (scores_for q)) bs (block_count q) many places)
          (scores-put q l (order_places q xs bs) a xs room (by_score (scores_for q)) (order_below (scores_for q))) n e m h
      go (Err r) a h = absurd (let z : ◌≡◌ {A = ℕ} 0 1 = cc in omega arith)
