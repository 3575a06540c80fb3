-- A search as a whole: refused as its tests say, or scored and probed.
use Rattle.std.specs.Prelude.{Result, Ok, Err}
use Prim.Native.Nat.{ℕ, suc, ◌≤◌, min}
use native.Mathlib.Omega.{arith}
use mathlib.Core.Path.{◌≡◌, sym, ap, ◌∙◌}
use mathlib.Core.Bool.{Bool, true, false, not, ◌&&◌, ◌||◌}
use mathlib.Core.List.{List, [], ◌∷◌, ◌++◌}
use lib.ListN.{length, take, drop}
use lib.Dec.{eqb, leb, ltb}
use lib.Ieee.{Float}
use borrow.Author.Tests.{eqb-true, leb-true, ltb-true, le-ltb, lt-leb, not-false}
use Rattle.sequences.specs.Laws.Lists.{both}
use Rattle.refusal.specs.declared.Refusal.{Refusal}
use Rattle.refusal.specs.declared.Refusal.TheVariants.{NothingToKeep, WrongQuery, WrongDocuments, MalformedList, WrongKeptList, BufferTooShort}
use Rattle.refusal.specs.First.{◌gives◌, first_of}
use Rattle.refusal.specs.Laws.First.{faultless, accepted-by}
use Rattle.blocking.specs.Limits.{list_limit, block_limit}
use Rattle.documents.specs.Checks.{slices_hold}
use Rattle.documents.specs.Documents.{Term}
use Rattle.kept_list.specs.Lent.{Lent, entries, places}
use Rattle.kept_list.specs.Push.{sound, well_kept}
use Rattle.sparse_scores.specs.Layout.{Layout}
use Rattle.sparse_scores.specs.Scores.{scores_of, put_in}
use Rattle.sparse_scores.specs.Laws.WalkLaws.{scores-length}
use Rattle.sparse_scores.specs.WellFormed.{blocks_hold, lengths_hold, well_formed}
use Rattle.search_probe.specs.declared.Answer.TheVariants.{Refused}
use Rattle.search_probe.specs.Probed.{Lends, Left, left, laid, listed, probed, tests as probing_tests}
use Rattle.search.specs.Order.{by_score}
use Rattle.search.specs.Searched.{Question, block_count, scores_for, swept, room, tests, score_places, leaves, searched, order_places, leaves_in_order, searched_in_order}
use Rattle.search.specs.Numbers.{numbers_left}
use Rattle.search.specs.Laws.Numbers.{Slices, searched-numbers, ordered-numbers, scores-many}
use Rattle.search.proofs.Fronts.{front, put_front, none-listed, all_listed}
use Rattle.search.proofs.Keyed.{order-length}

-- ---- the verdict
pub admitted-by : (q : Question) (l : Lends) (b : Bool) (v : Result (Unit {0}) Refusal) (x y z w : Bool)
    → x ≡ slices_hold q.terms.query_components q.terms.query_values → y ≡ well_formed (length q.postings) q.block_offsets q.layout → z ≡ well_kept q.k l.kept → w ≡ room q l b
    → v ≡ first_of ((eqb q.k 0 gives NothingToKeep) ∷ (not x gives WrongQuery) ∷ (not (eqb (length q.terms.components) (length q.terms.values)) gives WrongDocuments) ∷ (not y gives MalformedList) ∷ (not z gives WrongKeptList) ∷ (not w gives BufferTooShort) ∷ [])
    → v ≡ first_of (tests q l b)
admitted-by q l b v x y z w d e f g h = rw (← d, ← e, ← f, ← g) h

no_more : (a b : ℕ) → leb a b ≡ true → ltb b a ≡ false
no_more a b h = le-ltb b a (leb-true a b h)

-- ---- the parts of what was accepted
well-few : (m : ℕ) (os : List ℕ) (y : Layout) → well_formed m os y ≡ true → length y.minimums ≤ block_limit
unfolding well_formed
well-few m os y w =
    leb-true (length y.minimums) block_limit
    (both (leb (length y.minimums) block_limit) (leb m list_limit) (both (leb (length y.minimums) block_limit && leb m list_limit) _ w).0).0

well-even : (m : ℕ) (os : List ℕ) (y : Layout) → well_formed m os y ≡ true → length y.minimums ≡ length y.steps
unfolding well_formed lengths_hold
well-even m os y w =
    let a = (both (leb (length y.minimums) block_limit && leb m list_limit) _ w).1 in
    let c = (both (blocks_hold m (length y.minimums) os) _ a).1 in
    let d = (both (eqb (length y.component_offsets) (suc (length y.summary_components)) && (eqb (length y.summary_ids) (length y.codes) && eqb (length y.minimums) (length y.steps))) _ c).0 in
    let f = (both (eqb (length y.component_offsets) (suc (length y.summary_components))) _ d).1 in
    eqb-true (length y.minimums) (length y.steps) (both (eqb (length y.summary_ids) (length y.codes)) (eqb (length y.minimums) (length y.steps)) f).1

kept-few : (k : ℕ) (y : Lent) → well_kept k y ≡ true → leb y.size k ≡ true
unfolding well_kept
kept-few k y w = (both (leb y.size k) (places y.size y) (both (leb y.size k && places y.size y) (sound (entries y)) w).0).0

least : (a b : ℕ) → a ≡ b → min a b ≡ a
least a b e = omega arith

short : (k p s c v : ℕ) → leb k p ≡ true → leb k s ≡ true → ltb c v ≡ true → ((ltb p k || ltb s k) || leb v c) ≡ false
short k p s c v x y z = rw (no_more k p x, no_more k s y, lt-leb v c (ltb-true c v z))

-- what an accepted question has
module _ (q : Question) (l : Lends) (b : Bool) (v : Result (Unit {0}) Refusal) (e : v ≡ first_of (tests q l b)) (h : v ≡ Ok tt) where
  well : well_formed (length q.postings) q.block_offsets q.layout ≡ true
  well = not-false (well_formed (length q.postings) q.block_offsets q.layout) (faultless (tests q l b) (sym e ∙ h)).1.1.1.0

  roomy : room q l b ≡ true
  roomy = not-false (room q l b) (faultless (tests q l b) (sym e ∙ h)).1.1.1.1.1.0

  pub few-blocks : block_count q ≤ block_limit
  few-blocks = well-few (length q.postings) q.block_offsets q.layout well

  pub as_many : length q.layout.minimums ≡ length q.layout.steps
  as_many = well-even (length q.postings) q.block_offsets q.layout well

  pub block-places : b ≡ true
  block-places = (both (ltb (length q.terms.components) (length l.visits)) b (both (places q.k l.kept) _ roomy).1).1

  -- what probing asks is among it
  probing-accepts : first_of (probing_tests q.k q.terms l) ≡ Ok tt
  probing-accepts =
      let n = faultless (tests q l b) (sym e ∙ h) in
      let k = kept-few q.k l.kept (not-false (well_kept q.k l.kept) n.1.1.1.1.0) in
      let p = both (leb q.k (length l.kept.packed)) (leb q.k (length l.kept.scores)) (both (places q.k l.kept) _ roomy).0 in
      let c = (both (ltb (length q.terms.components) (length l.visits)) b (both (places q.k l.kept) _ roomy).1).0 in
      accepted-by (probing_tests q.k q.terms l) (n.1.0, (n.1.1.0, (no_more l.kept.size q.k k, (short q.k (length l.kept.packed) (length l.kept.scores) (length q.terms.components) (length l.visits) p.0 p.1 c, tt))))

  found-is : (xs : List Float) (bs : List ℕ) (f : Left) → f ≡ probed q.k q.factor q.terms q.postings q.block_offsets xs bs l → xs ≡ scores_for q → f ≡ laid q.terms l (swept q bs l)
  unfolding probed
  found-is xs bs f p s = rw (s, probing-accepts) at p

-- ---- a search
module _ (q : Question) (l : Lends) (xs : List Float) (v : Result (Unit {0}) Refusal) (e : v ≡ first_of (tests q l (score_places q xs))) where
  pub refused-search : (r : Refusal) → v ≡ Err r → leaves (left (Refused r) l) xs ≡ searched q l xs
  unfolding searched
  refused-search r h = rw (← e, h)

  module _ (h : v ≡ Ok tt) where
    pub score-room : block_count q ≤ length xs
    score-room = leb-true (block_count q) (length xs) (block-places q l (score_places q xs) v e h)

    accepted-search : (f : Left) (ys : List Float) → ys ≡ put_in (scores_for q) xs
        → f ≡ probed q.k q.factor q.terms q.postings q.block_offsets (take (block_count q) ys) (listed (take 0 q.postings) (block_count q)) l → leaves f ys ≡ searched q l xs
    unfolding searched
    accepted-search f ys p g =
        let s = front (scores_for q) xs ys (block_count q) (scores-many q l (score_places q xs) (sym e ∙ h)) score-room p in
        let o = found-is q l (score_places q xs) v e h (take (block_count q) ys) (listed [] (block_count q)) f g s in
        rw (← e, h) (ap (λ y. leaves f y) p ∙ ap (λ y. leaves y (put_in (scores_for q) xs)) (o ∙ ap (λ bs. laid q.terms l (swept q bs l)) (none-listed (block_count q))))

    -- and no score is left a NaN
    pub whole-search : Slices q → (f : Left) (ys : List Float) → ys ≡ put_in (scores_for q) xs
        → f ≡ probed q.k q.factor q.terms q.postings q.block_offsets (take (block_count q) ys) (listed (take 0 q.postings) (block_count q)) l
        → (leaves f ys ≡ searched q l xs) × (numbers_left f.answer (block_count q) ys f.lent.kept ≡ true)
    whole-search s f ys p g = let w = accepted-search f ys p g in (w, searched-numbers q s l xs f ys w)

-- ---- a search by score
module _ (q : Question) (l : Lends) (xs : List Float) (bs : List ℕ) (v : Result (Unit {0}) Refusal) (e : v ≡ first_of (tests q l (order_places q xs bs))) where
  pub refused-in-order : (r : Refusal) → v ≡ Err r → leaves_in_order (left (Refused r) l) xs bs ≡ searched_in_order q l xs bs
  unfolding searched_in_order
  refused-in-order r h = rw (← e, h)

  module _ (h : v ≡ Ok tt) where
    pub places-in-order : (block_count q ≤ length xs) × (block_count q ≤ length bs)
    places-in-order =
        let p = both (score_places q xs) (leb (block_count q) (length bs)) (block-places q l (order_places q xs bs) v e h) in
        (leb-true (block_count q) (length xs) p.0, leb-true (block_count q) (length bs) p.1)

    accepted-in-order : (f : Left) (ys : List Float) (os : List ℕ) → ys ≡ put_in (scores_for q) xs → os ≡ put_in (by_score (scores_for q)) bs
        → f ≡ probed q.k q.factor q.terms q.postings q.block_offsets (take (block_count q) ys) (listed (take (block_count q) os) (block_count q)) l → leaves_in_order f ys os ≡ searched_in_order q l xs bs
    unfolding searched_in_order
    accepted-in-order f ys os p r g =
        let m = scores-many q l (order_places q xs bs) (sym e ∙ h) in
        let s = front (scores_for q) xs ys (block_count q) m places-in-order.0 p in
        let n = order-length (scores_for q) ∙ m in
        let t = front (by_score (scores_for q)) bs os (block_count q) n places-in-order.1 r in
        let o = found-is q l (order_places q xs bs) v e h (take (block_count q) ys) (listed (take (block_count q) os) (block_count q)) f g s in
        rw (← e, h)
        (ap (λ y. leaves_in_order f y os) p ∙ ap (λ y. leaves_in_order f (put_in (scores_for q) xs) y) r
        ∙ ap (λ y. leaves_in_order y (put_in (scores_for q) xs) (put_in (by_score (scores_for q)) bs))
        (o ∙ ap (λ y. laid q.terms l (swept q y l)) (ap (λ y. listed y (block_count q)) t ∙ all_listed (by_score (scores_for q)) (block_count q) n)))

    pub whole-in-order : Slices q → (f : Left) (ys : List Float) (os : List ℕ) → ys ≡ put_in (scores_for q) xs → os ≡ put_in (by_score (scores_for q)) bs
        → f ≡ probed q.k q.factor q.terms q.postings q.block_offsets (take (block_count q) ys) (listed (take (block_count q) os) (block_count q)) l
        → (leaves_in_order f ys os ≡ searched_in_order q l xs bs) × (numbers_left f.answer (block_count q) ys f.lent.kept ≡ true)
    whole-in-order s f ys os p r g = let w = accepted-in-order f ys os p r g in (w, ordered-numbers q s l xs bs f ys os w)

-- ---- scores and order
pub scored-and-ordered : (y : Layout) (query : List Term) (n : ℕ) (xs ys : List Float) (bs part : List ℕ) → n ≡ length y.minimums → length y.minimums ≡ length y.steps → n ≤ length xs → n ≤ length bs
    → ys ≡ put_in (scores_of y query) xs → part ≡ by_score (take n ys) → part ++ drop n bs ≡ put_in (by_score (scores_of y query)) bs
scored-and-ordered y query n xs ys bs part e f g h p r =
    let m : length (scores_of y query) ≡ n = scores-length y query ∙ least (length y.minimums) (length y.steps) f ∙ sym e in
    put_front (by_score (scores_of y query)) bs part n (order-length (scores_of y query) ∙ m) h (r ∙ ap by_score (front (scores_of y query) xs ys n m g p))
