-- The walk's scores are the definition's: each score by itself, over the query's terms.
use Rattle.std.specs.Prelude.{ℕ, suc, ◌+◌, ◌-◌, ◌≤◌, ◌<◌, min, ◌≡◌, Bool, cond, take, drop, set, replicate, pos, Float}
use Rattle.std.proofs.Common.{arith, ◌∙◌, length-append, length-take, length-drop, get_or-set_same, get_or-append-add, get_or-take, get_or-drop, take_all, ext_get_or}
use Rattle.std.proofs.Math.Nat.{min-le_right}
use Rattle.std.proofs.Math.Decide.{dec_le}
use Rattle.std.proofs.Math.Path.{refl, sym, ap}
use Rattle.std.proofs.Math.Bool.{true, false}
use mathlib.Core.List.{List, [], ◌∷◌, ◌++◌, map, foldl, foldl-append}
use Rattle.std.proofs.Math.ListN.{length, get_or, length-set, length-map, get_or-append}
use Rattle.std.proofs.lemmas.List.{length-replicate, get_or-replicate}
use Rattle.std.proofs.Math.Seq.{get_or-set_other}
use Rattle.std.proofs.Math.Dec.{ltb, eqb}
use Rattle.std.specs.Float.Ieee.{nan, binary32, add, mul}
use Rattle.std.specs.Float.{fin}
use borrow.Author.Tests.{ltb-true, lt-ltb, eqb-true, eqb-false}
use Rattle.sequences.specs.Lists.{joined, from, with_key}
use Rattle.sequences.specs.Laws.Lists.{from-length, from_at}
use Rattle.documents.specs.Documents.{Term}
use Rattle.quantizing.specs.Quantizing.{read_back}
use Rattle.sparse_scores.specs.Layout.{Layout, Entry, entries_of}
use Rattle.sparse_scores.specs.Scores.{summary_count, added_by, score_of, scores_of, put_in}
use Rattle.sparse_scores.specs.Walk.{grown, grown_by}
use Rattle.sparse_scores.specs.Laws.Walk.{walked}

abbrev plus : Float → List Float → Float
plus x xs = foldl (add binary32) x xs

module _ (n : ℕ) (ms ss : List Float) (v : Float) where
  -- what the entries of a summary add
  abbrev added : ℕ → List Entry → List Float
  added s es = map (λ e. mul binary32 (read_back (get_or ms s nan) (get_or ss s nan) e.code) v) (with_key (λ e. e.summary) s es)

  grown-length : (e : Entry) (scores : List Float) → length (grown n ms ss v e scores) ≡ length scores
  unfolding grown
  grown-length e scores = go (ltb e.summary n)
    where
      go : (b : Bool) → length (cond b (set scores e.summary (add binary32 (get_or scores e.summary nan) (mul binary32 (read_back (get_or ms e.summary nan) (get_or ss e.summary nan) e.code)
          v))) scores) ≡ length scores
      go true = length-set scores e.summary (add binary32 (get_or scores e.summary nan) (mul binary32 (read_back (get_or ms e.summary nan) (get_or ss e.summary nan) e.code) v))
      go false = refl

  -- the entry's own summary
  grown-same : (s : ℕ) (e : Entry) (scores : List Float) → e.summary ≡ s → s < n → n ≤ length scores → get_or (grown n ms ss v e scores) s nan
      ≡ add binary32 (get_or scores s nan) (mul binary32 (read_back (get_or ms s nan) (get_or ss s nan) e.code) v)
  unfolding grown
  grown-same s e scores q h l =
      rw (q, lt-ltb s n h) (get_or-set_same scores s (add binary32 (get_or scores s nan) (mul binary32 (read_back (get_or ms s nan) (get_or ss s nan) e.code) v)) nan (omega arith))

  -- any other
  grown-other : (s : ℕ) (e : Entry) (scores : List Float) → (e.summary < n → e.summary ≡ s → ⊥) → get_or (grown n ms ss v e scores) s nan ≡ get_or scores s nan
  unfolding grown
  grown-other s e scores q = go (ltb e.summary n) refl
    where
      go : (b : Bool) → ltb e.summary n ≡ b → get_or (cond b (set scores e.summary (add binary32 (get_or scores e.summary nan) (mul binary32 (read_back (get_or ms e.summary nan)
          (get_or ss e.summary nan) e.code) v))) scores) s nan ≡ get_or scores s nan
      go true h = get_or-set_other scores e.summary s (add binary32 (get_or scores e.summary nan) (mul binary32 (read_back (get_or ms e.summary nan) (get_or ss e.summary nan) e.code) v)) nan
          (λ g. q (ltb-true e.summary n h) (sym g))
      go false h = refl

  by_length : (es : List Entry) (scores : List Float) → length (grown_by n ms ss v es scores) ≡ length scores
  unfolding grown_by
  by_length [] scores = refl
  by_length (e ∷ es) scores = by_length es (grown n ms ss v e scores) ∙ grown-length e scores

  by-at : (es : List Entry) (scores : List Float) (s : ℕ) → s < n → n ≤ length scores → get_or (grown_by n ms ss v es scores) s nan ≡ plus (get_or scores s nan) (added s es)
  unfolding grown_by
  by-at [] scores s h l = refl
  by-at (e ∷ es) scores s h l = by-at es (grown n ms ss v e scores) s h (rw (grown-length e scores) l) ∙ go (eqb e.summary s) refl
    where
      go : (b : Bool) → eqb e.summary s ≡ b
          → plus (get_or (grown n ms ss v e scores) s nan) (added s es)
          ≡ plus (get_or scores s nan) (map (λ e. mul binary32 (read_back (get_or ms s nan) (get_or ss s nan) e.code) v) (cond b (e ∷ with_key (λ e. e.summary) s es) (with_key (λ e. e.summary) s es)))
      go true q = ap (λ x. plus x (added s es)) (grown-same s e scores (eqb-true e.summary s q) h l)
      go false q = ap (λ x. plus x (added s es)) (grown-other s e scores (λ g. eqb-false e.summary s q))

  by-past : (es : List Entry) (scores : List Float) (s : ℕ) → n ≤ s → get_or (grown_by n ms ss v es scores) s nan ≡ get_or scores s nan
  unfolding grown_by
  by-past [] scores s h = refl
  by-past (e ∷ es) scores s h = by-past es (grown n ms ss v e scores) s h ∙ grown-other s e scores (λ a b. omega arith)

module _ (n : ℕ) (l : Layout) where
  pub walked-length : (query : List Term) (scores : List Float) → length (walked n l query scores) ≡ length scores
  unfolding walked
  walked-length [] scores = refl
  walked-length (q ∷ query) scores =
      walked-length query (grown_by n l.minimums l.steps q.value (entries_of l q.component) scores) ∙ by_length n l.minimums l.steps q.value (entries_of l q.component) scores

  walked_at : (query : List Term) (scores : List Float) (s : ℕ) → s < n → n ≤ length scores → get_or (walked n l query scores) s nan ≡ plus (get_or scores s nan) (joined (map (added_by l s) query))
  unfolding walked
  walked_at [] scores s h k = refl
  walked_at (q ∷ query) scores s h k =
      let next = grown_by n l.minimums l.steps q.value (entries_of l q.component) scores in
      walked_at query next s h (rw (by_length n l.minimums l.steps q.value (entries_of l q.component) scores) k)
      ∙ ap (λ x. plus x (joined (map (added_by l s) query))) (by-at n l.minimums l.steps q.value (entries_of l q.component) scores s h k)
      ∙ sym (foldl-append (add binary32) (get_or scores s nan) (added_by l s q) (joined (map (added_by l s) query)))

  walked-past : (query : List Term) (scores : List Float) (s : ℕ) → n ≤ s → get_or (walked n l query scores) s nan ≡ get_or scores s nan
  unfolding walked
  walked-past [] scores s h = refl
  walked-past (q ∷ query) scores s h =
      walked-past query (grown_by n l.minimums l.steps q.value (entries_of l q.component) scores) s h ∙ by-past n l.minimums l.steps q.value (entries_of l q.component) scores s h

-- ---- a result at the front of a buffer
pub put-length : {A : Type 0} (xs buffer : List A) → length (put_in xs buffer) ≡ length buffer
put-length xs buffer = length-append (take (length buffer) xs) (drop (length xs) buffer) ∙ rw (length-take (length buffer) xs, length-drop (length xs) buffer) (all (length buffer) (length xs))
  where
    all : (a b : ℕ) → min a b + (a - b) ≡ a
    all a b = omega arith

module _ {A : Type 0} (d : A) (xs buffer : List A) where
  pub put_front : (i : ℕ) → i < length xs → i < length buffer → get_or (put_in xs buffer) i d ≡ get_or xs i d
  put_front i h k = get_or-append (take (length buffer) xs) (drop (length xs) buffer) d i (simp length-take (less i (length buffer) (length xs) k h)) ∙ get_or-take (length buffer) xs i d k
    where
      less : (i a b : ℕ) → i < a → i < b → i < min a b
      less i a b h k = omega arith

  pub put-past : (i : ℕ) → length xs ≤ i → i < length buffer → get_or (put_in xs buffer) i d ≡ get_or buffer i d
  put-past i h k =
      let z : i ≡ length xs + (i - length xs) = omega arith in
      ap (λ l. get_or (l ++ drop (length xs) buffer) i d) (take_all (length buffer) xs (omega arith))
      ∙ ap (λ j. get_or (xs ++ drop (length xs) buffer) j d) z
      ∙ get_or-append-add xs (drop (length xs) buffer) (i - length xs) d
      ∙ get_or-drop (length xs) buffer (i - length xs) d
      ∙ ap (λ j. get_or buffer j d) (sym z)

score-is : (l : Layout) (query : List Term) (s : ℕ) → plus (fin false 0 (pos 0)) (joined (map (added_by l s) query)) ≡ score_of l query s
unfolding score_of
score-is l query s = refl

module _ (l : Layout) (query : List Term) where
  pub scores-length : length (scores_of l query) ≡ summary_count l
  unfolding scores_of
  scores-length = length-map (from 0 (summary_count l)) (score_of l query) ∙ from-length 0 (summary_count l)

  pub scores-at : (s : ℕ) → s < summary_count l → get_or (scores_of l query) s nan ≡ score_of l query s
  unfolding scores_of
  scores-at s h = from_at (score_of l query) nan 0 (summary_count l) s h ∙ ap (score_of l query) (omega arith)

  -- ---- the walk from +0 on
  module _ (buffer : List Float) where
    abbrev fit : ℕ
    fit = min (summary_count l) (length buffer)

    abbrev clear : List Float
    clear = replicate fit (fin false 0 (pos 0)) ++ drop fit buffer

    clear-length : length clear ≡ length buffer
    clear-length = length-append (replicate fit (fin false 0 (pos 0))) (drop fit buffer) ∙ rw (length-replicate fit (fin false 0 (pos 0)), length-drop fit buffer)
        (all (summary_count l) (length buffer))
      where
        all : (m k : ℕ) → min m k + (k - min m k) ≡ k
        all m k = omega arith

    clear-front : (s : ℕ) → s < fit → get_or clear s nan ≡ fin false 0 (pos 0)
    clear-front s h = get_or-append (replicate fit (fin false 0 (pos 0))) (drop fit buffer) nan s (rw (length-replicate fit (fin false 0 (pos 0))) h) ∙ get_or-replicate fit s (fin false 0 (pos 0))
        nan h

    clear-past : (s : ℕ) → fit ≤ s → get_or clear s nan ≡ get_or buffer s nan
    clear-past s h =
        let e : length (replicate fit (fin false 0 (pos 0))) ≡ fit = length-replicate fit (fin false 0 (pos 0)) in
        let z : s ≡ length (replicate fit (fin false 0 (pos 0))) + (s - fit) = omega arith in
        let y : fit + (s - fit) ≡ s = omega arith in
        ap (λ j. get_or clear j nan) z
        ∙ get_or-append-add (replicate fit (fin false 0 (pos 0))) (drop fit buffer) (s - fit) nan
        ∙ get_or-drop fit buffer (s - fit) nan
        ∙ ap (λ j. get_or buffer j nan) y

    -- what the walk leaves in a cleared buffer
    pub walk-scores : walked fit l query clear ≡ put_in (scores_of l query) buffer
    walk-scores = ext_get_or nan (walked fit l query clear) (put_in (scores_of l query) buffer) (walked-length fit l query clear ∙ clear-length ∙ sym (put-length (scores_of l query) buffer)) each
      where
        each : (i : ℕ) → i < length (walked fit l query clear) → get_or (walked fit l query clear) i nan ≡ get_or (put_in (scores_of l query) buffer) i nan
        each i h = go (dec_le (suc i) fit) (rw (walked-length fit l query clear, clear-length) at h)
          where
            inside : (m k : ℕ) → i < min m k → (i < m) × (i < k)
            inside m k h = (omega arith, omega arith)

            past : (m k : ℕ) → (suc i ≤ min m k → ⊥) → i < k → m ≤ i
            past m k h g = omega arith

            go : Dec (suc i ≤ fit) → i < length buffer → get_or (walked fit l query clear) i nan ≡ get_or (put_in (scores_of l query) buffer) i nan
            go (yes g) k =
                let b = inside (summary_count l) (length buffer) g in
                walked_at fit l query clear i g (rw clear-length (min-le_right (summary_count l) (length buffer)))
                ∙ ap (λ x. plus x (joined (map (added_by l i) query))) (clear-front i g)
                ∙ score-is l query i
                ∙ sym (scores-at i b.0)
                ∙ sym (put_front nan (scores_of l query) buffer i (rw scores-length b.0) k)
            go (no g) k =
                walked-past fit l query clear i (omega arith)
                ∙ clear-past i (omega arith)
                ∙ sym (put-past nan (scores_of l query) buffer i (rw scores-length (past (summary_count l) (length buffer) g k)) k)
