-- The worst kept score of a search in the words of the total order, where an f32 holds each score that was lent.
use Rattle.std.specs.Prelude.{ℕ, ◌≡◌, refl, true, List, [], ◌∷◌, ◌++◌, length, T}
use Rattle.std.proofs.Common.{sym, ap, ◌∙◌, subst, append_assoc}
use Rattle.std.specs.Float.Ieee.{fits}
use Rattle.std.specs.Float.{binary32}
use Rattle.sequences.specs.Lists.{EachOf, sorted_by}
use Rattle.sequences.specs.Laws.Sorted.{each-sorted_by}
use Rattle.sequences.specs.Laws.Each.{each_take, each_append}
use Rattle.float32.specs.Order.{at_most}
use Rattle.float32.specs.Laws.KeyLaws.{key-order}
use Rattle.documents.specs.Laws.Documents.{dot-fits}
use Rattle.kept_list.specs.declared.Scored.{Scored}
use Rattle.kept_list.specs.Entry.{better}
use Rattle.kept_list.specs.Laws.Entry.{better-order}
use Rattle.kept_list.specs.Keep.{no_later, k_best}
use Rattle.kept_list.specs.Laws.Best.{sorted-k_best}
use Rattle.kept_list.specs.Lent.{entries}
use Rattle.kept_list.specs.Told.{Fit}
use Rattle.kept_list.specs.Laws.Worst.{each_last}
use Rattle.search_probe.specs.Probing.{Place, Outcome, passed, stopped, found, worst, Reached}
use Rattle.search_probe.specs.Probed.{Lends}
use Rattle.search_probe.specs.Laws.Worst.{worst-last, worst-at-most}
use Rattle.search.specs.Searched.{Question}
use Rattle.search.specs.Trace.{Event, at, Turn, skipped_block, probed_block, entries_of, events_of}
use Rattle.search.specs.Laws.Told.{entries-append}
use Rattle.search.specs.Promises.{SearchPromises}

-- ---- each evaluated entry of a part of the story
abbrev OfFound : (Scored → Type 0) → List Turn → Type 0
OfFound P story = (p : List Turn) (b : ℕ) (x : List Event) (i : Place) (e : Scored) (y : List Event) (q : List Turn) → story ≡ p ++ (probed_block b (x ++ (at i (found e) ∷ y)) ∷ q) → P e

each-in-block : (P : Scored → Type 0) (story p : List Turn) (b : ℕ) (x es : List Event) (q : List Turn) → OfFound P story → story ≡ p ++ (probed_block b (x ++ es) ∷ q) → EachOf P (entries_of es)
each-in-block P story p b x [] q f h = tt
each-in-block P story p b x (at i o ∷ es) q f h =
    go o (each-in-block P story p b (x ++ (at i o ∷ [])) es q f (h ∙ ap (λ l. p ++ (probed_block b l ∷ q)) (sym (append_assoc x (at i o ∷ []) es)))) (λ e k. f p b x i e es q (h
    ∙ ap (λ u. p ++ (probed_block b (x ++ (at i u ∷ es)) ∷ q)) k))
  where
    go : (o : Outcome) → EachOf P (entries_of es) → ((e : Scored) → o ≡ found e → P e) → EachOf P (entries_of (at i o ∷ es))
    go passed r k = r
    go (stopped n) r k = r
    go (found e) r k = (k e refl, r)

each-entry : (P : Scored → Type 0) (story p ts q : List Turn) → OfFound P story → story ≡ p ++ (ts ++ q) → EachOf P (entries_of (events_of ts))
each-entry P story p [] q f h = tt
each-entry P story p (skipped_block b ∷ ts) q f h = each-entry P story (p ++ (skipped_block b ∷ [])) ts q f (h ∙ sym (append_assoc p (skipped_block b ∷ []) (ts ++ q)))
each-entry P story p (probed_block b es ∷ ts) q f h =
    subst (EachOf P) (sym (entries-append es (events_of ts)))
    (each_append P (entries_of es) (entries_of (events_of ts)) (each-in-block P story p b [] es (ts ++ q) f h)
    (each-entry P story (p ++ (probed_block b es ∷ [])) ts q f (h ∙ sym (append_assoc p (probed_block b es ∷ []) (ts ++ q)))))

worst-fits : (es : List Scored) → EachOf Fit es → T (fits binary32 (worst es))
unfolding fits
worst-fits [] f = tt
worst-fits (e ∷ es) f = subst (λ x. T (fits binary32 x)) (sym (worst-last e es)) (each_last Fit e es f)

module _ (q : Question) (l : Lends) (blocks : List ℕ) (r : Reached) (S : SearchPromises q l blocks r) (lent : EachOf Fit (entries l.kept)) where
  -- what is kept after some turns
  abbrev pub kept_after : List Turn → List Scored
  kept_after p = k_best better q.k (entries l.kept ++ entries_of (events_of p))

  kept-fit : (p u : List Turn) → S.sweeps.story ≡ p ++ u → EachOf Fit (kept_after p)
  kept-fit p u h =
      let found-fit = each-entry Fit S.sweeps.story [] p u (λ p b x i e y q h. subst (λ z. T (fits binary32 z)) (sym (S.evaluates p b x i e y q h).1.is) (dot-fits _ _)) h in
      let all = entries l.kept ++ entries_of (events_of p) in
      each_take Fit q.k (sorted_by (no_later better) all) (each-sorted_by (no_later better) Fit all (each_append Fit (entries l.kept) (entries_of (events_of p)) lent found-fit))

  -- at each moment the worst kept score is at most every kept score
  pub worst-at-most-each : (p u : List Turn) → S.sweeps.story ≡ p ++ u → EachOf (λ e. at_most (worst (kept_after p)) e.score ≡ true) (kept_after p)
  worst-at-most-each p u h = worst-at-most (kept_after p) (kept-fit p u h) (sorted-k_best better better-order q.k (entries l.kept ++ entries_of (events_of p)))

  -- and once k are kept it is at most the worst at any later moment
  pub worst-at-most-later : (p m u : List Turn) → S.sweeps.story ≡ p ++ (m ++ u) → length (kept_after p) ≡ q.k → at_most (worst (kept_after p)) (worst (kept_after (p ++ m))) ≡ true
  worst-at-most-later p m u h full =
      let a = worst-fits (kept_after p) (kept-fit p (m ++ u) h) in
      let b = worst-fits (kept_after (p ++ m)) (kept-fit (p ++ m) u (h ∙ sym (append_assoc p m u))) in
      sym (key-order (worst (kept_after p)) (worst (kept_after (p ++ m))) a b) ∙ S.sweeps.worst_stays p m u h full
