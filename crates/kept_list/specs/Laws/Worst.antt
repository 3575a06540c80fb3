-- Laws of Worst: the worst of the entries of a list in order is the last one, and pushes never make it worse once k are kept.
use Rattle.std.specs.Prelude.{ℕ, min, ◌≡◌, refl, Bool, true, false, cond, List, [], ◌∷◌, ◌++◌, length, take, ltb}
use Rattle.std.proofs.Common.{arith, sym, ap, ◌∙◌, subst, inl, inr, length-take, length-append, take_at, le-leb, ltb-false}
use Rattle.std.proofs.lemmas.Bool.{not-true}
use Rattle.sequences.specs.Lists.{EachOf, every, last_or, sorted_by}
use Rattle.sequences.specs.Laws.Lists.{both, decide, or_left, permuted-length}
use Rattle.sequences.specs.Laws.Sorted.{sort-permutes}
use Rattle.sequences.specs.Laws.Each.{each_take}
use Rattle.float32.specs.Order.{at_most}
use Rattle.float32.specs.Key.{key_of}
use Rattle.float32.specs.Laws.KeyLaws.{key-order}
use Rattle.kept_list.specs.declared.Scored.{Scored}
use Rattle.kept_list.specs.Keep.{beats, insert_after, keep, keep_all, no_later, k_best, in_order}
use Rattle.kept_list.specs.Order.{Order}
use Rattle.kept_list.specs.Laws.Pushing.{length-keep}
use Rattle.kept_list.specs.Laws.Best.{k-best, sorted-k_best, length-k_best, k_best-left}
use Rattle.kept_list.specs.Entry.{better}
use Rattle.kept_list.specs.Laws.Entry.{better-order}
use Rattle.kept_list.specs.Told.{Fit}
use Rattle.kept_list.specs.Worst.{no_higher}

-- ---- what holds of each entry holds of the last
module _ {A : Type 0} where
  pub each_last : (P : A → Type 0) (e : A) (es : List A) → EachOf P (e ∷ es) → P (last_or e es)
  each_last P e [] h = h.0
  each_last P e (f ∷ es) h = each_last P f es h.1

  every-last : (p : A → Bool) (e : A) (es : List A) → every p (e ∷ es) ≡ true → p (last_or e es) ≡ true
  every-last p e [] h = (both (p e) true h).0
  every-last p e (f ∷ es) h = every-last p f es (both (p e) (every p (f ∷ es)) h).1

module _ {A : Type 0} (better : A → A → Bool) (O : Order better) where
  -- w is better than none of the entries
  abbrev pub BetterThanNone : A → List A → Type 0
  BetterThanNone w es = EachOf (λ f. better w f ≡ false) es

  -- ---- the last of a list in order
  not_itself : (e : A) → better e e ≡ false
  not_itself e = elim (decide (better e e)) [ inl y ↦ O.asym e e y | inr n ↦ n ]

  pub last-worst : (e : A) (es : List A) → in_order better (e ∷ es) ≡ true → BetterThanNone (last_or e es) (e ∷ es)
  last-worst e [] h = (not_itself e, tt)
  last-worst e (f ∷ es) h =
      let s = both (every (no_later better e) (f ∷ es)) (in_order better (f ∷ es)) h in
      (not-true (better (last_or f es) e) (every-last (no_later better e) f es s.0), last-worst f es s.1)

  -- ---- pushes onto k kept entries: who was better than none of them is better than none afterwards
  none-insert : (w p : A) (es : List A) → better w p ≡ false → BetterThanNone w es → BetterThanNone w (insert_after better p es)
  none-insert w p [] h u = (h, tt)
  none-insert w p (f ∷ fs) h u = go (none-insert w p fs h u.1) (beats better p (f ∷ fs))
    where
      go : BetterThanNone w (insert_after better p fs) → (b : Bool) → BetterThanNone w (cond b (p ∷ f ∷ fs) (f ∷ insert_after better p fs))
      go i true = (h, u)
      go i false = (u.0, i)

  -- what is worse than such a one comes last
  at-end : (w p : A) (es : List A) → better w p ≡ true → BetterThanNone w es → insert_after better p es ≡ es ++ (p ∷ [])
  at-end w p [] h u = refl
  at-end w p (f ∷ fs) h u =
      let n : better p f ≡ false = O.between p w f (O.asym w p h) u.0 in
      let i = at-end w p fs h u.1 in
      rw (n, i)

  none-keep : (k : ℕ) (w p : A) (es : List A) → length es ≡ k → BetterThanNone w es → BetterThanNone w (keep better k p es)
  none-keep k w p es l u = elim (decide (better w p)) [
    | inl y ↦ subst (BetterThanNone w) (sym (ap (take k) (at-end w p es y u) ∙ take_at es (p ∷ []) k l)) u
    | inr n ↦ each_take (λ f. better w f ≡ false) k (insert_after better p es) (none-insert w p es n u)
  ]

  none-keep_all : (k : ℕ) (w : A) (es ps : List A) → length es ≡ k → BetterThanNone w es → BetterThanNone w (keep_all better k es ps)
  none-keep_all k w es [] l u = u
  none-keep_all k w es (p ∷ ps) l u = none-keep_all k w (keep better k p es) ps (omega (arith, length-keep better k p es)) (none-keep k w p es l u)

  -- the worst of k kept entries never gets worse
  pub never-falls : (k : ℕ) (es fs : List A) (w : A) → length (k_best better k es) ≡ k → BetterThanNone w (k_best better k es) → BetterThanNone w (k_best better k (es ++ fs))
  never-falls k es fs w l u =
      subst (BetterThanNone w) (k-best better O k (k_best better k es) fs (sorted-k_best better O k es) (length-k_best better O k es) ∙ k_best-left better O k es fs)
      (none-keep_all k w (k_best better k es) fs l u)

  pub count-k_best : (k : ℕ) (es : List A) → length (k_best better k es) ≡ min k (length es)
  count-k_best k es = length-take k (sorted_by (no_later better) es) ∙ ap (min k) (permuted-length (sort-permutes (no_later better) es))

  -- and k stay k
  pub stays-full : (k : ℕ) (es fs : List A) → length (k_best better k es) ≡ k → length (k_best better k (es ++ fs)) ≡ k
  stays-full k es fs l = omega (arith, count-k_best k es, count-k_best k (es ++ fs), length-append es fs)

pub no-higher-score : (e f : Scored) → better e f ≡ false → no_higher e.score f.score ≡ true
unfolding better
no-higher-score e f h =
    le-leb (key_of e.score) (key_of f.score) (ltb-false (key_of f.score) (key_of e.score) (or_left (ltb (key_of f.score) (key_of e.score)) _ h))

-- the last score stands no higher than any other
pub last-lowest : (e : Scored) (es : List Scored) → in_order better (e ∷ es) ≡ true → EachOf (λ f. no_higher (last_or e es).score f.score ≡ true) (e ∷ es)
last-lowest e es h = go (e ∷ es) (last-worst better better-order e es h)
  where
    go : (fs : List Scored) → BetterThanNone better better-order (last_or e es) fs → EachOf (λ f. no_higher (last_or e es).score f.score ≡ true) fs
    go [] u = tt
    go (f ∷ fs) u = (no-higher-score (last_or e es) f u.0, go fs u.1)

-- and of scores that an f32 holds, it is at most every other
pub last-at-most : (e : Scored) (es : List Scored) → EachOf Fit (e ∷ es) → in_order better (e ∷ es) ≡ true → EachOf (λ f. at_most (last_or e es).score f.score ≡ true) (e ∷ es)
last-at-most e es fit h = go (e ∷ es) fit (last-lowest e es h)
  where
    go : (fs : List Scored) → EachOf Fit fs → EachOf (λ f. no_higher (last_or e es).score f.score ≡ true) fs → EachOf (λ f. at_most (last_or e es).score f.score ≡ true) fs
    go [] g u = tt
    go (f ∷ fs) g u = (sym (key-order (last_or e es).score f.score (each_last Fit e es fit) g.0) ∙ u.0, go fs g.1 u.1)
