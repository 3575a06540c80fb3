-- Lists in order, under a strict weak order.
use Rattle.std.specs.Prelude.{ℕ, zero, suc, Bool, true, false, not, ◌≡◌, refl, List, [], ◌∷◌, ◌++◌, take}
use Rattle.std.proofs.Common.{◌∙◌, inl, inr}
use Rattle.std.proofs.lemmas.Bool.{not-true}
use Rattle.sequences.specs.Lists.{every, those}
use Rattle.sequences.specs.Laws.Lists.{both, decide}
use Rattle.kept_list.specs.Keep.{beats, insert_after, keep, no_later, in_order}
use Rattle.kept_list.specs.Order.{Order}
use Rattle.kept_list.specs.Laws.Pushing.{put, put_all}

module _ {A : Type 0} (better : A → A → Bool) (O : Order better) where
  pub trans : (a b c : A) → better a b ≡ true → better b c ≡ true → better a c ≡ true
  trans a b c p q = elim (decide (better a c)) [
    | inl y ↦ y
    | inr n ↦ cc (O.between a c b n (O.asym b c q))
  ]

  beats-rest : (e f : A) (fs : List A) → better e f ≡ true → every (no_later better f) fs ≡ true → beats better e fs ≡ true
  beats-rest e f [] p h = refl
  beats-rest e f (g ∷ gs) p h =
      let s = both (not (better g f)) (every (no_later better f) gs) h in
      let r = beats-rest e f gs p s.1 in
      elim (decide (better e g)) [
        | inl y ↦ cc
        | inr n ↦ cc (O.between e g f n (not-true (better g f) s.0))
      ]

  pub insert-is-put : (e : A) (l : List A) → in_order better l ≡ true → insert_after better e l ≡ put better e l
  insert-is-put e [] h = refl
  insert-is-put e (f ∷ fs) h =
      let s = both (every (no_later better f) fs) (in_order better fs) h in
      let i = insert-is-put e fs s.1 in
      elim (decide (better e f)) [
        | inl y ↦ let r = beats-rest e f fs y s.0 in rw (y, r)
        | inr n ↦ rw (n, i)
      ]

  those-none : (e : A) (l : List A) → beats better e l ≡ true → those (λ f. not (better e f)) l ≡ []
  those-none e [] h = refl
  those-none e (f ∷ fs) h = let s = both (better e f) (beats better e fs) h in let i = those-none e fs s.1 in rw (s.0, i)

  those-all : (e : A) (l : List A) → beats better e l ≡ true → those (better e) l ≡ l
  those-all e [] h = refl
  those-all e (f ∷ fs) h = let s = both (better e f) (beats better e fs) h in let i = those-all e fs s.1 in rw (s.0, i)

  -- in a list in order, after all that are not worse is: those that are not worse, e, and those that are worse
  pub insert-between : (e : A) (l : List A) → in_order better l ≡ true → insert_after better e l ≡ those (λ f. not (better e f)) l ++ (e ∷ those (better e) l)
  insert-between e l h = insert-is-put e l h ∙ go l h
    where
      go : (l : List A) → in_order better l ≡ true → put better e l ≡ those (λ f. not (better e f)) l ++ (e ∷ those (better e) l)
      go [] h = refl
      go (f ∷ fs) h =
          let s = both (every (no_later better f) fs) (in_order better fs) h in
          let i = go fs s.1 in
          elim (decide (better e f)) [
            | inl y ↦ let r = beats-rest e f fs y s.0 in rw (y, those-none e fs r, those-all e fs r)
            | inr n ↦ rw (n, i)
          ]

  none-put : (x e : A) (l : List A) → better e x ≡ false → every (no_later better x) l ≡ true → every (no_later better x) (put better e l) ≡ true
  none-put x e [] p h = cc
  none-put x e (f ∷ fs) p h =
      let s = both (not (better f x)) (every (no_later better x) fs) h in
      let i = none-put x e fs p s.1 in
      elim (decide (better e f)) [
        | inl y ↦ rw (y, p, h)
        | inr n ↦ rw (n, i, s.0)
      ]

  pub none-weak : (e f : A) (l : List A) → better f e ≡ false → every (no_later better f) l ≡ true → every (no_later better e) l ≡ true
  none-weak e f [] p h = refl
  none-weak e f (g ∷ gs) p h =
      let s = both (not (better g f)) (every (no_later better f) gs) h in
      let b = O.between g f e (not-true (better g f) s.0) p in
      let i = none-weak e f gs p s.1 in
      cc

  pub sorted-put : (e : A) (l : List A) → in_order better l ≡ true → in_order better (put better e l) ≡ true
  sorted-put e [] h = refl
  sorted-put e (f ∷ fs) h =
      let s = both (every (no_later better f) fs) (in_order better fs) h in
      let i = sorted-put e fs s.1 in
      elim (decide (better e f)) [
        | inl y ↦ let a = O.asym e f y in let w = none-weak e f fs a s.0 in rw (y, a, w, h)
        | inr n ↦ let q = none-put f e fs n s.0 in rw (n, q, i)
      ]

  pub sorted-put_all : (l ps : List A) → in_order better l ≡ true → in_order better (put_all better l ps) ≡ true
  sorted-put_all l [] h = h
  sorted-put_all l (p ∷ ps) h = sorted-put_all (put better p l) ps (sorted-put p l h)

  none-take : (k : ℕ) (x : A) (l : List A) → every (no_later better x) l ≡ true → every (no_later better x) (take k l) ≡ true
  none-take zero x l h = refl
  none-take (suc k) x [] h = refl
  none-take (suc k) x (f ∷ fs) h = let s = both (not (better f x)) (every (no_later better x) fs) h in let i = none-take k x fs s.1 in rw (s.0, i)

  pub sorted-take : (k : ℕ) (l : List A) → in_order better l ≡ true → in_order better (take k l) ≡ true
  sorted-take zero l h = refl
  sorted-take (suc k) [] h = refl
  sorted-take (suc k) (f ∷ fs) h = let s = both (every (no_later better f) fs) (in_order better fs) h in let i = sorted-take k fs s.1 in let n = none-take k f fs s.0 in rw (n, i)

  -- a push leaves the list in order
  pub sorted-keep : (k : ℕ) (e : A) (l : List A) → in_order better l ≡ true → in_order better (keep better k e l) ≡ true
  sorted-keep k e l h = sorted-take k (insert_after better e l) (rw (insert-is-put e l h) (sorted-put e l h))
