-- Pushing, under any test `better`: nothing here asks that it is an order.
use Rattle.std.specs.Prelude.{ℕ, zero, suc, ◌≤◌, ◌<◌, min, Bool, true, false, ◌&&◌, cond, ◌≡◌, refl, List, [], ◌∷◌, ◌++◌, length, get_or, take, drop}
use Rattle.std.proofs.Common.{arith, sym, ap, ◌∙◌, append_assoc, length-take, length-append, take_all, take-take, take_at}
use Rattle.std.proofs.Math.Bool.{and-false}
use Rattle.kept_list.specs.Keep.{beats, insert_after, keep}

module _ {A : Type 0} (better : A → A → Bool) where
  pub length-insert : (e : A) (l : List A) → length (insert_after better e l) ≡ suc (length l)
  length-insert e [] = refl
  length-insert e (f ∷ fs) = go (beats better e (f ∷ fs)) (length-insert e fs)
    where
      go : (b : Bool) → length (insert_after better e fs) ≡ suc (length fs) → length (cond b (e ∷ f ∷ fs) (f ∷ insert_after better e fs)) ≡ suc (suc (length fs))
      go true h = refl
      go false h = ap suc h

  pub length-keep : (k : ℕ) (e : A) (l : List A) → length (keep better k e l) ≡ min k (suc (length l))
  length-keep k e l = length-take k (insert_after better e l) ∙ ap (min k) (length-insert e l)

  -- below k a push adds
  pub keep-adds : (k : ℕ) (e : A) (l : List A) → length l < k → keep better k e l ≡ insert_after better e l
  keep-adds k e l h = take_all k (insert_after better e l) (omega (arith, length-insert e l))

  -- not better than the last: at the end
  pub insert-last : (e w : A) (l : List A) → better e w ≡ false → insert_after better e (l ++ (w ∷ [])) ≡ l ++ (w ∷ e ∷ [])
  insert-last e w [] h = cc
  insert-last e w (f ∷ fs) h = let n = not-all fs in let i = insert-last e w fs h in go (better e f) n i
    where
      not-all : (fs : List A) → beats better e (fs ++ (w ∷ [])) ≡ false
      not-all [] = cc
      not-all (g ∷ gs) = let i = not-all gs in and_no (better e g) i
        where
          and_no : (b : Bool) {c : Bool} → c ≡ false → (b && c) ≡ false
          and_no true i = i
          and_no false i = refl

      go : (b : Bool) → beats better e (fs ++ (w ∷ [])) ≡ false → insert_after better e (fs ++ (w ∷ [])) ≡ fs ++ (w ∷ e ∷ [])
          → cond (b && beats better e (fs ++ (w ∷ []))) (e ∷ f ∷ fs ++ (w ∷ [])) (f ∷ insert_after better e (fs ++ (w ∷ []))) ≡ f ∷ fs ++ (w ∷ e ∷ [])
      go true n i = cc
      go false n i = cc

  -- not better than one of the entries: not better than all
  not-beats : (e d : A) (l : List A) (j : ℕ) → j < length l → better e (get_or l j d) ≡ false → beats better e l ≡ false
  not-beats e d [] j h n = absurd (omega arith)
  not-beats e d (f ∷ fs) zero h n = rw n
  not-beats e d (f ∷ fs) (suc j) h n = ap (λ b. better e f && b) (not-beats e d fs j (omega arith) n) ∙ and-false (better e f)

  -- better than all from a place on, and not better than the one right above it: at that place
  pub insert-at : (e d : A) (l : List A) (r : ℕ) → r ≤ length l → beats better e (drop r l) ≡ true → ((j : ℕ) → r ≡ suc j → better e (get_or l j d) ≡ false)
      → insert_after better e l ≡ take r l ++ (e ∷ drop r l)
  insert-at e d [] zero h b n = refl
  insert-at e d [] (suc r) h b n = absurd (omega arith)
  insert-at e d (f ∷ fs) zero h b n = rw b
  insert-at e d (f ∷ fs) (suc r) h b n =
      let m : beats better e (f ∷ fs) ≡ false = not-beats e d (f ∷ fs) r (omega arith) (n r refl) in
      rw m (ap (λ l. f ∷ l) (insert-at e d fs r (omega arith) b (λ j q. n (suc j) (ap suc q))))

  -- at k, what is not better than the worst changes nothing
  pub keep-none : (k : ℕ) (e w : A) (l : List A) → length (l ++ (w ∷ [])) ≡ k → better e w ≡ false → keep better k e (l ++ (w ∷ [])) ≡ l ++ (w ∷ [])
  keep-none k e w l h n = ap (take k) (insert-last e w l n ∙ sym (append_assoc l (w ∷ []) (e ∷ []))) ∙ take_at (l ++ (w ∷ [])) (e ∷ []) k h

  pub insert-before-last : (e w : A) (l : List A) → better e w ≡ true → insert_after better e (l ++ (w ∷ [])) ≡ insert_after better e l ++ (w ∷ [])
  insert-before-last e w [] h = cc
  insert-before-last e w (f ∷ fs) h = let n = same-beats fs in let i = insert-before-last e w fs h in go (better e f && beats better e fs) refl n i
    where
      same-beats : (fs : List A) → beats better e (fs ++ (w ∷ [])) ≡ beats better e fs
      same-beats [] = cc
      same-beats (g ∷ gs) = let i = same-beats gs in cc

      go : (b : Bool) → (better e f && beats better e fs) ≡ b → beats better e (fs ++ (w ∷ [])) ≡ beats better e fs → insert_after better e (fs ++ (w ∷ [])) ≡ insert_after better e fs ++ (w ∷ [])
          → cond (better e f && beats better e (fs ++ (w ∷ []))) (e ∷ f ∷ fs ++ (w ∷ [])) (f ∷ insert_after better e (fs ++ (w ∷ []))) ≡ cond (better e f && beats better e fs) (e ∷ f ∷ fs) (f
          ∷ insert_after better e fs) ++ (w ∷ [])
      go true p n i = rw (n, p)
      go false p n i = rw (n, p, i)

  -- at k, what is better than the worst takes its place and goes up
  pub keep-replaces : (k : ℕ) (e w : A) (l : List A) → length (l ++ (w ∷ [])) ≡ k → better e w ≡ true → keep better k e (l ++ (w ∷ [])) ≡ insert_after better e l
  keep-replaces k e w l h b =
      ap (take k) (insert-before-last e w l b) ∙ take_at (insert_after better e l) (w ∷ []) k (omega (arith, length-insert e l, length-append l (w ∷ []), h))

  -- ---- before the first that is worse: on a list in order the same place
  abbrev pub put : A → List A → List A
  put e [] = e ∷ []
  put e (f ∷ fs) = cond (better e f) (e ∷ f ∷ fs) (f ∷ put e fs)

  abbrev pub put_all : List A → List A → List A
  put_all es [] = es
  put_all es (p ∷ ps) = put_all (put p es) ps

  pub put_all-append : (l es fs : List A) → put_all l (es ++ fs) ≡ put_all (put_all l es) fs
  put_all-append l [] fs = refl
  put_all-append l (e ∷ es) fs = put_all-append (put e l) es fs

  -- the first k go by the first k alone
  pub take_put : (k : ℕ) (e : A) (l : List A) → take k (put e (take k l)) ≡ take k (put e l)
  take_put zero e l = refl
  take_put (suc k) e [] = refl
  take_put (suc k) e (f ∷ fs) = let i = take_put k e fs in go (better e f) i
    where
      go : (b : Bool) → take k (put e (take k fs)) ≡ take k (put e fs)
          → take (suc k) (cond b (e ∷ f ∷ take k fs) (f ∷ put e (take k fs))) ≡ take (suc k) (cond b (e ∷ f ∷ fs) (f ∷ put e fs))
      go true i = ap (λ (r : List A). e ∷ r) (take-take k (suc k) (f ∷ fs) (omega arith))
      go false i = ap (λ (r : List A). f ∷ r) i
