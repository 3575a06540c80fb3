-- What a push onto a slice of entries promises, from its contract alone and in document 01's numbers.
use Rattle.refusal.specs.declared.Refusal.{Refusal}
use Rattle.std.specs.Prelude.{ℕ, suc, ◌<◌, min, ◌≡◌, false, List, Result, Ok, Err}
use Rattle.std.proofs.Common.{arith, sym, ap, subst, ◌∙◌, true≢false, inl, inr}
use Rattle.refusal.specs.Refusals.{verdict_number}
use Rattle.kept_list.specs.declared.Scored.{Scored}
use Rattle.kept_list.specs.Push.{left, pushed}
use Rattle.kept_list.specs.Promises.{Answers, zero-accepts, Kept, accepted-push, refused-push}
use Rattle.kept_entries.specs.Entries.{as_lent}
use Rattle.kept_entries.specs.Answers.{is_refused, verdict_in, length_in, in_numbers}
use Rattle.kept_entries.specs.Laws.Same.{settled_same}

-- a push of e onto the first n of the entries fs that answers r and leaves the entries es
module _ (k n : ℕ) (e : Scored) (fs es : List Scored) (r : Result ℕ Refusal) (left_as : left (verdict_in r) (as_lent (length_in n r) es) ≡ pushed k e (as_lent n fs)) where
  number_is : verdict_number (verdict_in r) ≡ verdict_number (pushed k e (as_lent n fs)).verdict
  number_is = ap (λ z. verdict_number z.verdict) left_as

  list-is : as_lent (length_in n r) es ≡ (pushed k e (as_lent n fs)).list
  list-is = ap (λ z. z.list) left_as

  -- 11, 12 or 4: that number alone, and nothing changed
  pub refused-number : (m : ℕ) → Answers k e (as_lent n fs) m → 0 < m → (in_numbers r ≡ inl m) × (es ≡ fs)
  refused-number m a h = (go r (number_is ∙ a), (settled_same (length_in n r) n es fs (list-is ∙ refused-push k e (as_lent n fs) m a h)).1)
    where
      go : (p : Result ℕ Refusal) → verdict_number (verdict_in p) ≡ m → in_numbers p ≡ inl m
      go (Ok c) q = let z : ⊥ = omega (arith, h, q) in absurd z
      go (Err s) q = ap inl q

  -- 0: how many are kept, and these
  pub kept-number : Answers k e (as_lent n fs) 0 → (in_numbers r ≡ inr (min (suc n) k)) × Kept k e (as_lent n fs) (as_lent (length_in n r) es)
  kept-number a =
      let kept = subst (Kept k e (as_lent n fs)) (sym list-is) (accepted-push k e (as_lent n fs) a) in
      (go r (ap (λ z. is_refused z.verdict) left_as ∙ ap is_refused (zero-accepts k e (as_lent n fs) a)) kept.as_many, kept)
    where
      go : (p : Result ℕ Refusal) → is_refused (verdict_in p) ≡ false → length_in n p ≡ min (suc n) k → in_numbers p ≡ inr (min (suc n) k)
      go (Ok c) q s = ap inr s
      go (Err t) q s = absurd (true≢false q)
