-- What keeping means, over any entries and any test `better`: nothing here asks that `better` is an order.
use Rattle.std.specs.Prelude.{ℕ, Bool, true, not, ◌&&◌, cond, List, [], ◌∷◌, take}
use Rattle.sequences.specs.Lists.{every, sorted_by}

module _ {A : Type 0} (better : A → A → Bool) where
  -- e is better than each of the entries
  abbrev pub beats : A → List A → Bool
  beats e fs = every (better e) fs

  -- e among the entries, after all that are not worse
  abbrev pub insert_after : A → List A → List A
  insert_after e [] = e ∷ []
  insert_after e (f ∷ fs) = cond (beats e (f ∷ fs)) (e ∷ f ∷ fs) (f ∷ insert_after e fs)

  -- a push: of the entries with e among them, the first k
  abbrev pub keep : ℕ → A → List A → List A
  keep k e es = take k (insert_after e es)

  -- pushes, one after another
  abbrev pub keep_all : ℕ → List A → List A → List A
  keep_all k es [] = es
  keep_all k es (p ∷ ps) = keep_all k (keep k p es) ps

  -- a may stand before b: b is not better
  abbrev pub no_later : A → A → Bool
  no_later a b = not (better b a)

  -- the k best: the entries put in order, best first and equally good ones as they came, and of these the first k
  abbrev pub k_best : ℕ → List A → List A
  k_best k es = take k (sorted_by no_later es)

  -- best first: each entry may stand before all later ones
  abbrev pub in_order : List A → Bool
  in_order [] = true
  in_order (e ∷ es) = every (no_later e) es && in_order es

  -- equally good
  abbrev pub level : A → A → Bool
  level a b = not (better a b) && not (better b a)
