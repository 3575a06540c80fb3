-- Laws of Told: the order tells scored entries apart, and a NaN does not come in by itself.
use Rattle.std.specs.Prelude.{ℕ, zero, suc, ◌≡◌, refl, Bool, true, false, not, ◌&&◌, cond, length, take}
use Rattle.std.proofs.Common.{sym, subst, inl, inr}
use mathlib.Core.List.Memᴰ
use mathlib.Core.List.{List, [], ◌∷◌, Memᴰ}
use Rattle.sequences.specs.Lists.{every, EachOf, sorted_by}
use Rattle.sequences.specs.Laws.Sorted.{each-sorted_by}
use Rattle.sequences.specs.Laws.Lists.{both, decide}
use Rattle.sequences.specs.Laws.Each.{each_take}
use Rattle.kept_list.specs.declared.Scored.{Scored}
use Rattle.kept_list.specs.Keep.{beats, insert_after, keep, no_later, k_best}
use Rattle.kept_list.specs.Laws.LeftOut.{left_out}
use Rattle.kept_list.specs.Entry.{better}
use Rattle.kept_list.specs.Laws.Entry.{better-order, level-same}
use Rattle.kept_list.specs.Push.{is_number}
use Rattle.kept_list.specs.Told.{Fit}

-- ---- numbers stay numbers
every-insert : (p : Scored → Bool) (e : Scored) (l : List Scored) → p e ≡ true → every p l ≡ true → every p (insert_after better e l) ≡ true
every-insert p e [] h k = rw h
every-insert p e (f ∷ fs) h k = let s = both (p f) (every p fs) k in go (beats better e (f ∷ fs)) s.0 s.1 (every-insert p e fs h s.1)
  where
    go : (b : Bool) → p f ≡ true → every p fs ≡ true → every p (insert_after better e fs) ≡ true → every p (cond b (e ∷ f ∷ fs) (f ∷ insert_after better e fs)) ≡ true
    go true x y i = rw (h, x, y)
    go false x y i = rw (x, i)

every_take : (p : Scored → Bool) (k : ℕ) (l : List Scored) → every p l ≡ true → every p (take k l) ≡ true
every_take p zero l h = refl
every_take p (suc k) [] h = refl
every_take p (suc k) (f ∷ fs) h = let s = both (p f) (every p fs) h in rw (s.0, every_take p k fs s.1)

pub numbers-kept : (k : ℕ) (e : Scored) (l : List Scored) → is_number e ≡ true → every is_number l ≡ true → every is_number (keep better k e l) ≡ true
numbers-kept k e l n h = every_take is_number k (insert_after better e l) (every-insert is_number e l n h)

-- ---- who is not among the k best is worse than each of them
fit_of : (d : Scored) (l : List Scored) → Memᴰ d l → EachOf Fit l → Fit d
fit_of d [] m h = absurd (Memᴰ.not-nil m)
fit_of d (f ∷ fs) m h = elim (Memᴰ.cases_cons m) [ inl e ↦ subst Fit (sym e) h.0 | inr t ↦ fit_of d fs t h.1 ]

all-better : (d : Scored) (m : List Scored) → Fit d → EachOf Fit m → (Memᴰ d m → ⊥) → EachOf (λ f. better d f ≡ false) m → EachOf (λ f. better f d ≡ true) m
all-better d [] p q out h = tt
all-better d (f ∷ fs) p q out h = (first, all-better d fs p q.1 (λ i. out (Memᴰ.tail i)) h.1)
  where
    equal : (a b : Bool) → a ≡ false → b ≡ false → (not a && not b) ≡ true
    equal a b x y = rw (x, y)

    first : better f d ≡ true
    first = elim (decide (better f d)) [
      | inl y ↦ y
      | inr n ↦ absurd (out (Memᴰ.head (level-same d f p q.0 (equal (better d f) (better f d) h.0 n))))
    ]

pub out-of-best : (k : ℕ) (es : List Scored) → EachOf Fit es → (d : Scored) → Memᴰ d es → (Memᴰ d (k_best better k es) → ⊥)
    → (length (k_best better k es) ≡ k) × EachOf (λ f. better f d ≡ true) (k_best better k es)
out-of-best k es fit d m out =
    let s = left_out better better-order k es d m out in
    let all = each_take Fit k (sorted_by (no_later better) es) (each-sorted_by (no_later better) Fit es fit) in
    (s.0, all-better d (k_best better k es) (fit_of d es m fit) all out s.1)
