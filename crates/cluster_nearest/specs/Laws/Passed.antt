-- Scores below the best are passed over, one or many at once.
use Prim.Native.Nat.{ℕ, zero, suc, ◌+◌, ◌-◌, ◌≤◌, min}
use Rattle.std.proofs.Common.{arith, sym, ◌∙◌, subst, ⊎_elim, drop-drop}
use Rattle.std.specs.Prelude.{◌≡◌, Bool, true, false, not, ◌&&◌, cond, length, get_or, take, drop, T, Float}
use Rattle.std.proofs.Math.Path.{refl, ap}
use Rattle.std.proofs.Math.Bool.{and-true, and_assoc}
use mathlib.Core.List.{List, [], ◌∷◌, ◌++◌, foldl, foldl-append, zip_with}
use Rattle.std.specs.Float.{nan, binary32}
use Rattle.std.specs.Float.Ieee.{fits, lt, eq}
use Rattle.std.proofs.lemmas.Bool.{not-true}
use Rattle.sequences.specs.Lists.{every}
use Rattle.sequences.specs.Laws.Lists.{both, le-or-lt}
use Rattle.counting_sort.specs.Laws.Loops.{zip-left, zip-right}
use Rattle.float32.specs.Order.{at_most}
use Rattle.float32.specs.Laws.Tests.{yes}
use Rattle.float32.specs.Laws.Comparisons.{lt-by-order, lt-numbers}
use Rattle.cluster_nearest.specs.declared.Candidate.{Candidate}
use Rattle.cluster_nearest.specs.Nearest.{candidate, if_no_less}
use Rattle.cluster_nearest.specs.Laws.Loops.{Fits}

-- a lesser score does not take the best's place
pub below-is-less : (best x : Float) → T (fits binary32 best) → T (fits binary32 x) → lt x best ≡ true → at_most best x ≡ false
below-is-less best x f g h =
    let n = lt-numbers x best (yes (lt x best) h) in
    not-true (at_most best x) (both (not (at_most best x)) (not (eq x best)) (sym (lt-by-order x best g f n.0 n.1) ∙ h)).0

-- a loop that looks at all of them finds whether each passes
pub every-fold : {A : Type 0} (p : A → Bool) (ok : Bool) (xs : List A) → foldl (λ b x. b && p x) ok xs ≡ (ok && every p xs)
every-fold p ok [] = sym (and-true ok)
every-fold p ok (x ∷ xs) = every-fold p (ok && p x) xs ∙ and_assoc ok (p x) (every p xs)

passed : (best : Candidate) → Fits best → (cs : List ℕ) (xs : List Float) → ((k : ℕ) → T (fits binary32 (get_or xs k nan))) → every (λ s. lt s best.score) xs ≡ true
    → foldl if_no_less best (zip_with candidate cs xs) ≡ best
unfolding zip_with
passed best f [] xs g e = refl
passed best f (c ∷ cs) [] g e = refl
passed best f (c ∷ cs) (x ∷ xs) g e =
    let p = both (lt x best.score) (every (λ s. lt s best.score) xs) e in
    ap (λ b. foldl if_no_less (cond b (candidate c x) best) (zip_with candidate cs xs)) (below-is-less best.score x f (g 0) p.0) ∙ passed best f cs xs (λ k. g (suc k)) p.1

-- ---- the best so far is an f32 where the scores are
best-fits : (best : Candidate) → Fits best → (cs : List ℕ) (xs : List Float) → ((k : ℕ) → T (fits binary32 (get_or xs k nan))) → Fits (foldl if_no_less best (zip_with candidate cs xs))
unfolding zip_with
best-fits best f [] xs g = f
best-fits best f (c ∷ cs) [] g = f
best-fits best f (c ∷ cs) (x ∷ xs) g = best-fits (if_no_less best (candidate c x)) (either (at_most best.score x)) cs xs (λ k. g (suc k))
  where
    either : (b : Bool) → Fits (cond b (candidate c x) best)
    either true = g 0
    either false = f

nan-fits : T (fits binary32 nan)
unfolding fits
nan-fits = tt

part-fits : (i n : ℕ) (xs : List Float) → ((k : ℕ) → T (fits binary32 (get_or xs k nan))) → (k : ℕ) → T (fits binary32 (get_or (take n (drop i xs)) k nan))
part-fits zero zero xs g k = nan-fits
part-fits zero (suc n) [] g k = nan-fits
part-fits zero (suc n) (x ∷ xs) g zero = g 0
part-fits zero (suc n) (x ∷ xs) g (suc k) = part-fits 0 n xs (λ j. g (suc j)) k
part-fits (suc i) zero xs g k = nan-fits
part-fits (suc i) (suc n) [] g k = nan-fits
part-fits (suc i) (suc n) (x ∷ xs) g k = part-fits i (suc n) xs (λ j. g (suc j)) k

-- ---- a part of two lists side by side, and then the rest
module _ {A B C : Type 0} (f : A → B → C) where
  zip-parts : (k : ℕ) (xs : List A) (ys : List B) → zip_with f xs ys ≡ zip_with f (take k xs) (take k ys) ++ zip_with f (drop k xs) (drop k ys)
  unfolding zip_with
  zip-parts zero xs ys = refl
  zip-parts (suc k) [] ys = refl
  zip-parts (suc k) (x ∷ xs) [] = none (drop k xs)
    where
      none : (l : List A) → [] ≡ zip_with f l []
      none [] = refl
      none (x ∷ l) = refl
  zip-parts (suc k) (x ∷ xs) (y ∷ ys) = ap (λ l. f x y ∷ l) (zip-parts k xs ys)

-- the part from i to e goes first
fold-part : (best : Candidate) (cs : List ℕ) (xs : List Float) (i e : ℕ) → i ≤ e
    → foldl if_no_less (foldl if_no_less best (zip_with candidate (take (e - i) (drop i cs)) (take (e - i) (drop i xs)))) (zip_with candidate (drop e cs) (drop e xs))
    ≡ foldl if_no_less best (zip_with candidate (drop i cs) (drop i xs))
fold-part best cs xs i e h =
    let P = zip_with candidate (take (e - i) (drop i cs)) (take (e - i) (drop i xs)) in
    let z : i + (e - i) ≡ e = omega arith in
    let c : drop e cs ≡ drop (e - i) (drop i cs) = sym (drop-drop (e - i) i cs ∙ ap (λ n. drop n cs) z) in
    let x : drop e xs ≡ drop (e - i) (drop i xs) = sym (drop-drop (e - i) i xs ∙ ap (λ n. drop n xs) z) in
    ap (foldl if_no_less (foldl if_no_less best P)) (λ j. zip_with candidate (c j) (x j))
    ∙ sym (foldl-append if_no_less best P (zip_with candidate (drop (e - i) (drop i cs)) (drop (e - i) (drop i xs))))
    ∙ sym (ap (foldl if_no_less best) (zip-parts candidate (e - i) (drop i cs) (drop i xs)))

pub fold-taken : (best next : Candidate) (cs : List ℕ) (xs : List Float) (i e : ℕ) → i ≤ e
    → next ≡ foldl if_no_less best (zip_with candidate (take (e - i) (drop i cs)) (take (e - i) (drop i xs)))
    → foldl if_no_less next (zip_with candidate (drop e cs) (drop e xs)) ≡ foldl if_no_less best (zip_with candidate (drop i cs) (drop i xs))
fold-taken best next cs xs i e h n = ap (λ b. foldl if_no_less b (zip_with candidate (drop e cs) (drop e xs))) n ∙ fold-part best cs xs i e h

module _ (best : Candidate) (f : Fits best) (cs : List ℕ) (xs : List Float) (g : (k : ℕ) → T (fits binary32 (get_or xs k nan))) (i e : ℕ) where
  pub taken-fits : (next : Candidate) → next ≡ foldl if_no_less best (zip_with candidate (take (e - i) (drop i cs)) (take (e - i) (drop i xs))) → Fits next
  taken-fits next n = subst Fits (sym n) (best-fits best f (take (e - i) (drop i cs)) (take (e - i) (drop i xs)) (part-fits i (e - i) xs g))

  -- a part below the best is passed over
  pub fold-passed : i ≤ e → every (λ s. lt s best.score) (take (e - i) (drop i xs)) ≡ true
      → foldl if_no_less best (zip_with candidate (drop e cs) (drop e xs)) ≡ foldl if_no_less best (zip_with candidate (drop i cs) (drop i xs))
  fold-passed h t = fold-taken best best cs xs i e h (sym (passed best f (take (e - i) (drop i cs)) (take (e - i) (drop i xs)) (part-fits i (e - i) xs g) t))

-- past the shorter of two lists there is none
pub none-past : {A B C : Type 0} (f : A → B → C) (xs : List A) (ys : List B) (n : ℕ) → min (length xs) (length ys) ≤ n → zip_with f (drop n xs) (drop n ys) ≡ []
none-past f xs ys n h = ⊎_elim (zip-left f xs ys n) (λ k. zip-right f xs ys n (omega arith)) (le-or-lt (length xs) n)
