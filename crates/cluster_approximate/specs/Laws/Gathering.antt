-- The centroids that remain, gathered one after another.
use Rattle.std.specs.Prelude.{ℕ, suc, ◌+◌, ◌≤◌, ◌<◌, ◌≡◌, Bool, true, false, not, cond, List, [], ◌∷◌, ◌++◌, length, get_or, set, take, drop}
use Rattle.std.proofs.Common.{add-one, sym, ap, ◌∙◌, append_assoc, append-nil, drop_of_length-le, drop-cons, take-suc-set}
use Rattle.sequences.specs.Lists.{those}

-- ---- one centroid
pub pushed : (out : List ℕ) (n c : ℕ) (b : Bool) → b ≡ false → n < length out → take (n + 1) (set out n c) ≡ take n out ++ cond b [] (c ∷ [])
pushed out n c b e h = rw (add-one n) (take-suc-set out n c h ∙ sym (ap (λ z. take n out ++ cond z [] (c ∷ [])) e))

pub not-pushed : (out : List ℕ) (n c : ℕ) (b : Bool) → b ≡ true → take n out ≡ take n out ++ cond b [] (c ∷ [])
not-pushed out n c b e = sym (ap (λ z. take n out ++ cond z [] (c ∷ [])) e ∙ append-nil (take n out))

-- ---- all
module _ (p : ℕ → Bool) (cs : List ℕ) where
  pub gather-step : (out more : List ℕ) (i n m : ℕ) (dissolves : Bool) → i < length cs → dissolves ≡ p (get_or cs i 0) → take m more ≡ take n out ++ cond dissolves [] (get_or cs i 0 ∷ [])
      → take m more ++ those (λ c. not (p c)) (drop (i + 1) cs) ≡ take n out ++ those (λ c. not (p c)) (drop i cs)
  gather-step out more i n m dissolves h e f = rw (add-one i, drop-cons cs i 0 h) (ap (λ l. l ++ those (λ c. not (p c)) (drop (suc i) cs)) f ∙ go dissolves
      ∙ ap (λ b. take n out ++ cond (not b) (get_or cs i 0 ∷ those (λ c. not (p c)) (drop (suc i) cs)) (those (λ c. not (p c)) (drop (suc i) cs))) e)
    where
      go : (b : Bool) → (take n out ++ cond b [] (get_or cs i 0 ∷ [])) ++ those (λ c. not (p c)) (drop (suc i) cs)
          ≡ take n out ++ cond (not b) (get_or cs i 0 ∷ those (λ c. not (p c)) (drop (suc i) cs)) (those (λ c. not (p c)) (drop (suc i) cs))
      go true = append_assoc (take n out) [] (those (λ c. not (p c)) (drop (suc i) cs))
      go false = append_assoc (take n out) (get_or cs i 0 ∷ []) (those (λ c. not (p c)) (drop (suc i) cs))

  pub gather-end : (out : List ℕ) (i n : ℕ) → length cs ≤ i → take n out ++ those (λ c. not (p c)) (drop i cs) ≡ those (λ c. not (p c)) cs → take n out ≡ those (λ c. not (p c)) cs
  gather-end out i n h e = sym (ap (λ l. take n out ++ those (λ c. not (p c)) l) (drop_of_length-le cs h) ∙ append-nil (take n out)) ∙ e
