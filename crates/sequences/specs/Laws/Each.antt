-- What holds of each entry of a list.
use Rattle.std.specs.Prelude.{ℕ, zero, suc, ◌<◌, ◌≡◌, refl, Bool, true, false, cond, length, get_or, take, drop}
use Rattle.std.proofs.Common.{arith, subst}
use mathlib.Core.List.{List, [], ◌∷◌, ◌++◌, map, Permᴰ}
use Rattle.sequences.specs.Lists.{EachOf, every, those}

module _ {A : Type 0} (P : A → Type 0) where
  pub each_at : (l : List A) (k : ℕ) (d : A) → k < length l → EachOf P l → P (get_or l k d)
  each_at [] k d h e = let z : ⊥ = omega arith in absurd z
  each_at (x ∷ l) zero d h e = e.0
  each_at (x ∷ l) (suc k) d h e = each_at l k d (omega arith) e.1

  pub each_take : (n : ℕ) (l : List A) → EachOf P l → EachOf P (take n l)
  each_take zero l e = tt
  each_take (suc n) [] e = tt
  each_take (suc n) (x ∷ l) e = (e.0, each_take n l e.1)

  pub each-drop : (n : ℕ) (l : List A) → EachOf P l → EachOf P (drop n l)
  each-drop zero l e = e
  each-drop (suc n) [] e = tt
  each-drop (suc n) (x ∷ l) e = each-drop n l e.1

  pub each_append : (l r : List A) → EachOf P l → EachOf P r → EachOf P (l ++ r)
  each_append [] r a b = b
  each_append (x ∷ l) r a b = (a.0, each_append l r a.1 b)

  pub each-those : (p : A → Bool) (l : List A) → EachOf P l → EachOf P (those p l)
  each-those p [] e = tt
  each-those p (x ∷ l) e = go (p x) (each-those p l e.1)
    where
      go : (b : Bool) → EachOf P (those p l) → EachOf P (cond b (x ∷ those p l) (those p l))
      go true i = (e.0, i)
      go false i = i

  pub each-permuted : {l m : List A} → Permᴰ l m → EachOf P l → EachOf P m
  each-permuted Permᴰ.nil h = tt
  each-permuted (Permᴰ.cons e d) h = (subst P e h.0, each-permuted d h.1)
  each-permuted (Permᴰ.swap e f) h = (subst P f h.1.0, (subst P e h.0, h.1.1))
  each-permuted (Permᴰ.trans d e) h = each-permuted e (each-permuted d h)

pub each_to : {A : Type 0} (P Q : A → Type 0) → ((x : A) → P x → Q x) → (l : List A) → EachOf P l → EachOf Q l
each_to P Q f [] e = tt
each_to P Q f (x ∷ l) e = (f x e.0, each_to P Q f l e.1)

pub each_map : {A B : Type 0} (P : A → Type 0) (Q : B → Type 0) (f : A → B) → ((x : A) → P x → Q (f x)) → (l : List A) → EachOf P l → EachOf Q (map f l)
each_map P Q f g [] h = tt
each_map P Q f g (x ∷ l) h = (g x h.0, each_map P Q f g l h.1)

pub each-every : {A : Type 0} (p : A → Bool) (l : List A) → EachOf (λ x. p x ≡ true) l → every p l ≡ true
each-every p [] e = refl
each-every p (x ∷ l) e = let i = each-every p l e.1 in let a = e.0 in rw (a, i)
