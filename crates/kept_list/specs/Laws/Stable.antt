-- What putting in order means: a list in order, with those of each level as they came; and there is no other such list.
use Rattle.std.specs.Prelude.{Bool, not, ◌≡◌}
use Rattle.std.proofs.Math.Bool.{true, false, cond}
use Rattle.std.proofs.Math.Path.{refl, ap}
use Rattle.std.proofs.Common.{sym, ◌∙◌}
use Rattle.std.proofs.Math.Logic.{inl, inr}
use mathlib.Core.List.{List, [], ◌∷◌, nil≢cons, head-eq_of_cons-eq, tail-eq_of_cons-eq}
use Rattle.std.proofs.lemmas.Bool.{not-true}
use Rattle.sequences.specs.Lists.{every, those, insert_by, sorted_by}
use Rattle.sequences.specs.Laws.Lists.{both, decide}
use Rattle.kept_list.specs.Keep.{no_later, in_order, level}
use Rattle.kept_list.specs.Order.{Order}

module _ {A : Type 0} (better : A → A → Bool) (O : Order better) where
  pub level-self : (x : A) → level better x x ≡ true
  level-self x = elim (decide (better x x)) [
    | inl y ↦ cc (O.asym x x y)
    | inr n ↦ cc
  ]

  level-front : (x e : A) (l : List A) → those (level better x) (insert_by (no_later better) e l) ≡ those (level better x) (e ∷ l)
  unfolding insert_by
  level-front x e [] = refl
  level-front x e (f ∷ fs) =
      let i = level-front x e fs in
      elim (decide (better f e)) [
        | inl fe ↦ elim (decide (level better x f)) [
          | inl xf ↦ let xe = apart fe xf in rw (fe, xf, i, xe)
          | inr xf ↦ rw (fe, xf, i)
        ]
        | inr fe ↦ rw fe
      ]
    where
      apart : better f e ≡ true → level better x f ≡ true → level better x e ≡ false
      apart fe xf =
          let s = both (not (better x f)) (not (better f x)) xf in
          elim (decide (better x e)) [
            | inl y ↦ cc
            | inr n ↦ cc (O.between f x e (not-true (better f x) s.1) n)
          ]

  -- those of each level stay as they came
  pub sort-stable : (x : A) (es : List A) → those (level better x) (sorted_by (no_later better) es) ≡ those (level better x) es
  unfolding sorted_by
  sort-stable x [] = refl
  sort-stable x (e ∷ es) = level-front x e (sorted_by (no_later better) es) ∙ ap (λ (m : List A). cond (level better x e) (e ∷ m) m) (sort-stable x es)

  none-level : (a b : A) (m : List A) → better a b ≡ true → every (no_later better b) m ≡ true → those (level better a) m ≡ []
  none-level a b [] p h = refl
  none-level a b (g ∷ gs) p h =
      let s = both (not (better g b)) (every (no_later better b) gs) h in
      let i = none-level a b gs p s.1 in
      elim (decide (better a g)) [
        | inl y ↦ rw (y, i)
        | inr n ↦ cc (O.between a g b n (not-true (better g b) s.0))
      ]

  first-level : (a b : A) (l m : List A) → in_order better (b ∷ m) ≡ true → those (level better a) (a ∷ l) ≡ those (level better a) (b ∷ m) → better a b ≡ false
  first-level a b l m h e =
      elim (decide (better a b)) [
        | inl y ↦
            let s = both (every (no_later better b) m) (in_order better m) h in
            let n = none-level a b m y s.0 in
            let o = level-self a in
            absurd (nil≢cons (sym (rw (o, y, n) at e)))
        | inr n ↦ n
      ]

  pub sort-unique : (l m : List A) → in_order better l ≡ true → in_order better m ≡ true → ((x : A) → those (level better x) l ≡ those (level better x) m) → l ≡ m
  sort-unique [] [] h k e = refl
  sort-unique [] (b ∷ m) h k e = absurd (nil≢cons (rw (level-self b) at (e b)))
  sort-unique (a ∷ l) [] h k e = absurd (nil≢cons (sym (rw (level-self a) at (e a))))
  sort-unique (a ∷ l) (b ∷ m) h k e =
      let ab : better a b ≡ false = first-level a b l m k (e a) in
      let ba : better b a ≡ false = first-level b a m l h (sym (e b)) in
      let p : a ≡ b = head-eq_of_cons-eq (rw (level-self a, ab, ba) at (e a)) in
      let t : (x : A) → those (level better x) l ≡ those (level better x) m = λ x. rest x p (e x) in
      let q = sort-unique l m (both (every (no_later better a) l) (in_order better l) h).1 (both (every (no_later better b) m) (in_order better m) k).1 t in
      cc
    where
      rest : (x : A) → a ≡ b → those (level better x) (a ∷ l) ≡ those (level better x) (b ∷ m) → those (level better x) l ≡ those (level better x) m
      rest x p e = elim (decide (level better x b)) [
        | inl y ↦ tail-eq_of_cons-eq (rw (p, y) at e)
        | inr n ↦ rw (p, n) at e
      ]
