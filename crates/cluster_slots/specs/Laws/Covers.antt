-- The best of some slots: no slot looked at has a greater score, and none after it has the same.
use Rattle.std.specs.Prelude.{ℕ, ◌<◌, ◌≡◌, refl, Bool, true, false, not, ◌&&◌, ◌||◌, cond, length, get_or, T, eqb, ltb, Float}
use Rattle.std.proofs.Common.{arith, sym, ◌∙◌, subst, inl, inr, eqb-true, ltb-true, ltb-false, lt-ltb}
use mathlib.Core.List.{List, [], ◌∷◌, foldl}
use Rattle.std.specs.Float.{nan, binary32}
use Rattle.std.specs.Float.Ieee.{fits}
use Rattle.float32.specs.Order.{at_most}
use Rattle.float32.specs.Laws.OrderLaws.{at_most-refl, at_most-trans, at_most-total}
use Rattle.float32.specs.Laws.Tests.{is_true, yes}
use Rattle.sequences.specs.Lists.{among}
use Rattle.cluster_slots.specs.declared.Best.{Best}
use Rattle.cluster_slots.specs.Met.{best, gives_way, if_better, better}
use Rattle.cluster_slots.specs.Laws.Kept.{Fitting}

abbrev Fits : Float → Type 0
Fits x = T (fits binary32 x)

-- ---- the total order, by its test
pub same : (x : Float) → Fits x → at_most x x ≡ true
same x f = is_true (at_most x x) (at_most-refl x f)

pub other_way : (x y : Float) → Fits x → Fits y → at_most x y ≡ false → at_most y x ≡ true
other_way x y f g h = elim (at_most-total x y f g) [
  | inl t ↦ absurd (subst T h t)
  | inr t ↦ is_true (at_most y x) t
]

pub through : (x y z : Float) → Fits x → Fits y → Fits z → at_most x y ≡ true → at_most y z ≡ true → at_most x z ≡ true
through x y z f g h p q = is_true (at_most x z) (at_most-trans x y z f g h (yes (at_most x y) p) (yes (at_most y z) q))

-- x is above z; so is what x does not pass, and x is above what does not pass z
pub raised : (x y z : Float) → Fits x → Fits y → Fits z → at_most x y ≡ true → at_most x z ≡ false → at_most y z ≡ false
raised x y z f g h p q = go (at_most y z) refl
  where
    go : (t : Bool) → at_most y z ≡ t → t ≡ false
    go true e = sym (through x y z f g h p e) ∙ q
    go false e = refl

pub lowered : (x y z : Float) → Fits x → Fits y → Fits z → at_most y z ≡ true → at_most x z ≡ false → at_most x y ≡ false
lowered x y z f g h p q = go (at_most x y) refl
  where
    go : (t : Bool) → at_most x y ≡ t → t ≡ false
    go true e = sym (through x y z f g h e p) ∙ q
    go false e = refl

module _ (ys : List Float) (fit : Fitting ys) where
  abbrev at : ℕ → Float
  at s = get_or ys s nan

  -- a slot is no better than the best
  abbrev pub Covered : Best → ℕ → Type 0
  Covered b s = (at_most (at s) b.score ≡ true) × (b.slot.0 < s → at_most b.score (at s) ≡ false)

  module _ (b : Best) (f : Fits b.score) (t : ℕ) where
    or-fits : (z : Bool) → Fits (cond z (best t (at t)) b).score
    or-fits true = fit t
    or-fits false = f

    one-fits : Fits (better ys b t).score
    one-fits = go (ltb t (length ys))
      where
        go : (z : Bool) → Fits (cond z (if_better b t (at t)) b).score
        go true = or-fits (gives_way b t (at t))
        go false = f

    -- what was covered is still
    still : (s : ℕ) → Covered b s → Covered (if_better b t (at t)) s
    still s c = go (at_most b.score (at t)) (ltb b.slot.0 t) (at_most (at t) b.score) refl refl refl
      where
        go : (u l v : Bool) → at_most b.score (at t) ≡ u → ltb b.slot.0 t ≡ l → at_most (at t) b.score ≡ v → Covered (cond (u && (l || not v)) (best t (at t)) b) s
        go false l v p q r = c
        go true false true p q r = c
        go true true v p q r =
            (through (at s) b.score (at t) (fit s) f (fit t) c.0 p, λ h. raised b.score (at t) (at s) f (fit t) (fit s) p (c.1 (omega (arith, ltb-true b.slot.0 t q))))
        go true false false p q r =
            (through (at s) b.score (at t) (fit s) f (fit t) c.0 p, λ h. lowered (at t) (at s) b.score (fit t) (fit s) f c.0 r)

    -- and the slot looked at is now
    now-covered : Covered (if_better b t (at t)) t
    now-covered = go (at_most b.score (at t)) (ltb b.slot.0 t) (at_most (at t) b.score) refl refl refl
      where
        go : (u l v : Bool) → at_most b.score (at t) ≡ u → ltb b.slot.0 t ≡ l → at_most (at t) b.score ≡ v → Covered (cond (u && (l || not v)) (best t (at t)) b) t
        go false l v p q r = (other_way b.score (at t) f (fit t) p, λ h. p)
        go true false true p q r = (r, λ h. absurd (let z : ⊥ = omega (arith, ltb-false b.slot.0 t q) in z))
        go true true v p q r = (same (at t) (fit t), λ h. absurd (let z : ⊥ = omega arith in z))
        go true false false p q r = (same (at t) (fit t), λ h. absurd (let z : ⊥ = omega arith in z))

    one-still : (s : ℕ) → Covered b s → Covered (better ys b t) s
    one-still s c = go (ltb t (length ys))
      where
        go : (z : Bool) → Covered (cond z (if_better b t (at t)) b) s
        go true = still s c
        go false = c

    one-now : t < length ys → Covered (better ys b t) t
    one-now h = subst (λ z. Covered (cond z (if_better b t (at t)) b) t) (sym (lt-ltb t (length ys) h)) now-covered

  all-still : (S : List ℕ) (b : Best) → Fits b.score → (s : ℕ) → Covered b s → Covered (foldl (better ys) b S) s
  all-still [] b f s c = c
  all-still (t ∷ S) b f s c = all-still S (better ys b t) (one-fits b f t) s (one-still b f t s c)

  pub best-fits : (S : List ℕ) (b : Best) → Fits b.score → Fits (foldl (better ys) b S).score
  best-fits [] b f = f
  best-fits (t ∷ S) b f = best-fits S (better ys b t) (one-fits b f t)

  -- each slot that is among those looked at is covered
  pub covers : (S : List ℕ) (b : Best) → Fits b.score → (s : ℕ) → s < length ys → among s S ≡ true → Covered (foldl (better ys) b S) s
  covers [] b f s h e = absurd (let z : ◌≡◌ {A = ℕ} 0 1 = cc in let y : ⊥ = omega arith in y)
  covers (t ∷ S) b f s h e = go (eqb s t) refl (covers S (better ys b t) (one-fits b f t) s h) e
    where
      go : (z : Bool) → eqb s t ≡ z → (among s S ≡ true → Covered (foldl (better ys) (better ys b t) S) s) → (z || among s S) ≡ true → Covered (foldl (better ys) (better ys b t) S) s
      go true q i k = subst (λ r. Covered (foldl (better ys) (better ys b r) S) s) (eqb-true s t q) (all-still S (better ys b s) (one-fits b f s) s (one-now b f s h))
      go false q i k = i k
