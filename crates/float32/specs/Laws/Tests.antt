-- What a Bool test says, and how two tests are seen to be the same one.
use Rattle.std.specs.Prelude.{◌≡◌, ℕ, ◌<◌, ◌≤◌, Bool, true, false, not, ◌&&◌, ◌||◌, T, ◌⊎◌, ◌==◌, nat_le, nat_lt, refl}
use Rattle.std.proofs.Common.{sym, subst, inl, inr, le_of_eq, le_of_lt, le_antisymm, leb→le, le→leb, ltb→lt, nltb→le, eqb→eq}
use Rattle.std.specs.Float.Ieee.Fits.{eq→eqb}

pub is_true : (b : Bool) → T b → b ≡ true
is_true true t = refl
is_true false t = absurd t

pub is_false : (b : Bool) → (T b → ⊥) → b ≡ false
is_false true t = absurd (t tt)
is_false false t = refl

pub yes : (b : Bool) → b ≡ true → T b
yes b e = subst T (sym e) tt

pub no : (b : Bool) → b ≡ false → T b → ⊥
no b e t = subst T e t

pub same_test : (a b : Bool) → (T a → T b) → (T b → T a) → a ≡ b
same_test true true f g = refl
same_test true false f g = absurd (f tt)
same_test false true f g = absurd (g tt)
same_test false false f g = refl

pub or_left : (a b : Bool) → T a → T (a || b)
or_left true b t = tt
or_left false b t = absurd t

pub or_right : (a b : Bool) → T b → T (a || b)
or_right true b t = tt
or_right false b t = t

pub or_split : (a b : Bool) → T (a || b) → T a ⊎ T b
or_split true b t = inl tt
or_split false b t = inr t

pub and_both : (a b : Bool) → T a → T b → T (a && b)
and_both true b s t = t
and_both false b s t = s

-- a ≤ b as the `le` of floats tests it where the signs are the same: a < b, or a = b
pub le_test : (a b : ℕ) → (nat_lt a b || (a == b && true)) ≡ nat_le a b
le_test a b = same_test (nat_lt a b || (a == b && true)) (nat_le a b) (there (nat_lt a b) (a == b) (ltb→lt a b) (eqb→eq a b)) (λ t. back (leb→le a b t) (nat_lt a b) (a == b) (nltb→le a b) eq→eqb)
  where
    there : (u v : Bool) → (T u → a < b) → (T v → a ≡ b) → T (u || (v && true)) → T (nat_le a b)
    there true v h k t = le→leb a b (le_of_lt (h tt))
    there false true h k t = le→leb a b (le_of_eq (k tt))
    there false false h k t = absurd t

    back : a ≤ b → (u v : Bool) → (T (not u) → b ≤ a) → (a ≡ b → T v) → T (u || (v && true))
    back h true v g k = tt
    back h false true g k = tt
    back h false false g k = absurd (k (le_antisymm h (g tt)))
