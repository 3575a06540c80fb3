-- `at_most` is a total order on the values of `f32`: reflexive, transitive, total, antisymmetric. On finite values it gives the order of the
-- numbers.
use Rattle.std.specs.Prelude.{◌≡◌, ℕ, suc, ◌+◌, ◌*◌, ◌^◌, ◌<◌, ◌≤◌, Bool, true, false, T, ◌⊎◌, ℤ, ◌≢◌, from_bits, refl, Float}
use Rattle.std.proofs.Common.{sym, ap, ◌∙◌, subst, inl, inr, le_refl, le_trans, le_of_lt, le_antisymm, arith, leb→le, le→leb}
use Rattle.std.specs.Float.{nan, inf, fin, binary32}
use Rattle.std.specs.Float.Ieee.{fits, to_bits}
use Rattle.std.specs.Float.Ieee.Bits.{of_bits-to_bits}
use Rattle.std.specs.Float.Ieee.Scale.{finite}
use Rattle.sequences.specs.Laws.Lists.{le-or-lt}
use Rattle.float32.specs.Units.{one, negative, mag, over, under, Ordered}
use Rattle.float32.specs.Order.{at_most}
use Rattle.float32.specs.Laws.Heights.{signed_at_most, height, at-most-is, mag-lt}

signed-refl : (s : Bool) (a : ℕ) → T (signed_at_most s a s a)
signed-refl true a = le→leb a a (le_refl a)
signed-refl false a = le→leb a a (le_refl a)

signed-trans : (s : Bool) (a : ℕ) (t : Bool) (b : ℕ) (u : Bool) (c : ℕ) → T (signed_at_most s a t b) → T (signed_at_most t b u c) → T (signed_at_most s a u c)
signed-trans true a true b true c h k = le→leb c a (le_trans (leb→le c b k) (leb→le b a h))
signed-trans true a true b false c h k = tt
signed-trans true a false b true c h k = absurd k
signed-trans true a false b false c h k = tt
signed-trans false a true b u c h k = absurd h
signed-trans false a false b true c h k = absurd k
signed-trans false a false b false c h k = le→leb a c (le_trans (leb→le a b h) (leb→le b c k))

signed-total : (s : Bool) (a : ℕ) (t : Bool) (b : ℕ) → T (signed_at_most s a t b) ⊎ T (signed_at_most t b s a)
signed-total true a true b = elim (le-or-lt a b) [ inl h ↦ inr (le→leb a b h) | inr h ↦ inl (le→leb b a (le_of_lt h)) ]
signed-total true a false b = inl tt
signed-total false a true b = inr tt
signed-total false a false b = elim (le-or-lt a b) [ inl h ↦ inl (le→leb a b h) | inr h ↦ inr (le→leb b a (le_of_lt h)) ]

signed-anti : (s : Bool) (a : ℕ) (t : Bool) (b : ℕ) → T (signed_at_most s a t b) → T (signed_at_most t b s a) → (s ≡ t) × (a ≡ b)
signed-anti true a true b h k = (refl, le_antisymm (leb→le a b k) (leb→le b a h))
signed-anti true a false b h k = absurd k
signed-anti false a true b h k = absurd h
signed-anti false a false b h k = (refl, le_antisymm (leb→le a b h) (leb→le b a k))

pub at_most-refl : (x : Float) → T (fits binary32 x) → T (at_most x x)
at_most-refl x f = subst T (sym (at-most-is x x f f)) (signed-refl (negative x) (height x))

pub at_most-trans : (x y z : Float) → T (fits binary32 x) → T (fits binary32 y) → T (fits binary32 z) → T (at_most x y) → T (at_most y z) → T (at_most x z)
at_most-trans x y z f g h p q = subst T (sym (at-most-is x z f h)) (signed-trans (negative x) (height x) (negative y) (height y) (negative z) (height z) (subst T (at-most-is x y f g) p)
    (subst T (at-most-is y z g h) q))

pub at_most-total : (x y : Float) → T (fits binary32 x) → T (fits binary32 y) → T (at_most x y) ⊎ T (at_most y x)
at_most-total x y f g = elim (signed-total (negative x) (height x) (negative y) (height y)) [ inl h ↦ inl (subst T (sym (at-most-is x y f g)) h) | inr h ↦ inr (subst T (sym (at-most-is y x g f)) h) ]

-- sign and height tell the value, by its bit pattern
bits-by : (s t : Bool) (m n : ℕ) (e d : ℤ) → s ≡ t → mag (fin s m e) ≡ mag (fin t n d) → to_bits binary32 (fin s m e) ≡ to_bits binary32 (fin t n d)
unfolding to_bits mag one
bits-by s t m n e d p q = cc

pub fin-unique : (s t : Bool) (m n : ℕ) (e d : ℤ) → T (fits binary32 (fin s m e)) → T (fits binary32 (fin t n d)) → s ≡ t → mag (fin s m e) ≡ mag (fin t n d) → fin s m e ≡ fin t n d
fin-unique s t m n e d f g p q = sym (of_bits-to_bits binary32 (fin s m e) f) ∙ ap (from_bits binary32) (bits-by s t m n e d p q) ∙ of_bits-to_bits binary32 (fin t n d) g

pub unique : (x y : Float) → T (fits binary32 x) → T (fits binary32 y) → negative x ≡ negative y → height x ≡ height y → x ≡ y
unfolding height
unique nan nan f g p q = refl
unique nan (inf t) f g p q = absurd (no (one * 2 ^ 128) q)
  where
    no : (a : ℕ) → suc a ≢ a
    no a e = omega arith
unique nan (fin t n d) f g p q = absurd (no (mag (fin t n d)) (one * 2 ^ 128) (mag-lt t n d g) q)
  where
    no : (a b : ℕ) → a < b → suc b ≢ a
    no a b h e = omega arith
unique (inf s) nan f g p q = absurd (no (one * 2 ^ 128) q)
  where
    no : (a : ℕ) → a ≢ suc a
    no a e = omega arith
unique (inf s) (inf t) f g p q = ap inf p
unique (inf s) (fin t n d) f g p q = absurd (no (mag (fin t n d)) (one * 2 ^ 128) (mag-lt t n d g) q)
  where
    no : (a b : ℕ) → a < b → b ≢ a
    no a b h e = omega arith
unique (fin s m e) nan f g p q = absurd (no (mag (fin s m e)) (one * 2 ^ 128) (mag-lt s m e f) q)
  where
    no : (a b : ℕ) → a < b → a ≢ suc b
    no a b h e = omega arith
unique (fin s m e) (inf t) f g p q = absurd (no (mag (fin s m e)) (one * 2 ^ 128) (mag-lt s m e f) q)
  where
    no : (a b : ℕ) → a < b → a ≢ b
    no a b h e = omega arith
unique (fin s m e) (fin t n d) f g p q = fin-unique s t m n e d f g p q

pub at_most-anti : (x y : Float) → T (fits binary32 x) → T (fits binary32 y) → T (at_most x y) → T (at_most y x) → x ≡ y
at_most-anti x y f g p q = let r = signed-anti (negative x) (height x) (negative y) (height y) (subst T (at-most-is x y f g) p) (subst T (at-most-is y x g f) q) in unique x y f g r.0 r.1

-- of two finite values it gives the order of the numbers
pub at_most-ordered : (x y : Float) → T (fits binary32 x) → T (fits binary32 y) → T (finite x) → T (finite y) → T (at_most x y) → Ordered x y
unfolding height
at_most-ordered nan y f g p q h = absurd p
at_most-ordered (inf s) y f g p q h = absurd p
at_most-ordered (fin s m e) nan f g p q h = absurd q
at_most-ordered (fin s m e) (inf t) f g p q h = absurd q
at_most-ordered (fin s m e) (fin t n d) f g p q h = go s t (mag (fin s m e)) (mag (fin t n d)) (subst T (at-most-is (fin s m e) (fin t n d) f g) h)
  where
    go : (s t : Bool) (a b : ℕ) → T (signed_at_most s a t b) → over s a + under t b ≤ over t b + under s a
    go true true a b h = omega (arith, leb→le)
    go true false a b h = omega arith
    go false true a b h = absurd h
    go false false a b h = omega (arith, leb→le)
