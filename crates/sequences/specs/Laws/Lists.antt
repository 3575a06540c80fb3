-- Laws on tests, numbers and lists that the proofs of several crates share.
use Rattle.std.specs.Prelude.{ℕ, zero, suc, ◌+◌, ◌-◌, ◌≤◌, ◌<◌, min, ◌≡◌, refl, ◌⊎◌, Bool, true, false, not, ◌&&◌, ◌||◌, length, get_or, take, drop, leb, ltb, eqb}
use Rattle.std.proofs.Common.{arith, sym, ap, ◌∙◌, inl, inr, true≢false, length-take, length-drop, take_all, length-take-le, lt-ltb, le-ltb, le-leb, eqb-true, eq-eqb, ne_eqb}
use Rattle.std.proofs.Math.Decide.{dec_le}
use Rattle.std.proofs.Math.Bool.{and_assoc, or_assoc}
use mathlib.Core.List.{List, [], ◌∷◌, ◌++◌, map, Permᴰ}
use mir.Val.{bool_byte}
use Rattle.std.proofs.lemmas.Bool.{lt-leb, eqb-false}
use Rattle.sequences.specs.Lists.{those, EachOf, every, last_or, part, between, from, among, never_falls}
use Rattle.sequences.specs.Laws.Groups.{NeverFalls, or_swap}

-- ---- tests
pub decide : (b : Bool) → (b ≡ true) ⊎ (b ≡ false)
decide true = inl refl
decide false = inr refl

pub both : (a b : Bool) → (a && b) ≡ true → (a ≡ true) × (b ≡ true)
both true b e = (refl, e)
both false b e = absurd (true≢false (sym e))

pub and_right : (a b : Bool) → (a && b) ≡ true → b ≡ true
and_right a b e = (both a b e).1

pub neither : (a b : Bool) → (a || b) ≡ false → (a ≡ false) × (b ≡ false)
neither true b e = absurd (true≢false e)
neither false b e = (refl, e)

pub or_left : (a b : Bool) → (a || b) ≡ false → a ≡ false
or_left a b e = (neither a b e).0

pub or_right : (a b : Bool) → (a || b) ≡ false → b ≡ false
or_right a b e = (neither a b e).1

pub or-second : (a : Bool) {b : Bool} → b ≡ true → (a || b) ≡ true
or-second true e = refl
or-second false e = e

pub byte_small : (b : Bool) → bool_byte b ≤ 1
byte_small true = omega arith
byte_small false = omega arith

-- ---- numbers
pub le-or-lt : (a b : ℕ) → (a ≤ b) ⊎ (b < a)
le-or-lt a b = go (dec_le a b)
  where
    go : Dec (a ≤ b) → (a ≤ b) ⊎ (b < a)
    go (yes h) = inl h
    go (no h) = inr (omega arith)

pub not-less : (a b : ℕ) → not (ltb a b) ≡ leb b a
not-less a b = go (dec_le b a)
  where
    go : Dec (b ≤ a) → not (ltb a b) ≡ leb b a
    go (yes h) = rw (le-ltb a b h, le-leb b a h)
    go (no h) = let l : a < b = omega arith in rw (lt-ltb a b l, lt-leb b a l)

pub eqb_swap : (a b : ℕ) → eqb a b ≡ eqb b a
eqb_swap a b = go (eqb a b) refl
  where
    go : (t : Bool) → eqb a b ≡ t → t ≡ eqb b a
    go true e = sym (eq-eqb b a (sym (eqb-true a b e)))
    go false e = sym (ne_eqb b a (λ h. eqb-false a b e (sym h)))

-- ---- so many numbers from a start on
pub from-length : (a n : ℕ) → length (from a n) ≡ n
from-length a zero = refl
from-length a (suc n) = ap suc (from-length (suc a) n)

pub from_at : {B : Type 0} (f : ℕ → B) (d : B) (a n i : ℕ) → i < n → get_or (map f (from a n)) i d ≡ f (a + i)
from_at f d a zero i h = absurd (omega arith)
from_at f d a (suc n) zero h = let z : a ≡ a + 0 = omega arith in ap f z
from_at f d a (suc n) (suc i) h = let z : suc a + i ≡ a + suc i = omega arith in from_at f d (suc a) n i (omega arith) ∙ ap f z

pub never-test : (b : ℕ) (xs : List ℕ) → NeverFalls b xs → never_falls xs ≡ true
never-test b [] r = refl
never-test b (x ∷ []) r = refl
never-test b (x ∷ y ∷ xs) r = let i = never-test x (y ∷ xs) r.1 in rw (le-leb x y r.1.0, i)

-- ---- lists
pub past_end : {A : Type 0} (l : List A) (i : ℕ) (d : A) → length l ≤ i → d ≡ get_or l i d
past_end [] i d h = refl
past_end (x ∷ l) zero d h = absurd (omega arith)
past_end (x ∷ l) (suc i) d h = past_end l i d (omega arith)

-- where there is an entry, what stands for none does not matter
pub any-default : {A : Type 0} (l : List A) (i : ℕ) (d e : A) → i < length l → get_or l i d ≡ get_or l i e
any-default [] i d e h = absurd (omega arith)
any-default (x ∷ l) zero d e h = refl
any-default (x ∷ l) (suc i) d e h = any-default l i d e (omega arith)

pub last_end : {A : Type 0} (d : A) (l : List A) (x : A) → last_or d (l ++ (x ∷ [])) ≡ x
last_end d [] x = refl
last_end d (y ∷ l) x = last_end y l x

pub take-map : {A B : Type 0} (f : A → B) (n : ℕ) (l : List A) → take n (map f l) ≡ map f (take n l)
take-map f zero l = refl
take-map f (suc n) [] = refl
take-map f (suc n) (x ∷ l) = ap (λ m. f x ∷ m) (take-map f n l)

-- the first m, cut to as many as there are
pub least-long : (m n k : ℕ) → k ≡ min m n → k ≤ n
least-long m n k e = omega arith

pub least-count : {A : Type 0} (xs : List A) (m n : ℕ) → n ≡ min m (length xs) → n ≡ length (take n xs)
least-count xs m n e = sym (length-take-le n xs (least-long m (length xs) n e))

pub cut-is : {A : Type 0} (xs : List A) (m n : ℕ) → n ≡ min m (length xs) → take n xs ≡ take m xs
cut-is xs m n e = go (dec_le m (length xs))
  where
    go : Dec (m ≤ length xs) → take n xs ≡ take m xs
    go (yes h) = ap (λ k. take k xs) (let z : n ≡ m = omega arith in z)
    go (no h) = take_all n xs (omega arith) ∙ sym (take_all m xs (omega arith))

pub map_at : {A B : Type 0} (f : A → B) (l : List A) (k : ℕ) (d : A) (e : B) → k < length l → get_or (map f l) k e ≡ f (get_or l k d)
map_at f [] k d e h = absurd (omega arith)
map_at f (x ∷ l) zero d e h = refl
map_at f (x ∷ l) (suc k) d e h = map_at f l k d e (omega arith)

pub part_length : {A : Type 0} (s n : ℕ) (l : List A) → s + n ≤ length l → length (part s n l) ≡ n
part_length s n l h = length-take n (drop s l) ∙ let e = length-drop s l in omega arith

pub between-count : {A : Type 0} (os : List ℕ) (xs : List A) → length (between os xs) ≡ length os - 1
between-count [] xs = refl
between-count (a ∷ []) xs = refl
between-count (a ∷ b ∷ os) xs = let i = between-count (b ∷ os) xs in ap suc i ∙ omega arith

pub those-same : {A : Type 0} (p q : A → Bool) → ((i : A) → p i ≡ q i) → (l : List A) → those p l ≡ those q l
those-same p q e [] = refl
those-same p q e (i ∷ l) = let j = those-same p q e l in rw (e i, j)

-- ---- what holds of each entry
pub every-each : {A : Type 0} (p : A → Bool) (l : List A) → every p l ≡ true → EachOf (λ x. p x ≡ true) l
every-each p [] h = tt
every-each p (x ∷ l) h = let b = both (p x) (every p l) h in (b.0, every-each p l b.1)

pub every_append : {A : Type 0} (p : A → Bool) (a b : List A) → every p (a ++ b) ≡ (every p a && every p b)
every_append p [] b = refl
every_append p (x ∷ a) b = ap (λ t. p x && t) (every_append p a b) ∙ sym (and_assoc (p x) (every p a) (every p b))

pub every_front : {A : Type 0} (p : A → Bool) (a b : List A) → every p (a ++ b) ≡ true → every p a ≡ true
every_front p a b h = (both (every p a) (every p b) (sym (every_append p a b) ∙ h)).0

-- ---- in another order, or only the first so many
pub permuted-length : {A : Type 0} {l m : List A} → Permᴰ l m → length l ≡ length m
permuted-length Permᴰ.nil = refl
permuted-length (Permᴰ.cons e d) = ap suc (permuted-length d)
permuted-length (Permᴰ.swap e f) = refl
permuted-length (Permᴰ.trans d e) = permuted-length d ∙ permuted-length e

pub among-permuted : (m : ℕ) {l r : List ℕ} → Permᴰ l r → among m l ≡ among m r
among-permuted m Permᴰ.nil = refl
among-permuted m (Permᴰ.cons e d) = λ i. eqb m (e i) || among-permuted m d i
among-permuted m (Permᴰ.swap {a = a} {b = b} {l = l} e f) = or_swap (eqb m a) (eqb m b) (among m l) ∙ (λ i. eqb m (f i) || (eqb m (e i) || among m l))
among-permuted m (Permᴰ.trans d e) = among-permuted m d ∙ among-permuted m e

pub among-append : (m : ℕ) (a b : List ℕ) → among m (a ++ b) ≡ (among m a || among m b)
among-append m [] b = refl
among-append m (x ∷ a) b = ap (λ t. eqb m x || t) (among-append m a b) ∙ sym (or_assoc (eqb m x) (among m a) (among m b))

pub among-take : (m n : ℕ) (l : List ℕ) → among m l ≡ false → among m (take n l) ≡ false
among-take m zero l h = refl
among-take m (suc n) [] h = refl
among-take m (suc n) (x ∷ l) h = let b = neither (eqb m x) (among m l) h in let i = among-take m n l b.1 in rw (b.0, i)
