-- Words that are not there, slices by their bounds, and buffers filled from the front.
use Prim.Native.Nat.{ℕ, zero, suc, ◌+◌, ◌-◌, ◌<◌, ◌≤◌}
use native.Mathlib.Omega.{arith}
use native.Mathlib.Numerals.{add-one}
use mathlib.Core.Path.{◌≡◌, refl, ap, ◌∙◌}
use mathlib.Core.Bool.{false, ◌&&◌}
use mathlib.Core.List.{List, [], ◌∷◌, ◌++◌, append-nil}
use lib.ListN.{length, take, drop, set, get_or}
use lib.Dec.{leb}
use lib.Seq.{take_all, drop-length}
use borrow.Author.Tests.{le-leb, lt-leb}
use Rattle.replay_words.specs.Words.{start_of, end_of, up_to, slice_at, spread}

-- ---- bounds
-- what `limits` answers, over numbers that equal the words
pub inside : (a b x y n : ℕ) → a ≡ x → b ≡ y → a ≤ b → b ≤ n → (a ≡ start_of x y n) × ((b ≡ end_of x y n) × ((a ≤ b) × (b ≤ n)))
unfolding start_of end_of
inside a b x y n p q h k = rw (← p, ← q) (simp (le-leb a b h, le-leb b n k) (refl, (refl, (h, k))))

pub outside : (a b x y n : ℕ) → a ≡ x → b ≡ y → leb a b && leb b n ≡ false → (0 ≡ start_of x y n) × ((0 ≡ end_of x y n) × ((0 ≤ 0) × (0 ≤ n)))
unfolding start_of end_of
outside a b x y n p q h = rw (← p, ← q) (simp h (refl, (refl, (omega arith, omega arith))))

pub crossed : (a b n : ℕ) → b < a → leb a b && leb b n ≡ false
crossed a b n h = simp (lt-leb a b h)

pub beyond : (a b n : ℕ) → a ≤ b → n < b → leb a b && leb b n ≡ false
beyond a b n h k = simp (le-leb a b h, lt-leb b n k)

pub slice-by : {A : Type 0} (ws : List ℕ) (at : ℕ) (xs : List A) (a b : ℕ)
    → a ≡ start_of (get_or ws at 0) (get_or ws (at + 1) 0) (length xs) → b ≡ end_of (get_or ws at 0) (get_or ws (at + 1) 0) (length xs) → take (b - a) (drop a xs) ≡ slice_at ws at xs
unfolding slice_at up_to
slice-by ws at xs a b p q = rw (p, q)

-- ---- a buffer that becomes a list from the front on
set_next : {A : Type 0} (t l : List A) (i : ℕ) (d : A) → length t ≡ length l → i < length l → set (take i t ++ drop i l) i (get_or t i d) ≡ take (suc i) t ++ drop (suc i) l
set_next [] [] i d e h = let z : ⊥ = omega arith in absurd z
set_next [] (y ∷ l) i d e h = let z : ⊥ = omega arith in absurd z
set_next (x ∷ t) [] i d e h = let z : ⊥ = omega arith in absurd z
set_next (x ∷ t) (y ∷ l) zero d e h = refl
set_next (x ∷ t) (y ∷ l) (suc i) d e h = ap (λ r. x ∷ r) (set_next t l i d (omega arith) (omega arith))

pub fill_step : {A : Type 0} (t l b : List A) (i : ℕ) (d v : A) → length t ≡ length l → i < length l → b ≡ take i t ++ drop i l → v ≡ get_or t i d → set b i v ≡ take (i + 1) t ++ drop (i + 1) l
fill_step t l b i d v e h p q = rw (p, q, add-one i) (set_next t l i d e h)

pub fill_end : {A : Type 0} (t l b : List A) (i : ℕ) → length t ≡ length l → i ≡ length l → b ≡ take i t ++ drop i l → b ≡ t
fill_end t l b i e h p = p ∙ rw (h, drop-length l, take_all (length l) t (omega arith)) (append-nil t)

-- ---- words spread out as other entries
pub spread-length : {A : Type 0} (f : ℕ → A) (n : ℕ) (ws : List ℕ) → length (spread f n ws) ≡ n
unfolding spread
spread-length f zero ws = refl
spread-length f (suc n) [] = ap suc (spread-length f n [])
spread-length f (suc n) (w ∷ ws) = ap suc (spread-length f n ws)

pub spread_at : {A : Type 0} (f : ℕ → A) (n : ℕ) (ws : List ℕ) (i : ℕ) (d : A) → i < n → f (get_or ws i 0) ≡ get_or (spread f n ws) i d
unfolding spread
spread_at f zero ws i d h = let z : ⊥ = omega arith in absurd z
spread_at f (suc n) [] zero d h = refl
spread_at f (suc n) [] (suc i) d h = spread_at f n [] i d (omega arith)
spread_at f (suc n) (w ∷ ws) zero d h = refl
spread_at f (suc n) (w ∷ ws) (suc i) d h = spread_at f n ws i d (omega arith)

-- one turn: the next word
pub spread-step : {A : Type 0} (f : ℕ → A) (ws : List ℕ) (l b : List A) (i : ℕ) (v : A) → i < length l → b ≡ take i (spread f (length l) ws) ++ drop i l → v ≡ f (get_or ws i 0) → set b i v ≡ take (i + 1) (spread f (length l) ws) ++ drop (i + 1) l
spread-step f ws l b i v h p q = fill_step (spread f (length l) ws) l b i v v (spread-length f (length l) ws) h p (q ∙ spread_at f (length l) ws i v h)

pub spread_end : {A : Type 0} (f : ℕ → A) (ws : List ℕ) (l b : List A) (i : ℕ) → i ≡ length l → b ≡ take i (spread f (length l) ws) ++ drop i l → b ≡ spread f (length l) ws
spread_end f ws l b i h p = fill_end (spread f (length l) ws) l b i (spread-length f (length l) ws) h p
