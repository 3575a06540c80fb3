-- What is put at the front of a buffer, and turns by a list of blocks.
use Prim.Native.Nat.{ℕ, suc, ◌+◌, ◌≤◌, ◌<◌}
use native.Mathlib.Omega.{arith}
use mathlib.Core.Path.{◌≡◌, refl, sym, ap, ◌∙◌}
use mathlib.Core.List.{List, [], ◌∷◌, ◌++◌, map}
use lib.ListN.{length, get_or, take, drop}
use lib.Seq.{take_all, take_at, length-take-le}
use Rattle.sequences.specs.Lists.{from}
use Rattle.sequences.specs.Laws.Lists.{any-default}
use Rattle.sparse_scores.specs.Scores.{put_in}
use Rattle.sparse_scores.specs.Laws.WalkLaws.{put-length}
use Rattle.search_probe.specs.Probed.{listed}

-- ---- what is put at the front of a buffer is its front
pub put_all : {A : Type 0} (xs buffer : List A) → length xs ≤ length buffer → put_in xs buffer ≡ xs ++ drop (length xs) buffer
put_all xs buffer h = rw (take_all (length buffer) xs h)

pub front : {A : Type 0} (xs buffer ys : List A) (n : ℕ) → length xs ≡ n → n ≤ length buffer → ys ≡ put_in xs buffer → take n ys ≡ xs
front xs buffer ys n e h p = ap (take n) (p ∙ put_all xs buffer (rw e h)) ∙ take_at xs (drop (length xs) buffer) n e

pub put_front : {A : Type 0} (xs buffer ys : List A) (n : ℕ) → length xs ≡ n → n ≤ length buffer → ys ≡ xs → ys ++ drop n buffer ≡ put_in xs buffer
put_front xs buffer ys n e h p = rw (p, ← e) (sym (put_all xs buffer (rw e h)))

pub put-room : {A : Type 0} (xs buffer ys : List A) (n : ℕ) → n ≤ length buffer → ys ≡ put_in xs buffer → n ≤ length ys
put-room xs buffer ys n h p = let z : length ys ≡ length buffer = ap length p ∙ put-length xs buffer in omega arith

pub front_length : {A : Type 0} (xs buffer ys : List A) (n : ℕ) → n ≤ length buffer → ys ≡ put_in xs buffer → n ≡ length (take n ys)
front_length xs buffer ys n h p = sym (length-take-le n ys (put-room xs buffer ys n h p))

-- ---- the turns
map_same : (bs : List ℕ) → map (λ i. get_or [] i i) bs ≡ bs
map_same [] = refl
map_same (b ∷ bs) = ap (λ l. b ∷ l) (map_same bs)

-- with no order the blocks have their turns in number order
pub none-listed : (n : ℕ) → listed [] n ≡ from 0 n
none-listed n = map_same (from 0 n)

listed_by : (g : ℕ → ℕ) (bs : List ℕ) (a : ℕ) → ((j : ℕ) → j < length bs → g (a + j) ≡ get_or bs j 0) → map g (from a (length bs)) ≡ bs
listed_by g [] a h = refl
listed_by g (b ∷ bs) a h =
    let z : a + 0 ≡ a = omega arith in
    let x : g a ≡ b = ap g (sym z) ∙ h 0 (omega arith) in
    let y = listed_by g bs (suc a) (λ j l. let w : suc a + j ≡ a + suc j = omega arith in ap g w ∙ h (suc j) (omega arith)) in
    cc

pub all_listed : (bs : List ℕ) (n : ℕ) → length bs ≡ n → listed bs n ≡ bs
all_listed bs n e =
    ap (λ m. map (λ i. get_or bs i i) (from 0 m)) (sym e)
    ∙ listed_by (λ i. get_or bs i i) bs 0 (λ j l. let w : 0 + j ≡ j = omega arith in rw w (any-default bs j j 0 l))
