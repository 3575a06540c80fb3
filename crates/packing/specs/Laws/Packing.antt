-- Laws of Packing, by which every other crate knows packed numbers.
use Rattle.std.specs.Prelude.{ℕ, suc, ◌+◌, ◌-◌, ◌≤◌, ◌<◌, ◌^◌, ◌≡◌, Bool, ◌&&◌, ◌||◌, ◌⊎◌, leb, ltb, eqb, Ok, Err}
use Rattle.std.proofs.Common.{sym, ap, ◌∙◌, inl, inr, arith, lt-ltb, le-ltb, le-leb, eq-eqb, ne_eqb}
use Rattle.std.proofs.Math.Decide.{dec_le, ℕ_discrete}
use Rattle.std.proofs.lemmas.Bool.{lt-leb}
use Rattle.refusal.specs.declared.Refusal.TheVariants.{StartTooLarge, RangeTooLong}
use Rattle.packing.specs.Packing.{start_limit, length_limit, pack_of, start_of, length_of, range_length, packed}

-- ---- a packed number's parts
pub start-of-pack : (start length : ℕ) → length ≤ length_limit → start_of (pack_of start length) ≡ start
unfolding start_of pack_of length_limit
start-of-pack start length h = omega arith

pub length-of-pack : (start length : ℕ) → length ≤ length_limit → length_of (pack_of start length) ≡ length
unfolding length_of pack_of length_limit
length-of-pack start length h = omega arith

-- every number is the pack of its parts
pub pack-of-parts : (n : ℕ) → pack_of (start_of n) (length_of n) ≡ n
unfolding start_of length_of pack_of length_limit
pack-of-parts n = omega arith

-- ---- limits
pub pack-fits : (start length : ℕ) → start < start_limit → length ≤ length_limit → pack_of start length < 2 ^ 64
unfolding pack_of start_limit length_limit
pack-fits start length h l = omega arith

pub start-within : (n : ℕ) → n < 2 ^ 64 → start_of n < start_limit
unfolding start_of start_limit length_limit
start-within n h = omega arith

pub length-within : (n : ℕ) → length_of n ≤ length_limit
unfolding length_of length_limit
length-within n = omega arith

-- where a packed range ends fits a u64
pub end_fits : (n : ℕ) → n < 2 ^ 64 → start_of n + length_of n < 2 ^ 64
unfolding start_of length_of length_limit
end_fits n h = omega arith

-- ---- order: by start and then by length
pub starts-rise : (m n : ℕ) → m ≤ n → start_of m ≤ start_of n
unfolding start_of length_limit
starts-rise m n h = omega arith

pub smaller-start : (m n : ℕ) → start_of m < start_of n → m < n
unfolding start_of length_limit
smaller-start m n h = omega arith

pub lengths-rise : (m n : ℕ) → start_of m ≡ start_of n → m ≤ n → length_of m ≤ length_of n
unfolding start_of length_of length_limit
lengths-rise m n e h = omega arith

pub no_longer : (m n : ℕ) → start_of m ≡ start_of n → length_of m ≤ length_of n → m ≤ n
unfolding start_of length_of length_limit
no_longer m n e h = omega arith

pub shorter : (m n : ℕ) → start_of m ≡ start_of n → length_of m < length_of n → m < n
unfolding start_of length_of length_limit
shorter m n e h = omega arith

pub shorter_back : (m n : ℕ) → start_of m ≡ start_of n → n < m → length_of n < length_of m
unfolding start_of length_of length_limit
shorter_back m n e h = omega arith

-- numbers of equal parts are equal
pub same_parts : (m n : ℕ) → start_of m ≡ start_of n → length_of m ≡ length_of n → m ≡ n
same_parts m n e f = sym (pack-of-parts m) ∙ ap (λ s. pack_of s (length_of m)) e ∙ ap (pack_of (start_of n)) f ∙ pack-of-parts n

-- ---- the same order as tests
-- m stands before n, or at it: by start, and then by length
abbrev pub no_later : ℕ → ℕ → Bool
no_later m n = ltb (start_of m) (start_of n) || eqb (start_of m) (start_of n) && leb (length_of m) (length_of n)

-- m stands before n
abbrev pub earlier : ℕ → ℕ → Bool
earlier m n = ltb (start_of m) (start_of n) || eqb (start_of m) (start_of n) && ltb (length_of m) (length_of n)

-- two starts: the first is smaller, they are equal, or it is greater
starts : (m n : ℕ) → (start_of m < start_of n) ⊎ ((start_of m ≡ start_of n) ⊎ (start_of n < start_of m))
starts m n = go (ℕ_discrete (start_of m) (start_of n)) (dec_le (start_of m) (start_of n))
  where
    go : Dec (start_of m ≡ start_of n) → Dec (start_of m ≤ start_of n) → (start_of m < start_of n) ⊎ ((start_of m ≡ start_of n) ⊎ (start_of n < start_of m))
    go (yes e) d = inr (inl e)
    go (no e) (yes h) = inl (omega arith)
    go (no e) (no h) = inr (inr (omega arith))

leb-same : (a b c d : ℕ) → (a ≤ b → c ≤ d) → (b < a → d < c) → leb a b ≡ leb c d
leb-same a b c d f g = go (dec_le a b)
  where
    go : Dec (a ≤ b) → leb a b ≡ leb c d
    go (yes h) = le-leb a b h ∙ sym (le-leb c d (f h))
    go (no h) = let l : b < a = omega arith in lt-leb a b l ∙ sym (lt-leb c d (g l))

pub packed-order : (m n : ℕ) → leb m n ≡ no_later m n
packed-order m n = go (starts m n)
  where
    go : (start_of m < start_of n) ⊎ ((start_of m ≡ start_of n) ⊎ (start_of n < start_of m)) → leb m n ≡ no_later m n
    go (inl h) = let l : m < n = smaller-start m n h in simp (lt-ltb _ _ h, le-leb m n (omega arith))
    go (inr (inl e)) = simp (le-ltb (start_of m) (start_of n) (omega arith), eq-eqb _ _ e) (leb-same m n _ _ (lengths-rise m n e) (λ h. shorter_back m n e h))
    go (inr (inr h)) = let l : n < m = smaller-start n m h in simp (le-ltb (start_of m) (start_of n) (omega arith), ne_eqb (start_of m) (start_of n) (λ e. omega arith), lt-leb m n l)

pub packed-strictly : (m n : ℕ) → ltb m n ≡ earlier m n
packed-strictly m n = go (starts m n)
  where
    go : (start_of m < start_of n) ⊎ ((start_of m ≡ start_of n) ⊎ (start_of n < start_of m)) → ltb m n ≡ earlier m n
    go (inl h) = simp (lt-ltb _ _ h, lt-ltb m n (smaller-start m n h))
    go (inr (inl e)) = simp (le-ltb (start_of m) (start_of n) (omega arith), eq-eqb _ _ e) (leb-same (suc m) n (suc (length_of m)) (length_of n) (λ h. shorter_back n m (sym e) h)
        (λ h. let l : length_of n ≤ length_of m = lengths-rise n m (sym e) (omega arith) in omega arith))
    go (inr (inr h)) = let l : n < m = smaller-start n m h in simp (le-ltb (start_of m) (start_of n) (omega arith), ne_eqb (start_of m) (start_of n) (λ e. omega arith), le-ltb m n (omega arith))

-- ---- which of the three answers is given
pub start-refused : (start end : ℕ) → start_limit ≤ start → packed start end ≡ Err StartTooLarge
unfolding packed
start-refused start end h = simp (le-leb _ _ h)

pub length-refused : (start end : ℕ) → start < start_limit → length_limit < range_length start end → packed start end ≡ Err RangeTooLong
unfolding packed
length-refused start end h l = simp (lt-leb _ _ h, lt-ltb _ _ l)

pub range-packed : (start end : ℕ) → start < start_limit → range_length start end ≤ length_limit → packed start end ≡ Ok (record { 0 = pack_of start (range_length start end) })
unfolding packed
range-packed start end h l = simp (lt-leb _ _ h, le-ltb _ _ l)

-- a range given by its start and its length
pub packs-length : (start length : ℕ) → start < start_limit → length ≤ length_limit → packed start (start + length) ≡ Ok (record { 0 = pack_of start length })
packs-length start length h l = range-packed start (start + length) h (rw same l) ∙ rw same
  where
    same : start + length - start ≡ length
    same = omega arith
