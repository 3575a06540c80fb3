-- What packing promises, over the definitions alone and in document 01's numbers.
use Rattle.std.specs.Prelude.{ℕ, ◌+◌, ◌-◌, ◌≤◌, ◌<◌, ◌^◌, ◌≡◌}
use Rattle.std.proofs.Common.{ap, ◌∙◌, inl, inr, arith}
use Rattle.packing.specs.Packing.{start_limit, length_limit, pack_of, start_of, length_of, range_length, packed, unpacked, in_numbers}
use Rattle.packing.specs.Laws.Packing.{start-of-pack, length-of-pack, pack-of-parts, start-within, length-within, start-refused, length-refused, range-packed}

-- ---- which of the three answers is given
pub refuses-start : (start end : ℕ) → start_limit ≤ start → in_numbers (packed start end) ≡ inl 1
refuses-start start end h = ap in_numbers (start-refused start end h)

pub refuses-length : (start end : ℕ) → start < start_limit → length_limit < range_length start end → in_numbers (packed start end) ≡ inl 2
refuses-length start end h l = ap in_numbers (length-refused start end h l)

pub packs : (start end : ℕ) → start < start_limit → range_length start end ≤ length_limit → in_numbers (packed start end) ≡ inr (pack_of start (range_length start end))
packs start end h l = ap in_numbers (range-packed start end h l)

-- ---- there and back
-- what was packed is unpacked to its start and its length
pub unpack-of-pack : (start end : ℕ) → range_length start end ≤ length_limit → unpacked (pack_of start (range_length start end)) ≡ record {
  start = record { 0 = start };
  length = end - start;
  end = start
      + (end - start);
}
unpack-of-pack start end l = rw (start-of-pack start (range_length start end) l, length-of-pack start (range_length start end) l)

-- and every packed number, taken apart, packs to itself
pub pack-of-unpack : (n : ℕ) → n < 2 ^ 64 → in_numbers (packed (unpacked n).start.0 (unpacked n).end) ≡ inr n
pack-of-unpack n h = packs (start_of n) (start_of n + length_of n) (start-within n h) (rw same (length-within n)) ∙ rw (same, pack-of-parts n)
  where
    same : start_of n + length_of n - start_of n ≡ length_of n
    same = omega arith

-- ---- an end below its start counts as length 0
pub empty-range : (start end : ℕ) → end ≤ start → packed start end ≡ packed start start
unfolding packed
empty-range start end h = let e : end - start ≡ start - start = omega arith in rw e
