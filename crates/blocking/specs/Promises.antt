-- What fixed blocking promises: which answer is given when, in document 01's numbers, and what it leaves in the lent buffer.
use Rattle.std.specs.Prelude.{ℕ, ◌+◌, ◌≤◌, ◌<◌, ◌/◌, ◌≡◌, true, false, ◌⊎◌, List, ltb, length, Result}
use Rattle.std.proofs.Common.{sym, ap, inl, inr}
use Rattle.refusal.specs.declared.Refusal.{Refusal}
use Rattle.blocking.specs.Limits.{list_limit, block_limit}
use Rattle.blocking.specs.Blocking.{fixed_offsets, blocked, in_front, offsets_left, in_numbers}
use Rattle.blocking.specs.Blocks.{Blocks}
use Rattle.blocking.specs.Laws.Blocking.{blocks-refused, buffer-refused, offsets-written}
use Rattle.blocking.specs.Laws.Blocking.{length-refused, size-refused}

-- a length, a block size and a lent buffer, with what they give: the number of a refusal on the left, of offsets on the right; and the
-- buffer afterwards
pub record Gives (n b : ℕ) (buffer : List ℕ) (answer : ℕ ⊎ ℕ) (after : List ℕ) : Type 0 where
  pub answers : in_numbers (blocked n b buffer) ≡ answer
  pub leaves : offsets_left n b buffer ≡ after

module _ (n b : ℕ) (buffer : List ℕ) where
  shown : (answer : Result ℕ Refusal) (after : List ℕ) → Blocks n b buffer answer after → Gives n b buffer (in_numbers answer) after
  shown answer after h = record { answers = ap in_numbers (sym h.0); leaves = sym h.1 }

  pub refuses-length : ltb list_limit n ≡ true → Gives n b buffer (inl 8) buffer
  refuses-length h = shown _ _ (length-refused n b buffer h)

  module _ (short : ltb list_limit n ≡ false) where
    pub refuses-size : b ≡ 0 → Gives n b buffer (inl 3) buffer
    refuses-size h = shown _ _ (size-refused n b buffer short h)

    module _ (size : b ≡ 0 → ⊥) where
      pub refuses-blocks : ltb block_limit (n / b) ≡ true → Gives n b buffer (inl 8) buffer
      refuses-blocks h = shown _ _ (blocks-refused n b buffer short size h)

      module _ (few : ltb block_limit (n / b) ≡ false) where
        pub refuses-buffer : length buffer ≤ n / b → Gives n b buffer (inl 4) buffer
        refuses-buffer h = shown _ _ (buffer-refused n b buffer short size few h)

        pub writes : n / b < length buffer → Gives n b buffer (inr (n / b + 1)) (in_front (fixed_offsets n b) buffer)
        writes h = shown _ _ (offsets-written n b buffer short size few h)
