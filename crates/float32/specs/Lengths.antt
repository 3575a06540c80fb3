-- A u64 without its last digits, of which it matters to the f32 nearest to it only whether any is set.
use Rattle.std.specs.Prelude.{ℕ, ◌+◌, ◌*◌, ◌/◌, ◌%◌, cond, ◌==◌}

-- ---- the digits that a u64 keeps
-- n without its last 16 digits; where one of them is set, the last digit that stays is set too
abbrev pub without_end : ℕ → ℕ
without_end n = cond (n % 65536 == 0) (n / 65536) (n / 131072 * 2 + 1)
