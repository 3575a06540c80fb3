-- When a block is skipped. Document 01, "Search".
use Rattle.std.specs.Prelude.{ℕ, Bool, ◌&&◌, eqb, Float}
use Rattle.std.specs.Float.{binary32}
use Rattle.std.specs.Float.Ieee.{lt, mul}

-- k are kept, and the score is below the factor times the worst kept score
abbrev pub skips_at : ℕ → Float → Float → ℕ → Float → Bool
skips_at k factor score n worst = eqb n k && lt score (mul binary32 factor worst)
