-- The limits on a posting list: document 01, "Numbers" and "Numbered refusals". They stand here and nowhere else; other crates know of them
-- what Laws/Limits says.
use Rattle.std.specs.Prelude.{ℕ}

-- as many ids as a list may have
unfoldable pub list_limit : ℕ
list_limit = 16777216

-- as many blocks as a list may have
unfoldable pub block_limit : ℕ
block_limit = 65535

-- as many centroids as may be asked for
unfoldable pub centroid_limit : ℕ
centroid_limit = 65535

-- the greatest dimension; the least is 1
unfoldable pub dimension_limit : ℕ
dimension_limit = 1048575
