-- The keys that the blocks of a list keep, stored one block after another between the two passes over the blocks. A store has frames from
-- its start on: how many keys a block keeps, and then these keys. Where a frame would start, 0 and a number past what is left stand for
-- none.
use Rattle.std.specs.Prelude.{ℕ, suc, ◌+◌, ◌-◌, cond, List, [], ◌∷◌, ◌++◌, map, length, drop, leb, ltb, eqb}
use Rattle.std.proofs.lemmas.List.Edits.{sets}
use Rattle.sequences.specs.Lists.{part}
use Rattle.documents.specs.Documents.{Term}
use Rattle.documents.specs.TermKeys.{term_key, term_of}
use Rattle.clearing.specs.Zeros.{zeros}

-- ---- stored
-- a block's frame, if there are places for it
abbrev pub frame : ℕ → List ℕ → List ℕ
frame places keys = cond (ltb (length keys) places) (length keys ∷ keys) []

-- the place after a frame of n keys, or the end of a store of so many places where it finds none
abbrev pub place_after : ℕ → ℕ → ℕ → ℕ
place_after at n size = cond (ltb n (size - at)) (at + 1 + n) size

-- one frame after another, up to the first that finds no place: no later one is stored
unfoldable pub frames : ℕ → List (List ℕ) → List ℕ
frames places [] = []
frames places (keys ∷ later) = cond (ltb (length keys) places) (length keys ∷ keys ++ frames (places - suc (length keys)) later) []

abbrev pub keys_of : List (List Term) → List (List ℕ)
keys_of tops = map (map term_key) tops

-- what a store holds once the blocks' kept terms are stored: their frames, and zeros behind
unfoldable pub kept_in : List (List Term) → List ℕ → List ℕ
kept_in tops store = sets (zeros store) 0 (frames (length store) (keys_of tops))

-- ---- read back
-- how many keys the frame in front has; 0 where there is none
abbrev pub in_front : List ℕ → ℕ
in_front [] = 0
in_front (n ∷ rest) = cond (leb n (length rest)) n 0

-- a block's kept terms: those of the frame in front, or its own where there is none
abbrev pub recalled_top : List ℕ → List Term → List Term
recalled_top store top = cond (eqb (in_front store) 0) top (map term_of (part 1 (in_front store) store))

-- what lies behind the frame in front
abbrev pub behind : List ℕ → List ℕ
behind store = cond (eqb (in_front store) 0) store (drop (suc (in_front store)) store)

-- the kept terms of one block after another
unfoldable pub recalled : List ℕ → List (List Term) → List (List Term)
recalled store [] = []
recalled store (top ∷ tops) = recalled_top store top ∷ recalled (behind store) tops
