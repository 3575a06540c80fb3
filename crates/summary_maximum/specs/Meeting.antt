-- The block maximum as one pass over the terms takes it: met components stand in a list, and each one's place there is looked up, so
-- that nothing has to be cleared before a block. A place is trusted only if the component stands at it.
use Rattle.std.specs.Prelude.{ℕ, ◌+◌, Bool, ◌&&◌, cond, List, length, get_or, set, ltb, eqb, Float}
use Rattle.std.specs.Float.{nan}
use Rattle.std.specs.Float.Ieee.{lt}
use Rattle.documents.specs.Documents.{Term}

-- so many components are met; each has its maximum so far beside it, and its place under its own number
pub record Met : Type 0 where
  pub count : ℕ
  pub keys : List ℕ
  pub places : List ℕ
  pub maxima : List Float

abbrev pub met : ℕ → List ℕ → List ℕ → List Float → Met
met n ks ps ms = record { count = n; keys = ks; places = ps; maxima = ms }

abbrev pub known : Met → ℕ → Bool
known s c = ltb (get_or s.places c 0) s.count && eqb (get_or s.keys (get_or s.places c 0) 0) c

-- a known component's maximum is replaced by a greater value
abbrev pub raised : Met → ℕ → Float → Met
raised s p v = met s.count s.keys s.places (cond (lt (get_or s.maxima p nan) v) (set s.maxima p v) s.maxima)

-- an unknown one is added, where there is room
abbrev pub added : Met → ℕ → Float → Met
added s c v = cond (ltb s.count (length s.keys)) (met (s.count + 1) (set s.keys s.count c) (set s.places c s.count) (set s.maxima s.count v)) s

unfoldable pub meets : Met → Term → Met
meets s t = cond (known s t.component) (raised s (get_or s.places t.component 0) t.value) (added s t.component t.value)

-- a component from the limit on is passed over
abbrev pub meets_below : ℕ → Met → Term → Met
meets_below limit s t = cond (ltb t.component limit) (meets s t) s
