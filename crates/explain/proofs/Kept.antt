-- Looking for a number among the first of a list.
use Prim.Native.Nat.{ℕ, min}
use mathlib.Core.Path.{◌≡◌, refl, ap, ◌∙◌}
use mathlib.Core.Bool.{Bool, ◌||◌}
use mathlib.Core.List.{List, [], ◌∷◌}
use lib.ListN.{length, take}
use lib.Dec.{eqb}
use Rattle.std.specs.List.{list_any}
use Rattle.std.proofs.lemmas.List.{take_min}
use Rattle.sequences.specs.Lists.{among}
use Rattle.sequences.specs.Laws.Lists.{eqb_swap}

any-among : (p : ℕ) (xs : List ℕ) → list_any (λ y. eqb y p) xs ≡ among p xs
any-among p [] = refl
any-among p (x ∷ xs) = ap (λ b. b || list_any (λ y. eqb y p) xs) (eqb_swap x p) ∙ ap (λ b. eqb p x || b) (any-among p xs)

pub kept-is : (p n most : ℕ) (xs : List ℕ) (b : Bool) → most ≡ min n (length xs) → b ≡ list_any (λ y. eqb y p) (take most xs) → b ≡ among p (take n xs)
kept-is p n most xs b h e = e ∙ any-among p (take most xs) ∙ ap (among p) (ap (λ m. take m xs) h ∙ take_min n xs)
