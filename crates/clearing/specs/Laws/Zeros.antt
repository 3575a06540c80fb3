-- Clearing twice is clearing once.
use Rattle.std.specs.Prelude.{ℕ, ◌≡◌, false, List, pos, Float, length, replicate}
use Rattle.std.proofs.Common.{ap}
use Rattle.std.specs.Float.{fin}
use Rattle.std.proofs.lemmas.List.{length-replicate}
use Rattle.clearing.specs.Zeros.{zeros, float_zeros}

pub zeros-twice : (l : List ℕ) → zeros (zeros l) ≡ zeros l
zeros-twice l = ap (λ n. replicate n 0) (length-replicate {A = ℕ} (length l) 0)

pub float-zeros-twice : (l : List Float) → float_zeros (float_zeros l) ≡ float_zeros l
float-zeros-twice l = ap (λ n. replicate n (fin false 0 (pos 0))) (length-replicate (length l) (fin false 0 (pos 0)))
