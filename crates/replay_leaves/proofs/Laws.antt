-- What a call's answer and its buffers come to, over plain variables.
use Rattle.std.specs.Prelude.{Result, Ok}
use Prim.Native.Nat.{ℕ}
use mathlib.Core.Path.{◌≡◌, ap, ◌∙◌}
use mathlib.Core.Bool.{Bool, ◌&&◌}
use mathlib.Core.List.{List, map}
use Rattle.std.proofs.lemmas.List.{map-id}
use lib.ListN.{length, get_or, replicate}
use lib.Dec.{eqb}
use lib.Ieee.{Float}
use Rattle.refusal.specs.declared.Refusal.{Refusal}
use Rattle.refusal.specs.Refusals.{verdict_number}
use Rattle.float32.specs.Key.{key_of, value_of}
use Rattle.float32.specs.Laws.KeyLaws.{key-of-nan}
use Rattle.packing.specs.declared.PackedPosting.{PackedPosting}
use Rattle.packing.specs.Packing.{packed}
use Rattle.blocking.specs.Blocking.{blocked, offsets_left}
use Rattle.quantizing.specs.declared.Scale.{Scale}
use Rattle.quantizing.specs.Quantizing.{scale, left, quantized}
use Rattle.kept_list.specs.declared.Scored.{Scored}
use Rattle.kept_list.specs.Entry.{scored}
use Rattle.kept_list.specs.Lent.{lent}
use Rattle.kept_list.specs.Push as push
use Rattle.replay_words.specs.Words.{long, slice_at, spread, itself}
use Rattle.replay_expected.specs.Held.{held}
use Rattle.replay_leaves.specs.Case.{is_packed, is_written, is_summary, quantized_as, pushed_as, packs_agree, blocks_agree, quantizes_agree, pushes_agree}

pub packs-by : (w : List ℕ) {a : Result PackedPosting Refusal} {start end n : ℕ} {r : Bool} → start ≡ long w 1 → end ≡ long w 3 → a ≡ packed start end → n ≡ long w 5 → r ≡ is_packed a n → r ≡ packs_agree w
unfolding packs_agree
packs-by w p q e x r = r ∙ rw (e, p, q, x)

pub blocks-by : (w : List ℕ) {a : Result ℕ Refusal} {ids size : ℕ} {offsets wanted : List ℕ} {r s : Bool}
    → ids ≡ get_or w 1 0 → size ≡ get_or w 2 0 → (a ≡ blocked ids size (replicate 256 7)) × (offsets ≡ offsets_left ids size (replicate 256 7)) → wanted ≡ slice_at w 3 w
    → r ≡ is_written a (length wanted) → s ≡ held (map (λ n. n) offsets) wanted 7 → r && s ≡ blocks_agree w
unfolding blocks_agree
blocks-by w {offsets = offsets} p q e x r s = rw (r, s, map-id offsets, e.0, e.1, x, p, q)

-- whether a summary is the recorded one, by its two keys, for whoever compares these
pub summary-by : (a : Result Scale Refusal) (lk sk : ℕ) {least step : Float} {x y : ℕ} → a ≡ Ok (scale least step) → x ≡ key_of least → y ≡ key_of step → eqb x lk && eqb y sk ≡ is_summary a lk sk
summary-by a lk sk e p q = rw (e, p, q)

pub quantizes-by : (w : List ℕ) {a : Result Scale Refusal} {floats values : List Float} {codes wanted : List ℕ} {least step : ℕ} {r s : Bool}
    → floats ≡ spread value_of 1024 w → values ≡ slice_at w 3 floats → left a codes ≡ quantized values (replicate 64 9)
    → least ≡ get_or w 1 0 → step ≡ get_or w 2 0 → wanted ≡ slice_at w 4 w
    → r ≡ is_summary a least step → s ≡ held (map (λ n. n) codes) wanted 9 → r && s ≡ quantizes_agree w
unfolding quantizes_agree quantized_as
quantizes-by w {a} {codes = codes} p q e x y z r s =
    let left_by : left a codes ≡ quantized (slice_at w 3 (spread value_of 1024 w)) (replicate 64 9) = e ∙ rw (q, p) in rw (r, s, map-id codes, x, y, z) (ap (quantized_as w) left_by)

-- the call, and then what it left against what was recorded
pub pushes-by : (w : List ℕ) {v : Result (Unit {0}) Refusal} {e : Scored} {ps xs qs ys : List ℕ} {k n p m o z : ℕ} {packed packed' : List ℕ} {scores scores' : List Float} {x : Float} {b c : Bool}
    → ps ≡ slice_at w 6 w → packed ≡ spread itself 8 ps → xs ≡ slice_at w 7 w → scores ≡ spread value_of 8 xs
    → n ≡ get_or w 2 0 → p ≡ get_or w 3 0 → x ≡ value_of (get_or w 4 0) → e ≡ scored p x → k ≡ get_or w 1 0
    → push.left v (lent m packed' scores') ≡ push.pushed k e (lent n packed scores)
    → z ≡ verdict_number v → o ≡ get_or w 5 0 → qs ≡ slice_at w 8 w → b ≡ held (map (λ n. n) packed') qs 0 → ys ≡ slice_at w 9 w → c ≡ held (map key_of scores') ys 4294967295
    → eqb z 0 && eqb m o && b && c ≡ pushes_agree w
unfolding pushes_agree pushed_as
pushes-by w {v} {m = m} {packed' = packed'} {scores' = scores'} p1 p2 p3 p4 p5 p6 p7 p8 p9 e q1 q2 q3 q4 q5 q6 =
    let left_by : push.left v (lent m packed' scores') ≡ push.pushed (get_or w 1 0) (scored (get_or w 3 0) (value_of (get_or w 4 0))) (lent (get_or w 2 0) (spread itself 8 (slice_at w 6 w)) (spread value_of 8 (slice_at w 7 w)))
    = e ∙ rw (p8, p9, p5, p6, p7, p2, p1, p4, p3) in
    rw (q1, q2, q4, map-id packed', q3, q6, q5, ← key-of-nan) (ap (pushed_as w) left_by)
