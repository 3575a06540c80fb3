-- Recorded packing, blocking, quantizing and pushing: whether what the call means is what was recorded. src/lib.rt says which word is
-- which.
use Rattle.std.specs.Prelude.{ℕ, Bool, false, ◌&&◌, ◌⊎◌, List, map, length, get_or, replicate, eqb, Result}
use Rattle.std.proofs.Common.{inl, inr}
use Rattle.std.specs.Float.{nan}
use Rattle.refusal.specs.declared.Refusal.{Refusal}
use Rattle.refusal.specs.Refusals.{verdict_number}
use Rattle.float32.specs.Key.{key_of, value_of}
use Rattle.packing.specs.declared.PackedPosting.{PackedPosting}
use Rattle.packing.specs.Packing as packing
use Rattle.packing.specs.Packing.{packed}
use Rattle.blocking.specs.Blocking as blocking
use Rattle.blocking.specs.Blocking.{blocked, offsets_left}
use Rattle.quantizing.specs.declared.Scale.{Scale}
use Rattle.quantizing.specs.Quantizing as quantizing
use Rattle.quantizing.specs.Quantizing.{quantized}
use Rattle.kept_list.specs.Entry.{scored}
use Rattle.kept_list.specs.Lent.{lent}
use Rattle.kept_list.specs.Push.{pushed}
use Rattle.kept_list.specs.Push as push
use Rattle.replay_words.specs.Words.{long, slice_at, spread, itself}
use Rattle.replay_expected.specs.Held.{held}

-- an answer in numbers is no refusal's, and its values pass a test
abbrev pub gives : {A : Type 0} → (A → Bool) → ℕ ⊎ A → Bool
gives p (inl n) = false
gives p (inr x) = p x

-- ---- packing
abbrev pub is_packed : Result PackedPosting Refusal → ℕ → Bool
is_packed answer number = gives (λ n. eqb n number) (packing.in_numbers answer)

unfoldable pub packs_agree : List ℕ → Bool
packs_agree w = is_packed (packed (long w 1) (long w 3)) (long w 5)

-- ---- blocking, into a buffer that holds 7 everywhere
abbrev pub is_written : Result ℕ Refusal → ℕ → Bool
is_written answer count = gives (λ n. eqb n count) (blocking.in_numbers answer)

-- as many offsets as recorded, these in front, and past them what was there before
abbrev pub blocked_as : List ℕ → Result ℕ Refusal → List ℕ → Bool
blocked_as w answer offsets = is_written answer (length (slice_at w 3 w)) && held offsets (slice_at w 3 w) 7

unfoldable pub blocks_agree : List ℕ → Bool
blocks_agree w = blocked_as w (blocked (get_or w 1 0) (get_or w 2 0) (replicate 256 7)) (offsets_left (get_or w 1 0) (get_or w 2 0) (replicate 256 7))

-- ---- quantizing, into codes that are 9 everywhere
abbrev pub is_summary : Result Scale Refusal → ℕ → ℕ → Bool
is_summary answer least step = gives (λ z. eqb (key_of z.0) least && eqb (key_of z.1) step) (quantizing.in_numbers answer)

unfoldable pub quantized_as : List ℕ → quantizing.Left → Bool
quantized_as w l = is_summary l.answer (get_or w 1 0) (get_or w 2 0) && held l.codes (slice_at w 4 w) 9

unfoldable pub quantizes_agree : List ℕ → Bool
quantizes_agree w = quantized_as w (quantized (slice_at w 3 (spread value_of 1024 w)) (replicate 64 9))

-- ---- pushing
-- accepted, with the recorded length and list; a score that was not recorded is a NaN
unfoldable pub pushed_as : List ℕ → push.Left → Bool
pushed_as w l = eqb (verdict_number l.verdict) 0 && eqb l.list.size (get_or w 5 0) && held l.list.packed (slice_at w 8 w) 0 && held (map key_of l.list.scores) (slice_at w 9 w) (key_of nan)

unfoldable pub pushes_agree : List ℕ → Bool
pushes_agree w = pushed_as w (pushed (get_or w 1 0) (scored (get_or w 3 0) (value_of (get_or w 4 0))) (lent (get_or w 2 0) (spread itself 8 (slice_at w 6 w)) (spread value_of 8 (slice_at w 7 w))))
