-- What the parts of a recorded search come to, over plain variables.
use Prim.Native.Nat.{ℕ}
use mathlib.Core.Path.{◌≡◌, refl, ap, ◌∙◌}
use mathlib.Core.Bool.{Bool, ◌&&◌}
use mathlib.Core.List.{List, map}
use Rattle.std.proofs.lemmas.List.{map-id}
use lib.ListN.{get_or, replicate}
use lib.Dec.{eqb}
use lib.Ieee.{Float, nan}
use Rattle.float32.specs.Key.{key_of, value_of}
use Rattle.float32.specs.Laws.KeyLaws.{key-of-nan}
use Rattle.kept_list.specs.Lent.{lent}
use Rattle.sparse_scores.specs.Layout.{arrays}
use Rattle.search_probe.specs.Probed.{terms, lends}
use Rattle.search.specs.Searched.{Question, question}
use Rattle.c_search.specs.Found.{Shown, seen}
use Rattle.replay_words.specs.Words.{slice_at, spread, itself, low}
use Rattle.replay_expected.specs.Held.{held}
use Rattle.replay_search.specs.Case.{question_from, question_in, lent_in, counts_held, buffers_held, found_as, found_from, searches_agree}

-- ---- what it left
pub counts-by : (w : List ℕ) (n s e k : ℕ) {a b c : ℕ} → a ≡ get_or w 5 0 → b ≡ get_or w 6 0 → c ≡ get_or w 7 0 → eqb n 0 && eqb s a && eqb e b && eqb k c ≡ counts_held w n s e k
counts-by w n s e k p q r = rw (p, q, r)

pub holds_by : (w packed : List ℕ) (scores : List Float) (visits : List ℕ) (block_scores : List Float) (order : List ℕ) {es₁ es₂ es₃ es₄ es₅ : List ℕ} {a b c d e : Bool}
    → es₁ ≡ slice_at w 23 w → a ≡ held (map (λ n. n) packed) es₁ 0 → es₂ ≡ slice_at w 24 w → b ≡ held (map key_of scores) es₂ 4294967295 → es₃ ≡ slice_at w 25 w → c ≡ held (map (λ n. n) visits) es₃ 0
    → es₄ ≡ slice_at w 26 w → d ≡ held (map key_of block_scores) es₄ 4294967295 → es₅ ≡ slice_at w 27 w → e ≡ held (map (λ n. n) order) es₅ 6 → a && b && c && d && e ≡ buffers_held w packed scores visits block_scores order
holds_by w packed scores visits block_scores order p₁ a p₂ b p₃ c p₄ d p₅ e = rw (a, b, c, d, e, map-id packed, map-id visits, map-id order, p₁, p₂, p₃, p₄, p₅, ← key-of-nan)

pub found-by : (w : List ℕ) (s t : Shown) {a b : Bool} → s ≡ t → a ≡ counts_held w s.number s.lent.kept.size s.evaluated s.skipped
    → b ≡ buffers_held w s.lent.kept.packed s.lent.kept.scores s.lent.visits s.block_scores s.block_order → a && b ≡ found_as w t
unfolding found_as
found-by w s t e p q = rw (p, q) (ap (found_as w) e)

-- ---- what it was given
no_value : value_of 4294967295 ≡ nan
unfolding value_of
no_value = refl

pub from-words : (w longs : List ℕ) (floats : List Float) (shorts bytes packed : List ℕ) (scores : List Float) (visits : List ℕ) {r : Bool} {by k kept : ℕ} {factor odd : Float}
    {qs cs os bs ps es is ks : List ℕ} {ws vs ms ss : List Float}
    → by ≡ get_or w 1 0 → qs ≡ slice_at w 8 w → ws ≡ slice_at w 9 floats → k ≡ get_or w 2 0 → factor ≡ value_of (get_or w 3 0) → cs ≡ slice_at w 10 w → vs ≡ slice_at w 11 floats
    → os ≡ slice_at w 12 longs → bs ≡ slice_at w 13 longs → ps ≡ slice_at w 14 w → es ≡ slice_at w 15 longs → is ≡ slice_at w 16 shorts → ks ≡ slice_at w 17 bytes
    → ms ≡ slice_at w 18 floats → ss ≡ slice_at w 19 floats → odd ≡ value_of 4294967295 → kept ≡ get_or w 4 0
    → r ≡ found_as w (seen by (question k factor (terms qs ws cs vs) os bs (arrays ps es is ks ms ss)) (lends (lent kept packed scores) visits) (replicate 32 odd) (replicate 32 6))
    → r ≡ found_from w (question_from w longs floats shorts bytes) (lends (lent (get_or w 4 0) packed scores) visits)
unfolding found_from question_from
from-words w longs floats shorts bytes packed scores visits p1 p2 p3 p4 p5 p6 p7 p8 p9 p10 p11 p12 p13 p14 p15 p16 p17 e = e ∙ rw (p1, p2, p3, p4, p5, p6, p7, p8, p9, p10, p11, p12, p13, p14, p15, p16, no_value, p17)

pub on-by : (w : List ℕ) (q : Question) {ps xs bs packed visits : List ℕ} {scores : List Float} {r : Bool}
    → ps ≡ slice_at w 20 w → packed ≡ spread itself 8 ps → xs ≡ slice_at w 21 w → scores ≡ spread value_of 8 xs → bs ≡ slice_at w 22 w → visits ≡ spread (low 256) 256 bs
    → r ≡ found_from w q (lends (lent (get_or w 4 0) packed scores) visits) → r ≡ found_from w q (lent_in w)
unfolding lent_in
on-by w q p₁ p₂ p₃ p₄ p₅ p₆ e = e ∙ rw (p₂, p₁, p₄, p₃, p₆, p₅)

pub agrees-by : (w : List ℕ) {longs shorts bytes : List ℕ} {floats : List Float} {r : Bool}
    → longs ≡ spread itself 1024 w → floats ≡ spread value_of 1024 w → shorts ≡ spread (low 65536) 1024 w → bytes ≡ spread (low 256) 1024 w
    → r ≡ found_from w (question_from w longs floats shorts bytes) (lent_in w) → r ≡ searches_agree w
unfolding searches_agree question_in
agrees-by w p q s t e = e ∙ rw (p, q, s, t)
