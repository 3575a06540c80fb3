-- What the parts of a recorded build come to, over plain variables.
use Rattle.std.proofs.Common.{◌≡◌, ℕ, Bool, ◌&&◌, eqb, List, length, get_or, map, ap, ◌∙◌}
use Rattle.std.proofs.lemmas.List.{map-id}
use lib.Ieee.{Float}
use Rattle.float32.specs.Key.{value_of}
use Rattle.configuration.specs.declared.BlockingStrategy.{BlockingStrategy}
use Rattle.configuration.specs.declared.SummarizationStrategy.{SummarizationStrategy}
use Rattle.documents.specs.Documents.{documents}
use Rattle.build_meaning.specs.Built.{input}
use Rattle.build_meaning.specs.Building.{InNumbers, numbers, in_numbers}
use Rattle.build_small.specs.Short.{Made, made_short}
use Rattle.c_build.specs.Chosen.{blocking_of, summarization_of}
use Rattle.replay_words.specs.Words.{long, slice_at}
use Rattle.replay_expected.specs.Held.{held}
use Rattle.replay.specs.Case.{blocking_in, summarization_in, input_in, longs, floats, odd_key, used, sizes_held, numbers_held, entries_held, agreed, agrees}

-- ---- settings
pub blocking-by : (w : List ℕ) {r : BlockingStrategy} {a b : ℕ} {f : Float} {m c : ℕ} → a ≡ long w 2 → b ≡ long w 4 → f ≡ value_of (get_or w 6 0) → m ≡ long w 7 → c ≡ long w 9 → r ≡ blocking_of a b f m c → r ≡ blocking_in w
unfolding blocking_in
blocking-by w p q s t u e = e ∙ rw (p, q, s, t, u)

pub summarization-by : (w : List ℕ) {r : SummarizationStrategy} {a b : ℕ} {f : Float} → a ≡ long w 11 → b ≡ long w 13 → f ≡ value_of (get_or w 15 0) → r ≡ summarization_of a b f → r ≡ summarization_in w
unfolding summarization_in
summarization-by w p q s e = e ∙ rw (p, q, s)

-- ---- buffers
pub four : {a b c d x y z t : Bool} → a ≡ x → b ≡ y → c ≡ z → d ≡ t → a && b && c && d ≡ x && y && z && t
four p q r s = rw (p, q, r, s)

pub held_by : (xs : List ℕ) {es fs : List ℕ} (rest : ℕ) {b : Bool} → es ≡ fs → b ≡ held xs es rest → b ≡ held xs fs rest
held_by xs rest p e = e ∙ ap (λ l. held xs l rest) p

-- numbers that stand for themselves
pub held-as : (xs : List ℕ) {es fs : List ℕ} (rest : ℕ) {b : Bool} → es ≡ fs → b ≡ held (map (λ n. n) xs) es rest → b ≡ held xs fs rest
held-as xs {fs = fs} rest p e = held_by (map (λ n. n) xs) rest p e ∙ ap (λ l. held l fs rest) (map-id xs)

pub sizes-by : (w : List ℕ) (z : InNumbers) {n p o c e s : ℕ} {us vs xs ys zs : List ℕ}
    → numbers n p o c e s ≡ z → us ≡ slice_at w 21 w → vs ≡ slice_at w 22 w → xs ≡ slice_at w 23 w → ys ≡ slice_at w 25 w → zs ≡ slice_at w 27 w
    → eqb n 0 && eqb p (length us) && eqb o (length vs) && eqb c (length xs) && eqb e (length ys) && eqb s (length zs) ≡ sizes_held w z
sizes-by w z x p1 p2 p3 p4 p5 = rw (p1, p2, p3, p4, p5) (ap (sizes_held w) x)

-- ---- the whole
pub agreed-by : (w : List ℕ) (m : Made) {a b c : Bool} → a ≡ sizes_held w (in_numbers m.answer) → b ≡ numbers_held w m.output.postings m.output.block_offsets m.output.summary_components m.output.component_offsets
    → c ≡ entries_held w m.output.summary_ids m.output.codes m.output.minimums m.output.steps → a && b && c ≡ agreed w m
unfolding agreed
agreed-by w m p q r = rw (p, q, r)

pub agreed-of : (w : List ℕ) (m n : Made) {r : Bool} → r ≡ agreed w m → m ≡ n → r ≡ agreed w n
agreed-of w m n p e = p ∙ ap (agreed w) e

pub from-words : (w ls : List ℕ) (fs : List Float) {r : Bool} {d : ℕ} {b : BlockingStrategy} {k : SummarizationStrategy} {odd : Float} {os cs is ts : List ℕ} {vs : List Float}
    → d ≡ get_or w 1 0 → b ≡ blocking_in w → k ≡ summarization_in w → odd ≡ value_of odd_key → os ≡ slice_at w 16 ls → cs ≡ slice_at w 17 w → vs ≡ slice_at w 18 fs → is ≡ slice_at w 19 ls → ts ≡ slice_at w 20 ls
    → r ≡ agreed w (made_short (input d b k (documents os cs vs) is ts) (used odd))
    → r ≡ agreed w (made_short (input (get_or w 1 0) (blocking_in w) (summarization_in w) (documents (slice_at w 16 ls) (slice_at w 17 w) (slice_at w 18 fs)) (slice_at w 19 ls) (slice_at w 20 ls)) (used (value_of odd_key)))
from-words w ls fs p1 p2 p3 p4 p5 p6 p7 p8 p9 e = e ∙ rw (p1, p2, p3, p4, p5, p6, p7, p8, p9)

pub agrees-by : (w ls : List ℕ) (fs : List Float) {r : Bool} → ls ≡ longs w → fs ≡ floats w
    → r ≡ agreed w (made_short (input (get_or w 1 0) (blocking_in w) (summarization_in w) (documents (slice_at w 16 ls) (slice_at w 17 w) (slice_at w 18 fs)) (slice_at w 19 ls) (slice_at w 20 ls)) (used (value_of odd_key)))
    → r ≡ agrees w
unfolding agrees input_in
agrees-by w ls fs p q e = e ∙ rw (p, q)
