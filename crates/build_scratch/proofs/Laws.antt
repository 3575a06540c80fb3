-- Lengths that a u64 can hold, and the terms of listed documents counted one document after another.
use Prim.Native.Nat.{ℕ, suc, ◌+◌, ◌-◌, ◌≤◌, ◌<◌, min, max}
use native.Mathlib.Omega.{arith}
use native.Mathlib.Numerals.{add-one}
use mathlib.Core.Path.{◌≡◌, sym, ap, ◌∙◌, subst}
use mathlib.Core.List.{List, map}
use lib.ListN.{length, get_or, take, drop, length-append, drop_of_length-le}
use lib.Seq.{drop-cons}
use Rattle.configuration.specs.declared.BlockingStrategy.{BlockingStrategy}
use Rattle.configuration.specs.declared.BlockingStrategy.TheVariants.{FixedSize, RandomKmeans}
use Rattle.sequences.specs.Lists.{joined, part}
use Rattle.sequences.specs.Laws.Lists.{part_length}
use Rattle.documents.specs.declared.TermPlaces.{TermPlaces}
use Rattle.documents.specs.Documents.{Documents, terms}
use Rattle.documents.specs.Answers.{places_of}
use Rattle.documents.specs.Laws.Places.{paired-count, terms-at, places-order, places-within}
use Rattle.build_admission.specs.Admission.{centroids_used}
use Rattle.build_admission.specs.Answers.{taken_of}
use Rattle.build_admission.specs.Laws.Used.{used-are}
use Rattle.build_meaning.specs.Needs.{sizes, sizes_for, scratch_needs}
use Rattle.scratch.specs.declared.ScratchLengths.{ScratchLengths}
use Rattle.build_scratch.specs.Lengths.{capped, shown}

-- ---- the formula
abbrev lengths : ℕ → ℕ → ℕ → ℕ → ℕ → ℕ → ℕ → ScratchLengths
lengths n b c m s t d = record { order = n; blocks = b; sorted = n; known = c; taken = n; counts = m; starts = s; slots = t; weights = t; sums = m; keys = d }

whole : (n : ℕ) → n < 18446744073709551616 → n ≡ capped n
whole n h = omega arith

most-whole : (c d m : ℕ) → c < 18446744073709551616 → d < 18446744073709551616 → m ≡ max c d → m ≡ capped (max c d)
most-whole c d m h k e = omega arith

pub formula : (n c t d b m s : ℕ) → n < 18446744073709551616 → c < 18446744073709551616 → t < 18446744073709551616 → d < 18446744073709551616 → m ≡ max c d → b ≡ capped (n + 1) → s ≡ capped (d + 1)
    → lengths n b c m s t d ≡ shown (scratch_needs (sizes n c t d))
unfolding shown
formula n c t d b m s hn hc ht hd em eb es =
    λ j. record { order = whole n hn j; blocks = eb j; sorted = whole n hn j; known = whole c hc j; taken = whole n hn j; counts = most-whole c d m hc hd em j; starts = es j; slots = whole t ht j; weights = whole t ht j; sums = most-whole c d m hc hd em j; keys = whole d hd j }

-- a count of terms may be shown as the greatest u64 already
pub capped-terms : (n c t d : ℕ) → shown (scratch_needs (sizes n c (capped t) d)) ≡ shown (scratch_needs (sizes n c t d))
unfolding shown
capped-terms n c t d =
    λ j. record { order = capped n; blocks = capped (n + 1); sorted = capped n; known = capped c; taken = capped n; counts = capped (max c d); starts = capped (d + 1); slots = again t j; weights = again t j; sums = capped (max c d); keys = capped d }
  where
    again : (t : ℕ) → capped (capped t) ≡ capped t
    again t = omega arith

-- ---- the terms of the listed documents
abbrev total : Documents → List ℕ → ℕ
total d is = length (joined (map (terms d) is))

module _ (d : Documents) (n : ℕ) (e : n ≡ min (length d.components) (length d.values)) where
  count_at : (i : ℕ) → length (terms d i) ≡ (places_of d.offsets n i).to - (places_of d.offsets n i).from
  count_at i =
      let p = places_of d.offsets n i in
      ap length (terms-at d i n e) ∙ paired-count (part p.from (p.to - p.from) d.components) (part p.from (p.to - p.from) d.values)
      ∙ shorter p.from p.to (places-order d.offsets n i) (places-within d.offsets n i)
    where
      shorter : (a b : ℕ) → a ≤ b → b ≤ n → min (length (part a (b - a) d.components)) (length (part a (b - a) d.values)) ≡ b - a
      shorter a b h k =
          let x = part_length a (b - a) d.components (omega arith) in
          let y = part_length a (b - a) d.values (omega arith) in
          omega arith

  -- one document more
  pub total-step : (is : List ℕ) (i sum more : ℕ) (p : TermPlaces) → i < length is → p ≡ places_of d.offsets n (get_or is i 0) → more ≡ capped (sum + (p.to - p.from))
      → capped (sum + total d (drop i is)) ≡ capped (total d is) → capped (more + total d (drop (i + 1) is)) ≡ capped (total d is)
  total-step is i sum more p h q m inv = rw (add-one i) (go (total d (drop (suc i) is)) (total d (drop i is)) split ∙ inv)
    where
      split : total d (drop i is) ≡ (p.to - p.from) + total d (drop (suc i) is)
      split =
          ap (total d) (drop-cons is i 0 h) ∙ length-append (terms d (get_or is i 0)) (joined (map (terms d) (drop (suc i) is)))
          ∙ ap (λ k. k + total d (drop (suc i) is)) (count_at (get_or is i 0) ∙ ap (λ p. p.to - p.from) (sym q))

      go : (a b : ℕ) → b ≡ (p.to - p.from) + a → capped (more + a) ≡ capped (sum + b)
      go a b z = at (p.to - p.from) a b z m
        where
          at : (s a b : ℕ) → b ≡ s + a → more ≡ capped (sum + s) → capped (more + a) ≡ capped (sum + b)
          at s a b z m = omega arith

pub total-start : (d : Documents) (is : List ℕ) → capped (0 + total d (drop 0 is)) ≡ capped (total d is)
total-start d is = ap capped (at (total d is))
  where
    at : (a : ℕ) → 0 + a ≡ a
    at a = omega arith

pub capped_fits : (a b : ℕ) → a ≡ capped b → a < 18446744073709551616
capped_fits a b e = omega arith

pub in_order : (os : List ℕ) (n i : ℕ) (p : TermPlaces) → p ≡ places_of os n i → p.from ≤ p.to
in_order os n i p e = subst (λ p. p.from ≤ p.to) (sym e) (places-order os n i)

pub total-end : (d : Documents) (is : List ℕ) (i sum : ℕ) → length is ≤ i → sum < 18446744073709551616 → capped (sum + total d (drop i is)) ≡ capped (total d is) → sum ≡ capped (total d is)
total-end d is i sum h f inv = at sum (total d (drop i is)) f (ap (total d) (drop_of_length-le is h)) ∙ inv
  where
    at : (s a : ℕ) → s < 18446744073709551616 → a ≡ 0 → s ≡ capped (s + a)
    at s a f z = omega arith

-- ---- the centroids that are used
used-count : (k : BlockingStrategy) (cs : List ℕ) (n : ℕ) → n ≡ taken_of k (length cs) → n ≡ length (centroids_used k cs)
used-count (FixedSize size) cs n e = e
used-count (RandomKmeans fraction minimum algorithm) cs n e = e

pub needs-are : (dimension : ℕ) (k : BlockingStrategy) (d : Documents) (is cs : List ℕ) (n t : ℕ) (r : ScratchLengths) → n ≡ taken_of k (length cs) → t ≡ capped (total d (take n cs))
    → r ≡ shown (scratch_needs (sizes (length is) n t dimension)) → r ≡ shown (scratch_needs (sizes_for dimension k d is cs))
needs-are dimension k d is cs n t r e f g =
    g ∙ ap (λ t. shown (scratch_needs (sizes (length is) n t dimension))) (f ∙ ap (λ l. capped (total d l)) (used-are k cs n e))
    ∙ ap (λ n. shown (scratch_needs (sizes (length is) n (capped (total d (centroids_used k cs))) dimension))) (used-count k cs n e)
    ∙ capped-terms (length is) (length (centroids_used k cs)) (total d (centroids_used k cs)) dimension
