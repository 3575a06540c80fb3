-- The front of a buffer, cut to a length and written.
use Rattle.std.specs.Prelude.{ℕ, ◌≤◌, ◌≡◌, refl, Bool, true, false, not, ◌&&◌, cond, List, [], ◌∷◌, ◌++◌, length, take, drop, eqb}
use Rattle.std.proofs.Common.{arith, sym, ap, ◌∙◌, true≢false, length-take-le, take_at}
use Rattle.std.proofs.Math.Seq.{length_front}
use Rattle.documents.specs.Documents.{Term}
use Rattle.summary_terms.specs.Answers.{limit_of}
use Rattle.build_count_pass.specs.Counting.{none_empty, full_first}

-- a front that was written keeps its length
module _ {A : Type 0} (l x : List A) (k : ℕ) (h : k ≤ length l) (e : length x ≡ length (take k l)) where
  pub front_long : k ≤ length (x ++ drop k l)
  front_long = let f = length_front l x k e in omega arith

  pub front-count : k ≡ length (take k (x ++ drop k l))
  front-count = sym (length-take-le k (x ++ drop k l) front_long)

  pub front-is : take k (x ++ drop k l) ≡ x
  front-is = take_at x (drop k l) k (e ∙ length-take-le k l h)

-- where no summary is empty, all come before the first empty one
pub all-full : (tops : List (List Term)) → none_empty tops ≡ true → full_first tops ≡ tops
all-full [] h = refl
all-full (t ∷ tops) h = go (all-full tops) (eqb (length t) 0) h
  where
    go : (none_empty tops ≡ true → full_first tops ≡ tops) → (z : Bool) → (not z && none_empty tops) ≡ true → cond z [] (t ∷ full_first tops) ≡ t ∷ tops
    go i true h = absurd (true≢false (sym h))
    go i false h = ap (λ l. t ∷ l) (i h)

-- where each buffer has a place for each component below the dimension, no more are left out
pub limit-whole : (dimension keys places maxima : ℕ) → dimension ≤ keys → dimension ≤ places → dimension ≤ maxima → limit_of dimension keys places maxima ≡ dimension
limit-whole dimension keys places maxima a b c = omega arith
