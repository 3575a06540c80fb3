-- Two results that a contract of this crate allows are equal.
use Rattle.std.specs.Prelude.{ℕ, ◌≡◌, refl, Result, Ok, Err}
use Rattle.std.proofs.Common.{sym, ap, true≢false}
use mathlib.Core.List.{List, [], ◌∷◌, map, cons-ne-nil, head-eq_of_cons-eq, tail-eq_of_cons-eq}
use Rattle.refusal.specs.declared.Refusal.{Refusal}
use Rattle.refusal.specs.declared.Refusal.TheVariants.{NothingToKeep}
use Rattle.kept_list.specs.declared.Scored.{Scored}
use Rattle.kept_list.specs.Entry.{scored}
use Rattle.kept_list.specs.Lent.{packed_of, score_of}
use Rattle.kept_list.specs.Push.{left}
use Rattle.kept_entries.specs.Entries.{as_lent}
use Rattle.kept_entries.specs.Answers.{is_refused, verdict_in, length_in}

-- entries are told by their two columns
columns-same : (es fs : List Scored) → map packed_of es ≡ map packed_of fs → map score_of es ≡ map score_of fs → es ≡ fs
columns-same [] [] p q = refl
columns-same [] (f ∷ fs) p q = absurd (cons-ne-nil _ _ (sym p))
columns-same (e ∷ es) [] p q = absurd (cons-ne-nil _ _ p)
columns-same (e ∷ es) (f ∷ fs) p q =
    let r = columns-same es fs (tail-eq_of_cons-eq p) (tail-eq_of_cons-eq q) in
    λ i. scored (head-eq_of_cons-eq p i) (head-eq_of_cons-eq q i) ∷ r i

-- what `settle` leaves
pub settled_same : (m n : ℕ) (es fs : List Scored) → as_lent m es ≡ as_lent n fs → (m ≡ n) × (es ≡ fs)
settled_same m n es fs h = (ap (λ l. l.size) h, columns-same es fs (ap (λ l. l.packed) h) (ap (λ l. l.scores) h))

-- an answer is told by its verdict and the length after it
abbrev reason : Result (Unit {0}) Refusal → Refusal
reason (Ok _) = NothingToKeep
reason (Err r) = r

answer-same : (n : ℕ) (r s : Result ℕ Refusal) → verdict_in r ≡ verdict_in s → length_in n r ≡ length_in n s → r ≡ s
answer-same n (Ok a) (Ok b) p q = ap Ok q
answer-same n (Ok a) (Err s) p q = absurd (true≢false (sym (ap is_refused p)))
answer-same n (Err r) (Ok b) p q = absurd (true≢false (ap is_refused p))
answer-same n (Err r) (Err s) p q = ap Err (ap reason p)

-- what `push` and `push_few` answer and leave
pub pushed-same : (n : ℕ) (r s : Result ℕ Refusal) (es fs : List Scored) → left (verdict_in r) (as_lent (length_in n r) es) ≡ left (verdict_in s) (as_lent (length_in n s) fs) → (r ≡ s) × (es ≡ fs)
pushed-same n r s es fs h =
    let l = settled_same (length_in n r) (length_in n s) es fs (ap (λ x. x.list) h) in
    (answer-same n r s (ap (λ x. x.verdict) h) l.0, l.1)
