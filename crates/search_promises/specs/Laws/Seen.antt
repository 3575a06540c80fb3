-- Laws of Seen: from the contract of the C function, its number and the numbers beside it, to all that is promised.
use Rattle.std.specs.Prelude.{ℕ, ◌≡◌, refl, ◌⊎◌, Bool, true, false, cond, List, [], ◌∷◌, ◌++◌, get_or, eqb, Float}
use Rattle.std.proofs.Common.{arith, sym, ap, ◌∙◌, subst, inl, inr}
use Rattle.sequences.specs.Lists.{EachOf}
use Rattle.refusal.specs.declared.Refusal.{Refusal}
use Rattle.refusal.specs.declared.Refusal.TheVariants.{BufferTooShort, WrongDocuments, MalformedList, WrongQuery, NothingToKeep, WrongKeptList, PastTheTerms, WrongTerms}
use Rattle.refusal.specs.First.{Test, FirstFault, ◌gives◌}
use Rattle.refusal.specs.Refusals.{number_of}
use Rattle.search_probe.specs.declared.Answer.{Answer}
use Rattle.search_probe.specs.declared.Answer.TheVariants as answer
use Rattle.search_probe.specs.Probed.{Lends}
use Rattle.search.specs.Searched.{Question, searched, searched_in_order, tests}
use Rattle.c_search.specs.Found.{Shown, plain, sorted, seen}
use Rattle.search.specs.Dots.{Stop, reaches_past, breaks_rules}
use Rattle.refusal.specs.Laws.Numbered.{number-not-zero, numbers-differ}
use Rattle.search_promises.specs.Ended.{Ended, Halted, Refused}
use Rattle.search_promises.specs.Laws.Ended.{search-follows, sorted-follows}
use Rattle.search_promises.specs.Seen.{turns_by, places_by, Shows, Written, Declined}

pub seen-shows : (by : ℕ) (q : Question) (l : Lends) (xs : List Float) (bs : List ℕ) (z : Shown) → z ≡ seen by q l xs bs → (a : Answer) × Shows by q l xs bs z a
unfolding seen
seen-shows by q l xs bs z h = subst (λ z. (a : Answer) × Shows by q l xs bs z a) (sym h) (go (eqb by 0) refl)
  where
    go : (b : Bool) → eqb by 0 ≡ b → (a : Answer) × Shows by q l xs bs (cond b (plain (searched q l xs) bs) (sorted (searched_in_order q l xs bs))) a
    go true e =
        let s = searched q l xs in
        let f = search-follows q l xs s.found s.block_scores refl in
        (s.found.answer, record { number_is = refl; position_is = refl; evaluated_is = refl; skipped_is = refl; follows = rw e f.0; scores-are = f.1; order_is = rw e })
    go false e =
        let s = searched_in_order q l xs bs in
        let f = sorted-follows q l xs bs s.found s.block_scores s.block_order refl in
        (s.found.answer, record { number_is = refl; position_is = refl; evaluated_is = refl; skipped_is = refl; follows = rw e f.0; scores-are = f.1; order_is = rw e f.2 })

-- ---- a refusal is none of those that stop a search
reason-of : (P : Refusal → Type 0) (ts : List Test) (r : Refusal) → EachOf (λ t. P t.reason) ts → FirstFault ts r → P r
reason-of P ts r h f = go f.before (subst (EachOf (λ t. P t.reason)) f.is h)
  where
    go : (before : List Test) → EachOf (λ t. P t.reason) (before ++ ((true gives r) ∷ f.after)) → P r
    go [] e = e.0
    go (t ∷ before) e = go before e.1

abbrev StopsNone : Refusal → Type 0
StopsNone r = (r ≡ PastTheTerms → ⊥) × (r ≡ WrongTerms → ⊥)

pub refused-before : (q : Question) (l : Lends) (places : Bool) (x : Lends) (r : Refusal) → Refused q l places x r → StopsNone r
refused-before q l places x r R =
    reason-of StopsNone (tests q l places) r (
      other NothingToKeep (λ e. omega arith) (λ e. omega arith),
      (
        other WrongQuery (λ e. omega arith) (λ e. omega arith),
        (
          other WrongDocuments (λ e. omega arith) (λ e. omega arith),
          (
            other MalformedList (λ e. omega arith) (λ e. omega arith),
            (
              other WrongKeptList (λ e. omega arith) (λ e. omega arith),
              (other BufferTooShort (λ e. omega arith) (λ e. omega arith), tt),
            ),
          ),
        ),
      ),
    ) R.fault
  where
    other : (r : Refusal) → (number_of r ≡ 13 → ⊥) → (number_of r ≡ 14 → ⊥) → StopsNone r
    other r a b = (λ e. a (ap number_of e), λ e. b (ap number_of e))

module _ (by : ℕ) (q : Question) (l : Lends) (xs : List Float) (bs : List ℕ) (z : Shown) (h : z ≡ seen by q l xs bs) where
  -- 0: it came to its end
  pub zero_ended : z.number ≡ 0 → Ended q l (turns_by by q) z.lent z.lent.kept.size z.evaluated z.skipped × (z.position ≡ 0) × Written by q xs bs z
  zero_ended k = let w = seen-shows by q l xs bs z h in go w.0 w.1
    where
      go : (a : Answer) → Shows by q l xs bs z a → Ended q l (turns_by by q) z.lent z.lent.kept.size z.evaluated z.skipped × (z.position ≡ 0) × Written by q xs bs z
      go (answer.Refused r) s = absurd (number-not-zero r (sym s.number_is ∙ k))
      go (answer.Stopped r i) s = absurd (number-not-zero r (sym s.number_is ∙ k))
      go (answer.Found n e m) s =
          let c = s.follows.kept_many in
          (subst (λ n. Ended q l (turns_by by q) z.lent n z.evaluated z.skipped) c (rw (s.evaluated_is, s.skipped_is) s.follows), s.position_is, (s.scores-are, s.order_is))

  -- 13 and 14: it was stopped, at the posting whose position is shown
  pub stop-halted : (r : Refusal) → (r ≡ PastTheTerms) ⊎ (r ≡ WrongTerms) → z.number ≡ number_of r → Halted q l (turns_by by q) z.lent r z.position × (z.evaluated ≡ 0) × (z.skipped ≡ 0)
      × Written by q xs bs z
  stop-halted r c k = let w = seen-shows by q l xs bs z h in go w.0 w.1
    where
      go : (a : Answer) → Shows by q l xs bs z a → Halted q l (turns_by by q) z.lent r z.position × (z.evaluated ≡ 0) × (z.skipped ≡ 0) × Written by q xs bs z
      go (answer.Refused t) s =
          let g = refused-before q l (places_by by q xs bs) z.lent t s.follows in
          let u : t ≡ r = numbers-differ t r (sym s.number_is ∙ k) in
          absurd (elim c [ inl d ↦ g.0 (u ∙ d) | inr d ↦ g.1 (u ∙ d) ])
      go (answer.Stopped t i) s = let u : r ≡ t = numbers-differ r t (sym k ∙ s.number_is) in (rw (u, s.position_is) s.follows, s.evaluated_is, s.skipped_is, (s.scores-are, s.order_is))
      go (answer.Found n e m) s = absurd (number-not-zero r (sym k ∙ s.number_is))

  -- any other: it was refused
  pub else-refused : (z.number ≡ 0 → ⊥) → (z.number ≡ 13 → ⊥) → (z.number ≡ 14 → ⊥) → Declined by q l xs bs z
  else-refused a b c = let w = seen-shows by q l xs bs z h in go w.0 w.1
    where
      same : (t : Bool) → cond t bs bs ≡ bs
      same true = refl
      same false = refl

      halts : (p : ℕ) (r : Refusal) → Stop q.terms p r → z.number ≡ number_of r → ⊥
      halts p r (reaches_past d m) n = b (n ∙ ap number_of d)
      halts p r (breaks_rules d m w) n = c (n ∙ ap number_of d)

      go : (a : Answer) → Shows by q l xs bs z a → Declined by q l xs bs z
      go (answer.Refused r) s = record {
        reason = r;
        number_is = s.number_is;
        refused = s.follows;
        scores_stay = s.scores-are;
        order_stays = s.order_is ∙ same (eqb by 0);
        no_position = s.position_is;
        none_evaluated = s.evaluated_is;
        none-skipped = s.skipped_is;
      }
      go (answer.Stopped r i) s = absurd (halts (get_or q.postings i 0) r s.follows.reason s.number_is)
      go (answer.Found n e m) s = absurd (a s.number_is)
