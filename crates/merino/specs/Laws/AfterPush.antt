-- Laws of AfterPush: from the contract of `merino_push` and its number alone to what it kept, or to NotKept.
use Rattle.refusal.specs.declared.Refusal.{Refusal}
use Prim.Native.Nat.{ℕ, suc}
use Rattle.std.proofs.Common.{arith, sym, ◌∙◌, subst}
use Rattle.std.specs.Prelude.{◌≡◌, Result, Ok, Err}
use Rattle.std.proofs.Math.Path.{refl, ap}
use Rattle.refusal.specs.Refusals.{verdict_number}
use Rattle.refusal.specs.Laws.First.{first-fault}
use Rattle.kept_list.specs.declared.Scored.{Scored}
use Rattle.kept_list.specs.Lent.{Lent}
use Rattle.kept_list.specs.Push.{tests, verdict_of, pushed}
use Rattle.kept_list.specs.Promises.{Kept, accepted-push, refused-push}
use Rattle.merino.specs.Pushed.{Crossed, crossed, seen}
use Rattle.merino.specs.AfterPush.{NotKept}

-- `crossed n m ≡ seen (pushed k e l)` is the contract of `merino_push`: it returned n, and left m where l was
module _ (k : ℕ) (e : Scored) (l m : Lent) where
  pub push_kept : crossed 0 m ≡ seen (pushed k e l) → Kept k e l m
  push_kept h = subst (Kept k e l) (sym (ap (λ (x : Crossed). x.kept) h)) (accepted-push k e l (sym (ap (λ (x : Crossed). x.number) h)))

  pub push-refused : (n : ℕ) → crossed (suc n) m ≡ seen (pushed k e l) → NotKept k e l m (suc n)
  unfolding pushed verdict_of
  push-refused n h = go (pushed k e l).verdict refl
    where
      answers : suc n ≡ verdict_number (pushed k e l).verdict
      answers = ap (λ (x : Crossed). x.number) h

      go : (v : Result (Unit {0}) Refusal) → (pushed k e l).verdict ≡ v → NotKept k e l m (suc n)
      go (Ok _) a = let z : suc n ≡ 0 = answers ∙ ap verdict_number a in absurd (omega arith)
      go (Err r) a = record {
        reason = r;
        number = answers ∙ ap verdict_number a;
        first = first-fault (tests k e l) r a;
        unchanged = ap (λ (x : Crossed). x.kept) h ∙ refused-push k e l (suc n) (sym answers) (omega arith);
      }
