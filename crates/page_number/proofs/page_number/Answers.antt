-- Each way out by what the search found there.
use Prim.Native.Nat.{ℕ, ◌-◌}
use mathlib.Core.Path.{◌≡◌, sym, ◌∙◌}
use mathlib.Core.Bool.{Bool, true}
use mathlib.Core.List.{List}
use lib.ListN.{length, take}
use native.Mathlib.Omega.{arith}
use Rattle.sort.specs.Ranked.{rank_in}
use Rattle.documents.specs.Checks.{offsets_hold_free}
use Rattle.documents.specs.Laws.Documents.{free-some, free-never-falls, never-falls-at}
use Rattle.page_number.specs.Answers.{Found}
use Rattle.page_number.proofs.Loops.{found}
use Rattle.page_number.specs.Laws.Pages.{page-refused, page-found, page-none, found_first, found_none, other}
use Rattle.page_number.proofs.page_number.Goals as goal

pub returns-then-not-offsets_hold_free : goal.returns-then-not-offsets_hold_free
returns-then-not-offsets_hold_free c = let a = c.args in page-refused a.offsets.now a.start.0 (sym c.offsets_hold_free.ensures ∙ c.if-not-offsets_hold_free.true)

pub overflow_sub-count : goal.overflow_sub-count
overflow_sub-count c = omega (arith, free-some c.args.offsets.now (sym c.offsets_hold_free.ensures ∙ c.if-not-offsets_hold_free.false))

-- what the search found, where the offsets hold
found_at : (os : List ℕ) (s r : ℕ) (b : Bool) → b ≡ offsets_hold_free os → b ≡ true → r ≡ rank_in (take (length os - 1) os) s → Found os s (length os - 1) r
found_at os s r b e h f = found os s (length os - 1) r (free-never-falls os (sym e ∙ h)) (omega arith) f

pub returns-then-offsets-at : goal.returns-then-offsets-at
returns-then-offsets-at c =
    let a = c.args in
    let f = c.first_not_below-at in
    let g = found_at a.offsets.now a.start.0 f.result _ c.offsets_hold_free.ensures c.if-not-offsets_hold_free.false f.ensures in
    page-found a.offsets.now a.start.0 f.result (sym c.offsets_hold_free.ensures ∙ c.if-not-offsets_hold_free.false) c.if-at-count.true c.if-offsets-at.true (found_first a.offsets.now a.start.0 _ _ g)

pub returns-else-offsets-at : goal.returns-else-offsets-at
returns-else-offsets-at c =
    let a = c.args in
    let f = c.first_not_below-at in
    let g = found_at a.offsets.now a.start.0 f.result _ c.offsets_hold_free.ensures c.if-not-offsets_hold_free.false f.ensures in
    let h = sym c.offsets_hold_free.ensures ∙ c.if-not-offsets_hold_free.false in
    page-none a.offsets.now a.start.0 h (found_none a.offsets.now a.start.0 _ _ g (λ l. other _ _ (g.above f.result (omega arith) l) c.if-offsets-at.false) (λ j k p q. never-falls-at a.offsets.now (free-never-falls a.offsets.now h) j k p (omega arith)))

pub returns-else-at-count : goal.returns-else-at-count
returns-else-at-count c =
    let a = c.args in
    let f = c.first_not_below-at in
    let g = found_at a.offsets.now a.start.0 f.result _ c.offsets_hold_free.ensures c.if-not-offsets_hold_free.false f.ensures in
    let h = sym c.offsets_hold_free.ensures ∙ c.if-not-offsets_hold_free.false in
    page-none a.offsets.now a.start.0 h (found_none a.offsets.now a.start.0 _ _ g (λ l. let z : ⊥ = omega arith in absurd z)
    (λ j k p q. never-falls-at a.offsets.now (free-never-falls a.offsets.now h) j k p (omega arith)))
