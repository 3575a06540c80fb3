-- `kept_entries::is_well_kept` meets its contract, by the cases of `Checks`.
use mathlib.Core.Path.{refl, ap}
use mathlib.Core.Bool.{not, ◌&&◌}
use borrow.Author.Rules.{rules}
use Rattle.kept_entries.proofs.Checks.{not-held, checked-first, checked-next, checked-end}
use Rattle.kept_entries.proofs.is_well_kept.Goals as goal

pub returns-then-not-length-k : goal.returns-then-not-length-k
returns-then-not-length-k c = let a = c.args in not-held a.k a.length a.entries.now c.if-not-length-k.true

pub loop-i-init : goal.loop-i-init
loop-i-init c =
    let a = c.args in
    checked-first a.k a.length a.entries.now c.if-not-length-k.false c.entry-above.result c.entry-above.ensures _ refl

pub returns : goal.returns
returns c =
    let a = c.args in
    let l = c.loop-i in
    -- a score that was read is one that an f32 holds
    checked-end a.k a.length a.entries.now c.if-not-length-k.false (rw (← c.entry-above.ensures) (search rules)) l.ok l.above l.i l.invariant c.loop-i-test.false

pub loop-i-preserved : goal.loop-i-preserved
loop-i-preserved c =
    let a = c.args in
    let l = c.loop-i in
    checked-next a.k a.length a.entries.now c.if-not-length-k.false l.ok l.above l.i l.invariant c.loop-i-test.true c.entry-e.result c.entry-e.ensures _ (ap (λ b. l.ok && not b) c.better.ensures)
