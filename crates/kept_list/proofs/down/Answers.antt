-- `kept_list::down`: each write is one more that goes down.
use Rattle.std.proofs.Common.{◌≡◌, ◌+◌, ◌-◌, ◌<◌, ap, ◌∙◌, arith, get_or}
use Rattle.kept_list.specs.Inserting.{moved_down}
use Rattle.kept_list.proofs.Laying.{moved_none, moved-above, moved-one}
use Rattle.kept_list.proofs.down.Goals as goal

pub loop-n-init : goal.loop-n-init
loop-n-init g c =
    let i = c.args.i in
    let z : i ≡ i - 0 = omega arith in
    moved_none i c.args.values.now ∙ ap (λ r. moved_down r i c.args.values.now) z

pub loop-n-preserved : goal.loop-n-preserved
loop-n-preserved g c =
    let l = c.loop-n in
    let i = c.args.i in
    let v = c.index-values-i.result in
    let n : l.n < i = omega (arith, c.loop-n-test.true, c.requires.0) in
    let z : i - l.n - 1 ≡ i - (l.n + 1) = omega arith in
    moved-one v i c.args.values.now c.requires.1 l.values (i - l.n) (i - l.n - 1) v (omega (arith, n)) (omega arith) l.invariant
    (c.index-values-i.is ∙ ap (λ s. get_or s (i - l.n - 1) v) l.invariant ∙ moved-above v i c.args.values.now c.requires.1 (i - l.n) (i - l.n - 1) (omega arith) (omega arith))
    ∙ ap (λ r. moved_down r i c.args.values.now) z
