-- `search_checks::count_falls` meets its contract. What is counted in the parts so far and what is left to count make the whole.
use Rattle.search_checks.proofs.Loops.{part-few, falls-part, falls-rest}
use Prim.Native.Nat.{◌+◌, ◌-◌}
use native.Mathlib.Omega.{arith}
use mathlib.Core.Path.{refl}
use lib.ListN.{length}
use Rattle.sequences.specs.Laws.Lists.{part_length}
use Rattle.search_checks.proofs.count_falls.Goals as goal

pub loop-i-init : goal.loop-i-init
loop-i-init c = (refl, omega arith, omega arith, omega arith)

pub count_few_falls-requires : goal.count_few_falls-requires
count_few_falls-requires c =
    let ids = c.args.summary_ids.now in
    let l = c.loop-i in
    omega (arith, part_length l.i (l.i + 65536 - l.i) ids (omega arith))

pub overflow_cast-count : goal.overflow_cast-count
overflow_cast-count c =
    let ids = c.args.summary_ids.now in
    let l = c.loop-i in
    let few = part-few ids l.i (l.i + 65536) _ (omega arith) (omega arith) c.count_few_falls.ensures in
    omega arith

pub overflow_add-count : goal.overflow_add-count
overflow_add-count c =
    let ids = c.args.summary_ids.now in
    let l = c.loop-i in
    let few = part-few ids l.i (l.i + 65536) _ (omega arith) (omega arith) c.count_few_falls.ensures in
    omega arith

pub loop-i-preserved : goal.loop-i-preserved
loop-i-preserved c =
    let ids = c.args.summary_ids.now in
    let l = c.loop-i in
    let few = part-few ids l.i (l.i + 65536) _ (omega arith) (omega arith) c.count_few_falls.ensures in
    (l.invariant.0, omega arith, omega arith, falls-part ids l.i (l.i + 65536) _ (omega arith) (omega arith) c.count_few_falls.ensures l.count (omega arith) l.invariant.3)

pub count_few_falls-requires-2 : goal.count_few_falls-requires-2
count_few_falls-requires-2 c =
    let ids = c.args.summary_ids.now in
    let l = c.loop-i in
    omega (arith, part_length l.i (length ids - l.i) ids (omega arith))

pub overflow_cast-result : goal.overflow_cast-result
overflow_cast-result c =
    let ids = c.args.summary_ids.now in
    let l = c.loop-i in
    let few = part-few ids l.i (length ids) _ (omega arith) (omega arith) c.count_few_falls-2.ensures in
    omega arith

pub overflow_add-result : goal.overflow_add-result
overflow_add-result c =
    let ids = c.args.summary_ids.now in
    let l = c.loop-i in
    let few = part-few ids l.i (length ids) _ (omega arith) (omega arith) c.count_few_falls-2.ensures in
    omega arith

pub returns : goal.returns
returns c =
    let ids = c.args.summary_ids.now in
    let l = c.loop-i in
    falls-rest ids l.i (length ids) _ (omega arith) (omega arith) c.count_few_falls-2.ensures l.count refl l.invariant.3
