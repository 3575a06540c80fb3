-- `quantizing::quantize` meets its contract: a case for each of its four returns.
use mathlib.Core.Path.{◌∙◌}
use Rattle.quantizing.proofs.Outcomes.{no-values, flag, beyond, too_short, answers}
use Rattle.quantizing.proofs.quantize.Goals as goal

pub returns-then-values-eq0 : goal.returns-then-values-eq0
returns-then-values-eq0 c = no-values c.args.values.now c.args.codes.now c.if-values-eq0.true

pub returns-then-codes-values : goal.returns-then-codes-values
returns-then-codes-values c =
    let values = c.args.values.now in
    let codes = c.args.codes.now in
    let f = flag values c.extent_of-e.result c.in_bound.result c.in_bound-2.result c.extent_of-e.ensures c.in_bound.ensures c.in_bound-2.ensures in
    too_short values codes c.shared_slice_known-1.given c.if-values-eq0.false (f ∙ c.if-ok.true) c.if-codes-values.true

pub returns-then-ok : goal.returns-then-ok
returns-then-ok c =
    let values = c.args.values.now in
    let codes = c.args.codes.now in
    let e = c.extent_of-e.result in
    let f = flag values e c.in_bound.result c.in_bound-2.result c.extent_of-e.ensures c.in_bound.ensures c.in_bound-2.ensures in
    answers values codes c.shared_slice_known-1.given c.if-values-eq0.false (f ∙ c.if-ok.true) e c.step_of-step.result c.encode.new.codes
    c.extent_of-e.ensures c.step_of-step.ensures c.encode.ensures c.if-codes-values.false

pub returns : goal.returns
returns c =
    let values = c.args.values.now in
    let codes = c.args.codes.now in
    let f = flag values c.extent_of-e.result c.in_bound.result c.in_bound-2.result c.extent_of-e.ensures c.in_bound.ensures c.in_bound-2.ensures in
    beyond values codes c.shared_slice_known-1.given c.if-values-eq0.false (f ∙ c.if-ok.false)
