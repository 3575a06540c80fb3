-- `quantizing::extent_of` meets its contract. The invariant: what is left of the pass gives the lowest and the highest key of all.
use mathlib.Core.Path.{◌≡◌, sym, ap, ◌∙◌}
use Prim.Native.Nat.{◌+◌, min, max}
use lib.ListN.{get_or, drop}
use lib.Ieee.{nan}
use Rattle.float32.specs.Key.{key_of, value_of}
use Rattle.quantizing.specs.Laws.Extremes.{lowest, highest, least-is, greatest-is, each-f32}
use Rattle.quantizing.specs.Quantizing.{extent, least, greatest}
use Rattle.quantizing.proofs.Laws.{lowest-more, highest-more, lowest-done, highest-done}
use Rattle.quantizing.proofs.extent_of.Goals as goal

pub loop-value-preserved : goal.loop-value-preserved
loop-value-preserved c =
    let values = c.args.values.now in
    let i = c.loop-value.value-index in
    let inv = c.loop-value.invariant in
    let low : c.min-low.result ≡ min c.loop-value.low (key_of (get_or values i nan)) = c.min-low.ensures ∙ ap (min c.loop-value.low) c.key-k.ensures in
    let high : c.max-high.result ≡ max c.loop-value.high (key_of (get_or values i nan)) = c.max-high.ensures ∙ ap (max c.loop-value.high) c.key-k.ensures in (
      ap (λ k. lowest k (drop (i + 1) values)) low ∙ sym (lowest-more c.loop-value.low values i c.loop-value-test.true) ∙ inv.0,
      ap (λ k. highest k (drop (i + 1) values)) high ∙ sym (highest-more c.loop-value.high values i c.loop-value-test.true) ∙ inv.1,
    )

pub returns : goal.returns
returns c =
    let values = c.args.values.now in
    let inv = c.loop-value.invariant in
    let fs = each-f32 values c.type_inv.values in
    let low : c.loop-value.low ≡ lowest 4294967295 values = sym (lowest-done c.loop-value.low values c.loop-value.value-index c.loop-value-test.false) ∙ inv.0 in
    let high : c.loop-value.high ≡ highest 0 values = sym (highest-done c.loop-value.high values c.loop-value.value-index c.loop-value-test.false) ∙ inv.1 in
    let l : c.value_of_key.result ≡ least values = c.value_of_key.ensures ∙ ap value_of low ∙ least-is values fs in
    let g : c.value_of_key-2.result ≡ greatest values = c.value_of_key-2.ensures ∙ ap value_of high ∙ greatest-is values fs in
    ap (λ x. extent x c.value_of_key-2.result) l ∙ ap (extent (least values)) g
