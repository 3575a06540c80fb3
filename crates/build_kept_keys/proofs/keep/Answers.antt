-- Where there is no place nothing changes; else the number and the keys are a frame.
use mathlib.Core.Path.{refl, ◌∙◌}
use lib.ListN.{length, length-set}
use native.Mathlib.Omega.{arith}
use Rattle.cells.specs.Laws.Copied.{copied-whole}
use Rattle.build_kept_keys.proofs.Laws.{full-place, full-store, frame-inside, kept-place, kept_store, part-written}
use Rattle.build_kept_keys.proofs.keep.Goals as goal

pub returns-then-saturating_sub-n : goal.returns-then-saturating_sub-n
returns-then-saturating_sub-n c =
    let a = c.args in let p = c.saturating_sub in record {
      place = full-place a.at a.keys.now a.store.now p.result p.ensures c.if-saturating_sub-n.true;
      store = full-store a.at a.keys.now a.store.now p.result p.ensures c.if-saturating_sub-n.true;
    }

pub returns : goal.returns
returns c =
    let a = c.args in let p = c.saturating_sub in
    let inside = frame-inside a.at a.keys.now a.store.now p.result p.ensures c.if-saturating_sub-n.false in
    let same = length-set a.store.now a.at (length a.keys.now) in record {
      place = kept-place a.at a.keys.now a.store.now p.result p.ensures c.if-saturating_sub-n.false;
      store = kept_store a.at a.keys.now a.store.now p.result p.ensures c.if-saturating_sub-n.false _ refl _
          (part-written _ _ _ _ a.keys.now (omega arith) (omega arith) (c.copy.ensures ∙ copied-whole a.keys.now _ (omega arith)));
    }
