-- `kept_push::is_well_kept` meets its contract, by the cases of `Verdicts`.
use native.Mathlib.Omega.{arith}
use Rattle.kept_push.proofs.Verdicts.{ill-held, well-held, well-kept-is, none_kept}
use Rattle.kept_push.proofs.is_well_kept.Goals as goal

pub returns-then-not-length-k : goal.returns-then-not-length-k
returns-then-not-length-k c =
    let a = c.args in
    ill-held a.k a.length a.packed.now a.scores.now c.if-not-length-k.true

pub returns-then-n-eq0 : goal.returns-then-n-eq0
returns-then-n-eq0 c =
    let a = c.args in
    none_kept a.k a.length a.packed.now a.scores.now c.if-not-length-k.false c.if-n-eq0.true

pub is_sound-requires : goal.is_sound-requires
is_sound-requires c =
    let a = c.args in
    let h = well-held a.k a.length a.packed.now a.scores.now c.if-not-length-k.false in
    record {
      length_nonzero = (omega arith, h.0);
      length_len_bound = h.1;
    }

pub returns : goal.returns
returns c =
    let a = c.args in
    well-kept-is a.k a.length a.packed.now a.scores.now c.if-not-length-k.false _ c.is_sound.ensures
