-- Each branch by its tests.
use mathlib.Core.Path.{◌≡◌}
use mathlib.Core.Bool.{false, ◌&&◌}
use lib.Dec.{leb}
use Rattle.replay_words.proofs.Laws.{inside, outside, crossed, beyond}
use Rattle.replay_words.proofs.limits.Goals.{else-from-to-via-then-from-to+else-to-length, else-from-to-via-else-from-to}
use Rattle.replay_words.proofs.limits.Goals as goal

pub returns-then-to-length : goal.returns-then-to-length
returns-then-to-length c =
    let all = inside c.word-from.result c.word_after-to.result _ _ c.args.length c.word-from.ensures c.word_after-to.ensures c.if-from-to.true c.if-to-length.true in
    record {
      start = all.0;
      end = all.1.0;
      ordered = all.1.1.0;
      within = all.1.1.1;
    }

pub returns-else-from-to : goal.returns-else-from-to
returns-else-from-to c =
    let no_part : leb c.word-from.result c.word_after-to.result && leb c.word_after-to.result c.args.length ≡ false =
    elim c.else-from-to.branch [
      | else-from-to-via-then-from-to+else-to-length w ↦ beyond _ _ _ w.if-from-to.true w.if-to-length.false
      | else-from-to-via-else-from-to w ↦ crossed _ _ _ w.if-from-to.false
    ] in
    let all = outside c.word-from.result c.word_after-to.result _ _ c.args.length c.word-from.ensures c.word_after-to.ensures no_part in
    record {
      start = all.0;
      end = all.1.0;
      ordered = all.1.1.0;
      within = all.1.1.1;
    }
