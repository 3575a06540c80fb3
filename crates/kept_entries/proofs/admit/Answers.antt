-- `kept_entries::admit` meets its contract, by the cases of `Verdicts`.
use Rattle.kept_entries.proofs.Verdicts.{keeps-nothing, wrong-list, too_short, admitted}
use Rattle.kept_entries.proofs.admit.Goals as goal

pub returns-then-k-eq0 : goal.returns-then-k-eq0
returns-then-k-eq0 c =
    let a = c.args in
    keeps-nothing a.k a.length a.room a.sound a.e c.if-k-eq0.true

pub returns-then-not-sound-x : goal.returns-then-not-sound-x
returns-then-not-sound-x c =
    let a = c.args in
    wrong-list a.k a.length a.room a.sound a.e c.if-k-eq0.false c.if-not-sound-x.true

pub returns-then-room-need : goal.returns-then-room-need
returns-then-room-need c =
    let a = c.args in
    too_short a.k a.length a.room a.sound a.e c.if-k-eq0.false c.if-not-sound-x.false _ c.after_push-need.ensures c.if-room-need.true

pub returns : goal.returns
returns c =
    let a = c.args in
    admitted a.k a.length a.room a.sound a.e c.if-k-eq0.false c.if-not-sound-x.false _ c.after_push-need.ensures c.if-room-need.false
