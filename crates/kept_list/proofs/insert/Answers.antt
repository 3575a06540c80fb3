-- `kept_list::insert` meets its contract: the entry is laid down above all that went down.
use Rattle.kept_list.proofs.Placing.{go-twice, go-end}
use Rattle.kept_list.proofs.insert.Goals as goal

pub shape_of-packed : goal.shape_of-packed
shape_of-packed c =
    let s = c.args in
    let f = c.pass-far.ensures in
    let n = c.pass-i.ensures in
    let w = c.pass_worse-place.ensures in
    let g = go-twice s.at s.packed.now s.scores.now s.e c.requires.0 c.requires.1 _ _ _ _ _ _ f.packed f.scores f.passed n.packed n.scores n.passed in
    (go-end s.at s.packed.now s.scores.now s.e c.requires.0 c.requires.1 _ _ _ _ _ _ g.packed g.scores g.passed w.packed w.scores w.place).as_many

pub shape_of-scores : goal.shape_of-scores
shape_of-scores c =
    let s = c.args in
    let f = c.pass-far.ensures in
    let n = c.pass-i.ensures in
    let w = c.pass_worse-place.ensures in
    let g = go-twice s.at s.packed.now s.scores.now s.e c.requires.0 c.requires.1 _ _ _ _ _ _ f.packed f.scores f.passed n.packed n.scores n.passed in
    (go-end s.at s.packed.now s.scores.now s.e c.requires.0 c.requires.1 _ _ _ _ _ _ g.packed g.scores g.passed w.packed w.scores w.place).as_many_scores

pub returns : goal.returns
returns c =
    let s = c.args in
    let f = c.pass-far.ensures in
    let n = c.pass-i.ensures in
    let w = c.pass_worse-place.ensures in
    let g = go-twice s.at s.packed.now s.scores.now s.e c.requires.0 c.requires.1 _ _ _ _ _ _ f.packed f.scores f.passed n.packed n.scores n.passed in
    (go-end s.at s.packed.now s.scores.now s.e c.requires.0 c.requires.1 _ _ _ _ _ _ g.packed g.scores g.passed w.packed w.scores w.place).gives
