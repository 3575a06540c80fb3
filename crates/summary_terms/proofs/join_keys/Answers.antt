-- The loop's invariant: so many keys from the front are joined.
use mathlib.Core.Path.{ap, ◌∙◌}
use native.Mathlib.Omega.{arith}
use lib.ListN.{get_or}
use lib.Ieee.{nan}
use Rattle.documents.specs.Documents.{term}
use Rattle.documents.specs.TermKeys.{term_key}
use Rattle.summary_terms.proofs.Loops.{join_step, join-end}
use Rattle.summary_terms.proofs.join_keys.Goals as goal

pub loop-i-preserved : goal.loop-i-preserved
loop-i-preserved c =
    let l = c.loop-i in
    let a = c.args in
    join_step l.i a.keys.now a.maxima.now l.keys _ l.invariant (omega arith) c.requires
    (c.term_key.ensures ∙ ap (λ k. term_key (term k (get_or a.maxima.now l.i nan))) c.component_of_term_key-component.ensures)

pub returns : goal.returns
returns c = let l = c.loop-i in let a = c.args in join-end l.i a.keys.now a.maxima.now l.keys l.invariant (omega arith) c.requires
