-- `kept_entries::settle` meets its contract, by the cases of `Settles`.
use mathlib.Core.Path.{sym, ap, subst, ◌∙◌}
use lib.ListN.{get_or}
use Rattle.kept_list.specs.Place.{Starts}
use Rattle.kept_entries.specs.Entries.{no_entry, as_lent}
use Rattle.kept_entries.proofs.Settles.{goes, stays, empty}
use Rattle.kept_entries.proofs.settle.Goals as goal

pub returns-then-room-eq0 : goal.returns-then-room-eq0
returns-then-room-eq0 c = let a = c.args in empty a.k a.length a.e a.entries.now c.if-room-eq0.true

pub returns-then-not-goes_in : goal.returns-then-not-goes_in
returns-then-not-goes_in c =
    let a = c.args in
    stays a.k a.length a.e _ a.entries.now (ap (λ i. get_or a.entries.now i no_entry) c.worst_place-last.ensures) (sym c.goes_in.ensures ∙ c.if-not-goes_in.true)

pub returns : goal.returns
returns c =
    let a = c.args in
    let in-place = goes a.k a.length a.e _ a.entries.now (ap (λ i. get_or a.entries.now i no_entry) c.worst_place-last.ensures) (sym c.goes_in.ensures ∙ c.if-not-goes_in.false) in
    let s : Starts a.k a.e (as_lent a.length a.entries.now) c.place_of-at.result = subst (Starts a.k a.e (as_lent a.length a.entries.now)) (sym c.place_of-at.ensures) in-place in
    c.insert.ensures ∙ s.gives
