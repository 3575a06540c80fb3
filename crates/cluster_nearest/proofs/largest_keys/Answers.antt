-- `cluster_nearest::largest_keys` meets its contract.
use Rattle.documents.specs.Documents.{terms}
use Rattle.documents.specs.Lent.{lent}
use Rattle.cluster_nearest.specs.Keys.{KeysLeft}
use Rattle.cluster_nearest.specs.Laws.Keys.{held-terms, largest-keys}
use mathlib.Core.Path.{◌≡◌, sym, ap, ◌∙◌, subst}
use Prim.Native.Nat.{min}
use lib.ListN.{length}
use Rattle.cluster_nearest.proofs.largest_keys.Goals as goal

pub returns : goal.returns
returns c =
    let a = c.args in let s = c.sort_keys-n in let m = c.min in let h = c.places_of-p.ensures.holds in
    let d = lent a.documents in
    let ts = terms d a.id.0 in
    let left = s.new.keys in
    let keys : KeysLeft a.cut ts a.keys.now left = subst (λ l. KeysLeft a.cut l a.keys.now left) (sym h) s.ensures.keys in
    let n : s.result ≡ min (length ts) (length a.keys.now) = s.ensures.answer ∙ ap (λ l. min (length l) (length a.keys.now)) (sym h) in
    let held = held-terms d a.id.0 c.args.documents.narrow c.args.documents.fit in record {
      keys = keys;
      answer = m.ensures ∙ ap (min a.cut) n;
      terms = largest-keys ts held a.keys.now left a.cut s.result m.result keys s.auto.keys n m.ensures;
    }
