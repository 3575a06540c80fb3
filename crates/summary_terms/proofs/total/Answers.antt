-- The fold of the first values is their sum, whatever comes after them.
use Rattle.std.proofs.Common.{◌≡◌, refl, subst, rules}
use Rattle.std.proofs.lemmas.Fn.{fold_over, slice_gives, fronts}
use mathlib.Core.List.{map}
use lib.Ieee.{of_bits}
use Rattle.documents.specs.Documents.{sum}
use Rattle.documents.specs.TermKeys.{value_of_term}
use Rattle.summary_terms.proofs.Loops.{one_more}
use Rattle.summary_terms.proofs.total.Goals as goal

pub returns : goal.returns
unfolding of_bits
returns c = subst (λ ks. c.fold.result ≡ sum (map value_of_term ks)) c.iter.ensures.rest
    (fold_over fronts (λ y. y.now) _ (λ ks s. s ≡ sum (map value_of_term ks)) _ (λ ks s k r f' j h. let more = one_more ks k.now in search rules)
    _ _ _ _ (slice_gives c.iter.result) refl c.fold.ensures.ran)
