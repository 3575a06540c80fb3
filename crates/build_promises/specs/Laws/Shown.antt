-- Laws of Shown: from the contract of `merino_build` and its number alone to NotBuilt. To Made: proofs/Shown.
use Rattle.build_meaning.specs.declared.BuiltSizes.{BuiltSizes}
use Rattle.refusal.specs.declared.Refusal.{Refusal}
use Rattle.std.specs.Prelude.{◌≡◌, refl, Result, Ok, Err}
use Rattle.std.proofs.Common.{sym, ap, ◌∙◌}
use Rattle.build_meaning.specs.Built.{Input}
use Rattle.build_meaning.specs.Building.{Lent, leaves, builds}
use Rattle.c_build.specs.Shown.{ShownBuilt, seen_built}
use Rattle.build_promises.specs.Laws.Made.{unmade}
use Rattle.build_promises.specs.Shown.{number_shown, sizes_shown, NotBuilt}

-- `x ≡ seen_built (builds g lent)` is the contract of `merino_build`: x has the number that it returned, the sizes that it wrote, and what
-- then lies where `lent` was
module _ (g : Input) (lent : Lent) (x : ShownBuilt) (contract : x ≡ seen_built (builds g lent)) where
  pub not-built-shown : (number_shown x ≡ 0 → ⊥) → NotBuilt g lent x
  not-built-shown n = go (builds g lent).answer refl contract
    where
      go : (a : Result BuiltSizes Refusal) → (builds g lent).answer ≡ a → x ≡ seen_built (leaves a (builds g lent).lent) → NotBuilt g lent x
      go (Ok b) q w = absurd (n (ap number_shown w))
      go (Err r) q w = record {
        reason = r;
        number = ap number_shown w;
        sizes = ap sizes_shown w;
        refused = unmade g lent x.lent (Err r) r ((λ j. leaves (Err r) (w j).lent) ∙ ap (λ a. leaves a (builds g lent).lent) (sym q)) refl;
      }
