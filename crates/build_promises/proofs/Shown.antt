-- From the contract of `merino_build` and its number alone to Made. It stands apart from `not-built-shown` in specs/Laws/Shown: where `made` is
-- refused, `rt must-fail` reads a law of specs/ that leans on it as text that it cannot read.
use Rattle.build_meaning.specs.declared.BuiltSizes.{BuiltSizes}
use Rattle.refusal.specs.declared.Refusal.{Refusal}
use Rattle.std.specs.Prelude.{ℕ, ◌<◌, ◌≡◌, refl, get_or, Result, Ok, Err}
use Rattle.std.proofs.Common.{sym, ap, ◌∙◌}
use Rattle.refusal.specs.Laws.Numbered.{number-not-zero}
use Rattle.quantizing.specs.Demand3.{F32s}
use Rattle.build_meaning.specs.Built.{Input}
use Rattle.build_meaning.specs.Building.{Lent, leaves, builds}
use Rattle.c_build.specs.Shown.{ShownBuilt, seen_built}
use Rattle.build_promises.specs.Made.{Made}
use Rattle.build_promises.specs.Laws.Made.{made}
use Rattle.build_promises.specs.Shown.{number_shown, sizes_shown}

-- the answer that shows 0
answer-built : (x : ShownBuilt) (a : Result BuiltSizes Refusal) (l : Lent) → x ≡ seen_built (leaves a l) → number_shown x ≡ 0 → leaves (Ok (sizes_shown x)) x.lent ≡ leaves a l
answer-built x (Err r) l w z = absurd (number-not-zero r (sym (ap number_shown w) ∙ z))
answer-built x (Ok b) l w z = λ j. leaves (Ok (sizes_shown (w j))) (w j).lent

-- `x ≡ seen_built (builds g lent)` is the contract of `merino_build`: x has the number that it returned, the sizes that it wrote, and what
-- then lies where `lent` was
module _ (g : Input) (lent : Lent) (x : ShownBuilt) (contract : x ≡ seen_built (builds g lent)) where
  -- a slice of u32 and one of f32 hold nothing else
  module _ (narrow : (k : ℕ) → get_or g.documents.components k 0 < 4294967296) (fs : F32s g.documents.values) where
    pub made-shown : number_shown x ≡ 0 → Made g lent (sizes_shown x) x.lent
    made-shown z = made g lent x.lent narrow fs (Ok (sizes_shown x)) (sizes_shown x) (answer-built x (builds g lent).answer (builds g lent).lent contract z) refl
