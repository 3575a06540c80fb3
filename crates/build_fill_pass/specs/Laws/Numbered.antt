-- The number of a list's block stands whole in an entry.
use Rattle.std.specs.Prelude.{ℕ, suc, ◌+◌, ◌≤◌, ◌≡◌, refl, List, [], ◌∷◌, ◌++◌, length}
use Rattle.std.proofs.Common.{mod-eq_of_lt, arith, ap, ◌∙◌}
use Rattle.documents.specs.Documents.{Term}
use Rattle.sparse_layout.specs.Layouts.{entries_of, entries_from}
use Rattle.build_fill_pass.specs.Filling.{numbered_from}

pub numbered-whole : (b : ℕ) (tops : List (List Term)) → b + length tops ≤ 65536 → numbered_from b tops ≡ entries_from b tops
numbered-whole b [] h = refl
numbered-whole b (top ∷ tops) h =
    ap (λ n. entries_of n top ++ numbered_from (suc b) tops) (mod-eq_of_lt (omega arith))
    ∙ ap (λ l. entries_of b top ++ l) (numbered-whole (suc b) tops (omega arith))
