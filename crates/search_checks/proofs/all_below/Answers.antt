-- `search_checks::all_below` meets its contract: an id of 16 bits is below a greater number.
use Prim.Native.Nat.{ℕ, suc, ◌≤◌, ◌<◌, ◌^◌}
use native.Mathlib.Omega.{arith}
use mathlib.Core.Path.{◌≡◌, refl}
use mathlib.Core.Bool.{true}
use mathlib.Core.List.{List, [], ◌∷◌}
use lib.ListN.{get_or}
use lib.Dec.{ltb}
use borrow.Author.Tests.{lt-ltb}
use Rattle.sequences.specs.Lists.{every}
use Rattle.search_checks.proofs.all_below.Goals as goal

narrow_below : (summary-ids : List ℕ) (n : ℕ) → ((k : ℕ) → get_or summary-ids k 0 < 2 ^ 16) → 2 ^ 16 ≤ n → true ≡ every (λ i. ltb i n) summary-ids
narrow_below [] n f h = refl
narrow_below (i ∷ summary-ids) n f h = let e = narrow_below summary-ids n (λ k. f (suc k)) h in rw (lt-ltb i n (let a = f 0 in omega arith)) e

pub returns-then-summaries-gt-GREATEST_ID : goal.returns-then-summaries-gt-GREATEST_ID
returns-then-summaries-gt-GREATEST_ID c = narrow_below c.args.summary_ids.now _ (λ k. omega (arith, c.shared_slice_known-1.given k)) (omega arith)
