-- The first test that fails gives the refusal.
use Rattle.std.specs.Prelude.{Ok, Err}
use Prim.Native.Nat.{ℕ, ◌≤◌, ◌<◌}
use mathlib.Core.Path.{◌≡◌}
use mathlib.Core.Bool.{Bool, true, false, ◌||◌}
use lib.ListN.{length}
use lib.Dec.{ltb, leb}
use borrow.Author.Tests.{eq-eqb, ne_eqb, lt-ltb, le-ltb}
use Rattle.refusal.specs.declared.Refusal.TheVariants.{WrongQuery, WrongDocuments, WrongKeptList, BufferTooShort}
use Rattle.refusal.specs.First.{first_of}
use Rattle.documents.specs.Checks.{slices_hold}
use Rattle.search_probe.specs.Probed.{Terms, Lends, tests}

module _ (k : ℕ) (t : Terms) (l : Lends) where
  abbrev short : Bool
  short = (ltb (length l.kept.packed) k || ltb (length l.kept.scores) k) || leb (length l.visits) (length t.components)

  pub refused-10 : slices_hold t.query_components t.query_values ≡ false → Err WrongQuery ≡ first_of (tests k t l)
  refused-10 h = rw h

  module _ (h : slices_hold t.query_components t.query_values ≡ true) where
    pub refused-6 : (length t.components ≡ length t.values → ⊥) → Err WrongDocuments ≡ first_of (tests k t l)
    refused-6 e = rw (h, ne_eqb (length t.components) (length t.values) e)

    module _ (e : length t.components ≡ length t.values) where
      pub refused-12 : k < l.kept.size → Err WrongKeptList ≡ first_of (tests k t l)
      refused-12 n = rw (h, eq-eqb (length t.components) (length t.values) e, lt-ltb k l.kept.size n)

      pub refused-4 : l.kept.size ≤ k → short ≡ true → Err BufferTooShort ≡ first_of (tests k t l)
      refused-4 n s = rw (h, eq-eqb (length t.components) (length t.values) e, le-ltb k l.kept.size n, s)

      pub accepted : l.kept.size ≤ k → short ≡ false → Ok tt ≡ first_of (tests k t l)
      accepted n s = rw (h, eq-eqb (length t.components) (length t.values) e, le-ltb k l.kept.size n, s)
