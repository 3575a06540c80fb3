-- Each kind by the judge of its cases.
use Rattle.std.proofs.Common.{arith, ◌≡◌, ℕ, Bool, false, List, sym, ap, ◌∙◌, ne_eqb}
use Rattle.replay.specs.Kinds.{agrees_by}
use Rattle.replay.proofs.agrees.Goals as goal

of-kind : (kind n : ℕ) (w : List ℕ) {r : Bool} → kind ≡ n → r ≡ agrees_by n w → r ≡ agrees_by kind w
of-kind kind n w p e = e ∙ ap (λ k. agrees_by k w) (sym p)

of_none : (kind : ℕ) (w : List ℕ) → (kind ≡ 1 → ⊥) → (kind ≡ 2 → ⊥) → (kind ≡ 3 → ⊥) → (kind ≡ 4 → ⊥) → (kind ≡ 5 → ⊥) → (kind ≡ 6 → ⊥) → false ≡ agrees_by kind w
of_none kind w a b c d e f = rw (ne_eqb kind 1 a, ne_eqb kind 2 b, ne_eqb kind 3 c, ne_eqb kind 4 d, ne_eqb kind 5 e, ne_eqb kind 6 f)

pub returns-in-1 : goal.returns-in-1
returns-in-1 c = of-kind c.args.kind 1 c.args.words.now c.in-1.is c.packs_agree.ensures

pub returns-in-2 : goal.returns-in-2
returns-in-2 c = of-kind c.args.kind 2 c.args.words.now c.in-2.is c.blocks_agree.ensures

pub returns-in-3 : goal.returns-in-3
returns-in-3 c = of-kind c.args.kind 3 c.args.words.now c.in-3.is c.quantizes_agree.ensures

pub returns-in-4 : goal.returns-in-4
returns-in-4 c = of-kind c.args.kind 4 c.args.words.now c.in-4.is c.pushes_agree.ensures

pub returns-in-5 : goal.returns-in-5
returns-in-5 c = of-kind c.args.kind 5 c.args.words.now c.in-5.is c.searches_agree.ensures

pub returns-in-6 : goal.returns-in-6
returns-in-6 c = of-kind c.args.kind 6 c.args.words.now c.in-6.is c.builds_agree.ensures

pub returns-in_default : goal.returns-in_default
returns-in_default c = of_none c.args.kind c.args.words.now (λ e. omega arith) (λ e. omega arith) (λ e. omega arith) (λ e. omega arith) (λ e. omega arith) (λ e. omega arith)
