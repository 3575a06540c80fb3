-- What crosses to C of a push, from what the push left.
use Rattle.std.specs.Prelude.{Result}
use Rattle.refusal.specs.declared.Refusal.{Refusal}
use Prim.Native.Nat.{ℕ}
use mathlib.Core.Path.{◌≡◌, ap, ◌∙◌}
use Rattle.refusal.specs.Refusals.{verdict_number}
use Rattle.kept_list.specs.declared.Scored.{Scored}
use Rattle.kept_list.specs.Lent.{Lent}
use Rattle.kept_list.specs.Push.{left as left_pushed, pushed}
use Rattle.merino.specs.Pushed.{crossed, seen as seen_pushed}

pub push-crosses : (k n : ℕ) (v : Result (Unit {0}) Refusal) (l m : Lent) (e f : Scored) → n ≡ verdict_number v → left_pushed v l ≡ pushed k e m → e ≡ f → crossed n l ≡ seen_pushed (pushed k f m)
push-crosses k n v l m e f h p q = ap (λ z. crossed z l) h ∙ ap seen_pushed p ∙ ap (λ z. seen_pushed (pushed k z m)) q
