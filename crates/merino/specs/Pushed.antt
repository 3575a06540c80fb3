-- What a push shows to C: one number, and the kept list as it then lies.
use Rattle.std.specs.Prelude.{ℕ}
use Rattle.refusal.specs.Refusals.{verdict_number}
use Rattle.kept_list.specs.Lent.{Lent}
use Rattle.kept_list.specs.Push.{Left}

pub record Crossed : Type 0 where
  pub number : ℕ
  pub kept : Lent

abbrev pub crossed : ℕ → Lent → Crossed
crossed n l = record { number = n; kept = l }

abbrev pub seen : Left → Crossed
seen l = crossed (verdict_number l.verdict) l.list
