-- Small lists, worked out.
use Rattle.std.specs.Prelude.{ℕ, ◌≡◌, refl, true, false, [], ◌∷◌, pos, Float, Ok}
use Rattle.std.specs.Float.{fin, inf, nan}
use Rattle.refusal.specs.Refusals.{verdict_number}
use Rattle.float32.specs.Key.{key_of}
use Rattle.kept_list.specs.declared.Scored.{Scored}
use Rattle.kept_list.specs.Entry.{scored, better}
use Rattle.kept_list.specs.Lent.{Lent, lent, settled}
use Rattle.kept_list.specs.Push.{well_kept, verdict_of, left, pushed}

-- whole numbers: an odd one times a power of 2
abbrev three : Float
three = fin false 3 (pos 0)

abbrev four : Float
four = fin false 1 (pos 2)

abbrev five : Float
five = fin false 5 (pos 0)

abbrev +zero : Float
+zero = fin false 0 (pos 0)

abbrev -zero : Float
-zero = fin true 0 (pos 0)

-- a full list: an equal score with a smaller packed number replaces the worst entry, one with a greater number does not; what lies past
-- the entries stays. Document 01's page on pushes stands in worked_cases/Pages
pub record Ties : Type 0 where
  pub smaller_packed : pushed 1 (scored 3 four) (lent 1 (5 ∷ 9 ∷ []) (four ∷ nan ∷ [])) ≡ left (Ok tt) (lent 1 (3 ∷ 9 ∷ []) (four ∷ nan ∷ []))
  pub greater_packed : pushed 1 (scored 7 four) (lent 1 (5 ∷ 9 ∷ []) (four ∷ nan ∷ [])) ≡ left (Ok tt) (lent 1 (5 ∷ 9 ∷ []) (four ∷ nan ∷ []))

pub ties : Ties
unfolding key_of better settled well_kept verdict_of pushed
ties = record { smaller_packed = refl; greater_packed = refl }

-- ---- what is let in, and what is refused
abbrev empty : Lent
empty = lent 0 (0 ∷ []) (+zero ∷ [])

abbrev pair : Float → Float → Lent
pair x y = lent 2 (1 ∷ 2 ∷ []) (x ∷ y ∷ [])

-- the number that such a push answers
abbrev answer : ℕ → Scored → Lent → ℕ
answer k e l = verdict_number (verdict_of k e l)

pub record Verdicts : Type 0 where
  -- 11 comes before 12, and 12 before 4
  pub no_k : answer 0 (scored 1 nan) empty ≡ 11
  pub nan_pushed : answer 3 (scored 1 nan) (pair five four) ≡ 12
  pub nan_kept : answer 3 (scored 1 four) (pair nan four) ≡ 12
  pub more_than_k : answer 1 (scored 1 four) (pair five four) ≡ 12
  pub more_than_held : answer 3 (scored 1 four) (lent 2 (1 ∷ 2 ∷ []) (five ∷ [])) ≡ 12
  pub out_of_order : answer 2 (scored 1 four) (pair three four) ≡ 12
  -- below k one more place is needed, at k none
  pub no_place : answer 3 (scored 1 four) (pair five four) ≡ 4
  pub at-k : answer 2 (scored 1 four) (pair five four) ≡ 0
  -- -0 stands below +0
  pub zeros_rise : answer 2 (scored 1 four) (pair -zero +zero) ≡ 12
  pub zeros_fall : answer 2 (scored 1 four) (pair +zero -zero) ≡ 0
  -- equal entries are in order, with the same packed number or a greater one
  pub equal : answer 2 (scored 1 four) (lent 2 (1 ∷ 1 ∷ []) (four ∷ four ∷ [])) ≡ 0
  pub packed_falls : answer 2 (scored 1 four) (lent 2 (2 ∷ 1 ∷ []) (four ∷ four ∷ [])) ≡ 12
  pub infinite : answer 2 (scored 1 (inf false)) (pair (inf false) (inf true)) ≡ 0

pub verdicts : Verdicts
unfolding key_of better well_kept verdict_of
verdicts = record {
  no_k = refl;
  nan_pushed = refl;
  nan_kept = refl;
  more_than_k = refl;
  more_than_held = refl;
  out_of_order = refl;
  no_place = refl;
  at-k = refl;
  zeros_rise = refl;
  zeros_fall = refl;
  equal = refl;
  packed_falls = refl;
  infinite = refl;
}
