-- Laws of First: when a call is accepted, and for which fault it is refused.
use Rattle.std.specs.Prelude.{◌≡◌, refl, Bool, true, false, cond, List, [], ◌∷◌, ◌++◌, Ok, Err, Result}
use Rattle.std.specs.Result.{IsErrAnd}
use Rattle.std.proofs.Common.{ap, ◌∙◌, true≢false}
use Rattle.refusal.specs.declared.Refusal.{Refusal}
use Rattle.refusal.specs.First.{Test, ◌gives◌, first_of, Faultless, FirstFault}

-- tests that find no fault leave the verdict to those after them
pub first-after : (ts us : List Test) → Faultless ts → first_of (ts ++ us) ≡ first_of us
first-after [] us h = refl
first-after (t ∷ ts) us h = rw h.0 (first-after ts us h.1)

-- and so a call is accepted where none of its tests finds a fault
pub accepted-by : (ts : List Test) → Faultless ts → first_of ts ≡ Ok tt
accepted-by [] h = refl
accepted-by (t ∷ ts) h = rw h.0 (accepted-by ts h.1)

-- and refused for the first fault
pub refused-by : (ts : List Test) (r : Refusal) (us : List Test) → Faultless ts → first_of (ts ++ ((true gives r) ∷ us)) ≡ Err r
refused-by ts r us h = first-after ts ((true gives r) ∷ us) h

-- a refusal among the first tests stands, whatever tests follow
pub first-refused : (ts us : List Test) (r : Refusal) → first_of ts ≡ Err r → first_of (ts ++ us) ≡ Err r
first-refused [] us r e = absurd (let z : ◌≡◌ {A = Bool} true false = cc in true≢false z)
first-refused (t ∷ ts) us r e = go t.fault e (first-refused ts us r)
  where
    go : (f : Bool) → cond f (Err t.reason) (first_of ts) ≡ Err r → (first_of ts ≡ Err r → first_of (ts ++ us) ≡ Err r) → cond f (Err t.reason) (first_of (ts ++ us)) ≡ Err r
    go true e i = e
    go false e i = i e

-- and the other way round: an accepted call's tests find no fault
pub faultless : (ts : List Test) → first_of ts ≡ Ok tt → Faultless ts
faultless [] h = tt
faultless (t ∷ ts) h = go t.fault refl (faultless ts) h
  where
    go : (b : Bool) → t.fault ≡ b → (first_of ts ≡ Ok tt → Faultless ts) → cond b (Err t.reason) (first_of ts) ≡ Ok tt → (t.fault ≡ false) × Faultless ts
    go true e f k = absurd (let z : ◌≡◌ {A = Bool} true false = cc in true≢false z)
    go false e f k = (e, f k)

-- tests one after the other find no fault where neither list does
pub faultless-both : (a b : List Test) → Faultless (a ++ b) → Faultless a × Faultless b
faultless-both [] b f = (tt, f)
faultless-both (t ∷ a) b f = let r = faultless-both a b f.1 in ((f.0, r.0), r.1)

pub first-fault : (ts : List Test) (r : Refusal) → first_of ts ≡ Err r → FirstFault ts r
first-fault [] r h = absurd (let z : ◌≡◌ {A = Bool} true false = cc in true≢false z)
first-fault (t ∷ ts) r h = go t.fault refl (first-fault ts r) h
  where
    go : (b : Bool) → t.fault ≡ b → (first_of ts ≡ Err r → FirstFault ts r) → cond b (Err t.reason) (first_of ts) ≡ Err r → FirstFault (t ∷ ts) r
    go true e f k = let q : t.reason ≡ r = cc in record { before = []; after = ts; is = ap (λ b. (b gives t.reason) ∷ ts) e ∙ ap (λ q. (true gives q) ∷ ts) q; none_before = tt }
    go false e f k = let g = f k in record { before = t ∷ g.before; after = g.after; is = ap (λ l. t ∷ l) g.is; none_before = (e, g.none_before) }

-- what `?` hands up is the refusal that it was given
pub handed-up : {T E : Type 0} (r : Result T E) (e : E) → IsErrAnd r (λ x. x ≡ e) → r ≡ Err e
handed-up (Ok x) e h = absurd h
handed-up (Err x) e h = ap Err h
