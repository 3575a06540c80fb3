-- The first and the last of those with the greatest score: where a list is cut by them.
use Rattle.std.specs.Prelude.{◌≡◌, refl, Bool, true, false, not, ◌&&◌, cond}
use Rattle.std.proofs.Common.{sym, ap, ◌∙◌, subst}
use mathlib.Core.List.{List, [], ◌∷◌, ◌++◌, foldl, append_assoc, append-nil}
use Rattle.sequences.specs.Lists.{EachOf, those, every, first_or, last_or}
use Rattle.sequences.specs.Laws.Groups.{those-append}
use Rattle.sequences.specs.Laws.Each.{each_append, each-those, each_to, each-every}
use Rattle.sequences.specs.Laws.Lists.{last_end}

module _ {A : Type 0} (le : A → A → Bool) where
  -- those that no other is above
  abbrev pub highest : List A → List A
  highest l = those (λ c. every (λ e. le e c) l) l

  -- no more than c, and less than c
  abbrev pub Under : A → A → Type 0
  Under c e = le e c ≡ true

  abbrev pub Below : A → A → Type 0
  Below c e = le c e ≡ false

  every_append : (p : A → Bool) (a b : List A) → every p a ≡ true → every p b ≡ true → every p (a ++ b) ≡ true
  every_append p [] b h k = k
  every_append p (x ∷ a) b h k = go (p x) h (every_append p a b)
    where
      go : (z : Bool) → (z && every p a) ≡ true → (every p a ≡ true → every p b ≡ true → every p (a ++ b) ≡ true) → (z && every p (a ++ b)) ≡ true
      go true h i = i h k
      go false h i = h

  every-fails : (p : A → Bool) (a : List A) (c : A) (b : List A) → p c ≡ false → every p (a ++ (c ∷ b)) ≡ false
  every-fails p [] c b h = rw h
  every-fails p (x ∷ a) c b h = let i = every-fails p a c b h in go (p x) i
    where
      go : (z : Bool) → every p (a ++ (c ∷ b)) ≡ false → (z && every p (a ++ (c ∷ b))) ≡ false
      go true i = i
      go false i = refl

  none_of : (p : A → Bool) (l : List A) → EachOf (λ e. p e ≡ false) l → those p l ≡ []
  none_of p [] e = refl
  none_of p (x ∷ l) e = let i = none_of p l e.1 in let h = e.0 in rw (h, i)

  module _ (front : List A) (c : A) (back : List A) (self : Under c c) where
    highest-self : EachOf (Under c) front → EachOf (Under c) back → every (λ e. le e c) (front ++ (c ∷ back)) ≡ true
    highest-self f b = every_append (λ e. le e c) front (c ∷ back) (each-every (λ e. le e c) front f) (each-every (λ e. le e c) (c ∷ back) (self, b))

    lower : (x : A) → Below c x → every (λ e. le e x) (front ++ (c ∷ back)) ≡ false
    lower x h = every-fails (λ e. le e x) front c back h

    -- the first of the greatest: all before it are less, none after it is more
    pub first-greatest : (d : A) → EachOf (Under c) front → EachOf (Below c) front → EachOf (Under c) back → first_or d (highest (front ++ (c ∷ back))) ≡ c
    first-greatest d f g b =
        let l = front ++ (c ∷ back) in
        let p : A → Bool = λ x. every (λ e. le e x) l in
        let n : those p front ≡ [] = none_of p front (each_to (Below c) (λ x. p x ≡ false) lower front g) in
        let s : those p (c ∷ back) ≡ c ∷ those p back = ap (λ z. cond z (c ∷ those p back) (those p back)) (highest-self f b) in
        ap (first_or d) (those-append p front (c ∷ back) ∙ ap (λ z. z ++ those p (c ∷ back)) n ∙ s)

    -- the last of the greatest: none before it is more, all after it are less
    pub last-greatest : (d : A) → EachOf (Under c) front → EachOf (Under c) back → EachOf (Below c) back → last_or d (highest (front ++ (c ∷ back))) ≡ c
    last-greatest d f b g =
        let l = front ++ (c ∷ back) in
        let p : A → Bool = λ x. every (λ e. le e x) l in
        let n : those p back ≡ [] = none_of p back (each_to (Below c) (λ x. p x ≡ false) lower back g) in
        let s : those p (c ∷ back) ≡ c ∷ those p back = ap (λ z. cond z (c ∷ those p back) (those p back)) (highest-self f b) in
        ap (last_or d) (those-append p front (c ∷ back) ∙ ap (λ z. those p front ++ z) (s ∙ ap (λ z. c ∷ z) n)) ∙ last_end d (those p front) c

  -- ---- the same by a fold, as a loop goes: b is the best so far, and a later one that is as good takes its place
  abbrev pub last_best : A → List A → A
  last_best b xs = foldl (λ m x. cond (le m x) x m) b xs

  -- b is the best so far, and only a better one takes its place
  abbrev pub first_best : A → List A → A
  first_best b xs = foldl (λ m x. cond (le x m) m x) b xs

  module _ (P : A → Type 0)
      (reflexive : (a : A) → P a → le a a ≡ true)
      (total : (a b : A) → P a → P b → le a b ≡ false → le b a ≡ true)
      (trans : (a b c : A) → P a → P b → P c → le a b ≡ true → le b c ≡ true → le a c ≡ true) where
    each_and : (Q R : A → Type 0) → ((x : A) → P x → Q x → R x) → (l : List A) → EachOf P l → EachOf Q l → EachOf R l
    each_and Q R f [] p e = tt
    each_and Q R f (x ∷ l) p e = (f x p.0 e.0, each_and Q R f l p.1 e.1)

    -- x goes to the front with what stood before it, or to the back
    shift : (front : List A) (c : A) (back : List A) (x : A) (xs : List A) → (front ++ (c ∷ back)) ++ (x ∷ xs) ≡ front ++ (c ∷ (back ++ (x ∷ xs)))
    shift front c back x xs = append_assoc front (c ∷ back) (x ∷ xs)

    shift' : (front : List A) (c : A) (back : List A) (x : A) (xs : List A) → front ++ (c ∷ ((back ++ (x ∷ [])) ++ xs)) ≡ front ++ (c ∷ (back ++ (x ∷ xs)))
    shift' front c back x xs = ap (λ z. front ++ (c ∷ z)) (append_assoc back (x ∷ []) xs)

    -- c is the last greatest of front, c and back, and xs is still to come
    last-go : (d : A) (front : List A) (c : A) (back xs : List A) → EachOf P front → P c → EachOf P back → EachOf P xs → EachOf (Under c) front → EachOf (Under c) back → EachOf (Below c) back
        → last_or d (highest (front ++ (c ∷ (back ++ xs)))) ≡ last_best c xs
    last-go d front c back [] pf pc pb px f b g = subst (λ z. last_or d (highest (front ++ (c ∷ z))) ≡ c) (sym (append-nil back)) (last-greatest front c back (reflexive c pc) d f b g)
    last-go d front c back (x ∷ xs) pf pc pb px f b g = go (le c x) refl (last-go d (front ++ (c ∷ back)) x [] xs) (last-go d front c (back ++ (x ∷ [])) xs)
      where
        up : le c x ≡ true → (y : A) → P y → Under c y → Under x y
        up h y py u = trans y c x py pc px.0 u h

        go : (z : Bool) → le c x ≡ z
            → (EachOf P (front ++ (c ∷ back)) → P x → Unit {0} → EachOf P xs → EachOf (Under x) (front ++ (c ∷ back)) → Unit {0} → Unit {0} → last_or d (highest ((front ++ (c ∷ back)) ++ (x ∷ xs)))
            ≡ last_best x xs)
            → (EachOf P front → P c → EachOf P (back ++ (x ∷ [])) → EachOf P xs → EachOf (Under c) front → EachOf (Under c) (back ++ (x ∷ [])) → EachOf (Below c) (back ++ (x ∷ []))
            → last_or d (highest (front ++ (c ∷ ((back ++ (x ∷ [])) ++ xs)))) ≡ last_best c xs)
            → last_or d (highest (front ++ (c ∷ (back ++ (x ∷ xs))))) ≡ last_best (cond z x c) xs
        go true h i j =
            ap (λ l. last_or d (highest l)) (sym (shift front c back x xs))
            ∙ i (each_append P front (c ∷ back) pf (pc, pb)) px.0 tt px.1
            (each_append (Under x) front (c ∷ back) (each_and (Under c) (Under x) (up h) front pf f) (h, each_and (Under c) (Under x) (up h) back pb b)) tt tt
        go false h i j =
            ap (λ l. last_or d (highest l)) (sym (shift' front c back x xs))
            ∙ j pf pc (each_append P back (x ∷ []) pb (px.0, tt)) px.1 f
            (each_append (Under c) back (x ∷ []) b (total c x pc px.0 h, tt)) (each_append (Below c) back (x ∷ []) g (h, tt))

    -- the last of the greatest is what the fold finds
    pub last-fold : (d x : A) (xs : List A) → P x → EachOf P xs → last_or d (highest (x ∷ xs)) ≡ last_best x xs
    last-fold d x xs p ps = last-go d [] x [] xs tt p tt ps tt tt tt

    -- c is the first greatest of front, c and back, and xs is still to come
    first-go : (d : A) (front : List A) (c : A) (back xs : List A) → EachOf P front → P c → EachOf P back → EachOf P xs → EachOf (Under c) front → EachOf (Below c) front → EachOf (Under c) back
        → first_or d (highest (front ++ (c ∷ (back ++ xs)))) ≡ first_best c xs
    first-go d front c back [] pf pc pb px f g b = subst (λ z. first_or d (highest (front ++ (c ∷ z))) ≡ c) (sym (append-nil back)) (first-greatest front c back (reflexive c pc) d f g b)
    first-go d front c back (x ∷ xs) pf pc pb px f g b = go (le x c) refl (first-go d (front ++ (c ∷ back)) x [] xs) (first-go d front c (back ++ (x ∷ [])) xs)
      where
        up : le x c ≡ false → (y : A) → P y → Under c y → Under x y
        up h y py u = trans y c x py pc px.0 u (total x c px.0 pc h)

        down : le x c ≡ false → (y : A) → P y → Under c y → Below x y
        down h y py u = at (le x y) refl
          where
            at : (z : Bool) → le x y ≡ z → z ≡ false
            at true e = sym (trans x y c px.0 py pc e u) ∙ h
            at false e = refl

        go : (z : Bool) → le x c ≡ z
            → (EachOf P (front ++ (c ∷ back)) → P x → Unit {0} → EachOf P xs → EachOf (Under x) (front ++ (c ∷ back)) → EachOf (Below x) (front ++ (c ∷ back)) → Unit {0}
            → first_or d (highest ((front ++ (c ∷ back)) ++ (x ∷ xs))) ≡ first_best x xs)
            → (EachOf P front → P c → EachOf P (back ++ (x ∷ [])) → EachOf P xs → EachOf (Under c) front → EachOf (Below c) front → EachOf (Under c) (back ++ (x ∷ []))
            → first_or d (highest (front ++ (c ∷ ((back ++ (x ∷ [])) ++ xs)))) ≡ first_best c xs)
            → first_or d (highest (front ++ (c ∷ (back ++ (x ∷ xs))))) ≡ first_best (cond z c x) xs
        go true h i j =
            ap (λ l. first_or d (highest l)) (sym (shift' front c back x xs))
            ∙ j pf pc (each_append P back (x ∷ []) pb (px.0, tt)) px.1 f g (each_append (Under c) back (x ∷ []) b (h, tt))
        go false h i j =
            ap (λ l. first_or d (highest l)) (sym (shift front c back x xs))
            ∙ i (each_append P front (c ∷ back) pf (pc, pb)) px.0 tt px.1
            (each_append (Under x) front (c ∷ back) (each_and (Under c) (Under x) (up h) front pf f) (total x c px.0 pc h, each_and (Under c) (Under x) (up h) back pb b))
            (each_append (Below x) front (c ∷ back) (each_and (Under c) (Below x) (down h) front pf f) (h, each_and (Under c) (Below x) (down h) back pb b)) tt

    -- the first of the greatest is what the fold finds
    pub first-fold : (d x : A) (xs : List A) → P x → EachOf P xs → first_or d (highest (x ∷ xs)) ≡ first_best x xs
    first-fold d x xs p ps = first-go d [] x [] xs tt p tt ps tt tt tt

    pub first-has : (x : A) (xs : List A) → P x → EachOf P xs → P (first_best x xs)
    first-has x [] p ps = p
    first-has x (y ∷ xs) p ps = first-has (cond (le y x) x y) xs (at (le y x)) ps.1
      where
        at : (z : Bool) → P (cond z x y)
        at true = p
        at false = ps.0

    -- ---- the loop of the exact assignment: it starts at z, which nothing but an entry above zero replaces, and then only one that is
    -- above the best so far
    module _ (above : A → A → Bool) (positive : A → Bool) (z : A)
        (is-above : (m x : A) → P m → P x → positive m ≡ true → positive x ≡ true → above m x ≡ not (le x m))
        (never : (m x : A) → P m → P x → positive m ≡ true → positive x ≡ false → above m x ≡ false)
        (at-start : (x : A) → above z x ≡ positive x) where
      abbrev pub strict_best : A → List A → A
      strict_best m xs = foldl (λ m x. cond (above m x) x m) m xs

      strict_on : (m : A) (xs : List A) → P m → EachOf P xs → positive m ≡ true → strict_best m xs ≡ first_best m (those positive xs)
      strict_on m [] p e h = refl
      strict_on m (x ∷ xs) p e h = go (positive x) refl (strict_on m xs p e.1 h) (strict_on x xs e.0 e.1)
        where
          go : (b : Bool) → positive x ≡ b → strict_best m xs ≡ first_best m (those positive xs) → (positive x ≡ true → strict_best x xs ≡ first_best x (those positive xs))
              → strict_best (cond (above m x) x m) xs ≡ first_best m (cond b (x ∷ those positive xs) (those positive xs))
          go true k i j = ap (λ t. strict_best (cond t x m) xs) (is-above m x p e.0 h k) ∙ at (le x m)
            where
              at : (t : Bool) → strict_best (cond (not t) x m) xs ≡ first_best (cond t m x) (those positive xs)
              at true = i
              at false = j k
          go false k i j = ap (λ t. strict_best (cond t x m) xs) (never m x p e.0 h k) ∙ i

      -- the loop finds the first greatest above zero, else z
      pub strict-fold : (xs : List A) → EachOf P xs → strict_best z xs ≡ first_or z (highest (those positive xs))
      strict-fold [] e = refl
      strict-fold (x ∷ xs) e = ap (λ t. strict_best (cond t x z) xs) (at-start x) ∙ go (positive x) refl (strict-fold xs e.1)
        where
          go : (b : Bool) → positive x ≡ b → strict_best z xs ≡ first_or z (highest (those positive xs)) → strict_best (cond b x z) xs
              ≡ first_or z (highest (cond b (x ∷ those positive xs) (those positive xs)))
          go true k i = strict_on x xs e.0 e.1 k ∙ sym (first-fold z x (those positive xs) e.0 (each-those P positive xs e.1))
          go false k i = i
