-- Members of lists, lists that hold exactly what has a property, and how many numbers pass a test.
use Rattle.std.proofs.Common.{◌≡◌, ℕ, zero, suc, ◌+◌, ◌<◌, ◌⊎◌, Bool, if◌then◌else◌, List, [], ◌∷◌, ◌++◌, map, length, sym, refl, ap, ap₂, ◌∙◌, subst, inl, inr, ⊎_elim, arith, length-append}
use Rattle.history.specs.Counting.{Among, Distinct, Exactly, HowMany, count_below}

module _ {A : Type 0} where
  pub among_left : (a : A) (s t : List A) → Among a s → Among a (s ++ t)
  among_left a [] t m = absurd m
  among_left a (x ∷ s) t m = grind (arith, among_left a s t)

  pub among_right : (a : A) (s t : List A) → Among a t → Among a (s ++ t)
  among_right a [] t m = m
  among_right a (x ∷ s) t m = inr (among_right a s t m)

  pub among_cases : (a : A) (s t : List A) → Among a (s ++ t) → Among a s ⊎ Among a t
  among_cases a [] t m = inr m
  among_cases a (x ∷ s) t m = grind (arith, among_cases a s t)

  pub distinct_append : (s t : List A) → Distinct s → Distinct t → ((a : A) → Among a s → Among a t → ⊥) → Distinct (s ++ t)
  distinct_append [] t ds dt apart = dt
  distinct_append (x ∷ s) t ds dt apart = (grind (arith, among_cases x s t, apart x), distinct_append s t ds.1 dt (λ a m. apart a (inr m)))

  -- a member in the middle of a list
  pub among_split : (a : A) (l : List A) → Among a l → (s t : List A) × (l ≡ s ++ (a ∷ t))
  among_split a [] m = absurd m
  among_split a (x ∷ l) (inl e) = ([], l, ap (λ (y : A). y ∷ l) (sym e))
  among_split a (x ∷ l) (inr m) = let (s, t, e) = among_split a l m in (x ∷ s, t, ap (λ (y : List A). x ∷ y) e)

  pub among_around : (a b : A) (s t : List A) → Among b (s ++ (a ∷ t)) → (b ≡ a) ⊎ Among b (s ++ t)
  among_around a b s t m = grind (arith, among_cases b s (a ∷ t), among_left b s t, among_right b s t)

  pub around_among : (a b : A) (s t : List A) → Among b (s ++ t) → Among b (s ++ (a ∷ t))
  around_among a b s t m = grind (arith, among_cases b s t, among_left b s (a ∷ t), among_right b s (a ∷ t))

  pub distinct_around : (a : A) (s t : List A) → Distinct (s ++ (a ∷ t)) → Distinct (s ++ t) × (Among a (s ++ t) → ⊥)
  distinct_around a [] t d = (d.1, d.0)
  distinct_around a (x ∷ s) t d = let (e, f) = distinct_around a s t d.1 in ((λ m. d.0 (around_among a x s t m), e), λ m. grind (arith, among_right a s (a ∷ t)))

  -- Two lists that hold the same, each thing once, are the same up to order: what is taken from both in turn agrees.
  pub same_by_members : (F : List A → List A → Type 0) → F [] []
      → ((a : A) (l s t : List A) → F l (s ++ t) → F (a ∷ l) (s ++ (a ∷ t)))
      → (k l : List A) → Distinct k → Distinct l → ((a : A) → Among a k → Among a l) → ((a : A) → Among a l → Among a k) → F k l
  same_by_members F none more [] [] dk dl to from = none
  same_by_members F none more [] (b ∷ l) dk dl to from = absurd (from b (inl refl))
  same_by_members F none more (a ∷ k) l dk dl to from =
      let (s, t, e) = among_split a l (to a (inl refl)) in
      let (d, out) = distinct_around a s t (subst Distinct e dl) in
      subst (F (a ∷ k)) (sym e) (more a k s t (same_by_members F none more k (s ++ t) dk.1 d
      (λ b m. ⊎_elim (λ h. absurd (dk.0 (subst (λ (y : A). Among y k) h m))) (λ h. h) (among_around a b s t (subst (Among b) e (to b (inr m)))))
      (λ b m. ⊎_elim (λ h. absurd (out (subst (λ (y : A). Among y (s ++ t)) h m))) (λ h. h) (from b (subst (Among b) (sym e) (around_among a b s t m))))))

  pub exactly_same : (F : List A → List A → Type 0) → F [] [] → ((a : A) (l s t : List A) → F l (s ++ t) → F (a ∷ l) (s ++ (a ∷ t)))
      → {P : A → Type 0} (k l : List A) → Exactly P k → Exactly P l → F k l
  exactly_same F none more k l a b = grind (arith, same_by_members)

  -- there is one number of things of which P is true
  pub how_many_one : {P : A → Type 0} (m n : ℕ) → HowMany P m → HowMany P n → m ≡ n
  how_many_one m n (k, a, e) (l, b, f) =
      sym e
      ∙ exactly_same (λ x y. length x ≡ length y) refl
      (λ c x s t h. let p = length-append s t in let q = length-append s (c ∷ t) in omega arith)
      k l a b
      ∙ f

  pub exactly_none : {P : A → Type 0} → ((a : A) → P a → ⊥) → Exactly P []
  exactly_none none = record { sound = λ a m. absurd m; complete = none; once = tt }

  pub exactly_one : (a : A) → Exactly (λ b. b ≡ a) (a ∷ [])
  exactly_one a = record { sound = λ b. ⊎_elim (λ e. e) (λ m. absurd m); complete = λ b e. inl e; once = ((λ m. m), tt) }

  pub exactly_append : {P Q : A → Type 0} → ((a : A) → P a → Q a → ⊥) → (s t : List A) → Exactly P s → Exactly Q t → Exactly (λ a. P a ⊎ Q a) (s ++ t)
  exactly_append apart s t x y = record {
    sound = λ a m. ⊎_elim (λ i. inl (x.sound a i)) (λ i. inr (y.sound a i)) (among_cases a s t m);
    complete = λ a. ⊎_elim (λ p. among_left a s t (x.complete a p)) (λ q. among_right a s t (y.complete a q));
    once = distinct_append s t x.once y.once (λ a i j. apart a (x.sound a i) (y.sound a j));
  }

  pub exactly_like : {P Q : A → Type 0} → ((a : A) → P a → Q a) → ((a : A) → Q a → P a) → (l : List A) → Exactly P l → Exactly Q l
  exactly_like to from l e = grind arith

module _ {A B : Type 0} (f : A → B) where
  pub among_map : (a : A) (l : List A) → Among a l → Among (f a) (map f l)
  among_map a [] m = absurd m
  among_map a (x ∷ l) m = grind (arith, among_map a l)

  pub among_unmap : (b : B) (l : List A) → Among b (map f l) → (a : A) × Among a l × (b ≡ f a)
  among_unmap b [] m = absurd m
  among_unmap b (x ∷ l) (inl e) = (x, inl refl, e)
  among_unmap b (x ∷ l) (inr m) = let (a, h, e) = among_unmap b l m in (a, inr h, e)

  pub distinct_map : ((a b : A) → f a ≡ f b → a ≡ b) → (l : List A) → Distinct l → Distinct (map f l)
  distinct_map inj [] d = tt
  distinct_map inj (x ∷ l) d = (grind (arith, among_unmap (f x) l), distinct_map inj l d.1)

  pub exactly_map : ((a b : A) → f a ≡ f b → a ≡ b) → {P : A → Type 0} (l : List A) → Exactly P l → Exactly (λ b. (a : A) × P a × (b ≡ f a)) (map f l)
  exactly_map apart l x = record {
    sound = λ b m. (let (a, i, e) = among_unmap b l m in (a, x.sound a i, e));
    complete = λ b p. subst (λ c. Among c (map f l)) (sym p.2) (among_map p.0 l (x.complete p.0 p.1));
    once = distinct_map apart l x.once;
  }

-- only what the test says of the numbers below n counts
pub count_below_same : (f g : ℕ → Bool) (n : ℕ) → ((m : ℕ) → m < n → f m ≡ g m) → count_below f n ≡ count_below g n
count_below_same f g zero e = refl
count_below_same f g (suc n) e =
    ap₂ (λ (t : ℕ) (b : Bool). t + (if b then 1 else 0)) (count_below_same f g n (λ m h. e m (omega arith))) (e n (omega arith))
