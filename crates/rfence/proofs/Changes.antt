-- What a turn does to caches, by place.
use Rattle.std.proofs.Common.{◌≡◌, ◌≢◌, ℕ, ◌+◌, ◌<◌, ◌≤◌, suc, zero, List, [], ◌∷◌, ◌++◌, length, drop, get_or, set, map, replicate, take, refl, sym, ap, ◌∙◌, arith}
use Rattle.std.proofs.lemmas.List.{append-nil, drop_all, get_or_default, length-append, length-drop, length-map, length-replicate, length-take, take_all}
use Rattle.std.proofs.lemmas.List.Edits.{map_over_more}
use Rattle.rfence.specs.Effects.{changed_at, changed_from}

module _ {C : Type 0} where
  -- a member that is written as it is to be changed
  pub set-changed : (change : C → C) (xs : List C) (t : ℕ) (d y : C) → t < length xs → y ≡ change (get_or xs t d) → set xs t y ≡ changed_at change xs t
  set-changed change [] t d y inside is = absurd (omega arith)
  set-changed change (c ∷ xs) zero d y inside is = ap (λ z. z ∷ xs) is
  set-changed change (c ∷ xs) (suc t) d y inside is = ap (λ rest. c ∷ rest) (set-changed change xs t d y (omega arith) is)

  -- a loop that changes each member has changed one more
  pub mapped-more : (f : C → C) (xs ys : List C) (i : ℕ) (d y : C) → i < length xs → ys ≡ map f (take i xs) ++ drop i xs → y ≡ f (get_or ys i d)
      → set ys i y ≡ map f (take (i + 1) xs) ++ drop (i + 1) xs
  mapped-more f xs ys i d y inside so_far is =
      let long = ap length so_far in
      let inside_all : i < length ys = omega (arith, long, length-append (map f (take i xs)) (drop i xs), length-map (take i xs) f, length-take i xs, length-drop i xs) in
      ap (set ys i) is ∙ map_over_more f xs ys i (get_or ys i d) inside so_far (get_or_default ys i d (get_or ys i d) inside_all)

  -- a loop that writes each member has written one more
  pub written-more : (xs : List C) (i : ℕ) (x : C) → i < length xs → set (replicate i x ++ drop i xs) i x ≡ replicate (suc i) x ++ drop (suc i) xs
  written-more [] i x inside = absurd (omega arith)
  written-more (y ∷ ys) zero x inside = refl
  written-more (y ∷ ys) (suc i) x inside = ap (λ rest. x ∷ rest) (written-more ys i x (omega arith))

  -- and at its end all are what was written
  pub written-all : (y : C) (xs lent ys : List C) (i n : ℕ) → lent ≡ xs → ys ≡ replicate i y ++ drop i lent → length lent ≤ i → i ≤ length lent → n ≡ length xs
      → take n (ys ++ drop (length ys) xs) ≡ replicate (length xs) y
  written-all y xs lent ys i n is so_far past within whole =
      let end : i ≡ length xs = omega (arith, ap length is, past, within) in
      let all : ys ≡ replicate (length xs) y =
      so_far ∙ ap (λ l. replicate i y ++ drop i l) is ∙ ap (λ j. replicate j y ++ drop j xs) end
      ∙ ap (λ rest. replicate (length xs) y ++ rest) (drop_all (length xs) xs (omega arith)) ∙ append-nil (replicate (length xs) y) in
      let long = ap length all ∙ length-replicate (length xs) y in
      ap (λ rest. take n (ys ++ rest)) (drop_all (length ys) xs (omega (arith, long))) ∙ ap (take n) (append-nil ys) ∙ take_all n ys (omega (arith, long, whole)) ∙ all

  -- nothing is changed from here on
  pub changed-none : (change : ℕ → C → C) (a : ℕ) (xs : List C) → ((t : ℕ) (x : C) → a < t + 1 → change t x ≡ x) → changed_from change a xs ≡ xs
  changed-none change a [] same = refl
  changed-none change a (x ∷ xs) same =
      ap (λ y. y ∷ changed_from change (a + 1) xs) (same a x (omega arith))
      ∙ ap (λ rest. x ∷ rest) (changed-none change (a + 1) xs (λ t y far. same t y (omega arith)))

  -- one is changed, and the others stay
  pub changed-one : (change : ℕ → C → C) (one : C → C) (a k t : ℕ) (xs : List C) → a + k ≡ t → ((x : C) → change t x ≡ one x)
      → ((j : ℕ) (x : C) → j ≢ t → change j x ≡ x) → changed_at one xs k ≡ changed_from change a xs
  changed-one change one a k t [] place here others = refl
  changed-one change one a zero t (x ∷ xs) place here others =
      let at : t ≡ a = omega arith in
      sym (ap (λ y. y ∷ changed_from change (a + 1) xs) (ap (λ j. change j x) (sym at) ∙ here x)
      ∙ ap (λ rest. one x ∷ rest) (changed-none change (a + 1) xs (λ j y far. others j y (λ same. absurd (omega arith)))))
  changed-one change one a (suc k) t (x ∷ xs) place here others =
      ap (λ rest. x ∷ rest) (changed-one change one (a + 1) k t xs (omega arith) here others)
      ∙ sym (ap (λ y. y ∷ changed_from change (a + 1) xs) (others a x (λ same. absurd (omega arith))))

  -- all are changed alike
  pub changed-all : (change : ℕ → C → C) (one : C → C) (a : ℕ) (xs : List C) → ((t : ℕ) (x : C) → change t x ≡ one x) → map one xs ≡ changed_from change a xs
  changed-all change one a [] here = refl
  changed-all change one a (x ∷ xs) here =
      ap (λ y. y ∷ map one xs) (sym (here a x)) ∙ ap (λ rest. change a x ∷ rest) (changed-all change one (a + 1) xs here)
