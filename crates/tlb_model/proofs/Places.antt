-- What sixteen places keep: after a fill, and as their live fills are counted.
use Rattle.std.proofs.Common.{◌≡◌, ◌≢◌, add-one, ℕ, zero, suc, ◌+◌, ◌%◌, ◌<◌, ◌≤◌, min, Bool, true, false, ◌==◌, List, [], ◌∷◌, ◌++◌, length, drop, get_or, set, ltb, refl, sym, ap, ◌∙◌, Option, Some, None, arith, append-nil, append_assoc}
use Rattle.std.specs.Prelude.{filter, reverse, slice_get}
use Rattle.std.specs.Int.{bit_at}
use Rattle.std.specs.List.{refill}
use Rattle.std.proofs.lemmas.Bool.{eqb-false, eqb-true, le-ltb, lt-ltb, ltb-false, ltb-true}
use Rattle.std.proofs.lemmas.List.{get_or-set_other, get_or-set_same, length-append, reverse-append, take-append-le, take_all}
use Rattle.std.proofs.lemmas.Nat.Bits.{bit_at-lt}
use Rattle.tlb_model.specs.declared.cache.Numbered.{Numbered}
use Rattle.tlb_model.specs.Contents.{Contents, filled, is_young}
use Rattle.tlb_model.specs.Inside.Places.{AreTagged, kept, seen}

-- an item of a list written over, and one more at its end
module _ {E : Type 0} where
  pub get-set_here : (xs : List E) (i : ℕ) (x : E) → i < length xs → slice_get (set xs i x) i ≡ Some x
  get-set_here [] i x below = absurd (omega arith)
  get-set_here (y ∷ xs) zero x below = refl
  get-set_here (y ∷ xs) (suc i) x below = get-set_here xs i x (omega arith)

  pub get-set_other : (xs : List E) (i : ℕ) (x : E) (j : ℕ) → j ≢ i → slice_get (set xs i x) j ≡ slice_get xs j
  get-set_other [] i x j other = refl
  get-set_other (y ∷ xs) zero x zero other = absurd (other refl)
  get-set_other (y ∷ xs) zero x (suc j) other = refl
  get-set_other (y ∷ xs) (suc i) x zero other = refl
  get-set_other (y ∷ xs) (suc i) x (suc j) other = get-set_other xs i x j (λ e. other (ap suc e))

  pub get-append_here : (xs : List E) (x : E) → slice_get (xs ++ x ∷ []) (length xs) ≡ Some x
  get-append_here [] x = refl
  get-append_here (y ∷ xs) x = get-append_here xs x

  pub get-append_other : (xs : List E) (x : E) (j : ℕ) → j ≢ length xs → slice_get (xs ++ x ∷ []) j ≡ slice_get xs j
  get-append_other [] x zero other = absurd (other refl)
  get-append_other [] x (suc j) other = refl
  get-append_other (y ∷ xs) x zero other = refl
  get-append_other (y ∷ xs) x (suc j) other = get-append_other xs x j (λ e. other (ap suc e))

  -- the item at a place
  record At (xs : List E) (i : ℕ) : Type 0 where
    item : E
    here : slice_get xs i ≡ Some item

  at : (xs : List E) (i : ℕ) → i < length xs → At xs i
  at [] i below = absurd (omega arith)
  at (x ∷ xs) zero below = record { item = x; here = refl }
  at (x ∷ xs) (suc i) below = let next = at xs i (omega arith) in record { item = next.item; here = next.here }

  pub below_length : (xs : List E) (i : ℕ) (x : E) → slice_get xs i ≡ Some x → i < length xs
  below_length [] i x here = cc
  below_length (y ∷ xs) zero x here = omega arith
  below_length (y ∷ xs) (suc i) x here = let l = below_length xs i x here in omega arith

  -- no two items stand in one place
  some_same : (x y : E) → Some x ≡ Some y → x ≡ y
  some_same x y e = ap item_of e
    where
      item_of : Option E → E
      item_of None = x
      item_of (Some z) = z

  pub same_place : {B : Type 0} (q : E → B) (places : List E) (i j : ℕ) (x y : E) → i ≡ j → slice_get places i ≡ Some x → slice_get places j ≡ Some y → q x ≡ q y
  same_place q places i j x y e here there = ap q (some_same x y (sym here ∙ ap (slice_get places) e ∙ there))

  -- a fill's tag comes to its place
  pub tagged-filled : (tag : E → ℕ) (places others : List E) (tags : List ℕ) (place new : ℕ) (item : E) → AreTagged tag places tags → place < length tags → new ≡ tag item
      → slice_get others place ≡ Some item → ((j : ℕ) → j ≢ place → slice_get others j ≡ slice_get places j) → AreTagged tag others (set tags place new)
  tagged-filled tag places others tags place new item before below is here same = λ j x there. by_place j x there (j == place) refl
    where
      by_place : (j : ℕ) (x : E) → slice_get others j ≡ Some x → (b : Bool) → (j == place) ≡ b → get_or (set tags place new) j 0 ≡ tag x
      by_place j x there true at =
          let e = eqb-true j place at in
          ap (λ q. get_or (set tags place new) q 0) e ∙ get_or-set_same tags place new 0 below ∙ is ∙ same_place tag others place j item x (sym e) here there
      by_place j x there false at =
          let other = eqb-false j place at in
          get_or-set_other tags place j new 0 other ∙ before j x (sym (same j other) ∙ there)

module _ {E : Type 0} where
  length-kept : (place : Option E) (is_dropped : Bool) (date number : ℕ) → length (kept place is_dropped date number) ≤ 1
  length-kept (Some item) false date number = omega arith
  length-kept (Some item) true date number = omega arith
  length-kept None is_dropped date number = omega arith

  pub length-seen : (n k : ℕ) (places : List E) (ds : List ℕ) (d : ℕ) → length (seen n k places ds d) ≤ k
  length-seen zero k places ds d = omega arith
  length-seen (suc n) zero places ds d = omega arith
  length-seen (suc n) (suc k) places ds d =
      let one = length-kept (slice_get places (n % 16)) (bit_at d (n % 16) == 1) (get_or ds (n % 16) 0) n in
      let rest = length-seen n k places ds d in
      omega (arith, one, rest, length-append (kept (slice_get places (n % 16)) (bit_at d (n % 16) == 1) (get_or ds (n % 16) 0) n) (seen n k places ds d))

  pub seen-none : (n : ℕ) (places : List E) (ds : List ℕ) (d : ℕ) → seen n 0 places ds d ≡ []
  seen-none zero places ds d = refl
  seen-none (suc n) places ds d = refl

  -- there are no more fills than were made
  pub seen-all : (n k j : ℕ) (places : List E) (ds : List ℕ) (d : ℕ) → n ≤ k → n ≤ j → seen n k places ds d ≡ seen n j places ds d
  seen-all zero k j places ds d few many = refl
  seen-all (suc n) zero j places ds d few many = absurd (omega arith)
  seen-all (suc n) (suc k) zero places ds d few many = absurd (omega arith)
  seen-all (suc n) (suc k) (suc j) places ds d few many =
      ap (λ rest. kept (slice_get places (n % 16)) (bit_at d (n % 16) == 1) (get_or ds (n % 16) 0) n ++ rest) (seen-all n k j places ds d (omega arith) (omega arith))

  pub seen-room : (n : ℕ) (places : List E) (ds : List ℕ) (d : ℕ) → length places ≡ min 16 n → seen n (length places) places ds d ≡ seen n 16 places ds d
  seen-room n places ds d full = by_room (ltb n 16) refl
    where
      by_room : (b : Bool) → ltb n 16 ≡ b → seen n (length places) places ds d ≡ seen n 16 places ds d
      by_room true few = let below = ltb-true n 16 few in seen-all n (length places) 16 places ds d (omega (arith, full)) (omega arith)
      by_room false many = let above = ltb-false n 16 many in ap (λ k. seen n k places ds d) (omega (arith, full))

  -- where all are dropped none is kept
  pub seen-dropped : (n k : ℕ) (places : List E) (ds : List ℕ) (d : ℕ) → ((i : ℕ) → i < 16 → bit_at d i ≡ 1) → seen n k places ds d ≡ []
  seen-dropped zero k places ds d all = refl
  seen-dropped (suc n) zero places ds d all = refl
  seen-dropped (suc n) (suc k) places ds d all =
      ap (λ b. kept (slice_get places (n % 16)) (b == 1) (get_or ds (n % 16) 0) n ++ seen n k places ds d) (all (n % 16) (omega arith))
      ∙ gone (slice_get places (n % 16)) ∙ seen-dropped n k places ds d all
    where
      gone : (place : Option E) → kept place true (get_or ds (n % 16) 0) n ++ seen n k places ds d ≡ seen n k places ds d
      gone (Some item) = refl
      gone None = refl

  -- what stands elsewhere stays
  seen-elsewhere : (m n k : ℕ) (places others : List E) (ds es : List ℕ) (d w : ℕ) → n ≤ m → k + m < n + 16
      → ((i : ℕ) → i ≢ m % 16 → slice_get others i ≡ slice_get places i) → ((i : ℕ) → i ≢ m % 16 → get_or es i 0 ≡ get_or ds i 0)
      → ((i : ℕ) → i < 16 → i ≢ m % 16 → bit_at w i ≡ bit_at d i)
      → seen n k others es w ≡ seen n k places ds d
  seen-elsewhere m zero k places others ds es d w up near same days bits = refl
  seen-elsewhere m (suc n) zero places others ds es d w up near same days bits = refl
  seen-elsewhere m (suc n) (suc k) places others ds es d w up near same days bits =
      ap (λ place. kept place (bit_at w (n % 16) == 1) (get_or es (n % 16) 0) n ++ seen n k others es w) (same (n % 16) (λ e. apart e))
      ∙ ap (λ day. kept (slice_get places (n % 16)) (bit_at w (n % 16) == 1) day n ++ seen n k others es w) (days (n % 16) (λ e. apart e))
      ∙ ap (λ b. kept (slice_get places (n % 16)) (b == 1) (get_or ds (n % 16) 0) n ++ seen n k others es w) (bits (n % 16) (omega arith) (λ e. apart e))
      ∙ ap (λ rest. kept (slice_get places (n % 16)) (bit_at d (n % 16) == 1) (get_or ds (n % 16) 0) n ++ rest)
      (seen-elsewhere m n k places others ds es d w (omega arith) (omega arith) same days bits)
    where
      apart : n % 16 ≢ m % 16
      apart e = omega arith

  -- fifteen fills outlive the next one, and the sixteenth doesn't
  seen-young : (m n k : ℕ) (places : List E) (ds : List ℕ) (d : ℕ) → n ≤ m → k + m ≡ n + 15 → filter (is_young m) (seen n (suc k) places ds d) ≡ seen n k places ds d
  seen-young m zero k places ds d up near = refl
  seen-young m (suc n) zero places ds d up near =
      let old : ltb m (n + 16) ≡ false = le-ltb m (n + 16) (omega arith) in
      ap (λ rest. filter (is_young m) (kept (slice_get places (n % 16)) (bit_at d (n % 16) == 1) (get_or ds (n % 16) 0) n ++ rest)) (seen-none n places ds d)
      ∙ out (slice_get places (n % 16)) (bit_at d (n % 16) == 1) old
    where
      out : (place : Option E) (is_dropped : Bool) → ltb m (n + 16) ≡ false → filter (is_young m) (kept place is_dropped (get_or ds (n % 16) 0) n ++ []) ≡ []
      out (Some item) false old = rw old refl
      out (Some item) true old = refl
      out None is_dropped old = refl
  seen-young m (suc n) (suc k) places ds d up near =
      stays (slice_get places (n % 16)) (bit_at d (n % 16) == 1) (lt-ltb m (n + 16) (omega arith)) (seen-young m n k places ds d (omega arith) (omega arith))
    where
      stays : (place : Option E) (is_dropped : Bool) → ltb m (n + 16) ≡ true → filter (is_young m) (seen n (suc k) places ds d) ≡ seen n k places ds d
          → filter (is_young m) (kept place is_dropped (get_or ds (n % 16) 0) n ++ seen n (suc k) places ds d) ≡ kept place is_dropped (get_or ds (n % 16) 0) n ++ seen n k places ds d
      stays (Some item) false young rest = rw young (ap (λ zs. record { date = get_or ds (n % 16) 0; number = n; item = item } ∷ zs) rest)
      stays (Some item) true young rest = rest
      stays None is_dropped young rest = rest

  -- a fill comes to its place, and the one sixteen before it goes
  pub seen-filled : (n : ℕ) (places others : List E) (ds es : List ℕ) (d w date : ℕ) (item : E) → slice_get others (n % 16) ≡ Some item → get_or es (n % 16) 0 ≡ date
      → bit_at w (n % 16) ≡ 0
      → ((i : ℕ) → i ≢ n % 16 → slice_get others i ≡ slice_get places i) → ((i : ℕ) → i ≢ n % 16 → get_or es i 0 ≡ get_or ds i 0)
      → ((i : ℕ) → i < 16 → i ≢ n % 16 → bit_at w i ≡ bit_at d i)
      → seen (suc n) 16 others es w ≡ record { date = date; number = n; item = item } ∷ filter (is_young n) (seen n 16 places ds d)
  seen-filled n places others ds es d w date item here day clear same days bits =
      let rest : seen n 15 others es w ≡ filter (is_young n) (seen n 16 places ds d) =
      seen-elsewhere n n 15 places others ds es d w (omega arith) (omega arith) same days bits ∙ sym (seen-young n n 15 places ds d (omega arith) (omega arith)) in
      ap (λ b. kept (slice_get others (n % 16)) (b == 1) (get_or es (n % 16) 0) n ++ seen n 15 others es w) clear
      ∙ ap (λ place. kept place false (get_or es (n % 16) 0) n ++ seen n 15 others es w) here
      ∙ ap (λ q. kept (Some item) false q n ++ seen n 15 others es w) day
      ∙ ap (λ zs. record { date = date; number = n; item = item } ∷ zs) rest

  -- one fill more, older than the others
  pub seen-more : (n k m : ℕ) (places : List E) (ds : List ℕ) (d : ℕ) → m + suc k ≡ n
      → seen n (suc k) places ds d ≡ seen n k places ds d ++ kept (slice_get places (m % 16)) (bit_at d (m % 16) == 1) (get_or ds (m % 16) 0) m
  seen-more zero k m places ds d last = absurd (omega arith)
  seen-more (suc n) zero m places ds d last =
      let same : n ≡ m = omega arith in
      ap (λ rest. kept (slice_get places (n % 16)) (bit_at d (n % 16) == 1) (get_or ds (n % 16) 0) n ++ rest) (seen-none n places ds d)
      ∙ append-nil (kept (slice_get places (n % 16)) (bit_at d (n % 16) == 1) (get_or ds (n % 16) 0) n)
      ∙ ap (λ i. kept (slice_get places (i % 16)) (bit_at d (i % 16) == 1) (get_or ds (i % 16) 0) i) same
  seen-more (suc n) (suc k) m places ds d last =
      ap (λ rest. kept (slice_get places (n % 16)) (bit_at d (n % 16) == 1) (get_or ds (n % 16) 0) n ++ rest) (seen-more n k m places ds d (omega arith))
      ∙ sym (append_assoc (kept (slice_get places (n % 16)) (bit_at d (n % 16) == 1) (get_or ds (n % 16) 0) n) (seen n k places ds d)
      (kept (slice_get places (m % 16)) (bit_at d (m % 16) == 1) (get_or ds (m % 16) 0) m))

  -- two contents with equal parts
  pub same_contents : (n m : ℕ) (xs ys : List (Numbered E)) → n ≡ m → xs ≡ ys → (let a : Contents E = record { next = n; live = xs } in a) ≡ record { next = m; live = ys }
  same_contents n m xs ys e k = cc

  pub filled-contents : (n : ℕ) (places others : List E) (ds es : List ℕ) (d w date : ℕ) (item : E) → slice_get others (n % 16) ≡ Some item → get_or es (n % 16) 0 ≡ date
      → bit_at w (n % 16) ≡ 0
      → ((i : ℕ) → i ≢ n % 16 → slice_get others i ≡ slice_get places i) → ((i : ℕ) → i ≢ n % 16 → get_or es i 0 ≡ get_or ds i 0)
      → ((i : ℕ) → i < 16 → i ≢ n % 16 → bit_at w i ≡ bit_at d i)
      → (let a : Contents E = record { next = n + 1; live = seen (n + 1) 16 others es w } in a) ≡ filled (record { next = n; live = seen n 16 places ds d }) date item
  filled-contents n places others ds es d w date item here day clear same days bits =
      same_contents (n + 1) (n + 1) (seen (n + 1) 16 others es w) (record { date = date; number = n; item = item } ∷ filter (is_young n) (seen n 16 places ds d)) refl
      (ap (λ m. seen m 16 others es w) (add-one n) ∙ seen-filled n places others ds es d w date item here day clear same days bits)

  -- a list whose items were all written
  pub refill-same : (xs ws : List E) → length ws ≡ length xs → refill (length xs) xs ws ≡ ws
  refill-same xs ws long = take-append-le (length xs) ws (drop (length ws) xs) (omega arith) ∙ take_all (length xs) ws (omega arith)

  -- what is left to show, from the oldest on: the fill of this number first, or not where it was dropped
  pub live-first : (n k m : ℕ) (places : List E) (ds : List ℕ) (d : ℕ) (item : E) → m + suc k ≡ n → slice_get places (m % 16) ≡ Some item → bit_at d (m % 16) ≡ 0
      → reverse (seen n (suc k) places ds d) ≡ record { date = get_or ds (m % 16) 0; number = m; item = item } ∷ reverse (seen n k places ds d)
  live-first n k m places ds d item last here even =
      ap reverse (seen-more n k m places ds d last ∙ ap (λ place. seen n k places ds d ++ kept place (bit_at d (m % 16) == 1) (get_or ds (m % 16) 0) m) here
      ∙ ap (λ bit. seen n k places ds d ++ kept (Some item) (bit == 1) (get_or ds (m % 16) 0) m) even)
      ∙ reverse-append (seen n k places ds d) (record { date = get_or ds (m % 16) 0; number = m; item = item } ∷ [])

  pub live-past : (n k m : ℕ) (places : List E) (ds : List ℕ) (d : ℕ) → m + suc k ≡ n → bit_at d (m % 16) ≢ 0 → seen n (suc k) places ds d ≡ seen n k places ds d
  live-past n k m places ds d last odd =
      let one : bit_at d (m % 16) ≡ 1 = one_of (m % 16) odd in
      seen-more n k m places ds d last ∙ ap (λ bit. seen n k places ds d ++ kept (slice_get places (m % 16)) (bit == 1) (get_or ds (m % 16) 0) m) one
      ∙ ap (λ zs. seen n k places ds d ++ zs) (gone (slice_get places (m % 16))) ∙ append-nil (seen n k places ds d)
    where
      one_of : (i : ℕ) → bit_at d i ≢ 0 → bit_at d i ≡ 1
      one_of i other = omega (arith, other, bit_at-lt d i)

      gone : (place : Option E) → kept place true (get_or ds (m % 16) 0) m ≡ []
      gone (Some item) = refl
      gone None = refl

  pub count-more : (n k m : ℕ) (places : List E) (ds : List ℕ) (d : ℕ) → m + suc k ≡ n → length places ≡ min 16 n → bit_at d (m % 16) ≡ 0
      → length (seen n (suc k) places ds d) ≡ length (seen n k places ds d) + 1
  count-more n k m places ds d last full even =
      let x = at places (m % 16) (omega (arith, full)) in
      ap length (seen-more n k m places ds d last ∙ ap (λ place. seen n k places ds d ++ kept place (bit_at d (m % 16) == 1) (get_or ds (m % 16) 0) m) x.here
      ∙ ap (λ bit. seen n k places ds d ++ kept (Some x.item) (bit == 1) (get_or ds (m % 16) 0) m) even)
      ∙ length-append (seen n k places ds d) (record { date = get_or ds (m % 16) 0; number = m; item = x.item } ∷ [])

pub eq_holds : (x y : ℕ) → (x == y) ≡ true → x ≡ y
eq_holds x y same = eqb-true x y same

pub eq_fails : (x y : ℕ) → (x == y) ≡ false → x ≢ y
eq_fails x y differ = eqb-false x y differ
