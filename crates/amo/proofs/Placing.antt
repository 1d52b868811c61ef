-- A part in its word: what the code computes fits, and is what it would be without limits.
use Rattle.std.proofs.Common.{◌≡◌, ℕ, ◌+◌, ◌-◌, ◌*◌, ◌/◌, ◌%◌, ◌^◌, ◌<◌, ◌≤◌, sym, ap, ◌∙◌, subst, arith}
use Rattle.std.proofs.lemmas.Nat.{mod_below, mul-add-lt, mul-le, pow-add, pow_pos, shl_whole, shr-shr, shr_below}

-- k bits, with j bits above them
pub cat_below : (a b j k : ℕ) → a < 2 ^ j → b < 2 ^ k → a * 2 ^ k + b < 2 ^ (k + j)
cat_below a b j k high low = subst (λ n. a * 2 ^ k + b < n) (sym (pow-add 2 k j)) (mul-add-lt a (2 ^ k) b (2 ^ j) high low)

module _ (word value s b : ℕ) (inside : word < 2 ^ 64) (fits : s + b ≤ 64) where
  abbrev left : ℕ
  left = 64 - s - b

  parted : 64 ≡ left + (s + b)
  parted = omega (arith, fits)

  above : word / 2 ^ s / 2 ^ b < 2 ^ left
  above = subst (λ n. n < 2 ^ left) (sym (shr-shr word s b)) (shr_below word left (s + b) (subst (λ k. word < 2 ^ k) parted inside))

  pub above_whole : word / 2 ^ s / 2 ^ b * 2 ^ b % 2 ^ 64 ≡ word / 2 ^ s / 2 ^ b * 2 ^ b
  above_whole = shl_whole (word / 2 ^ s / 2 ^ b) left b 64 above (omega (arith, fits))

  -- the part and the bits above it
  abbrev upper : ℕ
  upper = word / 2 ^ s / 2 ^ b * 2 ^ b + value % 2 ^ b

  upper_below : upper < 2 ^ (b + left)
  upper_below = cat_below (word / 2 ^ s / 2 ^ b) (value % 2 ^ b) left b above (mod_below value (2 ^ b) (pow_pos b))

  pub upper_fits : upper < 2 ^ 64
  upper_fits =
      let room : 2 ^ (b + left) * 1 ≤ 2 ^ (b + left) * 2 ^ s = mul-le (2 ^ (b + left)) 1 (2 ^ (b + left)) (2 ^ s) (omega arith) (omega (arith, pow_pos s)) in
      let joined : b + left + s ≡ 64 = omega (arith, fits) in
      let all : 2 ^ (b + left) * 2 ^ s ≡ 2 ^ 64 = sym (pow-add 2 (b + left) s) ∙ ap (λ k. 2 ^ k) joined in
      omega (arith, upper_below, room, all)

  pub upper_whole : upper * 2 ^ s % 2 ^ 64 ≡ upper * 2 ^ s
  upper_whole = shl_whole upper (b + left) s 64 upper_below (omega (arith, fits))

  pub all_fit : upper * 2 ^ s + word % 2 ^ s < 2 ^ 64
  all_fit =
      let joined : s + (b + left) ≡ 64 = omega (arith, fits) in
      subst (λ k. upper * 2 ^ s + word % 2 ^ s < 2 ^ k) joined (cat_below upper (word % 2 ^ s) (b + left) s upper_below (mod_below word (2 ^ s) (pow_pos s)))
