-- Records that ended in one way or another.
use Rattle.std.proofs.Common.{◌≡◌, ◌≢◌, ◌⊎◌, ℕ, ◌+◌, List, [], ◌∷◌, refl, sym, ◌∙◌, inl, inr, arith}
use Rattle.std.specs.Prelude.{Option, Some, None, ◌-◌, ◌^◌, min}
use Rattle.conditions.specs.Ending.{Ending}
use Rattle.conditions.specs.Ending.TheVariants.{Off, HistoryFull, Quiet, Stuck}
use Rattle.outcome_statistics.specs.declared.ends.Ends.{Ends}
use Rattle.outcome_statistics.specs.Records.{IsCount, IsCounted, Tried}
use Rattle.outcome_statistics.specs.Findings.{AreEnded, HaveSomeEnd}

-- two counts of what is never both
count-either : {X : Type 0} (P O Q R : X → Type 0) (xs : List X) (n m : ℕ) → ((x : X) → P x → Q x → ⊥) → IsCount P O xs n → IsCount Q R xs m
    → IsCount (λ x. P x ⊎ Q x) (λ x. O x × R x) xs (n + m)
unfolding IsCount
count-either P O Q R [] n m apart one other = omega arith
count-either P O Q R (x ∷ xs) n m apart (inl one) (inl other) = absurd (apart x one.0 other.0)
count-either P O Q R (x ∷ xs) n m apart (inl one) (inr other) =
    inl (inl one.0, (one.1.0 + m, (let e = one.1.1 in omega arith), count-either P O Q R xs one.1.0 m apart one.1.2 other.1))
count-either P O Q R (x ∷ xs) n m apart (inr one) (inl other) =
    inl (inr other.0, (n + other.1.0, (let e = other.1.1 in omega arith), count-either P O Q R xs n other.1.0 apart one.1 other.1.2))
count-either P O Q R (x ∷ xs) n m apart (inr one) (inr other) = inr ((one.0, other.0), count-either P O Q R xs n m apart one.1 other.1)

either-up : (a b n m k : ℕ) → n ≡ min a (2 ^ 64 - 1) → m ≡ min b (2 ^ 64 - 1) → k ≡ min (n + m) (2 ^ 64 - 1) → k ≡ min (a + b) (2 ^ 64 - 1)
either-up a b n m k one other is = grind arith

counted-either : {X : Type 0} (P O Q R : X → Type 0) (xs : List X) (n m k : ℕ) → ((x : X) → P x → Q x → ⊥) → IsCounted P O xs n → IsCounted Q R xs m
    → k ≡ min (n + m) (2 ^ 64 - 1) → IsCounted (λ x. P x ⊎ Q x) (λ x. O x × R x) xs k
counted-either P O Q R xs n m k apart one other is =
    (one.0 + other.0, count-either P O Q R xs one.0 other.0 apart one.1 other.1, either-up one.0 other.0 n m k one.2 other.2 is)

count-as : {X : Type 0} (P O Q R : X → Type 0) (xs : List X) (n : ℕ) → ((x : X) → P x → Q x) → ((x : X) → O x → R x) → IsCount P O xs n → IsCount Q R xs n
unfolding IsCount
count-as P O Q R [] n such other count = count
count-as P O Q R (x ∷ xs) n such other (inl one) = inl (such x one.0, (one.1.0, one.1.1, count-as P O Q R xs one.1.0 such other one.1.2))
count-as P O Q R (x ∷ xs) n such other (inr one) = inr (other x one.0, count-as P O Q R xs n such other one.1)

some-end : (end : Option Ending) (e : Ending) → end ≡ Some e → end ≢ None
some-end None e is none = absurd (let t = is in cc)
some-end (Some d) e is none = absurd (let t = none in cc)

no-end : (end : Option Ending) → end ≢ Some Off → end ≢ Some HistoryFull → end ≢ Some Quiet → end ≢ Some Stuck → end ≡ None
no-end None off full quiet stuck = refl
no-end (Some Off) off full quiet stuck = absurd (off refl)
no-end (Some HistoryFull) off full quiet stuck = absurd (full refl)
no-end (Some Quiet) off full quiet stuck = absurd (quiet refl)
no-end (Some Stuck) off full quiet stuck = absurd (stuck refl)

off-full : (end : Option Ending) → end ≡ Some Off → end ≡ Some HistoryFull → ⊥
off-full end one other = let t = sym one ∙ other in cc

then-quiet : (end : Option Ending) → (end ≡ Some Off) ⊎ (end ≡ Some HistoryFull) → end ≡ Some Quiet → ⊥
then-quiet end (inl one) other = let t = sym one ∙ other in cc
then-quiet end (inr one) other = let t = sym one ∙ other in cc

then-stuck : (end : Option Ending) → ((end ≡ Some Off) ⊎ (end ≡ Some HistoryFull)) ⊎ (end ≡ Some Quiet) → end ≡ Some Stuck → ⊥
then-stuck end (inl (inl one)) other = let t = sym one ∙ other in cc
then-stuck end (inl (inr one)) other = let t = sym one ∙ other in cc
then-stuck end (inr one) other = let t = sym one ∙ other in cc

some-way : (end : Option Ending) → (((end ≡ Some Off) ⊎ (end ≡ Some HistoryFull)) ⊎ (end ≡ Some Quiet)) ⊎ (end ≡ Some Stuck) → end ≢ None
some-way end (inl (inl (inl is))) = some-end end Off is
some-way end (inl (inl (inr is))) = some-end end HistoryFull is
some-way end (inl (inr is)) = some-end end Quiet is
some-way end (inr is) = some-end end Stuck is

pub ended-all : (tried : List Tried) (ends : Ends) (two three all : ℕ) → AreEnded tried ends → two ≡ min (ends.off + ends.full) (2 ^ 64 - 1)
    → three ≡ min (two + ends.quiet) (2 ^ 64 - 1) → all ≡ min (three + ends.stuck) (2 ^ 64 - 1) → HaveSomeEnd tried all
ended-all tried ends two three all have two-is three-is all-is =
    let first = counted-either _ _ _ _ tried ends.off ends.full two (λ x. off-full x.end) have.off have.full two-is in
    let second = counted-either _ _ _ _ tried two ends.quiet three (λ x. then-quiet x.end) first have.quiet three-is in
    let third = counted-either _ _ _ _ tried three ends.stuck all (λ x. then-stuck x.end) second have.stuck all-is in
    (third.0, count-as _ _ _ _ tried third.0 (λ x. some-way x.end) (λ x others. no-end x.end others.0.0.0 others.0.0.1 others.0.1 others.1) third.1, third.2)
