-- When two actors are one, and their numbers.
use Rattle.std.proofs.Common.{◌≡◌, ◌≢◌, ℕ, zero, suc, ◌+◌, ◌<◌, ◌≤◌, true, false, List, [], ◌∷◌, ◌++◌, length, map, refl, ap, ◌∙◌, arith}
use Rattle.std.specs.Prelude.{Some, nat_lt, slice_get}
use Rattle.std.specs.List.{filter, range_with_len}
use Rattle.std.proofs.lemmas.Bool.{le-ltb, lt-ltb}
use Rattle.hart_mask.specs.Ids.{ids_below, ids_where}
use Rattle.board_terms.specs.declared.config.Config.{Config}
use Rattle.board_terms.specs.declared.op.Actor.{Actor}
use Rattle.board_terms.specs.declared.op.Actor.TheVariants.{Hart, Clock}
use Rattle.board_lock.specs.Events.{IsActor, is_same}
use Rattle.board_lock.specs.Inside.Bells.{actors}
use Rattle.board_lock.specs.Inside.Kept.{number_of}

pub same-itself : (a : Actor) → is_same a a ≡ true
same-itself (Hart h) = grind arith
same-itself Clock = refl

pub same-is : (a b : Actor) → is_same a b ≡ true → a ≡ b
same-is (Hart h) (Hart n) same = let e : h ≡ n = grind (arith, same) in ap Hart e
same-is (Hart h) Clock same = absurd (let e = same in cc)
same-is Clock (Hart n) same = absurd (let e = same in cc)
same-is Clock Clock same = refl

-- actors of one number are one
pub number-tells : (c : Config) (a b : Actor) → IsActor c a → IsActor c b → is_same a b ≡ false → number_of c a ≢ number_of c b
number-tells c (Hart h) (Hart n) left right other = λ (e : h ≡ n). absurd (grind (arith, other, e))
number-tells c (Hart h) Clock left right other = λ (e : h ≡ c.harts). absurd (omega arith)
number-tells c Clock (Hart n) left right other = λ (e : c.harts ≡ n). absurd (omega arith)
number-tells c Clock Clock left right other = absurd (let e = other in cc)

pub number-within : (c : Config) (a : Actor) → IsActor c a → number_of c a < c.harts + 1
number-within c (Hart h) acting = omega arith
number-within c Clock acting = omega arith

-- ---- the list of all actors

hart-at : (from many k : ℕ) (rest : List Actor) → k < many → slice_get (map Hart (range_with_len from many) ++ rest) k ≡ Some (Hart (from + k))
hart-at from zero k rest low = absurd (omega arith)
hart-at from (suc many) zero rest low = let same : from ≡ from + 0 = omega arith in ap (λ (h : ℕ). Some (Hart h)) same
hart-at from (suc many) (suc k) rest low =
    let same : (from + 1) + k ≡ from + suc k = omega arith in
    hart-at (from + 1) many k rest (omega arith) ∙ ap (λ (h : ℕ). Some (Hart h)) same

behind : (from many : ℕ) (a : Actor) → slice_get (map Hart (range_with_len from many) ++ a ∷ []) many ≡ Some a
behind from zero a = refl
behind from (suc many) a = behind (from + 1) many a

-- each actor stands at its number
pub actor-at : (c : Config) (a : Actor) → IsActor c a → slice_get (actors c.harts) (number_of c a) ≡ Some a
actor-at c (Hart h) acting =
    let same : 0 + h ≡ h = omega arith in
    hart-at 0 c.harts h (Clock ∷ []) acting ∙ ap (λ (n : ℕ). Some (Hart n)) same
actor-at c Clock acting = behind 0 c.harts Clock

long-from : (from many : ℕ) (rest : List Actor) → length (map Hart (range_with_len from many) ++ rest) ≡ many + length rest
long-from from zero rest = omega arith
long-from from (suc many) rest = let more = long-from (from + 1) many rest in omega arith

pub actors-long : (harts : ℕ) → length (actors harts) ≡ harts + 1
actors-long harts = long-from 0 harts (Clock ∷ [])

-- ---- the harts below a number, as a set and as a range

none-from : (n a many : ℕ) → n ≤ a → filter (λ i. nat_lt i n) (range_with_len a many) ≡ []
none-from n a zero high = refl
none-from n a (suc many) high = rw (le-ltb a n high) (none-from n (a + 1) many (omega arith))

all-to : (a k many : ℕ) → k ≤ many → filter (λ i. nat_lt i (a + k)) (range_with_len a many) ≡ range_with_len a k
all-to a zero many low = none-from (a + 0) a many (omega arith)
all-to a (suc k) zero low = absurd (omega arith)
all-to a (suc k) (suc many) low =
    let on : a + suc k ≡ (a + 1) + k = omega arith in
    rw (lt-ltb a (a + suc k) (omega arith)) (ap (λ (ids : List ℕ). a ∷ ids) (ap (λ (n : ℕ). filter (λ i. nat_lt i n) (range_with_len (a + 1) many)) on ∙ all-to (a + 1) k many (omega arith)))

pub ids-in-order : (n : ℕ) → n ≤ 128 → ids_below n ≡ range_with_len 0 n
unfolding ids_where
ids-in-order n small =
    let same : n ≡ 0 + n = omega arith in
    ap (λ (k : ℕ). filter (λ i. nat_lt i k) (range_with_len 0 128)) same ∙ all-to 0 n 128 small
