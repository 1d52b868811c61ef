-- The count of applied fences is that of the fences of calls that were applied.
use Rattle.std.proofs.Common.{◌≡◌, ℕ, ◌+◌, ◌<◌, ◌≤◌, Bool, true, false, List, [], ◌∷◌, ◌++◌, length, take, map, refl, sym, ap, ◌∙◌, arith}
use Rattle.std.specs.Prelude.{◌==◌, ◌&&◌, if◌then◌else◌, Option, Some, None}
use Rattle.std.specs.List.{count_by}
use Rattle.std.proofs.lemmas.Bool.{eq-eqb, ne_eqb}
use Rattle.std.proofs.lemmas.List.{length-take}
use Rattle.std.proofs.lemmas.List.Sums.{sum_by-append, sum_by-cons}
use Rattle.hart_mask.specs.Ids.{ids_where}
use Rattle.rfence.specs.declared.opened.FenceCall.{FenceCall}
use Rattle.rfence.specs.Opening.{Asked, IsOf, Opening, place_after}
use Rattle.rfence.specs.Turns.{Turn, Ask, Own, Serve, Poll, Stop, Reset, Quiet}
use Rattle.rfence.specs.Waiting.{waiting}
use Rattle.rfence.specs.Applied.{Applied, applied, applied_at, applied_by}
use Rattle.rfence.specs.Calls.{open_by, open_call}
use Rattle.rfence.specs.Cuts.{place_of}
use Rattle.rfence.specs.Right.{IsRight, IsRightTurn}
use Rattle.rfence.specs.State.{applied_in, total_applied}
use Rattle.rfence.specs.Laws.{is_local, is_remote, total_remote}
use Rattle.rfence.proofs.Callers.{AreOpen, open-below, sound}
use Rattle.rfence.proofs.Totals.{is-sum, one_if, queues-sum, sum-agree, sum-but-one, sum-none, sum-plus, sum_from}

-- a sum of one member
sum-one : (f : ℕ → ℕ) (n x : ℕ) → x < n → ((t : ℕ) → (t ≡ x → ⊥) → f t ≡ 0) → sum_from f 0 n ≡ f x
sum-one f n x inside none = omega (arith, sum-but-one f (λ t. 0) 0 n x (omega arith) (omega arith) none, sum-none 0 n)

module _ {F : Type 0} where
  -- a fence that is applied by the turn that asks it
  abbrev at_once : (place : ℕ) → F → Applied F
  at_once place flush = record { place = place; at = place; flush = flush }

  -- the places of fences are below a limit
  abbrev AreBelow : (limit : ℕ) → List (Applied F) → Type 0
  AreBelow limit [] = Unit
  AreBelow limit (fence ∷ rest) = (fence.place < limit) × AreBelow limit rest

  below-more : (limit more : ℕ) (fences : List (Applied F)) → limit ≤ more → AreBelow limit fences → AreBelow more fences
  below-more limit more [] large are = tt
  below-more limit more (fence ∷ rest) large are = (omega (arith, are.0), below-more limit more rest large are.1)

  below-append : (limit : ℕ) (some others : List (Applied F)) → AreBelow limit some → AreBelow limit others → AreBelow limit (some ++ others)
  below-append limit [] others are also = also
  below-append limit (fence ∷ rest) others are also = (are.0, below-append limit rest others are.1 also)

module _ {F : Type 0} (o : Opening F) where
  abbrev remote : List (Turn F) → List (Applied F) → ℕ
  remote turns fences = count_by (is_remote o turns) fences

  remote-cons : (turns : List (Turn F)) (fence : Applied F) (rest : List (Applied F)) (is : Bool) → is_local o turns fence.place ≡ is
      → remote turns (fence ∷ rest) ≡ (if is then 0 else 1) + remote turns rest
  remote-cons turns fence rest true is = sum_by-cons (λ (it : Applied F). one_if (is_remote o turns it)) fence rest ∙ rw is refl
  remote-cons turns fence rest false is = sum_by-cons (λ (it : Applied F). one_if (is_remote o turns it)) fence rest ∙ rw is refl

  -- a newer turn leaves older places as they are
  local-older : (turn : Turn F) (turns : List (Turn F)) (place : ℕ) → place < place_after o turns → is_local o (turn ∷ turns) place ≡ is_local o turns place
  local-older turn turns place low = rw (ne_eqb place (place_after o turns) (λ e. absurd (omega arith))) refl

  remote-older : (turn : Turn F) (turns : List (Turn F)) (fences : List (Applied F)) → AreBelow (place_after o turns) fences → remote (turn ∷ turns) fences ≡ remote turns fences
  remote-older turn turns [] are = refl
  remote-older turn turns (fence ∷ rest) are =
      let now = remote-cons (turn ∷ turns) fence rest (is_local o turns fence.place) (local-older turn turns fence.place are.0) in
      let before = remote-cons turns fence rest (is_local o turns fence.place) refl in
      now ∙ ap (λ more. (if is_local o turns fence.place then 0 else 1) + more) (remote-older turn turns rest are.1) ∙ sym before

  -- a call that was open before isn't of a turn of a hart by itself alone, whatever the newest turn is
  abbrev StaysRemote : List (Turn F) → (c : ℕ) → FenceCall F → Type 0
  StaysRemote turns c call = (any : Turn F) → open_call o turns c ≡ Some call → is_local o (any ∷ turns) call.place ≡ false

  -- a call's turn is no fence of a hart by itself alone
  call-remote : (n : ℕ) (turns : List (Turn F)) (c : ℕ) (call : FenceCall F) → IsRight o n turns → open_call o turns c ≡ Some call → is_local o turns call.place ≡ false
  call-remote n [] c call right is = refl
  call-remote n (turn ∷ turns) c call right is =
      by_turn (λ any before. local-older any turns call.place (open-below o n turns c call right.1 before) ∙ call-remote n turns c call right.1 before) turn is
    where
      asked : (x : ℕ) (ids : ℕ → Bool) (flush : F) → StaysRemote turns c call → (own : Bool) (now : FenceCall F) → now.place ≡ place_after o turns
          → (if own then Some now else open_call o turns c) ≡ Some call → is_local o (Ask x ids flush ∷ turns) call.place ≡ false
      asked x ids flush older true now here is =
          let same : now.place ≡ call.place = ap place_of is in
          rw (eq-eqb call.place (place_after o turns) (sym same ∙ here)) refl
      asked x ids flush older false now here is = older (Ask x ids flush) is

      polled : (x : ℕ) → StaysRemote turns c call → (own : Bool) → (if own then None else open_call o turns c) ≡ Some call → is_local o (Poll x ∷ turns) call.place ≡ false
      polled x older true now = cc
      polled x older false now = older (Poll x) now

      by_turn : StaysRemote turns c call → (turn : Turn F) → open_by (place_after o turns) turn c (open_call o turns c) ≡ Some call → is_local o (turn ∷ turns) call.place ≡ false
      by_turn older (Ask x ids flush) now = asked x ids flush older (x == c) (record { place = place_after o turns; asked = ids_where ids; flush = flush }) refl now
      by_turn older (Own x flush) now = older (Own x flush) now
      by_turn older (Serve x) now = older (Serve x) now
      by_turn older (Poll x) now = polled x older (x == c) now
      by_turn older (Stop x) now = older (Stop x) now
      by_turn older Reset now = cc
      by_turn older Quiet now = older Quiet now

  -- ---- fences that wait, applied at some place

  record IsWaitPlace (turns : List (Turn F)) (place : ℕ) : Type 0 where
    below : place < place_after o turns
    called : is_local o turns place ≡ false

  wait-place : (n : ℕ) (turns : List (Turn F)) (t : ℕ) (asked : Asked F) → IsRight o n turns → IsOf t asked (open_call o turns asked.from) → IsWaitPlace turns asked.place
  wait-place n turns t asked right is = by_call (open_call o turns asked.from) refl is
    where
      by_call : (call : Option (FenceCall F)) → open_call o turns asked.from ≡ call → IsOf t asked call → IsWaitPlace turns asked.place
      by_call None here of = absurd of
      by_call (Some call) here of = record {
        below = omega (arith, open-below o n turns asked.from call right here, of.0);
        called = ap (is_local o turns) (sym of.0) ∙ call-remote n turns asked.from call right here;
      }

  waits-below : (n : ℕ) (turns : List (Turn F)) (t at : ℕ) (some : List (Asked F)) → IsRight o n turns → AreOpen t (open_call o turns) some
      → AreBelow (place_after o turns) (map (applied_at at) some)
  waits-below n turns t at [] right are = tt
  waits-below n turns t at (first ∷ rest) right are =
      let place = wait-place n turns t first right are.0 in (place.below, waits-below n turns t at rest right are.1)

  waits-remote : (n : ℕ) (turns : List (Turn F)) (t at : ℕ) (some : List (Asked F)) → IsRight o n turns → AreOpen t (open_call o turns) some
      → remote turns (map (applied_at at) some) ≡ length some
  waits-remote n turns t at [] right are = refl
  waits-remote n turns t at (first ∷ rest) right are =
      let place = wait-place n turns t first right are.0 in
      omega (arith, remote-cons turns (applied_at at first) (map (applied_at at) rest) false place.called, waits-remote n turns t at rest right are.1)

  open-take : (t : ℕ) (opened : ℕ → Option (FenceCall F)) (some : List (Asked F)) → AreOpen t opened some → AreOpen t opened (take 1 some)
  open-take t opened [] are = tt
  open-take t opened (first ∷ rest) are = (are.0, tt)

  -- ---- what a turn applies

  -- the fences that a turn applies are its own, or waited
  by-below : (n : ℕ) (turns : List (Turn F)) (turn : Turn F) (t : ℕ) → IsRight o n turns
      → AreBelow (place_after o turns + 1) (applied_by (place_after o turns) (waiting o turns t) turn t)
  by-below n turns turn t right = by_turn turn
    where
      opens : AreOpen t (open_call o turns) (waiting o turns t)
      opens = (sound o n turns t right).opens

      some-below : (some : List (Asked F)) → AreOpen t (open_call o turns) some → AreBelow (place_after o turns + 1) (map (applied_at (place_after o turns)) some)
      some-below some are = below-more (place_after o turns) (place_after o turns + 1) _ (omega arith) (waits-below n turns t (place_after o turns) some right are)

      own-below : (own : Bool) (flush : F) → AreBelow (place_after o turns + 1) (if own then at_once (place_after o turns) flush ∷ [] else [])
      own-below true flush = (omega arith, tt)
      own-below false flush = tt

      if-below : (own : Bool) (some : List (Asked F)) → AreOpen t (open_call o turns) some
          → AreBelow (place_after o turns + 1) (if own then map (applied_at (place_after o turns)) some else [])
      if-below true some are = some-below some are
      if-below false some are = tt

      by_turn : (turn : Turn F) → AreBelow (place_after o turns + 1) (applied_by (place_after o turns) (waiting o turns t) turn t)
      by_turn (Ask x asked flush) = own-below ((x == t) && asked t) flush
      by_turn (Own x flush) = own-below (x == t) flush
      by_turn (Serve x) = if-below (x == t) (take 1 (waiting o turns t)) (open-take t (open_call o turns) (waiting o turns t) opens)
      by_turn (Poll x) = tt
      by_turn (Stop x) = if-below (x == t) (waiting o turns t) opens
      by_turn Reset = some-below (waiting o turns t) opens
      by_turn Quiet = tt

  applied-below : (n : ℕ) (turns : List (Turn F)) (t : ℕ) → IsRight o n turns → AreBelow (place_after o turns) (applied o turns t)
  applied-below n [] t right = tt
  applied-below n (turn ∷ turns) t right =
      below-append (place_after o (turn ∷ turns)) _ (applied o turns t)
      (below-more (place_after o turns + 1) (place_after o (turn ∷ turns)) _ (omega arith) (by-below n turns turn t right.1))
      (below-more (place_after o turns) (place_after o (turn ∷ turns)) _ (omega arith) (applied-below n turns t right.1))

  -- of these, how many are of calls
  abbrev more : List (Turn F) → Turn F → ℕ → ℕ
  more turns (Ask x asked flush) t = if (x == t) && asked t then 1 else 0
  more turns (Serve x) t = if x == t then length (take 1 (waiting o turns t)) else 0
  more turns (Stop x) t = if x == t then length (waiting o turns t) else 0
  more turns Reset t = length (waiting o turns t)
  more turns turn t = 0

  by-remote : (n : ℕ) (turns : List (Turn F)) (turn : Turn F) (t : ℕ) → IsRight o n turns
      → remote (turn ∷ turns) (applied_by (place_after o turns) (waiting o turns t) turn t) ≡ more turns turn t
  by-remote n turns turn t right = by_turn turn
    where
      opens : AreOpen t (open_call o turns) (waiting o turns t)
      opens = (sound o n turns t right).opens

      some-remote : (turn : Turn F) (some : List (Asked F)) → AreOpen t (open_call o turns) some → remote (turn ∷ turns) (map (applied_at (place_after o turns)) some) ≡ length some
      some-remote turn some are =
          remote-older turn turns _ (waits-below n turns t (place_after o turns) some right are) ∙ waits-remote n turns t (place_after o turns) some right are

      if-remote : (turn : Turn F) (own : Bool) (some : List (Asked F)) → AreOpen t (open_call o turns) some
          → remote (turn ∷ turns) (if own then map (applied_at (place_after o turns)) some else []) ≡ (if own then length some else 0)
      if-remote turn true some are = some-remote turn some are
      if-remote turn false some are = refl

      same : (place_after o turns == place_after o turns) ≡ true
      same = eq-eqb (place_after o turns) (place_after o turns) refl

      asked-now : (x : ℕ) (asked : ℕ → Bool) (flush : F) (own : Bool) → remote (Ask x asked flush ∷ turns) (if own then at_once (place_after o turns) flush ∷ [] else []) ≡ (if own then 1 else 0)
      asked-now x asked flush true = remote-cons (Ask x asked flush ∷ turns) (at_once (place_after o turns) flush) [] false (rw same refl) ∙ omega arith
      asked-now x asked flush false = refl

      own-now : (x : ℕ) (flush : F) (own : Bool) → remote (Own x flush ∷ turns) (if own then at_once (place_after o turns) flush ∷ [] else []) ≡ 0
      own-now x flush true = remote-cons (Own x flush ∷ turns) (at_once (place_after o turns) flush) [] true (rw same refl) ∙ omega arith
      own-now x flush false = refl

      by_turn : (turn : Turn F) → remote (turn ∷ turns) (applied_by (place_after o turns) (waiting o turns t) turn t) ≡ more turns turn t
      by_turn (Ask x asked flush) = asked-now x asked flush ((x == t) && asked t)
      by_turn (Own x flush) = own-now x flush (x == t)
      by_turn (Serve x) = if-remote (Serve x) (x == t) (take 1 (waiting o turns t)) (open-take t (open_call o turns) (waiting o turns t) opens)
      by_turn (Poll x) = refl
      by_turn (Stop x) = if-remote (Stop x) (x == t) (waiting o turns t) opens
      by_turn Reset = some-remote Reset (waiting o turns t) opens
      by_turn Quiet = refl

  -- ---- all harts

  one-turn : (n : ℕ) (turns : List (Turn F)) (turn : Turn F) → IsRightTurn o n turns turn → sum_from (more turns turn) 0 n ≡ applied_in o n turns turn
  one-turn n turns (Ask x asked flush) ok =
      sum-one (more turns (Ask x asked flush)) n x ok.0 (λ t other. rw (ne_eqb x t (λ e. other (sym e))) refl) ∙ rw (eq-eqb x x refl) refl
  one-turn n turns (Own x flush) ok = sum-none 0 n
  one-turn n turns (Serve x) ok =
      let some = ok.1 in
      sum-one (more turns (Serve x)) n x ok.0 (λ t other. rw (ne_eqb x t (λ e. other (sym e))) refl)
      ∙ rw (eq-eqb x x refl) (omega (arith, length-take 1 (waiting o turns x)))
  one-turn n turns (Poll x) ok = sum-none 0 n
  one-turn n turns (Stop x) ok =
      sum-one (more turns (Stop x)) n x ok (λ t other. rw (ne_eqb x t (λ e. other (sym e))) refl) ∙ rw (eq-eqb x x refl) refl
  one-turn n turns Reset ok = sym (queues-sum o turns 0 n)
  one-turn n turns Quiet ok = sum-none 0 n

  counted : (n : ℕ) (turns : List (Turn F)) → IsRight o n turns → total_applied o n turns ≡ o.applied + sum_from (λ t. remote turns (applied o turns t)) 0 n
  counted n [] right = omega (arith, sum-none 0 n)
  counted n (turn ∷ turns) right =
      let before = counted n turns right.1 in
      let step = one-turn n turns turn right.0 in
      let now = sum-agree (λ t. remote (turn ∷ turns) (applied o (turn ∷ turns) t)) (λ t. more turns turn t + remote turns (applied o turns t)) 0 n (λ t above. at_hart t) in
      let split = sum-plus (more turns turn) (λ t. remote turns (applied o turns t)) 0 n in
      omega (arith, before, step, now, split)
    where
      at_hart : (t : ℕ) → remote (turn ∷ turns) (applied o (turn ∷ turns) t) ≡ more turns turn t + remote turns (applied o turns t)
      at_hart t =
          let both = sum_by-append (λ (it : Applied F). one_if (is_remote o (turn ∷ turns) it)) (applied_by (place_after o turns) (waiting o turns t) turn t) (applied o turns t) in
          let first = by-remote n turns turn t right.1 in
          let rest = remote-older turn turns (applied o turns t) (applied-below n turns t right.1) in
          omega (arith, both, first, rest)

  pub applied-is-counted : (n : ℕ) (turns : List (Turn F)) → IsRight o n turns → total_applied o n turns ≡ o.applied + total_remote o n turns
  applied-is-counted n turns right =
      counted n turns right ∙ ap (λ some. o.applied + some) (sym (is-sum (λ t. remote turns (applied o turns t)) 0 n))
