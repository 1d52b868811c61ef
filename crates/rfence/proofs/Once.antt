-- Each fence that is asked of a hart was applied there once, or waits there once.
use Rattle.std.proofs.Common.{◌≡◌, ℕ, ◌+◌, ◌<◌, ◌≤◌, suc, Bool, true, false, List, [], ◌∷◌, ◌++◌, drop, take, map, refl, sym, ap, ◌∙◌, arith}
use Rattle.std.specs.Prelude.{◌==◌, ◌&&◌, ◌||◌, not, if◌then◌else◌, Option, Some, None}
use Rattle.std.specs.List.{list_any}
use Rattle.hart_mask.specs.Ids.{has}
use Rattle.fence_queue.specs.Queues.{IsQueue, has_from}
use Rattle.rfence.specs.Calls.{is_at}
use Rattle.std.proofs.lemmas.Bool.{eq-eqb, eqb-true, ne_eqb, or_parts}
use Rattle.std.proofs.lemmas.List.{length-append, map-append}
use Rattle.rfence.specs.declared.opened.FenceCall.{FenceCall}
use Rattle.rfence.specs.Opening.{Asked, IsOf, IsOpening, Opening, called_at, kept, place_after, waited_at}
use Rattle.rfence.specs.Turns.{Turn, Ask, Own, Serve, Poll, Stop, Reset, Quiet, is_asked}
use Rattle.rfence.specs.Waiting.{added, one_more, waiting}
use Rattle.rfence.specs.Applied.{Applied, applied, applied_at, applied_by}
use Rattle.rfence.specs.Right.{IsRight}
use Rattle.rfence.specs.Laws.{applied_places, times, times_met, waiting_places, was_applied}
use Rattle.rfence.proofs.Callers.{AreOpen, by-caller, opening-of, sound}
use Rattle.rfence.proofs.Waits.{waited, waiting-more}

one-more-plus : (b : Bool) (m n : ℕ) → one_more b m + n ≡ one_more b (m + n)
one-more-plus true m n = omega arith
one-more-plus false m n = refl

times-append : (p : ℕ) (xs ys : List ℕ) → times p (xs ++ ys) ≡ times p xs + times p ys
times-append p [] ys = omega arith
times-append p (x ∷ xs) ys = ap (one_more (x == p)) (times-append p xs ys) ∙ sym (one-more-plus (x == p) (times p xs) (times p ys))

module _ {F : Type 0} where
  places_now : List (Applied F) → List ℕ
  places_now fences = map (λ (fence : Applied F). fence.place) fences

  places_of : List (Asked F) → List ℕ
  places_of waits = map (λ (asked : Asked F). asked.place) waits

  -- what is applied of what waits keeps its place
  same-places : (q : ℕ) (waits : List (Asked F)) → places_now (map (applied_at q) waits) ≡ places_of waits
  unfolding places_now places_of
  same-places q [] = refl
  same-places q (first ∷ rest) = ap (λ places. first.place ∷ places) (same-places q rest)

  served : (p q : ℕ) (waits : List (Asked F)) → times p (places_now (map (applied_at q) (take 1 waits))) + times p (places_of (drop 1 waits)) ≡ times p (places_of waits)
  unfolding places_now places_of
  served p q [] = refl
  served p q (first ∷ rest) = one-more-plus (first.place == p) 0 (times p (map (λ (asked : Asked F). asked.place) rest)) ∙ ap (one_more (first.place == p)) (omega arith)

  pushed : (p : ℕ) (waits : List (Asked F)) (asked : Asked F) → times p (places_of (waits ++ asked ∷ [])) ≡ one_more (asked.place == p) (times p (places_of waits))
  unfolding places_of
  pushed p waits asked =
      ap (times p) (map-append (λ (a : Asked F). a.place) waits (asked ∷ []))
      ∙ times-append p (places_of waits) (asked.place ∷ [])
      ∙ last (asked.place == p) (times p (places_of waits))
    where
      last : (b : Bool) (m : ℕ) → m + one_more b 0 ≡ one_more b m
      last true m = omega arith
      last false m = omega arith

  -- what a turn applies and leaves, of what waited: its own fence is one more
  by-turn : (p q t : ℕ) (waits : List (Asked F)) (turn : Turn F)
      → times p (places_now (applied_by q waits turn t)) + times p (places_of (waited waits q turn t))
      ≡ (if is_asked turn t then one_more (q == p) (times p (places_of waits)) else times p (places_of waits))
  unfolding places_now places_of
  by-turn p q t waits (Ask x asked flush) = by_member (x == t) (asked t)
    where
      by_member : (own member : Bool) → times p (places_now (if own && member then record { place = q; at = q; flush = flush } ∷ [] else []))
          + times p (places_of (added waits (if not own && member then Some (record { place = q; from = x; flush = flush }) else None)))
          ≡ (if member then one_more (q == p) (times p (places_of waits)) else times p (places_of waits))
      by_member true true = one-more-plus (q == p) 0 (times p (places_of waits)) ∙ ap (one_more (q == p)) (omega arith)
      by_member true false = omega arith
      by_member false true = omega (arith, pushed p waits (record { place = q; from = x; flush = flush }))
      by_member false false = omega arith
  by-turn p q t waits (Own x flush) = by_hart (x == t)
    where
      by_hart : (own : Bool) → times p (places_now (if own then record { place = q; at = q; flush = flush } ∷ [] else [])) + times p (places_of waits)
          ≡ (if own then one_more (q == p) (times p (places_of waits)) else times p (places_of waits))
      by_hart true = one-more-plus (q == p) 0 (times p (places_of waits)) ∙ ap (one_more (q == p)) (omega arith)
      by_hart false = omega arith
  by-turn p q t waits (Serve x) = by_hart (x == t)
    where
      by_hart : (own : Bool) → times p (places_now (if own then map (applied_at q) (take 1 waits) else [])) + times p (places_of (if own then drop 1 waits else waits)) ≡ times p (places_of waits)
      by_hart true = served p q waits
      by_hart false = omega arith
  by-turn p q t waits (Poll x) = omega arith
  by-turn p q t waits (Stop x) = by_hart (x == t)
    where
      by_hart : (own : Bool) → times p (places_now (if own then map (applied_at q) waits else [])) + times p (places_of (if own then [] else waits)) ≡ times p (places_of waits)
      by_hart true = omega (arith, ap (times p) (same-places q waits))
      by_hart false = omega arith
  by-turn p q t waits Reset = omega (arith, ap (times p) (same-places q waits))
  by-turn p q t waits Quiet = omega arith

module _ {F : Type 0} (o : Opening F) where
  -- the places of the turns that asked something of a hart
  asked_places : List (Turn F) → ℕ → List ℕ
  asked_places [] t = []
  asked_places (turn ∷ turns) t = if is_asked turn t then place_after o turns ∷ asked_places turns t else asked_places turns t

  -- applied and waiting fences are those that were asked, and those that waited at the opening
  all-asked : (n p t : ℕ) (turns : List (Turn F)) → IsRight o n turns
      → times p (applied_places o turns t) + times p (waiting_places o turns t) ≡ times p (asked_places turns t) + times p (places_of (waited_at o t))
  unfolding asked_places places_now places_of
  all-asked n p t [] right = refl
  all-asked n p t (turn ∷ turns) right =
      let before = all-asked n p t turns right.1 in
      let step = by-turn p (place_after o turns) t (waiting o turns t) turn in
      let now = ap (times p) (map-append (λ (fence : Applied F). fence.place) (applied_by (place_after o turns) (waiting o turns t) turn t) (applied o turns t))
      ∙ times-append p (places_now (applied_by (place_after o turns) (waiting o turns t) turn t)) (applied_places o turns t) in
      let later = ap (λ waits. times p (places_of waits)) (waiting-more o n turn turns t right.1) in
      join (is_asked turn t) _ _ _ _ _ _ step now later before
    where
      join : (is : Bool) (now_all now_one later_all one_later rest wait : ℕ)
          → now_one + one_later ≡ (if is then one_more (place_after o turns == p) wait else wait) → now_all ≡ now_one + rest → later_all ≡ one_later
          → rest + wait ≡ times p (asked_places turns t) + times p (places_of (waited_at o t))
          → now_all + later_all ≡ times p (if is then place_after o turns ∷ asked_places turns t else asked_places turns t) + times p (places_of (waited_at o t))
      join true now_all now_one later_all one_later rest wait a b c d = by_place (place_after o turns == p) a
        where
          by_place : (here : Bool) → now_one + one_later ≡ one_more here wait → now_all + later_all ≡ one_more here (times p (asked_places turns t)) + times p (places_of (waited_at o t))
          by_place true e = omega (arith, e)
          by_place false e = omega (arith, e)
      join false now_all now_one later_all one_later rest wait a b c d = omega arith

  -- older turns have lower places
  older-places : (p t : ℕ) (turns : List (Turn F)) → place_after o turns ≤ p → times p (asked_places turns t) ≡ 0
  unfolding asked_places
  older-places p t [] low = refl
  older-places p t (turn ∷ turns) low =
      by_asked (is_asked turn t) (older-places p t turns (omega arith))
    where
      by_asked : (is : Bool) → times p (asked_places turns t) ≡ 0 → times p (if is then place_after o turns ∷ asked_places turns t else asked_places turns t) ≡ 0
      by_asked true none = rw (ne_eqb (place_after o turns) p (λ e. absurd (omega arith))) none
      by_asked false none = none

  -- a turn asks once
  asked-once : (newer : List (Turn F)) (turn : Turn F) (older : List (Turn F)) (t : ℕ) → times (place_after o older) (asked_places (newer ++ turn ∷ older) t) ≡ (if is_asked turn t then 1 else 0)
  unfolding asked_places
  asked-once [] turn older t = by_asked (is_asked turn t) (older-places (place_after o older) t older (omega arith))
    where
      by_asked : (is : Bool) → times (place_after o older) (asked_places older t) ≡ 0
          → times (place_after o older) (if is then place_after o older ∷ asked_places older t else asked_places older t) ≡ (if is then 1 else 0)
      by_asked true none = rw (eq-eqb (place_after o older) (place_after o older) refl) (ap (one_more true) none)
      by_asked false none = none
  asked-once (first ∷ newer) turn older t = by_asked (is_asked first t) (asked-once newer turn older t)
    where
      by_asked : (is : Bool) → times (place_after o older) (asked_places (newer ++ turn ∷ older) t) ≡ (if is_asked turn t then 1 else 0)
          → times (place_after o older) (if is then place_after o (newer ++ turn ∷ older) ∷ asked_places (newer ++ turn ∷ older) t else asked_places (newer ++ turn ∷ older) t)
          ≡ (if is_asked turn t then 1 else 0)
      by_asked true same =
          let far = length-append newer (turn ∷ older) in
          rw (ne_eqb (place_after o (newer ++ turn ∷ older)) (place_after o older) (λ e. absurd (omega (arith, far)))) same
      by_asked false same = same

  -- ---- the fences of the opening

  -- what waited at the opening has places before it
  opened-before : (n t p : ℕ) → IsOpening o n → (waits : List (Asked F)) → AreOpen t (called_at o) waits → o.first ≤ p → times p (places_of waits) ≡ 0
  unfolding places_of
  opened-before n t p opening [] are later = refl
  opened-before n t p opening (first ∷ rest) are later =
      rw (ne_eqb first.place p (λ e. absurd (let low = before (called_at o first.from) refl are.0 in omega (arith, low, e)))) (opened-before n t p opening rest are.1 later)
    where
      before : (call : Option (FenceCall F)) → called_at o first.from ≡ call → IsOf t first call → first.place < o.first
      before None is of = absurd of
      before (Some call) is of = omega (arith, opening.before first.from call is, of.0)

  pub applied-once : (n : ℕ) (newer : List (Turn F)) (turn : Turn F) (older : List (Turn F)) (t : ℕ) → IsRight o n (newer ++ turn ∷ older)
      → times_met o (place_after o older) (newer ++ turn ∷ older) t ≡ (if is_asked turn t then 1 else 0)
  unfolding places_of
  applied-once n newer turn older t right =
      let opening = opening-of o n (newer ++ turn ∷ older) right in
      let none = opened-before n t (place_after o older) opening (waited_at o t) (sound o n [] t opening).opens (omega arith) in
      omega (arith, all-asked n (place_after o older) t (newer ++ turn ∷ older) right, asked-once newer turn older t, none)

  -- what was asked since has places after it
  none-since : (p t : ℕ) (turns : List (Turn F)) → p < o.first → times p (asked_places turns t) ≡ 0
  unfolding asked_places
  none-since p t [] low = refl
  none-since p t (turn ∷ turns) low = by_asked (is_asked turn t) (none-since p t turns low)
    where
      by_asked : (is : Bool) → times p (asked_places turns t) ≡ 0 → times p (if is then place_after o turns ∷ asked_places turns t else asked_places turns t) ≡ 0
      by_asked true none = rw (ne_eqb (place_after o turns) p (λ e. absurd (omega arith))) none
      by_asked false none = none

  none-at : (call : FenceCall F) (waits : List (Asked F)) → list_any (is_at (Some call)) waits ≡ false → times call.place (places_of waits) ≡ 0
  unfolding places_of
  none-at call [] none = refl
  none-at call (first ∷ rest) none =
      let parts = or_parts (first.place == call.place) (list_any (is_at (Some call)) rest) none in
      rw parts.0 (none-at call rest parts.1)

  -- whose fence it is
  owner : (n c t : ℕ) (call : FenceCall F) → IsOpening o n → called_at o c ≡ Some call → (first : Asked F) → IsOf t first (called_at o first.from) → (first.place == call.place) ≡ true → first.from ≡ c
  owner n c t call opening is first of here = by_call (called_at o first.from) refl of
    where
      by_call : (its : Option (FenceCall F)) → called_at o first.from ≡ its → IsOf t first its → first.from ≡ c
      by_call None there of = absurd of
      by_call (Some its) there of = opening.apart first.from c its call there is (of.0 ∙ eqb-true first.place call.place here)

  -- of an open call waits one fence at most at a hart that it asked
  once-at : (n c t : ℕ) (call : FenceCall F) → IsOpening o n → called_at o c ≡ Some call → (waits : List (Asked F)) → AreOpen t (called_at o) waits → IsQueue n t (map kept waits)
      → times call.place (places_of waits) ≡ (if list_any (is_at (Some call)) waits then 1 else 0)
  unfolding places_of
  once-at n c t call opening is [] are queue = refl
  once-at n c t call opening is (first ∷ rest) are queue = by_place (first.place == call.place) refl (once-at n c t call opening is rest are.1 queue.3)
    where
      by_place : (here : Bool) → (first.place == call.place) ≡ here → times call.place (places_of rest) ≡ (if list_any (is_at (Some call)) rest then 1 else 0)
          → one_more here (times call.place (places_of rest)) ≡ (if here || list_any (is_at (Some call)) rest then 1 else 0)
      by_place true here later = ap suc (none-at call rest (
          ap (λ it. list_any (is_at it) rest) (sym is)
          ∙ sym (by-caller o n [] c t rest opening are.1)
          ∙ ap (λ x. has_from x (map kept rest)) (sym (owner n c t call opening is first are.0 here))
          ∙ queue.2))
      by_place false there later = later

  -- it asked the hart
  asked-of : (n c t : ℕ) (call : FenceCall F) → IsOpening o n → called_at o c ≡ Some call → (waits : List (Asked F)) → AreOpen t (called_at o) waits
      → list_any (is_at (Some call)) waits ≡ true → has call.asked t ≡ true
  asked-of n c t call opening is [] are some = cc
  asked-of n c t call opening is (first ∷ rest) are some = by_place (first.place == call.place) refl (asked-of n c t call opening is rest are.1)
    where
      of-call : (its : Option (FenceCall F)) → its ≡ Some call → IsOf t first its → has call.asked t ≡ true
      of-call None same of = absurd of
      of-call (Some its) same of = let be : its ≡ call = cc in rw (← be) of.2

      by_place : (here : Bool) → (first.place == call.place) ≡ here → (list_any (is_at (Some call)) rest ≡ true → has call.asked t ≡ true) → has call.asked t ≡ true
      by_place true here later = of-call (called_at o first.from) (ap (called_at o) (owner n c t call opening is first are.0 here) ∙ is) are.0
      by_place false there later = later (rw there at some)

  pub opened-once : (n : ℕ) (turns : List (Turn F)) (c t : ℕ) (call : FenceCall F) → IsRight o n turns → called_at o c ≡ Some call
      → (if was_applied o call t then 1 else 0) + times_met o call.place turns t ≡ (if has call.asked t then 1 else 0)
  unfolding places_of
  opened-once n turns c t call right is =
      let opening = opening-of o n turns right in
      let now = sound o n [] t opening in
      let met = all-asked n call.place t turns right in
      let since = none-since call.place t turns (opening.before c call is) in
      let waits = once-at n c t call opening is (waited_at o t) now.opens now.queue in
      by_asked (has call.asked t) (list_any (is_at (Some call)) (waited_at o t)) (asked-of n c t call opening is (waited_at o t) now.opens) (omega (arith, met, since, waits))
    where
      by_asked : (asked some : Bool) → (some ≡ true → asked ≡ true) → times_met o call.place turns t ≡ (if some then 1 else 0)
          → (if asked && not some then 1 else 0) + times_met o call.place turns t ≡ (if asked then 1 else 0)
      by_asked true true both met = omega (arith, met)
      by_asked true false both met = omega (arith, met)
      by_asked false true both met = let wrong = both refl in cc
      by_asked false false both met = omega (arith, met)
