-- What a cut of the history leaves, and that it changes nothing.
use Rattle.std.proofs.Common.{◌≡◌, ℕ, ◌+◌, ◌≤◌, List, [], ◌∷◌, ◌++◌, length, get_or, map, replicate, subst, refl, sym, ap, ◌∙◌, arith, inl, inr}
use Rattle.std.specs.Prelude.{sum_by, Option, Some, None}
use Rattle.std.specs.List.{range_with_len}
use Rattle.std.proofs.lemmas.Bool.{cases_lt}
use Rattle.std.proofs.lemmas.List.{get_or-replicate, get_or_past, length-append, length-replicate}
use Rattle.std.proofs.lemmas.List.Elements.{filter_agree}
use Rattle.std.proofs.lemmas.List.FromFn.{get_or-map-range_with_len, length-map-range_with_len}
use Rattle.hart_mask.specs.Ids.{ids_where}
use Rattle.hart_mask.proofs.Sets.{ids_where-agree}
use Rattle.fence_queue.specs.Queues.{IsQueue}
use Rattle.rfence.specs.declared.opened.FenceCall.{FenceCall}
use Rattle.rfence.specs.Opening.{Asked, IsOf, IsOpening, Opening, called_at, kept, nothing_before, place_after, waited_at}
use Rattle.rfence.specs.Turns.{Turn, Ask, Own, Serve, Poll, Stop, Reset, Quiet}
use Rattle.rfence.specs.Waiting.{waiting}
use Rattle.rfence.specs.Calls.{is_outstanding, open_by, open_call}
use Rattle.rfence.specs.Right.{IsRight, IsRightTurn}
use Rattle.rfence.specs.State.{IsLater, StandsFor, State, applied_in, asked_by, in_call, queue_of, total_applied, total_asked}
use Rattle.rfence.specs.Cuts.{IsSeamless, opening_after, opening_in, place_of, placed}
use Rattle.rfence.proofs.Tables.{tabulate-agree, tabulate-map, tabulate-replicate}
use Rattle.rfence.proofs.Waits.{waited, waiting-more}
use Rattle.rfence.proofs.Callers.{All-open, AreOpen, few-harts, open-apart, open-below, open-within, sound}
use Rattle.rfence.proofs.Counts.{few-asked}
use Rattle.rfence.proofs.Totals.{counts-agree, is-sum, sum-agree, sum-none}

-- a list of one member, read anywhere
pub all-same : {A : Type 0} (n i : ℕ) (x : A) → get_or (replicate n x) i x ≡ x
all-same n i x = elim (cases_lt i n) [
  | inl near ↦ get_or-replicate n i x x near
  | inr far ↦ get_or_past (replicate n x) i x (omega (arith, length-replicate n x))
]

module _ {F : Type 0} where
  -- ---- a board's first opening

  no-waits : (n t : ℕ) → waited_at (nothing_before {F = F} n) t ≡ []
  no-waits n t = all-same n t []

  no-calls : (n c : ℕ) → called_at (nothing_before {F = F} n) c ≡ None
  no-calls n c = all-same n c None

  pub begins-right : (n : ℕ) → n ≤ 128 → IsOpening (nothing_before {F = F} n) n
  begins-right n limit = record {
    limit = limit;
    opens = λ t. rw (no-waits n t) (λ k d inside. absurd (omega arith));
    queue = λ t. rw (no-waits n t) tt;
    within = λ t far. no-waits n t;
    callers = λ c far. no-calls n c;
    before = λ c call is. let none = no-calls n c in cc;
    apart = λ c d call other is also same. let none = no-calls n c in cc;
    agree = omega (arith, is-sum (λ t. length (waited_at (nothing_before {F = F} n) t)) 0 n ∙ sum-agree _ (λ t. 0) 0 n (λ t above. ap length (no-waits n t)) ∙ sum-none 0 n);
    few = omega arith;
  }

  pub stands-new : (n : ℕ) (fences : State F) → n ≤ 128 → fences.queues ≡ replicate n [] → fences.calls ≡ replicate n None → fences.opened ≡ replicate n None
      → fences.asked ≡ 0 → fences.applied ≡ 0 → StandsFor (nothing_before n) n [] fences
  stands-new n fences limit queues calls opened asked applied = record {
    limit = limit;
    queues = queues ∙ tabulate-replicate _ [] n (λ t. ap (map kept) (no-waits n t));
    calls = calls ∙ tabulate-replicate _ None n (λ c. ap (λ call. in_call call (ids_where (is_outstanding (nothing_before {F = F} n) [] c))) (no-calls n c));
    opened = opened ∙ tabulate-replicate _ None n (λ c. no-calls n c);
    asked = asked;
    applied = applied;
  }

  AreOpen-agree : (t : ℕ) (opened now : ℕ → Option (FenceCall F)) (waits : List (Asked F)) → ((c : ℕ) → now c ≡ opened c) → AreOpen t opened waits → AreOpen t now waits
  AreOpen-agree t opened now [] same are = tt
  AreOpen-agree t opened now (first ∷ rest) same are = (rw (same first.from) are.0, AreOpen-agree t opened now rest same are.1)

  -- a request gets back its place
  placed-again : (t : ℕ) (asked : Asked F) (call : Option (FenceCall F)) → IsOf t asked call → place_of call ≡ asked.place
  placed-again t asked None is = absurd is
  placed-again t asked (Some call) is = is.0

module _ {F : Type 0} (o : Opening F) (n : ℕ) (turns : List (Turn F)) (right : IsRight o n turns) where
  -- ---- what is left is what was there

  pub waited-after : (t : ℕ) → waited_at (opening_after o n turns) t ≡ waiting o turns t
  waited-after t = elim (cases_lt t n) [
    | inl near ↦ get_or-map-range_with_len (waiting o turns) 0 n t t [] near (omega arith)
    | inr far ↦ get_or_past (map (waiting o turns) (range_with_len 0 n)) t [] (omega (arith, length-map-range_with_len (waiting o turns) 0 n)) ∙ sym ((sound o n turns t right).within far)
  ]

  pub called-after : (c : ℕ) → called_at (opening_after o n turns) c ≡ open_call o turns c
  called-after c = elim (cases_lt c n) [
    | inl near ↦ get_or-map-range_with_len (open_call o turns) 0 n c c None near (omega arith)
    | inr far ↦ get_or_past (map (open_call o turns) (range_with_len 0 n)) c None (omega (arith, length-map-range_with_len (open_call o turns) 0 n)) ∙ sym (open-within o n turns c right far)
  ]

  waits-sum : sum_by (λ t. length (waited_at (opening_after o n turns) t)) (range_with_len 0 n) ≡ sum_by (λ t. length (waiting o turns t)) (range_with_len 0 n)
  waits-sum = is-sum _ 0 n ∙ sum-agree _ _ 0 n (λ t above. ap length (waited-after t)) ∙ sym (is-sum _ 0 n)

  pub opens-right : IsOpening (opening_after o n turns) n
  opens-right = record {
    limit = few-harts o n turns right;
    opens = λ t. All-open t (called_at (opening_after o n turns)) (waited_at (opening_after o n turns) t)
        (rw (waited-after t) (AreOpen-agree t (open_call o turns) (called_at (opening_after o n turns)) (waiting o turns t) called-after (sound o n turns t right).opens));
    queue = λ t. rw (waited-after t) (sound o n turns t right).queue;
    within = λ t far. waited-after t ∙ (sound o n turns t right).within far;
    callers = λ c far. called-after c ∙ open-within o n turns c right far;
    before = λ c call is. open-below o n turns c call right (sym (called-after c) ∙ is);
    apart = λ c d call other is also same. open-apart o n turns c d call other right (sym (called-after c) ∙ is) (sym (called-after d) ∙ also) same;
    agree = counts-agree o n turns right ∙ ap (λ some. total_applied o n turns + some) (sym waits-sum);
    few = few-asked o n turns right;
  }

  pub stands-after : (fences : State F) → StandsFor o n turns fences → StandsFor (opening_after o n turns) n [] fences
  stands-after fences stands = record {
    limit = stands.limit;
    queues = stands.queues ∙ tabulate-agree _ _ n (λ t inside. ap (map kept) (sym (waited-after t)));
    calls = stands.calls ∙ tabulate-agree _ _ n (λ c inside.
        ap (λ call. in_call call (ids_where (is_outstanding o turns c))) (sym (called-after c))
        ∙ ap (in_call (called_at (opening_after o n turns) c)) (ids_where-agree _ _ (λ t below. rw (called-after c, waited-after t) refl)));
    opened = stands.opened ∙ tabulate-agree _ _ n (λ c inside. sym (called-after c));
    asked = stands.asked;
    applied = stands.applied;
  }

  -- what waits is what is kept of it with the places of the calls
  placed-all : (fences : State F) → StandsFor o n turns fences → (t : ℕ) (waits : List (Asked F)) → AreOpen t (open_call o turns) waits → IsQueue n t (map kept waits)
      → map (placed fences.opened) (map kept waits) ≡ waits
  placed-all fences stands t [] are queue = refl
  placed-all fences stands t (first ∷ rest) are queue =
      ap (λ (call : Option (FenceCall F)). record { place = place_of call; from = first.from; flush = first.flush } ∷ map (placed fences.opened) (map kept rest))
      (ap (λ calls. get_or calls first.from None) stands.opened ∙ get_or-map-range_with_len (open_call o turns) 0 n first.from first.from None queue.0 (omega arith))
      ∙ ap (λ place. record { place = place; from = first.from; flush = first.flush } ∷ map (placed fences.opened) (map kept rest)) (placed-again t first (open_call o turns first.from) are.0)
      ∙ ap (λ later. first ∷ later) (placed-all fences stands t rest are.1 queue.3)

  pub kept-is : (fences : State F) → StandsFor o n turns fences → opening_in (place_after o turns) fences ≡ opening_after o n turns
  kept-is fences stands =
      ap (λ waits. record { first = place_after o turns; waiting = waits; calls = fences.opened; asked = fences.asked; applied = fences.applied })
      (ap (map (map (placed fences.opened))) stands.queues
      ∙ tabulate-map (map (placed fences.opened)) (queue_of o turns) (range_with_len 0 n)
      ∙ tabulate-agree _ _ n (λ t inside. placed-all fences stands t (waiting o turns t) (sound o n turns t right).opens (sound o n turns t right).queue))
      ∙ ap (λ calls. record { first = place_after o turns; waiting = map (waiting o turns) (range_with_len 0 n); calls = calls; asked = fences.asked; applied = fences.applied }) stands.opened
      ∙ ap (λ asked. record {
        first = place_after o turns;
        waiting = map (waiting o turns) (range_with_len 0 n);
        calls = map (open_call o turns) (range_with_len 0 n);
        asked = asked;
        applied = fences.applied;
      }) stands.asked
      ∙ ap (λ applied. record {
        first = place_after o turns;
        waiting = map (waiting o turns) (range_with_len 0 n);
        calls = map (open_call o turns) (range_with_len 0 n);
        asked = total_asked o turns;
        applied = applied;
      }) stands.applied

  -- ---- the place of the next turn is later than those that are kept

  pub is-later : (fences : State F) → StandsFor o n turns fences → IsLater (place_after o turns) fences
  is-later fences stands = record {
    calls = λ c call is. open-below o n turns c call right (sym (ap (λ calls. get_or calls c None) stands.opened ∙ called-after c) ∙ is);
    asked = omega (arith, stands.asked, few-asked o n turns right);
  }

  -- ---- what is kept, as the opening of the turns from a later place on

  pub opens-at : (place : ℕ) (fences : State F) → StandsFor o n turns fences → IsLater place fences → IsOpening (opening_in place fences) n
  opens-at place fences stands later =
      let is = subst (λ kept. IsOpening kept n) (sym (kept-is fences stands)) opens-right in
      record {
        limit = is.limit;
        opens = is.opens;
        queue = is.queue;
        within = is.within;
        callers = is.callers;
        before = later.calls;
        apart = is.apart;
        agree = is.agree;
        few = later.asked;
      }

  pub stands-at : (place : ℕ) (fences : State F) → StandsFor o n turns fences → StandsFor (opening_in place fences) n [] fences
  stands-at place fences stands =
      let is = subst (λ kept. StandsFor kept n [] fences) (sym (kept-is fences stands)) (stands-after fences stands) in
      record { limit = is.limit; queues = is.queues; calls = is.calls; opened = is.opened; asked = is.asked; applied = is.applied }

module _ {F : Type 0} (o : Opening F) (n : ℕ) (older : List (Turn F)) where
  -- ---- newer turns, on what older ones left

  -- a turn that can be made after all of them can be made after the newer ones
  turn-right : (newer : List (Turn F)) (turn : Turn F) → IsSeamless o n newer older → IsRightTurn o n (newer ++ older) turn → IsRightTurn (opening_after o n older) n newer turn
  turn-right newer (Ask x asked flush) so_far ok = (ok.0, ok.1, so_far.calls x ∙ ok.2)
  turn-right newer (Own x flush) so_far ok = ok
  turn-right newer (Serve x) so_far ok = (ok.0, rw (so_far.waits x) ok.1)
  turn-right newer (Poll x) so_far
      ok = (
        ok.0,
        rw (so_far.calls x) ok.1,
        filter_agree (is_outstanding (opening_after o n older) newer x) (is_outstanding o (newer ++ older) x) (λ t. rw (so_far.calls x, so_far.waits t) refl) (range_with_len 0 n) ∙ ok.2,
      )
  turn-right newer (Stop x) so_far ok = ok
  turn-right newer Reset so_far ok = tt
  turn-right newer Quiet so_far ok = tt

  applied-same : (newer : List (Turn F)) (turn : Turn F) → IsSeamless o n newer older → applied_in (opening_after o n older) n newer turn ≡ applied_in o n (newer ++ older) turn
  applied-same newer (Ask x asked flush) so_far = refl
  applied-same newer (Own x flush) so_far = refl
  applied-same newer (Serve x) so_far = refl
  applied-same newer (Poll x) so_far = refl
  applied-same newer (Stop x) so_far = ap length (so_far.waits x)
  applied-same newer Reset so_far = ap (sum_by length) (tabulate-agree _ _ n (λ t inside. ap (map kept) (so_far.waits t)))
  applied-same newer Quiet so_far = refl

  pub seamless : (newer : List (Turn F)) → IsRight o n (newer ++ older) → IsSeamless o n newer older
  seamless [] right = record {
    right = opens-right o n older right;
    waits = waited-after o n older right;
    calls = called-after o n older right;
    asked = refl;
    applied = refl;
  }
  seamless (turn ∷ newer) right = more (seamless newer right.1)
    where
      more : IsSeamless o n newer older → IsSeamless o n (turn ∷ newer) older
      more so_far =
          let place : place_after (opening_after o n older) newer ≡ place_after o (newer ++ older) = omega (arith, length-append newer older) in
          record {
            right = (turn-right newer turn so_far right.0, so_far.right);
            waits = λ t.
                waiting-more (opening_after o n older) n turn newer t so_far.right
                ∙ ap (λ waits. waited waits (place_after (opening_after o n older) newer) turn t) (so_far.waits t)
                ∙ ap (λ at. waited (waiting o (newer ++ older) t) at turn t) place
                ∙ sym (waiting-more o n turn (newer ++ older) t right.1);
            calls = λ c. ap (λ at. open_by at turn c (open_call (opening_after o n older) newer c)) place ∙ ap (open_by (place_after o (newer ++ older)) turn c) (so_far.calls c);
            asked = ap (λ asked. asked + asked_by turn) so_far.asked;
            applied = omega (arith, so_far.applied, applied-same newer turn so_far);
          }
