-- How what is kept stands for one turn more.
use Rattle.std.proofs.Common.{◌≡◌, ℕ, ◌+◌, ◌<◌, ◌≤◌, Bool, true, false, List, [], ◌∷◌, ◌++◌, length, drop, get_or, set, map, replicate, subst, refl, sym, ap, ◌∙◌, arith, inl, inr}
use Rattle.std.specs.Prelude.{◌==◌, ◌&&◌, ◌||◌, not, if◌then◌else◌, sum_by, Option, Some, None, slice_get}
use Rattle.std.specs.List.{range_with_len}
use Rattle.std.proofs.lemmas.Bool.{and_parts, both_ways, eq-eqb, eqb-true, ne_eqb}
use Rattle.std.proofs.lemmas.Bool.Decides.{eqb_tells}
use Rattle.std.proofs.lemmas.List.{append-nil, length-map, map-append}
use Rattle.std.proofs.lemmas.List.Folds.{list_any-append}
use Rattle.std.proofs.lemmas.List.FromFn.{get_or-map-range_with_len, length-map-range_with_len, length-range_with_len}
use Rattle.std.proofs.lemmas.List.Sums.{count_by-le-length, length-filter}
use Rattle.hart_mask.specs.Ids.{IsIdSet, has, ids_where, without_id}
use Rattle.hart_mask.proofs.Sets.{has-ids_where, ids_where-agree, passes-ids_where, without_id-by}
use Rattle.fence_queue.specs.declared.request.Request.{Request}
use Rattle.fence_queue.specs.Queues.{drained, has_from, is_from, popped, queue_at}
use Rattle.fence_queue.proofs.Tables.{tabulate-set}
use Rattle.rfence.specs.declared.opened.FenceCall.{FenceCall}
use Rattle.rfence.specs.Opening.{Asked, IsOf, Opening, kept, place_after}
use Rattle.rfence.specs.Turns.{Turn, Ask, Own, Serve, Poll, Stop, Reset, Quiet}
use Rattle.rfence.specs.Waiting.{added, waiting}
use Rattle.rfence.specs.Calls.{is_outstanding, open_call}
use Rattle.rfence.specs.Inside.Marks.{CanAsk, forgotten, forgotten_at, requested}
use Rattle.rfence.specs.Right.{IsRight}
use Rattle.rfence.specs.State.{StandsFor, State, call_at, call_of, in_call, queue_of, total_applied, total_asked}
use Rattle.rfence.specs.Applied.{effect}
use Rattle.rfence.specs.Effects.{affected, caches_after, changed_at}
use Rattle.rfence.proofs.Changes.{changed-all, changed-none, changed-one}
use Rattle.rfence.proofs.Tables.{tabulate-agree, tabulate-map, tabulate-replicate}
use Rattle.rfence.proofs.Asking.{apart-ids, can-ask, requested-map}
use Rattle.rfence.proofs.Waits.{waiting-more}
use Rattle.rfence.proofs.Counts.{few-waiting}
use Rattle.rfence.proofs.Callers.{none-from, outstanding-from, sound}

pub set-is : (ids : List ℕ) → IsIdSet ids → ids ≡ ids_where (has ids)
unfolding IsIdSet
set-is ids is = is

-- a set has at most 128 ids
pub length-ids : (ids : List ℕ) → IsIdSet ids → length ids ≤ 128
unfolding IsIdSet ids_where
length-ids ids is =
    omega (arith, ap length is, length-filter (has ids) (range_with_len 0 128), count_by-le-length (has ids) (range_with_len 0 128), length-range_with_len 0 128)

pub one_or_none : (b : Bool) → (if b then 1 else 0) ≤ 1
one_or_none true = omega arith
one_or_none false = omega arith

-- what stands for the turns is seen so
pub stands-seen : {F : Type 0} (o : Opening F) (n : ℕ) (turns : List (Turn F)) (inside now : State F) → inside ≡ now → StandsFor o n turns now → StandsFor o n turns inside
stands-seen o n turns inside now view stands = subst (StandsFor o n turns) (sym view) stands

front-of : {A : Type 0} (xs : List A) → 0 < length xs → (first : A) × (rest : List A) × (xs ≡ first ∷ rest)
front-of [] some = absurd (omega arith)
front-of (x ∷ xs) some = (x, xs, refl)

-- a fence of a call is of one
call-of : {F : Type 0} (t : ℕ) (asked : Asked F) (call : Option (FenceCall F)) → IsOf t asked call → (its : FenceCall F) × (call ≡ Some its)
call-of t asked None is = absurd is
call-of t asked (Some its) is = (its, refl)

module _ {F : Type 0} (o : Opening F) (n : ℕ) (turns : List (Turn F)) (fences : State F) (stands : StandsFor o n turns fences) where
  pub length-queues : length fences.queues ≡ n
  length-queues = ap length stands.queues ∙ length-map-range_with_len (queue_of o turns) 0 n

  pub length-calls : length fences.calls ≡ n
  length-calls = ap length stands.calls ∙ length-map-range_with_len (call_of o turns) 0 n

  pub length-opened : length fences.opened ≡ n
  length-opened = ap length stands.opened ∙ length-map-range_with_len (open_call o turns) 0 n

  pub queue_at-stands : (t : ℕ) → t < n → queue_at fences.queues t ≡ queue_of o turns t
  queue_at-stands t inside =
      ap (λ queues. queue_at queues t) stands.queues ∙ get_or-map-range_with_len (queue_of o turns) 0 n t t [] inside (omega arith)

  pub call_at-stands : (c : ℕ) → c < n → call_at fences c ≡ call_of o turns c
  call_at-stands c inside =
      ap (λ calls. get_or calls c None) stands.calls ∙ get_or-map-range_with_len (call_of o turns) 0 n c c None inside (omega arith)

  -- the call of a hart for which the turn changes nothing
  same-call : (turn : Turn F) (c : ℕ) → open_call o (turn ∷ turns) c ≡ open_call o turns c
      → ((t : ℕ) → t < 128 → is_outstanding o (turn ∷ turns) c t ≡ is_outstanding o turns c t) → call_of o (turn ∷ turns) c ≡ call_of o turns c
  same-call turn c opened same = rw opened (ap (in_call (open_call o turns c)) (ids_where-agree _ _ same))

  -- ---- turns that change nothing that is kept

  pub stands-own : (x : ℕ) (flush : F) → StandsFor o n (Own x flush ∷ turns) fences
  stands-own x flush = record {
    limit = stands.limit;
    queues = stands.queues;
    calls = stands.calls;
    opened = stands.opened;
    asked = stands.asked ∙ omega arith;
    applied = stands.applied ∙ omega arith;
  }

  pub stands-quiet : StandsFor o n (Quiet ∷ turns) fences
  stands-quiet = record {
    limit = stands.limit;
    queues = stands.queues;
    calls = stands.calls;
    opened = stands.opened;
    asked = stands.asked ∙ omega arith;
    applied = stands.applied ∙ omega arith;
  }

  -- ---- a poll

  module _ (x : ℕ) (right : IsRight o n (Poll x ∷ turns)) where
    poll-waits : (t : ℕ) → waiting o (Poll x ∷ turns) t ≡ waiting o turns t
    poll-waits t = waiting-more o n (Poll x) turns t right.1

    pub stands-poll : StandsFor o n (Poll x ∷ turns) (record fences { calls = set fences.calls x None; opened = set fences.opened x None })
    stands-poll = record {
      limit = stands.limit;
      queues = stands.queues ∙ tabulate-agree _ _ n (λ t inside. ap (map kept) (sym (poll-waits t)));
      calls = ap (λ calls. set calls x None) stands.calls
          ∙ sym (ap (set (map (call_of o turns) (range_with_len 0 n)) x) closed)
          ∙ tabulate-set (call_of o turns) (call_of o (Poll x ∷ turns)) n x (λ c other.
          same-call (Poll x) c (rw (ne_eqb x c other) refl) (λ t below. rw (ne_eqb x c other, poll-waits t) refl));
      opened = ap (λ calls. set calls x None) stands.opened
          ∙ sym (ap (set (map (open_call o turns) (range_with_len 0 n)) x) over)
          ∙ tabulate-set (open_call o turns) (open_call o (Poll x ∷ turns)) n x (λ c other. rw (ne_eqb x c other) refl);
      asked = stands.asked ∙ omega arith;
      applied = stands.applied ∙ omega arith;
    }
      where
        over : open_call o (Poll x ∷ turns) x ≡ None
        over = rw (eq-eqb x x refl) refl

        closed : call_of o (Poll x ∷ turns) x ≡ None
        closed = rw (eq-eqb x x refl) refl

  -- ---- a reset

  pub stands-reset : StandsFor o n (Reset ∷ turns)
      (record { queues = replicate n []; calls = replicate n None; opened = replicate n None; asked = fences.asked; applied = fences.applied + sum_by length fences.queues })
  stands-reset = record {
    limit = stands.limit;
    queues = tabulate-replicate _ [] n (λ t. refl);
    calls = tabulate-replicate _ None n (λ c. refl);
    opened = tabulate-replicate _ None n (λ c. refl);
    asked = stands.asked ∙ omega arith;
    applied = ap (λ m. m + sum_by length fences.queues) stands.applied ∙ ap (λ queues. total_applied o n turns + sum_by length queues) stands.queues;
  }

  pub taken-reset : (queues : List (List (Request F))) (calls : List (Option (List ℕ))) (opened : List (Option (FenceCall F))) (total : ℕ)
      → queues ≡ replicate (length fences.queues) [] → calls ≡ replicate (length fences.calls) None → opened ≡ replicate n None → total ≡ sum_by length fences.queues
      → StandsFor o n (Reset ∷ turns) (record { queues = queues; calls = calls; opened = opened; asked = fences.asked; applied = fences.applied + total })
  taken-reset queues calls opened total queues_is calls_is opened_is total_is =
      rw (queues_is ∙ ap (λ m. replicate m []) length-queues, calls_is ∙ ap (λ m. replicate m None) length-calls, opened_is, total_is) stands-reset

  -- the requests that wait are far fewer than a counter holds
  pub total-small : IsRight o n turns → sum_by length fences.queues ≤ 16384
  total-small right = rw stands.queues (few-waiting o n turns right)

  -- ---- a stop

  module _ (x : ℕ) (right : IsRight o n (Stop x ∷ turns)) where
    stop-waits : (t : ℕ) → waiting o (Stop x ∷ turns) t ≡ (if x == t then [] else waiting o turns t)
    stop-waits t = waiting-more o n (Stop x) turns t right.1 ∙ by_hart (x == t)
      where
        by_hart : (own : Bool) → (if own then [] else waiting o turns t) ≡ (if own then [] else waiting o turns t)
        by_hart own = refl

    stop-outstanding : (c t : ℕ) → (not (t == x) && is_outstanding o turns c t) ≡ is_outstanding o (Stop x ∷ turns) c t
    stop-outstanding c t = elim (eqb_tells t x) [
      | inl same ↦ rw (stop-waits t, same.0, eq-eqb x t (sym same.1)) refl
      | inr other ↦ rw (stop-waits t, other.0, ne_eqb x t (λ e. other.1 (sym e))) refl
    ]

    pub stands-stop : StandsFor o n (Stop x ∷ turns)
        (record {
          queues = drained fences.queues x;
          calls = map (forgotten x) fences.calls;
          opened = fences.opened;
          asked = fences.asked;
          applied = fences.applied
              + length (queue_at fences.queues x);
        })
    stands-stop = record {
      limit = stands.limit;
      queues = ap (λ queues. set queues x []) stands.queues
          ∙ sym (ap (set (map (queue_of o turns) (range_with_len 0 n)) x) none)
          ∙ tabulate-set (queue_of o turns) (queue_of o (Stop x ∷ turns)) n x (λ t other. rw (stop-waits t, ne_eqb x t other) refl);
      calls = ap (map (forgotten x)) stands.calls
          ∙ tabulate-map (forgotten x) (call_of o turns) (range_with_len 0 n)
          ∙ tabulate-agree _ _ n (λ c inside. by_call (open_call o turns c) c);
      opened = stands.opened;
      asked = stands.asked ∙ omega arith;
      applied = ap (λ m. m + length (queue_at fences.queues x)) stands.applied
          ∙ ap (λ m. total_applied o n turns + m) (ap length (queue_at-stands x right.0) ∙ length-map (waiting o turns x) kept);
    }
      where
        none : queue_of o (Stop x ∷ turns) x ≡ []
        none = rw (stop-waits x, eq-eqb x x refl) refl

        by_call : (call : Option (FenceCall F)) (c : ℕ) → forgotten x (in_call call (ids_where (is_outstanding o turns c))) ≡ in_call call (ids_where (is_outstanding o (Stop x ∷ turns) c))
        by_call None c = refl
        by_call (Some call) c = ap (λ ids. Some ids) (without_id-by (is_outstanding o turns c) (is_outstanding o (Stop x ∷ turns) c) x (λ t below. stop-outstanding c t))

  pub affected-stop : {C : Type 0} (dropped : F → C → C) (emptied : C → C) (x : ℕ) (caches now : List C) → now ≡ changed_at emptied caches x
      → now ≡ caches_after dropped emptied o turns (Stop x) caches
  affected-stop dropped emptied x caches now changed =
      changed ∙ changed-one _ emptied 0 x x caches (omega arith) (λ cache. rw (eq-eqb x x refl) refl) (λ j cache other. rw (ne_eqb x j (λ e. other (sym e))) refl)

  pub affected-reset : {C : Type 0} (dropped : F → C → C) (emptied : C → C) (caches now : List C) → now ≡ map emptied caches
      → now ≡ caches_after dropped emptied o turns Reset caches
  affected-reset dropped emptied caches now changed = changed ∙ changed-all _ emptied 0 caches (λ t cache. refl)

  pub taken-stop : (x : ℕ) → IsRight o n (Stop x ∷ turns) → (queues : List (List (Request F))) (calls : List (Option (List ℕ))) (count : ℕ)
      → queues ≡ drained fences.queues x → calls ≡ map (forgotten x) fences.calls → count ≡ length (queue_at fences.queues x)
      → StandsFor o n (Stop x ∷ turns) (record { queues = queues; calls = calls; opened = fences.opened; asked = fences.asked; applied = fences.applied + count })
  taken-stop x right queues calls count queues_is calls_is count_is = rw (queues_is, calls_is, count_is) (stands-stop x right)

  -- ---- a serve

  module _ (x : ℕ) (right : IsRight o n (Serve x ∷ turns)) (first : Asked F) (rest : List (Asked F)) (front : waiting o turns x ≡ first ∷ rest) where
    serve-waits : (t : ℕ) → waiting o (Serve x ∷ turns) t ≡ (if x == t then drop 1 (waiting o turns t) else waiting o turns t)
    serve-waits t = waiting-more o n (Serve x) turns t right.1

    from-once : has_from first.from (map kept rest) ≡ false
    from-once = let queue = (sound o n turns x right.1).queue in let parts = rw front at queue in parts.2

    serve-outstanding : (c t : ℕ) → is_outstanding o (Serve x ∷ turns) c t ≡ (if c == first.from then not (t == x) && is_outstanding o turns c t else is_outstanding o turns c t)
    serve-outstanding c t =
        outstanding-from o n (Serve x ∷ turns) c t right
        ∙ ap (λ waits. has_from c (map kept waits)) (serve-waits t)
        ∙ elim (eqb_tells x t) [
          | inl same ↦ elim (eqb_tells c first.from) [
            | inl own ↦ rw (same.0, own.0, eq-eqb t x (sym same.1), ← same.1, front, own.1) from-once
            | inr other ↦ rw (same.0, other.0, outstanding-from o n turns c t right.1, ← same.1, front, ne_eqb first.from c (λ e. other.1 (sym e))) refl
          ]
          | inr differ ↦ elim (eqb_tells c first.from) [
            | inl own ↦ rw (differ.0, own.0, ne_eqb t x (λ e. differ.1 (sym e))) (sym (outstanding-from o n turns c t right.1))
            | inr other ↦ rw (differ.0, other.0) (sym (outstanding-from o n turns c t right.1))
          ]
        ]

    first-open : (its : FenceCall F) × (open_call o turns first.from ≡ Some its)
    first-open = let opens = (sound o n turns x right.1).opens in let parts = rw front at opens in call-of x first (open_call o turns first.from) parts.0

    pub first-below : first.from < n
    first-below = let queue = (sound o n turns x right.1).queue in let parts = rw front at queue in parts.0

    pub stands-serve : StandsFor o n (Serve x ∷ turns)
        (record { queues = popped fences.queues x; calls = forgotten_at fences.calls first.from x; opened = fences.opened; asked = fences.asked; applied = fences.applied + 1 })
    stands-serve = record {
      limit = stands.limit;
      queues = ap (λ queue. set fences.queues x (drop 1 queue)) (queue_at-stands x right.0.0)
          ∙ ap (λ queues. set queues x (drop 1 (queue_of o turns x))) stands.queues
          ∙ sym (ap (set (map (queue_of o turns) (range_with_len 0 n)) x) served)
          ∙ tabulate-set (queue_of o turns) (queue_of o (Serve x ∷ turns)) n x (λ t other. rw (serve-waits t, ne_eqb x t other) refl);
      calls = ap (λ call. set fences.calls first.from (forgotten x call)) (call_at-stands first.from first-below)
          ∙ ap (λ calls. set calls first.from (forgotten x (call_of o turns first.from))) stands.calls
          ∙ sym (ap (set (map (call_of o turns) (range_with_len 0 n)) first.from) forgot)
          ∙ tabulate-set (call_of o turns) (call_of o (Serve x ∷ turns)) n first.from (λ c other.
          same-call (Serve x) c refl (λ t below. serve-outstanding c t ∙ rw (ne_eqb c first.from (λ e. other (sym e))) refl));
      opened = stands.opened;
      asked = stands.asked ∙ omega arith;
      applied = ap (λ m. m + 1) stands.applied;
    }
      where
        served : queue_of o (Serve x ∷ turns) x ≡ drop 1 (queue_of o turns x)
        served = rw (serve-waits x, eq-eqb x x refl, front) refl

        forgot : call_of o (Serve x ∷ turns) first.from ≡ forgotten x (call_of o turns first.from)
        forgot = rw (first-open.1) (ap (λ ids. Some ids) (sym (without_id-by (is_outstanding o turns first.from) (is_outstanding o (Serve x ∷ turns) first.from) x (λ t below.
            sym (serve-outstanding first.from t ∙ rw (eq-eqb first.from first.from refl) refl)))))

  -- what a serve takes, and what it makes of the queues and the calls
  module _ (x : ℕ) (right : IsRight o n (Serve x ∷ turns)) where
    pub serve-front : (first : Asked F) × (rest : List (Asked F)) × (waiting o turns x ≡ first ∷ rest)
    serve-front = front-of (waiting o turns x) right.0.1

    pub serve-request : slice_get (queue_at fences.queues x) 0 ≡ Some (kept serve-front.0)
    unfolding serve-front
    serve-request = ap (λ queue. slice_get queue 0) (queue_at-stands x right.0.0 ∙ ap (map kept) (front-of (waiting o turns x) right.0.1).2)

    pub request-below : (request : Request F) → Some request ≡ slice_get (queue_at fences.queues x) 0 → request.from < n
    request-below request is =
        let same : Some request ≡ Some (kept serve-front.0) = is ∙ serve-request in
        let from : request ≡ kept serve-front.0 = cc in
        let below = first-below x right serve-front.0 serve-front.1 serve-front.2 in
        let e = ap (λ (r : Request F). r.from) from in
        omega arith

    pub taken-serve : (request : Request F) (queues : List (List (Request F))) (calls : List (Option (List ℕ)))
        → Some request ≡ slice_get (queue_at fences.queues x) 0 → queues ≡ popped fences.queues x → calls ≡ forgotten_at fences.calls request.from x
        → StandsFor o n (Serve x ∷ turns) (record { queues = queues; calls = calls; opened = fences.opened; asked = fences.asked; applied = fences.applied + 1 })
    taken-serve request queues calls is popped_is forgotten_is =
        let same : Some request ≡ Some (kept serve-front.0) = is ∙ serve-request in
        let from : request ≡ kept serve-front.0 = cc in
        rw (popped_is, forgotten_is ∙ ap (λ (r : Request F). forgotten_at fences.calls r.from x) from)
        (stands-serve x right serve-front.0 serve-front.1 serve-front.2)

    pub affected-serve : {C : Type 0} (dropped : F → C → C) (emptied : C → C) (caches now : List C) (request : Request F)
        → Some request ≡ slice_get (queue_at fences.queues x) 0 → now ≡ changed_at (dropped request.flush) caches x
        → now ≡ caches_after dropped emptied o turns (Serve x) caches
    affected-serve dropped emptied caches now request is changed =
        let same : Some request ≡ Some (kept serve-front.0) = is ∙ serve-request in
        let from : request ≡ kept serve-front.0 = cc in
        changed
        ∙ ap (λ (r : Request F). changed_at (dropped r.flush) caches x) from
        ∙ changed-one _ (dropped (serve-front.0).flush) 0 x x caches (omega arith) (λ cache. rw (eq-eqb x x refl, serve-front.2) refl) (λ j cache other. rw (ne_eqb x j (λ e. other (sym e))) refl)

  -- ---- an ask

  module _ (x : ℕ) (ids : List ℕ) (flush : F) (is : IsIdSet ids) (right : IsRight o n (Ask x (has ids) flush ∷ turns)) where
    last : Asked F
    last = record { place = place_after o turns; from = x; flush = flush }

    ask-queue : (t : ℕ) → queue_of o (Ask x (has ids) flush ∷ turns) t ≡ queue_of o turns t ++ (if not (x == t) && has ids t then record { from = x; flush = flush } ∷ [] else [])
    ask-queue t = ap (map kept) (waiting-more o n (Ask x (has ids) flush) turns t right.1) ∙ by_member (not (x == t) && has ids t)
      where
        by_member : (member : Bool) → map kept (added (waiting o turns t) (if member then Some (record { place = place_after o turns; from = x; flush = flush }) else None))
            ≡ queue_of o turns t ++ (if member then record { from = x; flush = flush } ∷ [] else [])
        by_member true = map-append kept (waiting o turns t) (record { place = place_after o turns; from = x; flush = flush } ∷ [])
        by_member false = sym (append-nil (map kept (waiting o turns t)))

    pub none-of : (t : ℕ) → has_from x (queue_of o turns t) ≡ false
    none-of t = none-from t (open_call o turns) x (waiting o turns t) (sound o n turns t right.1).opens right.0.2

    ask-outstanding : (c t : ℕ) → is_outstanding o (Ask x (has ids) flush ∷ turns) c t ≡ (is_outstanding o turns c t || ((not (x == t) && has ids t) && (x == c)))
    ask-outstanding c t =
        outstanding-from o n (Ask x (has ids) flush ∷ turns) c t right
        ∙ ap (has_from c) (ask-queue t)
        ∙ list_any-append (is_from c) (queue_of o turns t) _
        ∙ ap (λ b. b || has_from c (if not (x == t) && has ids t then record { from = x; flush = flush } ∷ [] else [])) (sym (outstanding-from o n turns c t right.1))
        ∙ ap (λ b. is_outstanding o turns c t || b) (by_member (not (x == t) && has ids t))
      where
        by_member : (member : Bool) → has_from {F = F} c (if member then record { from = x; flush = flush } ∷ [] else []) ≡ (member && (x == c))
        by_member true = or-none (x == c)
          where
            or-none : (b : Bool) → (b || false) ≡ b
            or-none true = refl
            or-none false = refl
        by_member false = refl

    -- the harts at which the fence is to wait
    pub ask-below : (t : ℕ) → has (without_id ids x) t ≡ true → t < n
    ask-below t is =
        let passes = passes-ids_where (λ i. not (i == x) && has ids i) t is in
        right.0.1 t (and_parts (not (t == x)) (has ids t) passes.1).1

    pub stands-ask : StandsFor o n (Ask x (has ids) flush ∷ turns) (record {
      queues = requested fences.queues (without_id ids x) (record { from = x; flush = flush });
      calls = set fences.calls x (Some (without_id ids x));
      opened = set fences.opened x (Some (record { place = place_after o turns; asked = ids; flush = flush }));
      asked = fences.asked + length ids;
      applied = fences.applied + (if has ids x then 1 else 0);
    })
    stands-ask = record {
      limit = stands.limit;
      queues = requested-map (without_id ids x) fences.queues (record { from = x; flush = flush }) (apart-ids (λ i. not (i == x) && has ids i))
          (λ t is. let low = ask-below t is in omega (arith, length-queues))
          ∙ ap (λ m. map (λ t. queue_at fences.queues t ++ (if has (without_id ids x) t then record { from = x; flush = flush } ∷ [] else [])) (range_with_len 0 m)) length-queues
          ∙ tabulate-agree _ _ n (λ t inside.
          let below : t < 128 = let limit = stands.limit in omega arith in
          ap (λ queue. queue ++ (if has (without_id ids x) t then record { from = x; flush = flush } ∷ [] else [])) (queue_at-stands t inside)
          ∙ ap (λ b. queue_of o turns t ++ (if b then record { from = x; flush = flush } ∷ [] else [])) (has-ids_where (λ i. not (i == x) && has ids i) t below ∙ ap (λ b. not b && has ids t) (flip t))
          ∙ sym (ask-queue t));
      calls = ap (λ calls. set calls x (Some (without_id ids x))) stands.calls
          ∙ sym (ap (set (map (call_of o turns) (range_with_len 0 n)) x) opened)
          ∙ tabulate-set (call_of o turns) (call_of o (Ask x (has ids) flush ∷ turns)) n x (λ c other.
          same-call (Ask x (has ids) flush) c (rw (ne_eqb x c other) refl)
          (λ t below. ask-outstanding c t ∙ rw (ne_eqb x c other) (and-false (not (x == t) && has ids t) (is_outstanding o turns c t))));
      opened = ap (λ calls. set calls x (Some (record { place = place_after o turns; asked = ids; flush = flush }))) stands.opened
          ∙ sym (ap (set (map (open_call o turns) (range_with_len 0 n)) x) made)
          ∙ tabulate-set (open_call o turns) (open_call o (Ask x (has ids) flush ∷ turns)) n x (λ c other. rw (ne_eqb x c other) refl);
      asked = ap (λ m. m + length ids) stands.asked ∙ ap (λ m. total_asked o turns + m) (ap length (set-is ids is));
      applied = ap (λ m. m + (if has ids x then 1 else 0)) stands.applied;
    }
      where
        flip : (t : ℕ) → (t == x) ≡ (x == t)
        flip t = elim (eqb_tells t x) [
          | inl same ↦ same.0 ∙ sym (eq-eqb x t (sym same.1))
          | inr other ↦ other.0 ∙ sym (ne_eqb x t (λ e. other.1 (sym e)))
        ]

        made : open_call o (Ask x (has ids) flush ∷ turns) x ≡ Some (record { place = place_after o turns; asked = ids; flush = flush })
        made = rw (eq-eqb x x refl) (ap (λ named. Some (record { place = place_after o turns; asked = named; flush = flush })) (sym (set-is ids is)))

        and-false : (b some : Bool) → (some || (b && false)) ≡ some
        and-false true true = refl
        and-false true false = refl
        and-false false true = refl
        and-false false false = refl

        opened : call_of o (Ask x (has ids) flush ∷ turns) x ≡ Some (without_id ids x)
        opened = rw (eq-eqb x x refl) (ap (λ harts. Some harts) (ids_where-agree _ _ (λ t below.
            ask-outstanding x t ∙ rw (outstanding-from o n turns x t right.1, none-of t, eq-eqb x x refl, flip t) (and-true (not (x == t) && has ids t)))))
          where
            and-true : (b : Bool) → (false || (b && true)) ≡ b
            and-true true = refl
            and-true false = refl

    -- the fence can be put into their queues
    pub can-ask-others : (others : List ℕ) → others ≡ without_id ids x → CanAsk fences.queues others (record { from = x; flush = flush })
    can-ask-others others is =
        rw is (can-ask (without_id ids x) fences.queues (record { from = x; flush = flush }) (apart-ids (λ i. not (i == x) && has ids i))
        (λ t named. let low = ask-below t named in omega (arith, length-queues))
        (let inside = right.0.0 in omega (arith, length-queues))
        (λ t named. ne_eqb x t (λ e. both_ways (has (without_id ids x) x) ask-other (ap (has (without_id ids x)) e ∙ named)))
        (λ t named. ap (has_from x) (queue_at-stands t (ask-below t named)) ∙ none-of t))
      where
        ask-other : has (without_id ids x) x ≡ false
        ask-other = has-ids_where (λ i. not (i == x) && has ids i) x (let limit = stands.limit in let below = right.0.0 in omega arith) ∙ rw (eq-eqb x x refl) refl

    pub taken-ask : (place : ℕ) (others : List ℕ) (queues : List (List (Request F))) (asked applied : ℕ) → place ≡ place_after o turns → others ≡ without_id ids x
        → queues ≡ requested fences.queues others (record { from = x; flush = flush }) → asked ≡ fences.asked + length ids → applied ≡ fences.applied + (if has ids x then 1 else 0)
        → StandsFor o n (Ask x (has ids) flush ∷ turns) (record {
          queues = queues;
          calls = set fences.calls x (Some others);
          opened = set fences.opened x (Some (record { place = place; asked = ids; flush = flush }));
          asked = asked;
          applied = applied;
        })
    taken-ask place others queues asked applied place_is others_is queues_is asked_is applied_is =
        rw (place_is, queues_is ∙ ap (λ harts. requested fences.queues harts (record { from = x; flush = flush })) others_is, others_is, asked_is, applied_is) stands-ask

    pub affected-ask : {C : Type 0} (dropped : F → C → C) (emptied : C → C) (caches now : List C)
        → now ≡ (if has ids x then changed_at (dropped flush) caches x else caches) → now ≡ caches_after dropped emptied o turns (Ask x (has ids) flush) caches
    affected-ask dropped emptied caches now changed = changed ∙ by_member (has ids x) refl
      where
        by_member : (member : Bool) → has ids x ≡ member → (if member then changed_at (dropped flush) caches x else caches) ≡ caches_after dropped emptied o turns (Ask x (has ids) flush) caches
        by_member true is = changed-one _ (dropped flush) 0 x x caches (omega arith) (λ cache. rw (eq-eqb x x refl, is) refl) (λ j cache other. rw (ne_eqb x j (λ e. other (sym e))) refl)
        by_member false is = sym (changed-none _ 0 caches (λ t cache low. by_hart t cache (x == t) refl))
          where
            by_hart : (t : ℕ) (cache : _) (own : Bool) → (x == t) ≡ own → affected dropped emptied (effect o turns (Ask x (has ids) flush) t) cache ≡ cache
            by_hart t cache true here = rw (here, ap (has ids) (sym (eqb-true x t here)) ∙ is) refl
            by_hart t cache false here = rw here refl
