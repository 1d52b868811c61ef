-- What the rings make of a change of one, and of all.
use Rattle.std.proofs.Common.{◌≡◌, ℕ, ◌+◌, ◌-◌, ◌*◌, ◌<◌, ◌≤◌, suc, zero, false, List, [], ◌∷◌, ◌++◌, length, drop, get_or, set, map, replicate, take, refl, sym, ap, ◌∙◌, add-one, arith, inl, inr}
use Rattle.std.specs.Prelude.{◌==◌, Some, slice_get, sum_by}
use Rattle.std.specs.List.{All}
use Rattle.std.proofs.lemmas.Bool.Decides.{eqb_tells}
use Rattle.std.proofs.lemmas.List.{append-nil, drop_all, get_or-map, get_or-replicate, get_or-set_other, get_or-set_same, length-append, length-drop, length-map, length-replicate, length-set, map-set, replicate_more, take_all}
use Rattle.std.proofs.lemmas.List.Elements.{All-from_get_or, All-get_or, All-replicate, All-set}
use Rattle.std.proofs.lemmas.List.Folds.{sum_by-replicate}
use Rattle.std.proofs.lemmas.List.Sums.{get_or-le-sum_by, sum_by-le, sum_by-set}
use Rattle.std.proofs.lemmas.Option.{slice_get_within}
use Rattle.circular_buffer.specs.Buffer.{Buffer, buffer, keep_last}
use Rattle.fence_queue.specs.declared.request.Request.{Request}
use Rattle.fence_queue.specs.Queues.{IsQueue, drained, has_from, popped, pushed, queue_at}
use Rattle.fence_queue.specs.Inside.Rings.{AreKept, queue_in, queues_of}
use Rattle.fence_queue.proofs.Queue.{IsQueue-drop, IsQueue-push, length-IsQueue}

-- ---- all rings empty

module _ {A : Type 0} where
  -- a list is written one place further
  written_more : (xs : List A) (i : ℕ) (x : A) → i < length xs → set (replicate i x ++ drop i xs) i x ≡ replicate (suc i) x ++ drop (suc i) xs
  written_more [] i x inside = absurd (omega arith)
  written_more (y ∷ ys) zero x inside = refl
  written_more (y ∷ ys) (suc i) x inside = ap (λ rest. x ∷ rest) (written_more ys i x (omega arith))

  read_more : (xs : List A) (i : ℕ) (x d : A) → i < length xs → get_or (replicate i x ++ drop i xs) i d ≡ get_or xs i d
  read_more [] i x d inside = absurd (omega arith)
  read_more (y ∷ ys) zero x d inside = refl
  read_more (y ∷ ys) (suc i) x d inside = read_more ys i x d (omega arith)

  pub map-replicate : {B : Type 0} (f : A → B) (n : ℕ) (x : A) → map f (replicate n x) ≡ replicate n (f x)
  map-replicate f zero x = refl
  map-replicate f (suc n) x = ap (λ rest. f x ∷ rest) (map-replicate f n x)

module _ {F : Type 0} where
  pub queues_of-empty : (n room : ℕ) (rings : List (Buffer (Request F))) → rings ≡ replicate n (buffer [] room) → queues_of rings ≡ replicate n []
  queues_of-empty n room rings empty = ap queues_of empty ∙ map-replicate queue_in n (buffer [] room)

  pub AreKept-empty : (n room : ℕ) (rings : List (Buffer (Request F))) → rings ≡ replicate n (buffer [] room) → room ≡ n - 1 → n ≤ 128 → AreKept rings 0
  AreKept-empty n room rings empty is limit =
      let long = ap length empty ∙ length-replicate n (buffer [] room) in
      let queues = queues_of-empty n room rings empty in
      record {
        limit = omega (arith, long);
        room = rw empty (λ k d below. All-replicate (λ (ring : Buffer (Request F)). ring.capacity ≡ n - 1) n (buffer [] room) is k d below
            ∙ ap (λ m. m - 1) (sym (length-replicate n (buffer [] room))));
        each = λ t inside. rw (queues, get_or-replicate {A = List (Request F)} n t [] [] (omega arith)) tt;
        counted = sym (ap (sum_by length) queues ∙ sum_by-replicate length n [] ∙ omega arith);
      }

  -- one more empty ring
  pub empty-more : (rings more : List (Buffer (Request F))) (n room : ℕ) (ring : Buffer (Request F)) → more ≡ rings ++ ring ∷ [] → rings ≡ replicate n (buffer [] room)
      → ring ≡ buffer [] room → more ≡ replicate (n + 1) (buffer [] room)
  empty-more rings more n room ring is empty new = rw (is, empty, new) (replicate_more n (buffer [] room))

  -- one more is emptied
  pub emptied-more : (rings changed : List (Buffer (Request F))) (i : ℕ) (d next : Buffer (Request F)) → All (λ (r : Buffer (Request F)). r.capacity ≡ length rings - 1) rings
      → i < length rings → changed ≡ replicate i (buffer [] (length rings - 1)) ++ drop i rings → next ≡ buffer [] (get_or changed i d).capacity
      → set changed i next ≡ replicate (i + 1) (buffer [] (length rings - 1)) ++ drop (i + 1) rings
  emptied-more rings changed i d next room inside so_far becomes =
      let empty = buffer [] (length rings - 1) in
      let before : get_or changed i d ≡ get_or rings i d = ap (λ rs. get_or rs i d) so_far ∙ read_more rings i empty d inside in
      let same : next ≡ empty = becomes ∙ ap (λ (r : Buffer (Request F)). buffer [] r.capacity) before ∙ ap (buffer []) (room i d inside) in
      rw (so_far, same, add-one i) (written_more rings i empty inside)

  -- and at the end all are, of those that were lent
  pub emptied-all : (rings lent changed : List (Buffer (Request F))) (i n : ℕ) → lent ≡ rings → changed ≡ replicate i (buffer [] (length lent - 1)) ++ drop i lent
      → length lent ≤ i → i ≤ length lent → n ≡ length rings → take n (changed ++ drop (length changed) rings) ≡ replicate (length rings) (buffer [] (length rings - 1))
  emptied-all rings lent changed i n is so_far past within whole =
      let end : i ≡ length rings = omega (arith, ap length is, past, within) in
      let empty = buffer [] (length rings - 1) in
      let all : changed ≡ replicate (length rings) empty =
      so_far ∙ ap (λ rs. replicate i (buffer [] (length rs - 1)) ++ drop i rs) is ∙ ap (λ j. replicate j empty ++ drop j rings) end
      ∙ ap (λ rest. replicate (length rings) empty ++ rest) (drop_all (length rings) rings (omega arith)) ∙ append-nil (replicate (length rings) empty) in
      let long = ap length all ∙ length-replicate (length rings) empty in
      ap (λ rest. take n (changed ++ rest)) (drop_all (length changed) rings (omega (arith, long)))
      ∙ ap (take n) (append-nil changed)
      ∙ take_all n changed (omega (arith, long, whole))
      ∙ all

-- ---- a change of one ring

module _ {F : Type 0} (rings : List (Buffer (Request F))) (total : ℕ) (kept : AreKept rings total) (queues : List (List (Request F))) (view : queues_of rings ≡ queues)
    (t : ℕ) (inside : t < length queues) (ring : Buffer (Request F)) (is : ring ≡ get_or rings t ring) where
  pub length-view : length queues ≡ length rings
  length-view = sym (ap length view) ∙ length-map rings queue_in

  pub inside-rings : t < length rings
  inside-rings = omega (arith, length-view, inside)

  pub queue_at-ring : queue_at queues t ≡ ring.items
  queue_at-ring = sym (ap (λ qs. queue_at qs t) view) ∙ get_or-map queue_in rings t ring [] inside-rings ∙ ap queue_in (sym is)

  pub IsQueue-ring : IsQueue (length rings) t ring.items
  IsQueue-ring = rw (sym queue_at-ring, sym view) (kept.each t inside-rings)

  room-ring : ring.capacity ≡ length rings - 1
  room-ring = ap (λ (r : Buffer (Request F)). r.capacity) is ∙ All-get_or (λ (r : Buffer (Request F)). r.capacity ≡ length rings - 1) rings t ring inside-rings kept.room

  -- what waits there is counted
  pub counted-ring : length ring.items ≤ total
  counted-ring = omega (arith, get_or-le-sum_by length queues t [] inside, ap length queue_at-ring, kept.counted, ap (sum_by length) view)

  -- the ring that comes in its place, and how many wait now
  AreKept-set : (next : Buffer (Request F)) (now : ℕ) → next.capacity ≡ ring.capacity → IsQueue (length rings) t next.items
      → now + length ring.items ≡ total + length next.items → AreKept (set rings t next) now
  AreKept-set next now same queue count =
      let long = length-set rings t next in
      let changed : queues_of (set rings t next) ≡ set queues t next.items = map-set queue_in rings t next ∙ ap (λ qs. set qs t next.items) view in
      let summed = sum_by-set length queues t next.items [] inside in
      record {
        limit = omega (arith, long, kept.limit);
        room = λ k d below. All-set (λ (r : Buffer (Request F)). r.capacity ≡ length rings - 1) rings t next (same ∙ room-ring) kept.room k d below ∙ ap (λ m. m - 1) (sym long);
        each = λ j below. rw (long, changed) (elim (eqb_tells t j) [
          | inl here ↦ rw (sym here.1, get_or-set_same queues t next.items [] inside) queue
          | inr other ↦ rw (get_or-set_other queues t j next.items [] (λ e. other.1 (sym e)), sym view) (kept.each j (omega (arith, long, below)))
        ]);
        counted = omega (arith, ap (sum_by length) changed, summed, ap length queue_at-ring, kept.counted, ap (sum_by length) view, count);
      }

  queues_of-set : (next : Buffer (Request F)) (items : List (Request F)) → next.items ≡ items → queues_of (set rings t next) ≡ set queues t items
  queues_of-set next items becomes = map-set queue_in rings t next ∙ ap (λ qs. set qs t next.items) view ∙ ap (set queues t) becomes

  -- where a hart of which none waits there asks, there is room
  room-pushed : (request : Request F) → IsQueue (length rings) t (ring.items ++ request ∷ []) → keep_last ring.capacity (ring.items ++ request ∷ []) ≡ ring.items ++ request ∷ []
  room-pushed request queue =
      let short = length-IsQueue (length rings) t (ring.items ++ request ∷ []) inside-rings queue in
      let fits : length (ring.items ++ request ∷ []) - ring.capacity ≡ 0 = omega (arith, short, room-ring) in
      ap (λ n. drop n (ring.items ++ request ∷ [])) fits

  pub after-push : (request : Request F) (next : Buffer (Request F)) → request.from < length queues → (request.from == t) ≡ false → has_from request.from (queue_at queues t) ≡ false
      → next ≡ buffer (keep_last ring.capacity (ring.items ++ request ∷ [])) ring.capacity → AreKept (set rings t next) (total + 1) × (queues_of (set rings t next) ≡ pushed queues t request)
  after-push request next caller other once becomes =
      let queue = IsQueue-push (length rings) t ring.items request IsQueue-ring (omega (arith, caller, length-view)) other (ap (has_from request.from) (sym queue_at-ring) ∙ once) in
      let items : next.items ≡ ring.items ++ request ∷ [] = ap queue_in becomes ∙ room-pushed request queue in (
        AreKept-set next (total + 1) (ap (λ (r : Buffer (Request F)). r.capacity) becomes) (rw items queue) (omega (arith, ap length items, length-append ring.items (request ∷ []))),
        queues_of-set next (queue_at queues t ++ request ∷ []) (items ∙ ap (λ requests. requests ++ request ∷ []) (sym queue_at-ring)),
      )

  pub some-waits : (request : Request F) → slice_get ring.items 0 ≡ Some request → 1 ≤ total
  some-waits request first = omega (arith, slice_get_within ring.items 0 request first, counted-ring)

  pub after-pop : (request : Request F) (next : Buffer (Request F)) → slice_get ring.items 0 ≡ Some request → next ≡ buffer (drop 1 ring.items) ring.capacity
      → AreKept (set rings t next) (total - 1) × (queues_of (set rings t next) ≡ popped queues t)
  after-pop request next first becomes = (
    AreKept-set next (total - 1) (ap (λ (r : Buffer (Request F)). r.capacity) becomes) (rw (ap queue_in becomes) (IsQueue-drop (length rings) t ring.items IsQueue-ring))
        (omega (arith, ap length (ap queue_in becomes), length-drop 1 ring.items, slice_get_within ring.items 0 request first, counted-ring)),
    queues_of-set next (drop 1 (queue_at queues t)) (ap queue_in becomes ∙ ap (drop 1) (sym queue_at-ring)),
  )

  pub after-drain : (next : Buffer (Request F)) (count : ℕ) → count ≡ length (queue_at queues t) → next ≡ buffer [] ring.capacity
      → AreKept (set rings t next) (total - count) × (queues_of (set rings t next) ≡ drained queues t)
  after-drain next count counted becomes = (
    AreKept-set next (total - count) (ap (λ (r : Buffer (Request F)). r.capacity) becomes) (rw (ap queue_in becomes) tt)
        (omega (arith, counted, ap length (ap queue_in becomes), ap length queue_at-ring, counted-ring)),
    queues_of-set next [] (ap queue_in becomes),
  )

-- no more wait than one at each hart for each other hart
pub total-limit : {F : Type 0} (rings : List (Buffer (Request F))) (total : ℕ) → AreKept rings total → total ≤ 128 * 128
total-limit rings total kept =
    let long = length-map rings queue_in in
    let most = sum_by-le length 128 (queues_of rings) (All-from_get_or (λ requests. length requests ≤ 128) (queues_of rings) [] (λ t inside.
    let short = length-IsQueue (length rings) t (queue_at (queues_of rings) t) (omega (arith, long)) (kept.each t (omega (arith, long))) in omega (arith, short, kept.limit))) in
    omega (arith, most, long, kept.limit, kept.counted)
