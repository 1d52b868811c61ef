use Rattle.std.proofs.Common.{◌≡◌, ℕ, ◌+◌, ◌-◌, ◌*◌, ◌%◌, ◌^◌, ◌<◌, Some, bit_and, get_or, length, slice_get, ap, sym, ◌∙◌, arith}
use Rattle.std.specs.Int.Count.{count_leading_zeros}
use Rattle.std.proofs.lemmas.Nat.{and_le_l}
use Rattle.std.proofs.lemmas.Option.{slice_get-get_or}
use Rattle.tlb_model.proofs.Lookups.{sought, sought-hit, sought-none, sought-on}
use Rattle.tlb_model.proofs.Marks.{last-bit, narrowed-missed, narrowed-set, suits-at}
use Rattle.tlb_model.proofs.Places.{below_length}
use Rattle.tlb_model.proofs.cache.Cache.lookup.Goals as goal

pub newest_first-left-requires : goal.newest_first-left-requires
newest_first-left-requires g c = omega (arith, c.kept_places-kept.ensures.few, and_le_l c.kept_places-kept.result c.with_tag.result)

pub loop-left-init : goal.loop-left-init
loop-left-init g c =
    let n = c.self.inside.next in
    let places = c.self.inside.places.items in
    let d = c.self.inside.dropped in
    let h = g.E.Cached.holds c.args.key in
    let k = c.kept_places-kept.result in
    let s = c.with_tag.result in
    let within : k < 2 ^ length places = omega (arith, c.kept_places-kept.ensures.within, ap (λ q. 2 ^ q) c.len.ensures.value) in
    let bits = λ (i : ℕ) (below : i < length places). c.kept_places-kept.ensures.kept i (omega (arith, below, c.len.ensures.value)) in
    sought h places d n (bit_and k s) c.newest_first-left.result c.self.invariant.0 (omega (arith, within, and_le_l k s)) (omega arith)
    c.newest_first-left.ensures.order c.newest_first-left.ensures.low
    (λ place set. narrowed-set k s d (length places) place within bits set)
    (λ place item here clear live. narrowed-missed h places k s d place item bits here clear live
    (λ is. c.with_tag.ensures place (omega (arith, below_length places place item here, c.self.invariant.0))
    (suits-at _ _ _ _ (c.self.invariant.1 place item here) (sym c.key_tag.ensures) (g.met.E.Cached.held c.args.key item is))))

pub bounds-deref-place : goal.bounds-deref-place
bounds-deref-place g c =
    let last = last-bit c.loop-left.left (omega (arith, c.loop-left-test.true)) (omega (arith, c.loop-left.auto.left-fits)) in
    let live = c.loop-left.invariant.live (31 - count_leading_zeros 32 c.loop-left.left) last.set in
    omega (arith, live.0, live.1, last.small, c.self.invariant.0, c.from.ensures, ap length c.deref.ensures.0)

pub offset_bounds-deref-place : goal.offset_bounds-deref-place
offset_bounds-deref-place g c = omega (arith, bounds-deref-place g c)

pub returns-then-holds : goal.returns-then-holds
returns-then-holds g c =
    let n = c.self.inside.next in
    let places = c.self.inside.places.items in
    let left = c.loop-left.left in
    let bit = 31 - count_leading_zeros 32 left in
    let place = (n % 16 + c.from.result) % 16 in
    let last = last-bit left (omega (arith, c.loop-left-test.true)) (omega (arith, c.loop-left.auto.left-fits)) in
    let live = c.loop-left.invariant.live bit last.set in
    let item = c.index-deref-place.result in
    let within : place < length places = omega (arith, live.0, live.1, last.small, c.self.invariant.0, c.from.ensures) in
    let is : item ≡ get_or places place item = c.index-deref-place.is ∙ ap (λ xs. get_or xs place item) c.deref.ensures.0 in
    let same : (n + bit) % 16 ≡ place = omega (arith, c.from.ensures) in
    let here : slice_get places ((n + bit) % 16) ≡ Some item = ap (slice_get places) same ∙ slice_get-get_or places place item within ∙ ap Some (sym is) in
    let met = sym c.holds.ensures ∙ c.if-holds.true in
    rw (← c.self.view_is)
    (sym (sought-hit (g.E.Cached.holds c.args.key) places c.self.inside.dropped n left bit c.self.inside.dates item c.loop-left.invariant last.small last.set last.none here met))

pub loop-left-smaller : goal.loop-left-smaller
loop-left-smaller g c = (last-bit c.loop-left.left (omega (arith, c.loop-left-test.true)) (omega (arith, c.loop-left.auto.left-fits))).less

pub loop-left-preserved : goal.loop-left-preserved
loop-left-preserved g c =
    let n = c.self.inside.next in
    let places = c.self.inside.places.items in
    let left = c.loop-left.left in
    let bit = 31 - count_leading_zeros 32 left in
    let place = (n % 16 + c.from.result) % 16 in
    let last = last-bit left (omega (arith, c.loop-left-test.true)) (omega (arith, c.loop-left.auto.left-fits)) in
    let live = c.loop-left.invariant.live bit last.set in
    let item = c.index-deref-place.result in
    let within : place < length places = omega (arith, live.0, live.1, last.small, c.self.invariant.0, c.from.ensures) in
    let is : item ≡ get_or places place item = c.index-deref-place.is ∙ ap (λ xs. get_or xs place item) c.deref.ensures.0 in
    let same : (n + bit) % 16 ≡ place = omega (arith, c.from.ensures) in
    let here : slice_get places ((n + bit) % 16) ≡ Some item = ap (slice_get places) same ∙ slice_get-get_or places place item within ∙ ap Some (sym is) in
    let past = sym c.holds.ensures ∙ c.if-holds.false in
    let less = last.less in
    sought-on (g.E.Cached.holds c.args.key) places c.self.inside.dropped n left (bit_and left (4294967295 - 1 * 2 ^ bit % 4294967296)) bit item c.loop-left.invariant last.small
    here past last.clear last.same (omega (arith, less, c.loop-left.auto.left-fits))

pub returns : goal.returns
returns g c =
    rw (← c.self.view_is)
    (sym (sought-none (g.E.Cached.holds c.args.key) c.self.inside.places.items c.self.inside.dropped c.self.inside.next c.self.inside.dates
    (rw (← c.loop-left-test.false) c.loop-left.invariant)))
