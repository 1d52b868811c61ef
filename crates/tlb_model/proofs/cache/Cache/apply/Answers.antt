use Rattle.std.proofs.Common.{◌≡◌, ℕ, ◌-◌, ◌*◌, ◌%◌, ◌^◌, ◌<◌, Some, bit_and, get_or, length, not, slice_get, ap, sym, refl, ◌∙◌, arith}
use Rattle.std.specs.Int.Count.{count_trailing_zeros}
use Rattle.std.proofs.lemmas.Nat.{and_le_l}
use Rattle.std.proofs.lemmas.Option.{slice_get-get_or}
use Rattle.tlb_model.specs.declared.cache.Numbered.{Numbered}
use Rattle.tlb_model.proofs.Fencing.{fence_begins, fence_ends, fence_step}
use Rattle.tlb_model.proofs.Marks.{first-bit, narrowed-missed, narrowed-set, suits-at}
use Rattle.tlb_model.proofs.Places.{below_length, same_contents}
use Rattle.tlb_model.proofs.cache.Cache.apply.Goals as goal

pub loop-left-init : goal.loop-left-init
loop-left-init g c =
    let places = c.self.inside.places.items in
    let d = c.self.inside.dropped in
    let k = c.kept_places-kept.result in
    let s = c.suspects.result in
    let q = g.E.Cached.covers c.args.flush in
    let within : k < 2 ^ length places = omega (arith, c.kept_places-kept.ensures.within, ap (λ n. 2 ^ n) c.len.ensures.value) in
    let bits = λ (i : ℕ) (below : i < length places). c.kept_places-kept.ensures.kept i (omega (arith, below, c.len.ensures.value)) in (
      omega (arith, within, and_le_l k s),
      fence_begins q places d (bit_and k s)
          (λ place item here clear live. narrowed-missed q places k s d place item bits here clear live
          (λ is. c.suspects.ensures place (omega (arith, below_length places place item here, c.self.invariant.0))
          (λ wanted tag. suits-at _ _ _ _ (c.self.invariant.1 place item here) refl (g.met.E.Cached.covered c.args.flush item is wanted (sym c.flush_tag.ensures ∙ tag)))))
          (λ place set. narrowed-set k s d (length places) place within bits set),
    )

pub bounds-deref-place : goal.bounds-deref-place
bounds-deref-place g c =
    let within = (first-bit c.loop-left.left (omega (arith, c.loop-left-test.true)) (omega (arith, c.loop-left.auto.left-fits))).below (length c.self.inside.places.items) c.loop-left.invariant.0 in
    omega (arith, within, ap length c.deref.ensures.0)

pub offset_bounds-deref-place : goal.offset_bounds-deref-place
offset_bounds-deref-place g c = omega (arith, bounds-deref-place g c)

pub overflow_shl-dropped : goal.overflow_shl-dropped
overflow_shl-dropped g c =
    let within = (first-bit c.loop-left.left (omega (arith, c.loop-left-test.true)) (omega (arith, c.loop-left.auto.left-fits))).below (length c.self.inside.places.items) c.loop-left.invariant.0 in
    omega (arith, within, c.self.invariant.0)

pub loop-left-smaller : goal.loop-left-smaller
loop-left-smaller g c = (first-bit c.loop-left.left (omega (arith, c.loop-left-test.true)) (omega (arith, c.loop-left.auto.left-fits))).less

pub loop-left-preserved : goal.loop-left-preserved
loop-left-preserved g c =
    let places = c.self.inside.places.items in
    let left = c.loop-left.left in
    let first = first-bit left (omega (arith, c.loop-left-test.true)) (omega (arith, c.loop-left.auto.left-fits)) in
    let place = count_trailing_zeros 32 left in
    let item = c.index-deref-place.result in
    let within = first.below (length places) c.loop-left.invariant.0 in
    let small : place < 16 = omega (arith, within, c.self.invariant.0) in
    let is : item ≡ get_or places place item = c.index-deref-place.is ∙ ap (λ xs. get_or xs place item) c.deref.ensures.0 in
    let here : slice_get places place ≡ Some item = slice_get-get_or places place item within ∙ ap Some (sym is) in
    let less = first.less in (
      omega (arith, less, c.loop-left.invariant.0),
      fence_step (g.E.Cached.covers c.args.flush) places c.self.inside.dropped left c.loop-left.dropped (bit_and left (4294967295 - 1 * 2 ^ place % 4294967296)) place item
          c.is_covered_by-is_covered.result c.from.result c.loop-left.invariant.1 small here (sym c.is_covered_by-is_covered.ensures) c.from.ensures first.set first.clear
          (λ i below other. first.same i (omega arith) other),
    )

pub returns : goal.returns
returns g c =
    let n = c.self.inside.next in
    let places = c.self.inside.places.items in
    let covers = g.E.Cached.covers c.args.flush in
    let all = fence_ends (λ (fill : Numbered g.row.E.Denot). not (covers fill.item)) covers (λ fill. refl) n 16 places c.self.inside.dates c.self.inside.dropped c.loop-left.dropped
    (rw (← c.loop-left-test.false) c.loop-left.invariant.1) in
    rw (← c.self.view_is) (same_contents n n _ _ refl all)
