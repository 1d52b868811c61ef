use Rattle.std.proofs.Common.{◌≡◌, ◌≢◌, ℕ, ◌-◌, ◌*◌, ◌^◌, ◌<◌, bit_and, ◌∷◌, ◌++◌, [], length, set, ap, ◌∙◌, arith, sym, slice_get, ◌%◌, ◌==◌}
use Rattle.std.specs.Int.{w16}
use Rattle.std.specs.List.{refill}
use Rattle.std.proofs.lemmas.Nat.Bits.{bit_at_clear_other, bit_at_clear_same}
use Rattle.std.proofs.lemmas.List.{get_or-set_other, get_or-set_same, length-append, length-set}
use Rattle.tlb_model.proofs.Places.{eq_fails, eq_holds, filled-contents, get-append_here, get-append_other, get-set_here, get-set_other, refill-same, tagged-filled}
use Rattle.tlb_model.proofs.cache.Cache.fill.Goals as goal
use Rattle.tlb_model.proofs.cache.Cache.fill.Goals.{then-is_full, else-is_full}

pub returns : goal.returns
returns g c =
    let n = c.self.inside.next in
    let places = c.self.inside.places.items in
    let item = c.args.item in
    let d = c.self.inside.dropped in
    let ds = c.self.inside.dates in
    let es = set ds (n % 16) c.args.date in
    let day = get_or-set_same ds (n % 16) c.args.date 0 (omega arith) in
    let days = λ (i : ℕ) (other : i ≢ n % 16). get_or-set_other ds (n % 16) i c.args.date 0 other in
    let v = bit_and d (65535 - 1 * 2 ^ (n % 16) % 65536) in
    let clear = bit_at_clear_same w16 d (n % 16) (omega arith) in
    let bits = λ (i : ℕ) (below : i < 16) (other : i ≢ n % 16). bit_at_clear_other w16 d (n % 16) (omega arith) i below other in
    let answer : c.is_full.result ≡ (length places == 16) = c.is_full.ensures.value in
    elim c.if-is_full.branch [
      | then-is_full w ↦
          let full : length places ≡ 16 = eq_holds (length places) 16 (sym answer ∙ w.if-is_full.true) in
          let value = w.deref_mut.ensures.value in
          let written : refill (length places) places (set w.deref_mut.result.now (n % 16) item) ≡ set places (n % 16) item =
          refill-same places (set w.deref_mut.result.now (n % 16) item) (length-set w.deref_mut.result.now (n % 16) item ∙ ap length value)
          ∙ ap (λ xs. set xs (n % 16) item) value in
          let within = get-set_here places (n % 16) item (omega (arith, full, c.self.invariant.0)) in
          rw (w.self-inside-is, written, ← c.self.view_is)
          (filled-contents n places (set places (n % 16) item) ds es d v c.args.date item within day clear (λ j other. get-set_other places (n % 16) item j other) days bits)
      | else-is_full w ↦
          let last : n % 16 ≡ length places = omega (arith, eq_fails (length places) 16 (sym answer ∙ w.if-is_full.false), c.self.invariant.0) in
          rw (w.self-inside-is, w.push.ensures.items, ← c.self.view_is)
          (filled-contents n places (places ++ item ∷ []) ds es d v c.args.date item
          (ap (slice_get (places ++ item ∷ [])) last ∙ get-append_here places item) day clear
          (λ j other. get-append_other places item j (λ e. other (e ∙ sym last))) days bits)
    ]

pub invariant_of-self : goal.invariant_of-self
invariant_of-self g c =
    let n = c.self.inside.next in
    let places = c.self.inside.places.items in
    let item = c.args.item in
    let tags = c.self.inside.tags in
    let tag = g.E.Cached.tag in
    let answer : c.is_full.result ≡ (length places == 16) = c.is_full.ensures.value in
    elim c.if-is_full.branch [
      | then-is_full w ↦
          let full : length places ≡ 16 = eq_holds (length places) 16 (sym answer ∙ w.if-is_full.true) in
          let value = w.deref_mut.ensures.value in
          let written : refill (length places) places (set w.deref_mut.result.now (n % 16) item) ≡ set places (n % 16) item =
          refill-same places (set w.deref_mut.result.now (n % 16) item) (length-set w.deref_mut.result.now (n % 16) item ∙ ap length value)
          ∙ ap (λ xs. set xs (n % 16) item) value in
          rw (w.self-inside-is, written) (
            omega (arith, full, length-set places (n % 16) item, c.self.invariant.0),
            tagged-filled tag places (set places (n % 16) item) tags (n % 16) c.tag.result item c.self.invariant.1 (omega arith) c.tag.ensures
                (get-set_here places (n % 16) item (omega (arith, full))) (λ j other. get-set_other places (n % 16) item j other),
          )
      | else-is_full w ↦
          let last : n % 16 ≡ length places = omega (arith, eq_fails (length places) 16 (sym answer ∙ w.if-is_full.false), c.self.invariant.0) in
          rw (w.self-inside-is, w.push.ensures.items) (
            omega (arith, length-append places (item ∷ []), last, c.self.invariant.0),
            tagged-filled tag places (places ++ item ∷ []) tags (n % 16) c.tag.result item c.self.invariant.1 (omega arith) c.tag.ensures
                (ap (slice_get (places ++ item ∷ [])) last ∙ get-append_here places item) (λ j other. get-append_other places item j (λ e. other (e ∙ sym last))),
          )
    ]
