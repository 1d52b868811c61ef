use Rattle.std.proofs.Common.{◌≡◌, ◌<◌, ◌++◌, ◌∷◌, [], add-one, length, take, get_or, ap, sym, ◌∙◌, arith}
use Rattle.std.proofs.Math.Seq.{take-suc}
use Rattle.board_machine.proofs.memory.Memory.try_copy.Goals as goal

pub loop-h-init : goal.loop-h-init
loop-h-init c = record {
  same = c.in_ok-caches.ensures.items;
  many = c.in_ok-caches.ensures.len;
  room = omega (arith, c.in_ok-caches.ensures.capacity, c.len-2.ensures, c.args.self.now.caches.ok.0);
}

pub loop-h-preserved : goal.loop-h-preserved
loop-h-preserved c =
    let items = c.args.self.now.caches.items in
    let h = c.loop-h.h in
    let caches = c.index.result.now in
    let copied : c.in_ok-copy.copy ≡ caches = let is = c.in_ok-copy.ensures in cc in
    let below : h < length items = omega (arith, c.loop-h-test.true, c.len-h-end.ensures) in
    let here : caches ≡ get_or items h caches = c.index.ensures in record {
      same = c.push_reserved.ensures.items
          ∙ ap (λ copy. c.loop-h.caches.items ++ copy ∷ []) (copied ∙ here)
          ∙ ap (λ before. before ++ get_or items h caches ∷ []) c.loop-h.invariant.same
          ∙ sym (take-suc items h caches below)
          ∙ ap (λ n. take n items) (sym (add-one h));
      many = omega (arith, c.push_reserved.ensures.len, c.loop-h.invariant.many);
      room = omega (arith, c.push_reserved.ensures.capacity, c.loop-h.invariant.room);
    }
