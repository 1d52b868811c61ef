use Rattle.std.proofs.Common.{◌≡◌, ◌+◌, ◌-◌, ◌<◌, map, length, drop, ap, sym, ◌∙◌, arith}
use Rattle.std.specs.BTreeMap.{get}
use Rattle.std.specs.Ordering.{nat_cmp}
use Rattle.guest_script.specs.Grammar.{guest}
use Rattle.guest_programs.specs.Blocks.{block_at, ops_found}
use Rattle.guest_programs.proofs.Indexing.{first-more}
use Rattle.guest_programs.proofs.blocks.first_blocks.Goals as goal

pub loop-i-preserved : goal.loop-i-preserved
loop-i-preserved c addr =
    let blocks = c.args.blocks.now in
    let k = c.loop-i.i - 1 in
    let block = c.index-blocks-i.result in
    let some = c.loop-i-test.true in
    let most = c.loop-i.auto.i in
    let within : k < length blocks = omega arith in
    let next : k + 1 ≡ c.loop-i.i = omega arith in
    let before = c.loop-i.invariant addr ∙ ap (λ n. block_at (map guest (drop n blocks)) addr) (sym next) in
    ap (ops_found (map guest blocks)) (c.in_ok-insert.ensures.updates.0 addr)
    ∙ first-more guest blocks k block (get nat_cmp c.loop-i.first addr) addr within before
