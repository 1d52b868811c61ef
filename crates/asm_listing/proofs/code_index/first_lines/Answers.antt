use Rattle.std.proofs.Common.{◌≡◌, ◌+◌, ◌-◌, ◌<◌, length, drop, ap, sym, ◌∙◌, arith}
use Rattle.std.specs.BTreeMap.{get}
use Rattle.std.specs.Ordering.{nat_cmp}
use Rattle.asm_listing.specs.Listed.{instruction_in, line_found}
use Rattle.asm_listing.proofs.Indexing.{first-more}
use Rattle.asm_listing.proofs.code_index.first_lines.Goals as goal

pub loop-i-preserved : goal.loop-i-preserved
loop-i-preserved c at =
    let lines = c.args.lines.now in
    let k = c.loop-i.i - 1 in
    let line = c.index-lines-i.result in
    let some = c.loop-i-test.true in
    let most = c.loop-i.auto.i in
    let within : k < length lines = omega arith in
    let next : k + 1 ≡ c.loop-i.i = omega arith in
    let before = c.loop-i.invariant at ∙ ap (λ n. instruction_in (drop n lines) at) (sym next) in
    ap (line_found lines) (c.in_ok-insert.ensures.updates.0 at)
    ∙ first-more lines k line (get nat_cmp c.loop-i.first at) at within before
