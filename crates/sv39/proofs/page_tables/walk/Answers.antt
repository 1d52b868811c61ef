use Rattle.std.proofs.Common.{◌≡◌, ◌∙◌, true, false, ap, sym, arith}
use Rattle.sv39.specs.Memory.{word_in}
use Rattle.sv39.specs.declared.paging.Paging.{Paging}
use Rattle.sv39.specs.Paging.{scheme}
use Rattle.sv39.specs.Satp.{is_valid}
use Rattle.sv39.proofs.MapsLaws.{ended_invalid, ended_outside, ended_there, goes_on, reached_first}
use Rattle.sv39.proofs.page_tables.walk.Goals as goal

pub returns-then-not-is_valid : goal.returns-then-not-is_valid
returns-then-not-is_valid c =
    let invalid : is_valid c.args.satp c.args.va ≡ false = sym c.is_valid.ensures ∙ c.if-not-is_valid.true in
    let ended = ended_invalid (word_in c.args.ram.now) c.args.satp _ c.args.kind invalid in
    cc ended

pub returns-then-not-holds : goal.returns-then-not-holds
returns-then-not-holds c =
    let outside = rw (c.if-not-holds.true, c.part.ensures) at (sym c.holds.ensures.word) in
    let ended = ended_outside _ _ _ c.args.kind _ _ _ c.levels.invariant outside in
    cc ended

pub returns-in_default : goal.returns-in_default
returns-in_default c =
    let here = rw c.part.ensures at c.load.ensures in
    let ended = ended_there _ _ _ c.args.kind _ _ _ _ c.levels.invariant here (sym c.pointed.ensures ∙ c.in_default.is) in
    cc ended

pub levels-init : goal.levels-init
levels-init c =
    let valid : is_valid c.args.satp c.args.va ≡ true = sym c.is_valid.ensures ∙ c.if-not-is_valid.false in
    let level_is = c.root-level.ensures ∙ ap (λ (mode : Paging). (scheme mode).root) c.paging.ensures in
    rw (c.root-table.ensures, level_is) (reached_first (word_in c.args.ram.now) c.args.satp _ c.args.kind valid (omega arith))

pub levels-preserved : goal.levels-preserved
levels-preserved c =
    let here = rw c.part.ensures at c.load.ensures in
    rw (c.address-table.ensures, c.is_global-global.ensures)
    (goes_on _ _ _ _ _ _ _ _ _ c.levels.invariant here (sym c.pointed.ensures ∙ c.in-Some.is))
