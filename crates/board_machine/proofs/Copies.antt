-- Machines of boards with the same numbers are alike.
use Rattle.std.proofs.Common.{◌≡◌, ◌≤◌, List, ap, sym, ◌∙◌, arith}
use Rattle.board_terms.specs.declared.config.Config.{Config}
use Rattle.board_rules.specs.History.{Event}
use Rattle.board_rules.specs.Opening.{Opening}
use Rattle.board_machine.specs.declared.machine.Machine.{Machine}
use Rattle.board_machine.specs.Stands.{AreAlike, StandsFor}
use Rattle.board_machine.proofs.Situations.{sized}

pub alike : (o other : Opening) (past more : List Event) (a b : Machine) → o.config ≡ other.config → o.config.harts ≤ 128 → StandsFor o past a
    → StandsFor other more b → AreAlike a b
alike o other past more a b same most stands stood =
    let harts = ap (λ (c : Config). c.harts) same in
    let mine = sized o past a most stands in
    let yours = sized other more b (omega (arith, harts)) stood in
    record {
      harts = mine.harts ∙ harts ∙ sym yours.harts;
      deadlines = mine.deadlines ∙ harts ∙ sym yours.deadlines;
      pages = stands.memory.pages ∙ ap (λ (c : Config). c.pages) same ∙ sym stood.memory.pages;
      satps = mine.satps ∙ harts ∙ sym yours.satps;
      caches = mine.caches ∙ harts ∙ sym yours.caches;
      calls = mine.calls ∙ harts ∙ sym yours.calls;
    }
