-- What an opening holds is what its look-ups say.
use Rattle.std.proofs.Common.{◌≡◌, ℕ, zero, suc, ◌+◌, ◌*◌, add-zero, List, [], length, ap, sym, ◌∙◌, arith}
use Rattle.std.specs.Prelude.{unwrap_or}
use Rattle.std.proofs.lemmas.List.{length-replicate}
use Rattle.std.proofs.lemmas.List.FromFn.{length-map-range_with_len}
use Rattle.sv39.specs.declared.ram.TheConstants.{PAGE_WORDS, RAM_START}
use Rattle.sv39.specs.Memory.{IsRam}
use Rattle.board_terms.specs.declared.config.Config.{Config}
use Rattle.board_machine.specs.declared.machine.Machine.{Machine}
use Rattle.board_core.specs.Cuts.{OpensAfter, opening_of}
use Rattle.board_core.specs.Inside.Stands.{opening_in}
use Rattle.board_terms.specs.Limits.{IsGood}
use Rattle.board_core.specs.Memory.{memory}
use Rattle.board_core.specs.Opening.{Opening}
use Rattle.board_core.specs.Inside.Stands.{IsKept, StandsFor}
use Rattle.board_machine.proofs.CutStanding.{held-by, is-cut}

-- the RAM has the pages of the board
length-ram : (cuts : ℕ) (o : Opening) → OpensAfter cuts o → length o.ram ≡ PAGE_WORDS * o.config.pages
length-ram zero o opens = ap (λ (p : Opening). length p.ram) opens.1 ∙ length-replicate (PAGE_WORDS * o.config.pages) 0
length-ram (suc cuts) o opens =
    let before = opens.0 in
    ap (λ (p : Opening). length p.ram) opens.4
    ∙ length-map-range_with_len (λ i. unwrap_or (memory before opens.1 (RAM_START + 8 * i)) 0) 0 (PAGE_WORDS * before.config.pages)
    ∙ ap (λ (p : Opening). PAGE_WORDS * p.config.pages) (sym opens.4)

is-ram : (c : Config) (ram : List ℕ) → IsGood c → length ram ≡ PAGE_WORDS * c.pages → IsRam ram
is-ram c ram good long =
    let some = good.some_pages in
    let limit = good.at_most_256_pages in
    record { whole = omega arith; some = omega arith; limit = omega arith }

-- no event changes it
pub whole-in : (c : Config) (places : ℕ) (m : Machine) → IsKept (opening_in c places m) [] → StandsFor (opening_in c places m) [] m
    → opening_of (opening_in c places m) [] ≡ opening_in c places m
whole-in c places m kept stands =
    let o = opening_in c places m in
    let ram = is-ram c m.memory.ram kept.good (length-ram kept.opened.cuts o kept.opened.opens) in
    sym (is-cut o [] (held-by o [] m kept ram stands) m ram stands) ∙ ap (λ place. opening_in c place m) (add-zero places)
