-- What holds of each legal history of a board: its boot hart is there, its turns are right, and its memory is that of a RAM.
use Rattle.std.proofs.Common.{◌≡◌, ℕ, zero, suc, ◌*◌, List, [], ◌∷◌, length, subst, refl, sym, ap, ◌∙◌, arith}
use Rattle.std.proofs.lemmas.List.{length-replicate}
use Rattle.sv39.specs.declared.ram.TheConstants.{PAGE_WORDS}
use Rattle.sv39.specs.Memory.{pages_of, zero_words}
use Rattle.rfence.proofs.Seams.{opens-right}
use Rattle.board_core.specs.Cuts.{IsHeld, IsOpened, OpensAfter, opening_of}
use Rattle.board_terms.specs.declared.config.Config.{Config}
use Rattle.board_core.specs.Fences.{turns}
use Rattle.board_core.specs.History.{Event}
use Rattle.board_terms.specs.Limits.{IsGood}
use Rattle.board_core.specs.Opening.{Opening, opening_at}
use Rattle.board_core.specs.Replies.{IsLegal}
use Rattle.board_core.proofs.Beginning.{opens}
use Rattle.board_core.proofs.Cutting.{memory-cut, opens-cut}
use Rattle.board_core.proofs.Rams.{ram-after}
use Rattle.board_core.proofs.Right.{right-turns}

-- ---- histories

pub held-more : (o : Opening) (past : List Event) (event : Event) → IsHeld o past → IsLegal o (event ∷ past) → IsHeld o (event ∷ past)
held-more o past event held legal =
    let has = ram-after o past (record { ram = held.ram; is_ram = held.is_ram; size = held.pages; words = held.words }) event.actor event.op event.reply event.translation legal.0 legal.1 in
    record {
      boot_hart_is_there = held.boot_hart_is_there;
      legal = legal;
      right = right-turns o (event ∷ past) held.boot_hart_is_there legal;
      ram = has.ram;
      is_ram = has.is_ram;
      pages = has.size;
      words = has.words;
    }

held-all : (o : Opening) → IsHeld o [] → (past : List Event) → IsLegal o past → IsHeld o past
held-all o held [] legal = held
held-all o held (event ∷ past) legal = held-more o past event (held-all o held past legal.2) legal

pub held-cut : (o : Opening) (past : List Event) → IsHeld o past → IsHeld (opening_of o past) []
held-cut o past held = record {
  boot_hart_is_there = held.boot_hart_is_there;
  legal = opens-cut o past held;
  right = opens-right o.fences o.config.harts (turns o past) held.right;
  ram = held.ram;
  is_ram = held.is_ram;
  pages = held.pages;
  words = held.words ∙ sym (memory-cut o past held);
}

-- a new board's RAM is all 0
held-new : (c : Config) → IsGood c → IsHeld (opening_at c) []
held-new c good =
    let long : length (zero_words c.pages) ≡ PAGE_WORDS * c.pages = length-replicate (PAGE_WORDS * c.pages) 0 in
    let size : pages_of (zero_words c.pages) ≡ c.pages = omega (arith, long) in
    record {
      boot_hart_is_there = good.boot_hart_is_there;
      legal = opens c good;
      right = (opens c good).fences;
      ram = zero_words c.pages;
      is_ram = record { whole = long ∙ ap (λ n. PAGE_WORDS * n) (sym size); some = omega (arith, size, good.some_pages); limit = omega (arith, size, good.at_most_256_pages) };
      pages = size;
      words = refl;
    }

held-after : (cuts : ℕ) (o : Opening) → OpensAfter cuts o → IsHeld o []
held-after zero o opened = subst (λ (p : Opening). IsHeld p []) (sym opened.1) (held-new o.config opened.0)
held-after (suc cuts) o opened =
    subst (λ (p : Opening). IsHeld p []) (sym opened.4) (held-cut opened.0 opened.1 (held-all opened.0 (held-after cuts opened.0 opened.2) opened.1 opened.3))

pub held-opened : (o : Opening) → IsOpened o → IsHeld o []
held-opened o opened = held-after opened.cuts o opened.opens

-- so it is with each legal history of a board
pub held-by : (o : Opening) (past : List Event) → IsOpened o → IsLegal o past → IsHeld o past
held-by o past opened legal = held-all o (held-opened o opened) past legal
