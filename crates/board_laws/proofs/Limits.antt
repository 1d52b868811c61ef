-- No definition depends on the limit of a board, but for its being met.
use Rattle.std.proofs.Common.{◌≡◌, ℕ, ◌<◌, List, [], ◌∷◌, refl, ap}
use Rattle.board_core.specs.Accesses.{used}
use Rattle.board_core.specs.Cuts.{IsHeld, IsUnseen, opening_of}
use Rattle.board_core.specs.History.{Event}
use Rattle.board_core.specs.Opening.{IsOpening, Opening, on}
use Rattle.board_core.specs.Replies.{IsLegal}
use Rattle.board_core.proofs.Unseen.{unseen}
use Rattle.board_terms.specs.declared.op.Op.{Op}
use Rattle.board_laws.specs.Limits.{with_limit}
use Rattle.board_laws.proofs.Onward.{onward, used-cut}

pub own-limit : (o : Opening) → with_limit o.config.limit o ≡ o
own-limit o = refl

module _ (limit : ℕ) (o : Opening) where
  pub opens-within : IsOpening o → IsOpening (with_limit limit o)
  opens-within opens = record {
    harts = opens.harts;
    starts = opens.starts;
    deadlines = opens.deadlines;
    satps = opens.satps;
    caches = opens.caches;
    fences = opens.fences;
    places = opens.places;
    waits = opens.waits;
    calls = opens.calls;
    entries_dated = opens.entries_dated;
    words_dated = opens.words_dated;
    entries_few = opens.entries_few;
    words_few = opens.words_few;
    entered_few = opens.entered_few;
  }

  -- so a board with another limit holds the same before any event
  pub held-within : IsHeld o [] → IsHeld (with_limit limit o) []
  held-within held = record {
    boot_hart_is_there = held.boot_hart_is_there;
    legal = opens-within held.legal;
    right = held.right;
    ram = held.ram;
    is_ram = held.is_ram;
    pages = held.pages;
    words = held.words;
  }

  module _ (past : List Event) (held : IsHeld (with_limit limit o) past) where
    pub unseen-within : IsUnseen o past
    unseen-within =
        let same = unseen (with_limit limit o) past held in
        record {
          state = same.state;
          kept = same.kept;
          sstatus_sie = same.sstatus_sie;
          sie = same.sie;
          ssip = same.ssip;
          stip = same.stip;
          wake = same.wake;
          deadline = same.deadline;
          satp = same.satp;
          caches = same.caches;
          waiting = same.waiting;
          outstanding = same.outstanding;
          need = same.need;
          time = same.time;
          last_reset = same.last_reset;
          word = same.word;
          totals = same.totals;
          answer = same.answer;
        }

    pub used-within : (h : ℕ) → h < o.config.harts → (op : Op) → used (opening_of o past) [] h op ≡ used o past h op
    used-within = used-cut (with_limit limit o) past held

    pub onward-within : (event : Event) → IsLegal (with_limit limit o) (event ∷ past) → opening_of (opening_of o past) (event ∷ []) ≡ opening_of o (event ∷ past)
    onward-within event legal = ap (on o.config) (onward (with_limit limit o) past held event legal)
