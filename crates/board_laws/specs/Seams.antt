-- A cut changes no later answer (profile).
use Rattle.std.specs.Prelude.{◌≡◌, ℕ, ◌<◌, ◌≤◌, Bool, List, [], ◌∷◌, ◌++◌, length}
use Rattle.board_terms.specs.declared.op.Actor.{Actor}
use Rattle.board_terms.specs.declared.op.Op.{Op}
use Rattle.board_core.specs.Accesses as accesses
use Rattle.board_core.specs.Course.{Course}
use Rattle.board_core.specs.Csrs as csrs
use Rattle.board_core.specs.Cuts.{opening_of}
use Rattle.board_core.specs.Fences as fences
use Rattle.board_core.specs.History.{Event}
use Rattle.board_core.specs.Interrupts as interrupts
use Rattle.board_core.specs.Memory as memories
use Rattle.board_core.specs.Need.{need}
use Rattle.board_core.specs.Opening.{Opening}
use Rattle.board_core.specs.Replies.{IsLegal, answer_when}
use Rattle.board_core.specs.Resets.{last_reset}
use Rattle.board_core.specs.Starts as starts
use Rattle.board_core.specs.States as states
use Rattle.board_core.specs.Totals.{totals}
use Rattle.board_laws.specs.Limits.{with_limit}

-- Two courses of a board answer alike. The look-ups of each hart, the time, the last reset, the memory and the totals
-- are the same. Each step gets the same answer, for a full history and for one with room, and uses the same entry.
pub record AnswerAlike (harts : ℕ) (a b : Course) : Type 0 where
  pub state : (h : ℕ) → h < harts → states.state a.opening a.past h ≡ states.state b.opening b.past h
  pub kept : (h : ℕ) → h < harts → starts.kept a.opening a.past h ≡ starts.kept b.opening b.past h
  pub sstatus_sie : (h : ℕ) → h < harts → csrs.sstatus_sie a.opening a.past h ≡ csrs.sstatus_sie b.opening b.past h
  pub sie : (h : ℕ) → h < harts → csrs.sie a.opening a.past h ≡ csrs.sie b.opening b.past h
  pub ssip : (h : ℕ) → h < harts → interrupts.ssip a.opening a.past h ≡ interrupts.ssip b.opening b.past h
  pub stip : (h : ℕ) → h < harts → interrupts.stip a.opening a.past h ≡ interrupts.stip b.opening b.past h
  pub wake : (h : ℕ) → h < harts → interrupts.wake a.opening a.past h ≡ interrupts.wake b.opening b.past h
  pub deadline : (h : ℕ) → h < harts → interrupts.deadline a.opening a.past h ≡ interrupts.deadline b.opening b.past h
  pub satp : (h : ℕ) → h < harts → memories.satp a.opening a.past h ≡ memories.satp b.opening b.past h
  pub caches : (h : ℕ) → h < harts → memories.caches_of a.opening a.past h ≡ memories.caches_of b.opening b.past h
  pub waiting : (h : ℕ) → fences.waiting a.opening a.past h ≡ fences.waiting b.opening b.past h
  pub outstanding : (h : ℕ) → fences.outstanding a.opening a.past h ≡ fences.outstanding b.opening b.past h
  pub need : (h t : ℕ) → need a.opening a.past h t ≡ need b.opening b.past h t
  pub time : interrupts.time a.opening a.past ≡ interrupts.time b.opening b.past
  pub last_reset : last_reset a.opening a.past ≡ last_reset b.opening b.past
  pub word : memories.memory a.opening a.past ≡ memories.memory b.opening b.past
  pub totals : totals a.opening a.past ≡ totals b.opening b.past
  pub answer : (is_full : Bool) (actor : Actor) (op : Op)
      → answer_when is_full a.opening a.past actor op ≡ answer_when is_full b.opening b.past actor op
  pub used : (h : ℕ) → h < harts → (op : Op) → accesses.used a.opening a.past h op ≡ accesses.used b.opening b.past h op

-- The newer events are a legal history on the opening that the older events leave. They answer as all events together,
-- and leave the same opening.
pub record IsSeamless (o : Opening) (newer older : List Event) : Type 0 where
  pub legal : IsLegal (opening_of o older) newer
  pub alike : AnswerAlike o.config.harts
      (record { opening = opening_of o older; past = newer }) (record { opening = o; past = newer ++ older })
  pub leaves : opening_of (opening_of o older) newer ≡ opening_of o (newer ++ older)

-- ---- a history that was cut, however often

-- The opening that the parts of a history leave; the parts are listed newest first, and each begins with the opening
-- that the older parts left.
abbrev pub left_by : Opening → (parts : List (List Event)) → Opening
left_by o [] = o
left_by o (part ∷ parts) = opening_of (left_by o parts) part

-- Each part is a legal history on its opening, within the board's limit.
abbrev pub AreLegal : Opening → (parts : List (List Event)) → Type 0
AreLegal o [] = Unit {0}
AreLegal o (part ∷ parts) = IsLegal (left_by o parts) part × AreLegal o parts

-- the events of all parts
abbrev pub joined : (parts : List (List Event)) → List Event
joined [] = []
joined (part ∷ parts) = part ++ joined parts

-- The newest part, on the opening that the others left, answers as the joined history on the first opening, and both
-- leave the same opening. The joined history is legal under each limit that has room for it.
pub record AreOne (o : Opening) (newer : List Event) (parts : List (List Event)) : Type 0 where
  pub legal : (limit : ℕ) → length (newer ++ joined parts) ≤ limit → IsLegal (with_limit limit o) (newer ++ joined parts)
  pub alike : AnswerAlike o.config.harts
      (record { opening = left_by o parts; past = newer }) (record { opening = o; past = newer ++ joined parts })
  pub leaves : opening_of (left_by o parts) newer ≡ opening_of o (newer ++ joined parts)
