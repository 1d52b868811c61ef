-- What the clock did, by what its seat knows.
use Rattle.std.proofs.Common.{◌≡◌, ℕ, zero, suc, ◌+◌, ◌≤◌, List, [], ◌∷◌, ◌++◌, map, refl, sym, ap, subst, ◌∙◌, arith}
use Rattle.std.specs.List.{All, range_with_len}
use Rattle.std.proofs.lemmas.List.Elements.{All-append}
use Rattle.board_terms.specs.declared.config.Config.{Config}
use Rattle.board_terms.specs.declared.op.Actor.{Actor}
use Rattle.board_terms.specs.declared.op.Actor.TheVariants.{Hart, Clock}
use Rattle.board_core.specs.History.{Event}
use Rattle.board_lock.specs.Events.{ops_of}
use Rattle.board_lock.specs.Seats.{Sitting, new_seats, seats_of, sitting}
use Rattle.guest_programs.specs.Programs.{AreFirst}
use Rattle.hart_threads.specs.Inside.Works.{IsFresh}

-- the seats of a new board
harts-fresh : (c : Config) (from many : ℕ) → from + many ≤ c.harts → All (IsFresh c) (map (λ h. sitting (Hart h) 0 [] []) (range_with_len from many))
harts-fresh c from zero within k d inside = absurd (omega arith)
harts-fresh c from (suc many) within zero d inside = record { acting = omega arith; is = refl }
harts-fresh c from (suc many) within (suc k) d inside = harts-fresh c (from + 1) many (omega arith) k d (omega arith)

clock-fresh : (c : Config) → All (IsFresh c) (sitting Clock 0 [] [] ∷ [])
clock-fresh c zero d inside = record { acting = tt; is = refl }
clock-fresh c (suc k) d inside = absurd (omega arith)

pub seats-fresh : (c : Config) (seats : List Sitting) → seats ≡ new_seats c → All (IsFresh c) seats
seats-fresh c seats are =
    subst (All (IsFresh c)) (sym are)
    (All-append (IsFresh c) (map (λ h. sitting (Hart h) 0 [] []) (range_with_len 0 c.harts)) (sitting Clock 0 [] [] ∷ []) (harts-fresh c 0 c.harts (omega arith)) (clock-fresh c))

-- one seat more
pub ticked-more : (ticks : List ℕ) (seats : List Sitting) (s : Sitting) → All (λ (x : Sitting). x.actor ≡ Clock → AreFirst ticks x.ops) seats → (s.actor ≡ Clock → AreFirst ticks s.ops)
    → All (λ (x : Sitting). x.actor ≡ Clock → AreFirst ticks x.ops) (seats ++ s ∷ [])
ticked-more ticks seats s all more = All-append (λ (x : Sitting). x.actor ≡ Clock → AreFirst ticks x.ops) seats (s ∷ []) all one
  where
    one : All (λ (x : Sitting). x.actor ≡ Clock → AreFirst ticks x.ops) (s ∷ [])
    one zero d inside = more
    one (suc k) d inside = absurd (omega arith)

-- The record has of the clock what the clock's seat did.
pub clock-ticked : (ticks : List ℕ) (es : List Event) (seats : List Sitting) → seats_of Clock seats ≡ 1
    → All (λ (s : Sitting). ops_of s.actor es ≡ s.ops) seats → All (λ (s : Sitting). s.actor ≡ Clock → AreFirst ticks s.ops) seats
    → AreFirst ticks (ops_of Clock es)
clock-ticked ticks es [] one known ticked = absurd (omega arith)
clock-ticked ticks es (s ∷ seats) one known ticked =
    by_actor s.actor refl (λ rest. clock-ticked ticks es seats rest (λ k d inside. known (suc k) d (omega arith)) (λ k d inside. ticked (suc k) d (omega arith)))
  where
    by_actor : (a : Actor) → s.actor ≡ a → (seats_of Clock seats ≡ 1 → AreFirst ticks (ops_of Clock es)) → AreFirst ticks (ops_of Clock es)
    by_actor Clock is others =
        let theirs : ops_of Clock es ≡ s.ops = ap (λ (a : Actor). ops_of a es) (sym is) ∙ known 0 s (omega arith) in
        subst (AreFirst ticks) (sym theirs) (ticked 0 s (omega arith) is)
    by_actor (Hart h) is others = others (let all : seats_of Clock (s ∷ seats) ≡ 1 = one in let now = rw is at all in omega arith)
