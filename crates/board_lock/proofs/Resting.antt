-- Who rests: harts of the board, and when they are all.
use Rattle.std.proofs.Common.{◌≡◌, ℕ, ◌+◌, ◌<◌, ◌≤◌, Bool, true, false, List, [], length, replicate, refl, subst, sym, ap, ◌∙◌, inl, inr, arith}
use Rattle.std.specs.Prelude.{◌==◌, ◌&&◌, ◌||◌, ◌↔◌, not, IsTrue, nat_eq, nat_lt, slice_index_or}
use Rattle.std.specs.List.{AllByRecursion}
use Rattle.std.specs.Cmp.Lexicographic.{pointwise}
use Rattle.std.proofs.lemmas.Bool.{cases_Bool, cases_lt, le-ltb, lt-ltb}
use Rattle.std.proofs.lemmas.Bool.Decides.{Decides-eqb, eqb_tells}
use Rattle.std.proofs.lemmas.List.{get_or-replicate, length-replicate}
use Rattle.std.proofs.lemmas.Slice.Eq.{slice_eq-Decides}
use Rattle.hart_mask.specs.Ids.{IsIdSet, has, ids_below, ids_where}
use Rattle.hart_mask.proofs.Sets.{IsIdSet-ids_where, has-ids_where, ids_where-none, passes-ids_where, same_sets}
use Rattle.ghost_log.specs.declared.tokens.Log.{Log}
use Rattle.board_terms.specs.declared.config.Config.{Config}
use Rattle.board_terms.specs.declared.op.Actor.{Actor}
use Rattle.board_terms.specs.declared.op.Actor.TheVariants.{Hart, Clock}
use Rattle.board_terms.specs.declared.op.Op.{Op}
use Rattle.board_lock.specs.Events.{IsActor, events_in}
use Rattle.board_core.specs.Course.{Course}
use Rattle.board_core.specs.History.{Event}
use Rattle.board_terms.specs.Limits.{IsGood}
use Rattle.board_core.specs.Opening.{Opening}
use Rattle.board_lock.specs.Inside.Kept.{IsDesk, Tally, count_of, number_of}
use Rattle.board_lock.specs.Inside.Rests.{Held, IsRests, awake, held, less, none_rest, none_woken, resting}
use Rattle.board_lock.specs.Inside.Waking.{comes_to, concerned, woken}
use Rattle.board_lock.specs.declared.rests.Rests.{Rests}
use Rattle.board_lock.specs.declared.rests.Until.{Until}
use Rattle.board_lock.specs.declared.rests.Woken.{Woken}
use Rattle.board_lock.proofs.Actors.{number-within}

pub and-left : (a b : Bool) → (a && b) ≡ true → a ≡ true
and-left true b is = refl
and-left false b is = absurd (let e = is in cc)

pub no-ids : IsIdSet []
unfolding IsIdSet
no-ids = sym (ids_where-none (has []) (λ i _. refl))

pub none-rests : (harts : ℕ) → IsRests harts none_rest
none-rests harts = record { set = no-ids; below = λ h is. absurd (let e = is in cc) }

pub one-rests : (c : Config) (r : Rests) (a : Actor) (until : Until) → IsActor c a → IsRests c.harts r → IsRests c.harts (resting r a until)
one-rests c r (Hart h) until acting is = record { set = IsIdSet-ids_where (λ i. i == h || has r.harts i); below = below }
  where
    below : (i : ℕ) → has (resting r (Hart h) until).harts i ≡ true → i < c.harts
    below i there =
        let passes : (i == h || has r.harts i) ≡ true = (passes-ids_where (λ k. k == h || has r.harts k) i there).1 in
        elim (eqb_tells i h) [
          | inl same ↦ (let one = same.1 in omega arith)
          | inr other ↦ is.below i (rw other.0 at passes)
        ]
one-rests c r Clock until acting is = record { set = is.set; below = is.below }

pub fewer-rest : (harts : ℕ) (r : Rests) (w : Woken) → IsRests harts r → IsRests harts (awake r w)
fewer-rest harts r w is = record { set = IsIdSet-ids_where still; below = λ h there. is.below h (and-left (has r.harts h) _ (passes-ids_where still h there).1) }
  where
    still : ℕ → Bool
    still i = has r.harts i && not (has w.harts i)

none-of : (ids : List ℕ) (p : ℕ → Bool) → ids ≡ [] → [] ≡ ids_where (λ i. has ids i && p i)
none-of ids p none = sym (ids_where-none _ (λ i low. ap (λ (xs : List ℕ). has xs i && p i) none))

-- where no seat rests, none is woken, and none rests then
pub none-wakes : (d : Held) (op : Op) → d.rests.harts ≡ [] → d.rests.clock ≡ false → none_woken ≡ woken d op
none-wakes d op none off =
    let who : List ℕ = concerned d.board.opening.config.harts op in
    ap (λ (ids : List ℕ). record { harts = ids; clock = false })
    (none-of d.rests.harts (λ h. has d.rests.events h || (has d.rests.firmware h && (has who h && comes_to d h))) none)
    ∙ ap (λ (b : Bool). record { harts = (woken d op).harts; clock = b && d.rests.clock_events }) (sym off)

still-off : (a : Bool) → a ≡ false → a ≡ (a && true)
still-off false off = refl
still-off true off = absurd (let e = off in cc)

pub still-none : (d : Held) → d.rests.harts ≡ [] → d.rests.clock ≡ false → d ≡ held d.board (awake d.rests none_woken) d.ended
still-none d none off =
    let r : Rests = d.rests in
    ap (λ (ids : List ℕ). held d.board (record { harts = ids; events = r.events; firmware = r.firmware; wakes = r.wakes; clock = r.clock; clock_events = r.clock_events }) d.ended)
    (none ∙ none-of r.harts (λ i. true) none)
    ∙ ap (λ (b : Bool). held d.board (record { harts = less r.harts []; events = r.events; firmware = r.firmware; wakes = r.wakes; clock = b; clock_events = r.clock_events }) d.ended)
    (still-off r.clock off)

-- the harts below a number are all those of the board that rest, or some doesn't
has-below : (harts i : ℕ) → harts ≤ 128 → i < harts → has (ids_below harts) i ≡ true
has-below harts i small low = has-ids_where (λ k. nat_lt k harts) i (omega arith) ∙ lt-ltb i harts low

all-below : (harts : ℕ) (r : Rests) → IsRests harts r → ((h : ℕ) → h < harts → has r.harts h ≡ true) → r.harts ≡ ids_below harts
all-below harts r is each = same_sets r.harts (ids_below harts) is.set (IsIdSet-ids_where (λ k. nat_lt k harts)) agree
  where
    agree : (i : ℕ) → i < 128 → has r.harts i ≡ has (ids_below harts) i
    agree i low = elim (cases_lt i harts) [
      | inl inside ↦ each i inside ∙ sym (has-ids_where (λ k. nat_lt k harts) i low ∙ lt-ltb i harts inside)
      | inr outside ↦ elim (cases_Bool (has r.harts i)) [
        | inl there ↦ absurd (let inside = is.below i there in omega arith)
        | inr none ↦ none ∙ sym (has-ids_where (λ k. nat_lt k harts) i low ∙ le-ltb i harts outside)
      ]
    ]

pub all-harts : (harts : ℕ) (r : Rests) (b : Bool) → harts ≤ 128 → IsRests harts r → b ≡ pointwise nat_eq r.harts (ids_below harts)
    → IsTrue b ↔ ((h : ℕ) → h < harts → has r.harts h ≡ true)
all-harts harts r b small is eq =
    let decides = slice_eq-Decides Decides-eqb r.harts (ids_below harts) b eq in
    (λ yes h low. ap (λ (ids : List ℕ). has ids h) (decides.0 yes) ∙ has-below harts h small low, λ each. decides.1 (all-below harts r is each))

-- what the lock holds, where others rest
pub desk-rests : {opening : Opening} {room : ℕ} {b : Course} {old new : Rests} {t : Tally} {log : Log Event}
    → IsDesk opening room b old t log → IsRests opening.config.harts new → IsDesk opening room b new t log
desk-rests d is =
    record {
      good = d.good;
      opened = d.opened;
      named = d.named;
      logged = d.logged;
      summed = d.summed;
      sized = d.sized;
      counted = d.counted;
      acted = d.acted;
      at_rest = is;
      no_parts = d.no_parts;
      no_amount = d.no_amount;
    }

-- what the lock of a new board holds
pub new-desk : (opening : Opening) (room : ℕ) (b : Course) (rests : Rests) (t : Tally) (log : Log Event) → IsGood opening.config → b ≡ record { opening = opening; past = [] }
    → rests ≡ none_rest → t.counts ≡ replicate (opening.config.harts + 1) 0 → t.total ≡ 0 → t.parts ≡ 0 → t.amount ≡ 0 → log.name ≡ room → log.list ≡ [] → IsDesk opening room b rests t log
new-desk opening room b rests t log good is rested zeros none no-parts no-amount named empty =
    record {
      good = good;
      opened = ap (λ (c : Course). c.opening) is;
      named = named;
      logged = empty ∙ ap events_in (sym is);
      summed = none ∙ ap length (sym empty);
      sized = ap length zeros ∙ length-replicate (opening.config.harts + 1) 0;
      counted = λ a acting. ap (λ (ns : List ℕ). slice_index_or ns (number_of opening.config a) 0) zeros
          ∙ get_or-replicate (opening.config.harts + 1) (number_of opening.config a) 0 0 (number-within opening.config a acting) ∙ ap (count_of a) (sym empty);
      acted = subst (AllByRecursion (λ (e : Event). IsActor opening.config e.actor)) (sym empty) tt;
      at_rest = subst (IsRests opening.config.harts) (sym rested) (none-rests opening.config.harts);
      no_parts = no-parts;
      no_amount = no-amount;
    }
