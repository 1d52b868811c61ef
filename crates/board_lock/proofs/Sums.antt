-- Where the sums are equal, each count is.
use Rattle.std.proofs.Common.{◌≡◌, ℕ, zero, suc, ◌+◌, ◌<◌, ◌≤◌, List, [], ◌∷◌, ◌++◌, length, get_or, take, inl, inr, refl, sym, ap, ◌∙◌, arith}
use Rattle.std.specs.Prelude.{if◌then◌else◌}
use Rattle.std.specs.List.{AllByRecursion}
use mathlib.Core.List.{IsPrefix}
use Rattle.std.proofs.lemmas.Bool.{cases_Bool}
use Rattle.std.proofs.lemmas.List.{length-append, take_more}
use Rattle.board_terms.specs.declared.config.Config.{Config}
use Rattle.board_terms.specs.declared.op.Actor.{Actor}
use Rattle.board_core.specs.History.{Event}
use Rattle.board_lock.specs.Events.{IsActor, events_of, is_same, ops_of}
use Rattle.board_lock.specs.Inside.Kept.{count_of}
use Rattle.board_lock.specs.Seats.{IsOneEach, Sitting, seats_of}
use Rattle.board_lock.specs.Inside.Settling.{IsSettling, Knows, Looked, Within, counts}
use Rattle.board_lock.proofs.Ops.{knows-more}
use Rattle.board_lock.proofs.Places.{count_of-append, length-events}

pub seats_of-append : (a : Actor) (xs ys : List Sitting) → seats_of a (xs ++ ys) ≡ seats_of a xs + seats_of a ys
seats_of-append a [] ys = omega arith
seats_of-append a (x ∷ xs) ys = let more = seats_of-append a xs ys in omega arith

pub seats_of-within : (a : Actor) (ss : List Sitting) → seats_of a ss ≤ length ss
seats_of-within a [] = omega arith
seats_of-within a (s ∷ ss) = let more = seats_of-within a ss in elim (cases_Bool (is_same s.actor a)) [
  | inl same ↦ rw same (omega arith)
  | inr other ↦ rw other (omega arith)
]

-- one seat more
pub seats-taken : (a : Actor) (ss : List Sitting) (i : ℕ) (s : Sitting) → s ≡ get_or ss i s → i < length ss
    → seats_of a (take (i + 1) ss) ≡ seats_of a (take i ss) + (if is_same s.actor a then 1 else 0)
seats-taken a ss i s is inside =
    ap (seats_of a) (take_more ss i s inside ∙ ap (λ (x : Sitting). take i ss ++ x ∷ []) (sym is)) ∙ seats_of-append a (take i ss) (s ∷ [])
    ∙ (omega arith)

-- the sum of the seats' events
abbrev pub events : List Event → List Sitting → ℕ
events es [] = 0
events es (s ∷ ss) = count_of s.actor es + events es ss

events-none : (ss : List Sitting) → events [] ss ≡ 0
events-none [] = refl
events-none (s ∷ ss) = let more = events-none ss in omega arith

events-more : (e : Event) (es : List Event) (ss : List Sitting) → events (e ∷ es) ss ≡ seats_of e.actor ss + events es ss
events-more e es [] = refl
events-more e es (s ∷ ss) = let more = events-more e es ss in omega arith

-- each event is of one seat
events-all : (c : Config) (es : List Event) (ss : List Sitting) → IsOneEach c ss → AllByRecursion (λ (e : Event). IsActor c e.actor) es → events es ss ≡ length es
events-all c [] ss one acted = events-none ss
events-all c (e ∷ es) ss one acted =
    let more = events-all c es ss one acted.1 in
    let mine = one.one_each e.actor acted.0 in
    let split = events-more e es ss in
    omega arith

abbrev pub Equal : List Event → List Sitting → Type 0
Equal es ss = AllByRecursion (λ (s : Sitting). length (events_of s.actor es) ≡ s.count) ss

counts-within : (es : List Event) (ss : List Sitting) → Within es ss → counts ss ≤ events es ss
counts-within es [] within = omega arith
counts-within es (s ∷ ss) within = let more = counts-within es ss within.1 in let here = within.0 in omega arith

equal : (es : List Event) (ss : List Sitting) → Within es ss → counts ss ≡ events es ss → Equal es ss
equal es [] within sums = tt
equal es (s ∷ ss) within sums =
    let rest = counts-within es ss within.1 in
    let here = within.0 in
    let is = length-events 0 s.actor es in
    (omega arith, equal es ss within.1 (omega arith))

-- ---- the seats that gave back their parts

counts-more : (ss : List Sitting) (s : Sitting) → counts (ss ++ s ∷ []) ≡ counts ss + s.count
counts-more [] s = omega arith
counts-more (x ∷ xs) s = let more = counts-more xs s in omega arith

within-more : (es : List Event) (ss : List Sitting) (s : Sitting) → Within es ss → s.count ≤ count_of s.actor es → Within es (ss ++ s ∷ [])
within-more es [] s all more = (more, tt)
within-more es (x ∷ xs) s all more = (all.0, within-more es xs s all.1 more)

looked-more : (es : List Event) (ss : List Sitting) (s : Sitting) → Looked es ss → IsPrefix s.saw es × (s.count ≤ count_of s.actor s.saw) → Looked es (ss ++ s ∷ [])
looked-more es [] s all more = (more, tt)
looked-more es (x ∷ xs) s all more = (all.0, looked-more es xs s all.1 more)

-- a seat that saw a beginning of the events has no greater count than they give
pub saw-within : (es seen : List Event) (a : Actor) (count : ℕ) → IsPrefix seen es → count_of a seen ≡ count → count ≤ count_of a es
saw-within es seen a count prefix saw =
    let split : count_of a es ≡ count_of a seen + count_of a prefix.0 = ap (count_of a) (sym prefix.1) ∙ count_of-append a seen prefix.0 in
    omega arith

pub settling-more : (es : List Event) (ss : List Sitting) (parts parts' amount amount' : ℕ) (s : Sitting) → IsSettling es ss parts amount → parts' ≡ parts + 1 → amount' ≡ amount + s.count
    → s.count ≤ count_of s.actor es → (s.count ≡ count_of s.actor es → ops_of s.actor es ≡ s.ops) → IsPrefix s.saw es × (s.count ≤ count_of s.actor s.saw)
    → IsSettling es (ss ++ s ∷ []) parts' amount'
settling-more es ss parts parts' amount amount' s at part more within knows looked =
    record {
      parts_are = (let many = at.parts_are in omega (arith, length-append ss (s ∷ [])));
      amount_is = more ∙ ap (λ (n : ℕ). n + s.count) at.amount_is ∙ sym (counts-more ss s);
      within = within-more es ss s at.within within;
      knows = knows-more es ss s at.knows knows;
      looked = looked-more es ss s at.looked looked;
    }

-- what holds of each holds at each place
pub equal-at : (es : List Event) (ss : List Sitting) → Equal es ss → (k : ℕ) (d : Sitting) → k < length ss → length (events_of (get_or ss k d).actor es) ≡ (get_or ss k d).count
equal-at es [] all k d inside = absurd (omega arith)
equal-at es (s ∷ ss) all zero d inside = all.0
equal-at es (s ∷ ss) all (suc k) d inside = equal-at es ss all.1 k d (omega arith)

-- a seat that counts all events of its actor knows their operations, so each does
pub known-at : (es : List Event) (ss : List Sitting) → Equal es ss → Knows es ss → (k : ℕ) (d : Sitting) → k < length ss → ops_of (get_or ss k d).actor es ≡ (get_or ss k d).ops
known-at es [] all knows k d inside = absurd (omega arith)
known-at es (s ∷ ss) all knows zero d inside = knows.0 (sym all.0 ∙ length-events 0 s.actor es)
known-at es (s ∷ ss) all knows (suc k) d inside = known-at es ss all.1 knows.1 k d (omega arith)

-- what each seat saw is a beginning of the events, with all of its own
pub looked-at : (es : List Event) (ss : List Sitting) → Equal es ss → Looked es ss → (k : ℕ) (d : Sitting) → k < length ss
    → IsPrefix (get_or ss k d).saw es × (length (events_of (get_or ss k d).actor (get_or ss k d).saw) ≡ (get_or ss k d).count)
looked-at es [] all looked k d inside = absurd (omega arith)
looked-at es (s ∷ ss) all looked zero d inside =
    let prefix = looked.0.0 in
    let most = saw-within es s.saw s.actor (count_of s.actor s.saw) prefix refl in
    let least = looked.0.1 in
    let whole = sym (length-events 0 s.actor es) ∙ all.0 in
    (prefix, length-events 0 s.actor s.saw ∙ (omega arith))
looked-at es (s ∷ ss) all looked (suc k) d inside = looked-at es ss all.1 looked.1 k d (omega arith)

pub closes : (c : Config) (es : List Event) (ss : List Sitting) → IsOneEach c ss → AllByRecursion (λ (e : Event). IsActor c e.actor) es → Within es ss
    → counts ss ≡ length es → Equal es ss
closes c es ss one acted within sums = equal es ss within (sums ∙ sym (events-all c es ss one acted))
