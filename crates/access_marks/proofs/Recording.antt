-- The places of a record, and what is there at each.
use Rattle.std.proofs.Common.{◌≡◌, ℕ, ◌+◌, ◌<◌, Bool, List, [], ◌∷◌, ◌++◌, length, take, drop, reverse, get_or, sym, ap, subst, ◌∙◌, Option, Some, None, Ok}
use Rattle.std.specs.Prelude.{MatchOption}
use Rattle.std.specs.List.{All}
use Rattle.std.proofs.lemmas.List.{length-append, reverse-append, reverse-reverse, take-append-drop, take_more}
use Rattle.std.proofs.lemmas.List.Elements.{All-cons, All-head, All-nil, All-push, All-same, All-tail}
use mathlib.Core.List.{reverse-cons}
use Rattle.board_terms.specs.declared.op.Actor.{Actor}
use Rattle.board_terms.specs.declared.op.Actor.TheVariants.{Hart, Clock}
use Rattle.board_terms.specs.declared.op.Op.{Op}
use Rattle.board_terms.specs.declared.reply.Reply.{Reply}
use Rattle.board_core.specs.History.{Event, access_of}
use Rattle.board_core.specs.Opening.{Opening}
use Rattle.board_core.specs.Replies.{IsLegal, answer}
use Rattle.board_rules.proofs.InCalls.{taken}
use Rattle.board_laws.proofs.Places.{legal-older}
use Rattle.access_marks.specs.Inside.Accessed.{IsPresent, IsWatched}
use Rattle.tlb_watch.specs.declared.hart_address.HartAddress.{HartAddress}
use Rattle.access_marks.specs.declared.marks.Marks.{Marks}
use Rattle.access_marks.specs.Marks.{AreMarked, AreWalksMarked, IsMarkedStep, IsWalkMarkedStep}
use Rattle.access_marks.specs.Inside.Following.{Following, IsNext}

-- ---- what is found, or isn't

pub when-none : {A : Type 0} (found : Option A) (P : Type 0) (Q : A → Type 0) → found ≡ None → MatchOption found P Q → P
when-none None P Q is holds = holds
when-none (Some a) P Q is holds = absurd cc

pub when-some : {A : Type 0} (found : Option A) (a : A) (P : Type 0) (Q : A → Type 0) → found ≡ Some a → MatchOption found P Q → Q a
when-some {A = A} found a P Q is holds = subst (λ (f : Option A). MatchOption f P Q) is holds

-- ---- lists

-- the first elements of a list, with one more, from the last on
pub one-more : {A : Type 0} (xs : List A) (i : ℕ) (x : A) → i < length xs → x ≡ get_or xs i x → reverse (take (i + 1) xs) ≡ x ∷ reverse (take i xs)
one-more xs i x inside is =
    ap reverse (take_more xs i x inside) ∙ reverse-append (take i xs) (get_or xs i x ∷ []) ∙ ap (λ y. y ∷ reverse (take i xs)) (sym is)

-- the first elements of a list, with one more, are one more
pub one-longer : {A B : Type 0} (xs : List A) (i : ℕ) (x : A) → i < length xs → x ≡ get_or xs i x → (ys : List B) (y : B) → length ys ≡ length (take i xs) → length (ys ++ y ∷ []) ≡ length (take (i + 1) xs)
one-longer xs i x inside is ys y many =
    length-append ys (y ∷ []) ∙ ap (λ n. n + 1) many ∙ sym (length-append (take i xs) (get_or xs i x ∷ [])) ∙ sym (ap length (take_more xs i x inside))

all-reversed : {A : Type 0} (P : A → Type 0) (xs : List A) → All P xs → All P (reverse xs)
all-reversed P [] all = All-nil P
all-reversed P (x ∷ xs) all =
    All-same P (reverse (x ∷ xs)) (reverse xs ++ x ∷ []) (reverse-cons x xs) (All-push P (reverse xs) x (all-reversed P xs (All-tail P x xs all)) (All-head P x xs all))

pub all-turned : {A : Type 0} (P : A → Type 0) (xs : List A) → All P (reverse xs) → All P xs
all-turned P xs all = All-same P xs (reverse (reverse xs)) (sym (reverse-reverse xs)) (all-reversed P (reverse xs) all)

-- ---- a legal record

present-by : (o : Opening) (past : List Event) (actor : Actor) (op : Op) (r : Reply) → answer o past actor op ≡ Ok r → IsPresent o.config.harts actor
present-by o past (Hart h) op r answered = (taken o past h op r answered).inside
present-by o past Clock op r answered = tt

present-past : (o : Opening) (past : List Event) → IsLegal o past → All (λ (e : Event). IsPresent o.config.harts e.actor) past
present-past o [] legal = All-nil (λ (e : Event). IsPresent o.config.harts e.actor)
present-past o (event ∷ past) legal =
    All-cons (λ (e : Event). IsPresent o.config.harts e.actor) event past (present-by o past event.actor event.op event.reply legal.0) (present-past o past legal.2)

-- each of its actors is there
pub all-present : (o : Opening) (events : List Event) → IsLegal o (reverse events) → All (λ (e : Event). IsPresent o.config.harts e.actor) events
all-present o events legal = all-turned (λ (e : Event). IsPresent o.config.harts e.actor) events (present-past o (reverse events) legal)

-- so is what was there up to each of its places
pub legal-at : (o : Opening) (events : List Event) (i : ℕ) (event : Event) → i < length events → event ≡ get_or events i event → IsLegal o (reverse events) → IsLegal o (event ∷ reverse (take i events))
legal-at o events i event inside is legal =
    subst (IsLegal o) (one-more events i event inside is)
    (legal-older o (reverse (drop (i + 1) events)) (reverse (take (i + 1) events))
    (subst (IsLegal o) (ap reverse (sym (take-append-drop (i + 1) events)) ∙ reverse-append (take (i + 1) events) (drop (i + 1) events)) legal))

pub next-of : (o : Opening) (past : List Event) (event : Event) → IsLegal o (event ∷ past) → IsNext o past event
next-of o past event legal = record { answered = legal.0; uses = legal.1 }

legal-next : (o : Opening) (past : List Event) (event : Event) → IsLegal o past → IsNext o past event → IsLegal o (event ∷ past)
legal-next o past event legal next = (next.answered, next.uses, legal)

-- ---- a board at a place of a record

-- a board that took the first events of a record
abbrev pub at : Opening → List Event → (i : ℕ) → List HartAddress → (walks : Bool) → Following
at o events i addresses walks =
    record { course = record { opening = o; past = reverse (take i events) }; addresses = addresses; walks = walks }

-- a following board that took one event more
abbrev pub after : Following → Event → Following
after f event =
    record { course = record { opening = f.course.opening; past = event ∷ f.course.past }; addresses = f.addresses; walks = f.walks }

module _ (o : Opening) (events : List Event) (i : ℕ) (event : Event) (addresses : List HartAddress) (walks : Bool) (f : Following) (inside : i < length events) (is : event ≡ get_or events i event)
    (here : f ≡ at o events i addresses walks) where
  pub watched-at : All (IsWatched o.config.harts addresses) events → IsWatched f.course.opening.config.harts f.addresses event
  watched-at all =
      subst (λ (f : Following). IsWatched f.course.opening.config.harts f.addresses event) (sym here)
      (subst (IsWatched o.config.harts addresses) (sym is) (all i event inside))

  -- it isn't the next one
  pub not-next : (IsNext f.course.opening f.course.past event → ⊥) → IsLegal o (reverse events) → ⊥
  not-next other legal =
      other (subst (λ (f : Following). IsNext f.course.opening f.course.past event) (sym here) (next-of o (reverse (take i events)) event (legal-at o events i event inside is legal)))

  -- it is the next one
  module _ (g : Following) (next : IsNext f.course.opening f.course.past event) (went : g ≡ after f event) where
    pub next-at : g ≡ at o events (i + 1) addresses walks
    next-at =
        went ∙ ap (λ (f : Following). after f event) here
        ∙ ap (λ (past : List Event). let one : Following = record { course = record { opening = o; past = past }; addresses = addresses; walks = walks } in one) (sym (one-more events i event inside is))

    pub still-legal : IsLegal o (reverse (take i events)) → IsLegal o (reverse (take (i + 1) events))
    still-legal legal =
        subst (IsLegal o) (sym (one-more events i event inside is))
        (legal-next o (reverse (take i events)) event legal (subst (λ (f : Following). IsNext f.course.opening f.course.past event) here next))

    pub still-marked : (marks : List Marks) (m : Marks) → IsMarkedStep f.course.opening f.course.past event event.actor (access_of event.op) m → AreMarked o (reverse (take i events)) (reverse marks)
        → AreMarked o (reverse (take (i + 1) events)) (reverse (marks ++ m ∷ []))
    still-marked marks m marked rest =
        subst (λ (past : List Event). AreMarked o past (reverse (marks ++ m ∷ []))) (sym (one-more events i event inside is))
        (subst (AreMarked o (event ∷ reverse (take i events))) (sym (reverse-append marks (m ∷ [])))
        (subst (λ (f : Following). IsMarkedStep f.course.opening f.course.past event event.actor (access_of event.op) m) here marked, rest))

    pub still-walked : (marks : List Marks) (m : Marks) → IsWalkMarkedStep f.course.opening f.course.past event.actor (access_of event.op) m → AreWalksMarked o (reverse (take i events)) (reverse marks)
        → AreWalksMarked o (reverse (take (i + 1) events)) (reverse (marks ++ m ∷ []))
    still-walked marks m marked rest =
        subst (λ (past : List Event). AreWalksMarked o past (reverse (marks ++ m ∷ []))) (sym (one-more events i event inside is))
        (subst (AreWalksMarked o (event ∷ reverse (take i events))) (sym (reverse-append marks (m ∷ [])))
        (subst (λ (f : Following). IsWalkMarkedStep f.course.opening f.course.past event.actor (access_of event.op) m) here marked, rest))
