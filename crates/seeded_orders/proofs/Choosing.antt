-- What is kept of a record tells it from others.
use Rattle.std.proofs.Common.{◌≡◌, ◌⊎◌, ℕ, ◌<◌, ◌≤◌, List, [], ◌∷◌, ◌++◌, refl, sym, ap, ◌∙◌, subst, inl, inr, if◌then◌else◌, map, arith}
use Rattle.std.specs.Prelude.{◌==◌, Bool, true, false, Option, Some, Ok, nat_le, reverse}
use Rattle.std.proofs.lemmas.Bool.{leb-false}
use Rattle.std.proofs.lemmas.List.{map-append, reverse-append, reverse-reverse}
use Rattle.tlb_model.specs.Entries.{Entry}
use Rattle.board_core.specs.Opening.{Opening}
use Rattle.board_terms.specs.declared.op.Actor.{Actor}
use Rattle.board_terms.specs.declared.op.Actor.TheVariants as actors
use Rattle.board_terms.specs.declared.op.Op.{Op}
use Rattle.board_terms.specs.declared.op.Op.TheVariants as ops
use Rattle.board_terms.specs.declared.reply.Refusal.{Refusal}
use Rattle.board_terms.specs.declared.reply.Refusal.TheVariants as refusals
use Rattle.board_terms.specs.declared.reply.Reply.{Reply}
use Rattle.board_core.specs.Accesses.{used_by_actor}
use Rattle.board_core.specs.History.{Event}
use Rattle.board_terms.specs.Limits.{IsGood}
use Rattle.board_core.specs.Replies.{answer, IsLegal, refused_or}
use Rattle.board_core.specs.Resets.{is_off}
use Rattle.guest_programs.specs.Guests.{next_op}
use Rattle.guest_programs.specs.Steps.{IsOwn, AreOwn, IsActorsOwn, Task}
use Rattle.seeded_orders.specs.Choices.{choice, choice_of, own_number}

-- the firmware's operation of a number
abbrev named : ℕ → Op
named n = if n == 1 then ops.Serve else if n == 2 then ops.Poll else ops.Advance

is-named : (op : Op) → (own_number op ≡ 0) ⊎ ((op ≡ named (own_number op)) × (own_number op < 4))
is-named (ops.Ecall regs) = inl refl
is-named (ops.Load va) = inl refl
is-named (ops.Store va value) = inl refl
is-named (ops.Fetch va) = inl refl
is-named (ops.Amo at amo) = inl refl
is-named (ops.WriteSatp value) = inl refl
is-named (ops.WriteSie value) = inl refl
is-named (ops.WriteSstatusSie value) = inl refl
is-named ops.ReadSip = inl refl
is-named ops.ClearSsip = inl refl
is-named ops.Wfi = inl refl
is-named (ops.Sfence va asid) = inl refl
is-named ops.FenceI = inl refl
is-named ops.Poll = inr (refl, omega arith)
is-named ops.Serve = inr (refl, omega arith)
is-named ops.Advance = inr (refl, omega arith)
is-named (ops.Tick n) = inl refl

number-below : (op : Op) → own_number op < 4
number-below op = elim (is-named op) [
  | inl none ↦ omega arith
  | inr one ↦ one.1
]

-- two operations of the firmware of the same number are the same
same-named : (op other : Op) → 0 < own_number op → own_number op ≡ own_number other → op ≡ other
same-named op other some same = elim (is-named op) [
  | inl none ↦ absurd (omega arith)
  | inr one ↦ elim (is-named other) [
    | inl none ↦ absurd (omega arith)
    | inr two ↦ one.0 ∙ ap named same ∙ sym two.0
  ]
]

-- two operations of an actor's own of the same number are the same
same-own : (next : Option Op) (op other : Op) → IsOwn next op → IsOwn next other → own_number op ≡ own_number other → op ≡ other
same-own next op other own owns same = elim own [
  | inl serves ↦ same-named op other (let n = ap own_number serves in omega arith) same
  | inr (inl polls) ↦ same-named op other (let n = ap own_number polls in omega arith) same
  | inr (inr (inl advances)) ↦ same-named op other (let n = ap own_number advances in omega arith) same
  | inr (inr (inr here)) ↦ elim owns [
    | inl serves ↦ same-named op other (let n = ap own_number serves in omega arith) same
    | inr (inl polls) ↦ same-named op other (let n = ap own_number polls in omega arith) same
    | inr (inr (inl advances)) ↦ same-named op other (let n = ap own_number advances in omega arith) same
    | inr (inr (inr there)) ↦ (let t : Some op ≡ Some other = sym here ∙ there in cc)
  ]
]

not-out : (off out : Bool) (rest : Option Refusal) (gives reply : Reply)
    → refused_or (if off then Some refusals.Off else if out then Some refusals.WrongPhase else rest) gives ≡ Ok reply → out ≡ false
not-out true out rest gives reply is = absurd (let t = is in cc)
not-out false true rest gives reply is = absurd (let t = is in cc)
not-out false false rest gives reply is = refl

-- an operation that is accepted is of a hart that there is
there-is : (o : Opening) (past : List Event) (h : ℕ) (op : Op) (reply : Reply) → answer o past (actors.Hart h) op ≡ Ok reply → h < o.config.harts
there-is o past h op reply accepted = leb-false o.config.harts h (not-out (is_off o past) (nat_le o.config.harts h) _ _ reply accepted)

same-actor : (o : Opening) (past : List Event) (one other : Actor) (op next : Op) (reply told : Reply) → IsGood o.config
    → answer o past one op ≡ Ok reply → answer o past other next ≡ Ok told → choice one op ≡ choice other next → (one ≡ other) × ((h : ℕ) → one ≡ actors.Hart h → own_number op ≡ own_number next)
same-actor o past (actors.Hart h) (actors.Hart k) op next reply told good here there same =
    let below : h < o.config.harts = there-is o past h op reply here in
    let within : k < o.config.harts = there-is o past k next told there in
    let most : o.config.harts ≤ 128 = good.at_most_128_harts in
    let few : own_number op < 4 = number-below op in
    let small : own_number next < 4 = number-below next in
    let harts : h ≡ k = omega arith in
    let numbers : own_number op ≡ own_number next = omega arith in
    (ap (λ (n : ℕ). actors.Hart n) harts, (λ n is. numbers))
same-actor o past (actors.Hart h) actors.Clock op next reply told good here there same =
    let few : own_number op < 4 = number-below op in
    absurd (omega arith)
same-actor o past actors.Clock (actors.Hart k) op next reply told good here there same =
    let few : own_number next < 4 = number-below next in
    absurd (omega arith)
same-actor o past actors.Clock actors.Clock op next reply told good here there same = (refl, (λ h is. absurd (let t = is in cc)))

same-op : (p : Task) (past : List Event) (actor : Actor) (op next : Op) → IsActorsOwn p past actor op → IsActorsOwn p past actor next
    → ((h : ℕ) → actor ≡ actors.Hart h → own_number op ≡ own_number next) → op ≡ next
same-op p past (actors.Hart h) op next own owns same = same-own (next_op p.guests past h) op next own owns (same h refl)
same-op p past actors.Clock op next own owns same = let t : Some op ≡ Some next = sym own ∙ owns in cc

-- what an event is that is accepted
abbrev IsBehind : Opening → Task → List Event → Event → Type 0
IsBehind o p past e = (answer o past e.actor e.op ≡ Ok e.reply) × (e.translation ≡ used_by_actor o past e.actor e.op) × IsActorsOwn p past e.actor e.op

same-fields : (o : Opening) (p : Task) (past : List Event) (actor : Actor) (op next : Op) (reply told : Reply) (used walked : Option Entry) → op ≡ next
    → answer o past actor op ≡ Ok reply → answer o past actor next ≡ Ok told → used ≡ used_by_actor o past actor op → walked ≡ used_by_actor o past actor next
    → (reply ≡ told) × (used ≡ walked)
same-fields o p past actor op next reply told used walked same here there by with =
    let replies : Ok reply ≡ Ok told = sym here ∙ ap (λ (x : Op). answer o past actor x) same ∙ there in
    ((let t = replies in cc), by ∙ ap (λ (x : Op). used_by_actor o past actor x) same ∙ sym with)

event-is : (a b : Actor) (o q : Op) (r s : Reply) (t u : Option Entry) → a ≡ b → o ≡ q → r ≡ s → t ≡ u
    → (let e : Event = record { actor = a; op = o; reply = r; translation = t } in e) ≡ (let e : Event = record { actor = b; op = q; reply = s; translation = u } in e)
event-is a b o q r s t u actor op reply used = cc

same-event : (o : Opening) (p : Task) (past : List Event) (e f : Event) → IsGood o.config → IsBehind o p past e → IsBehind o p past f → choice_of e ≡ choice_of f → e ≡ f
same-event o p past e f good here there same =
    let both = same-actor o past e.actor f.actor e.op f.op e.reply f.reply good here.0 there.0 same in
    let P : Actor → Type 0 = λ a. answer o past a f.op ≡ Ok f.reply in
    let Q : Actor → Type 0 = λ a. f.translation ≡ used_by_actor o past a f.op in
    let R : Actor → Type 0 = λ a. IsActorsOwn p past a f.op in
    let op : e.op ≡ f.op = same-op p past e.actor e.op f.op here.2 (subst R (sym both.0) there.2) both.1 in
    let fields = same-fields o p past e.actor e.op f.op e.reply f.reply e.translation f.translation op here.0 (subst P (sym both.0) there.0) here.1 (subst Q (sym both.0) there.1) in
    event-is e.actor f.actor e.op f.op e.reply f.reply e.translation f.translation both.0 op fields.0 fields.1

same-head : (x y : ℕ) (xs ys : List ℕ) → x ∷ xs ≡ y ∷ ys → (x ≡ y) × (xs ≡ ys)
same-head x y xs ys same = ((let t = same in cc), (let t = same in cc))

same-record : (o : Opening) (p : Task) (one other : List Event) → IsGood o.config → IsLegal o one → IsLegal o other → AreOwn p one → AreOwn p other
    → map choice_of one ≡ map choice_of other → one ≡ other
same-record o p [] [] good legal law own owns same = refl
same-record o p [] (f ∷ rest) good legal law own owns same = absurd (let t = same in cc)
same-record o p (e ∷ past) [] good legal law own owns same = absurd (let t = same in cc)
same-record o p (e ∷ past) (f ∷ rest) good legal law own owns same =
    let parts = same-head (choice_of e) (choice_of f) (map choice_of past) (map choice_of rest) same in
    let tails : past ≡ rest = same-record o p past rest good legal.2 law.2 own.1 owns.1 parts.1 in
    let P : List Event → Type 0 = λ xs. IsBehind o p xs f in
    let there : IsBehind o p past f = subst P (sym tails) (law.0, law.1, owns.0) in
    let heads : e ≡ f = same-event o p past e f good (legal.0, legal.1, own.0) there parts.0 in
    ap (λ (x : Event). x ∷ past) heads ∙ ap (λ (xs : List Event). f ∷ xs) tails

map_reverse : {A B : Type 0} (f : A → B) (xs : List A) → map f (reverse xs) ≡ reverse (map f xs)
map_reverse f [] = refl
map_reverse f (x ∷ xs) =
    ap (map f) (reverse-append (x ∷ []) xs) ∙ map-append f (reverse xs) (x ∷ []) ∙ ap (λ l. l ++ f x ∷ []) (map_reverse f xs)
    ∙ sym (reverse-append (f x ∷ []) (map f xs))

pub same-choices : (o : Opening) (p : Task) (one other : List Event) → IsGood o.config → IsLegal o one → IsLegal o other → AreOwn p one → AreOwn p other
    → map choice_of (reverse one) ≡ map choice_of (reverse other) → one ≡ other
same-choices o p one other good legal law own owns same =
    let back : reverse (map choice_of one) ≡ reverse (map choice_of other) = sym (map_reverse choice_of one) ∙ same ∙ map_reverse choice_of other in
    same-record o p one other good legal law own owns
    (sym (reverse-reverse (map choice_of one)) ∙ ap (λ (xs : List ℕ). reverse xs) back ∙ reverse-reverse (map choice_of other))
