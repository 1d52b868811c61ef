-- What guests met, event by event and record by record.
use Rattle.std.proofs.Common.{◌≡◌, ◌≢◌, ◌↔◌, ◌⊎◌, ◌<◌, ◌≤◌, ◌+◌, ◌-◌, ◌^◌, ℕ, suc, Bool, true, false, if◌then◌else◌, List, [], ◌∷◌, ◌++◌, length, get_or, set, refl, sym, ap, ◌∙◌, subst, inl, inr, arith}
use Rattle.std.specs.Prelude.{Option, Some, None, not, min, map, reverse, replicate, take}
use Rattle.std.specs.Option.{option_map}
use Rattle.std.specs.Global.{Vec}
use Rattle.std.specs.Ordering.{nat_cmp}
use Rattle.std.specs.BTreeSet.{BTreeSet, InsertsAll, IsEmpty, Updates}
use Rattle.std.proofs.lemmas.Bool.{cases_order, eq-eqb, eqb-true, le-ltb, lt-ltb, ne_eqb}
use Rattle.std.proofs.lemmas.List.{get_or-replicate, get_or-set_other, get_or-set_same, length-replicate, length-set}
use Rattle.std.proofs.Math.Seq.{take-suc}
use Rattle.std.proofs.lemmas.List.{reverse-append, take_all}
use Rattle.board_terms.specs.declared.op.Actor.{Actor}
use Rattle.board_terms.specs.declared.op.Actor.TheVariants.{Hart, Clock}
use Rattle.board_terms.specs.declared.op.Op.{Op}
use Rattle.board_terms.specs.declared.reply.Reply.{Reply}
use Rattle.board_terms.specs.declared.reply.Reply.TheVariants.{Ret, Waiting, Gone, Entry, Value, Fault, Served, Moved, Done}
use Rattle.board_core.specs.Course.{is_hart}
use Rattle.board_core.specs.ErrorLaw.{is_error}
use Rattle.board_core.specs.History.{Event}
use Rattle.guest_programs.specs.Guests.{Did, Entered, Meaning, did, did_after, entry_after, is_guest, last_entry, meaning_by, meaning_of}
use Rattle.guest_programs.specs.Guests.Meaning.{Does, Enters as Into, Still}
use Rattle.guest_programs.proofs.Following.{IsNoEntry, turn-does, turn-still}
use Rattle.seeded_orders.specs.Choices.{choice_of}
use Rattle.outcome_statistics.specs.declared.visits.Spot.{Spot}
use Rattle.outcome_statistics.specs.declared.visits.Visits.{Visits}
use Rattle.outcome_statistics.specs.Records.{SomeIs, Tried}
use Rattle.outcome_statistics.specs.Visits.{AreRecords, AreVisited, Calls, Enters, HasKey, IsCallAt, IsWith, place_behind, entry_at, is_call, spot_at, spot_of}
use Rattle.outcome_statistics.specs.Inside.Guests.{AreGuests}
use Rattle.outcome_statistics.proofs.Keys.{choices-append, choices-insert, choices_cmp, number-append, number-insert, some-none, spot-append, spot-insert, spot_cmp}
use Rattle.outcome_statistics.proofs.Meeting.{some-before, some-behind, some-of-both}

-- ---- what an event means for a guest's place

meaning-enters : (op : Op) (reply : Reply) (addr : ℕ) → entry_at reply ≡ Some addr → (x : Entered) × (x.addr ≡ addr) × (meaning_by op reply ≡ Into x)
meaning-enters op (Entry a h o) addr at = (record { addr = a; hart = h; opaque = o }, (let t = at in cc), refl)
meaning-enters op (Ret x) addr at = absurd (let t = at in cc)
meaning-enters op Waiting addr at = absurd (let t = at in cc)
meaning-enters op Gone addr at = absurd (let t = at in cc)
meaning-enters op (Value x) addr at = absurd (let t = at in cc)
meaning-enters op (Fault x) addr at = absurd (let t = at in cc)
meaning-enters op Served addr at = absurd (let t = at in cc)
meaning-enters op (Moved x) addr at = absurd (let t = at in cc)
meaning-enters op Done addr at = absurd (let t = at in cc)

no-entry-of : (reply : Reply) → entry_at reply ≡ None → IsNoEntry reply
no-entry-of reply none addr hart opaque is = let t = sym none ∙ ap entry_at is in cc

abbrev place : Option Entered → Did → Option Spot
place entry before = option_map (λ x. record { addr = x.addr; before = min (length before) (2 ^ 64 - 1) }) entry

behind-one : (entry : Option Entered) (before : Did) (more : Did) → length more ≡ suc (length before) → place_behind (place entry before) ≡ place entry more
behind-one None before more longer = refl
behind-one (Some x) before more longer =
    let up : min (min (length before) (2 ^ 64 - 1) + 1) (2 ^ 64 - 1) ≡ min (length more) (2 ^ 64 - 1) = grind arith in
    ap (λ (m : ℕ). Some (record { addr = x.addr; before = m })) up

module _ (past : List Event) (h : ℕ) (e : Event) (mine : is_hart h e.actor ≡ true) where
  own : meaning_of h e ≡ meaning_by e.op e.reply
  own = ap (λ (b : Bool). if b then meaning_by e.op e.reply else Still) mine

  turned : (t : Meaning) → meaning_by e.op e.reply ≡ t → place (entry_after t (last_entry past h)) (did_after t (did past h)) ≡ spot_of (e ∷ past) h
  turned t is = ap (λ (m : Meaning). place (entry_after m (last_entry past h)) (did_after m (did past h))) (sym (own ∙ is))

  pub spot-entered : (addr : ℕ) → entry_at e.reply ≡ Some addr → Some (record { addr = addr; before = 0 }) ≡ spot_of (e ∷ past) h
  spot-entered addr at =
      let means = meaning-enters e.op e.reply addr at in
      ap (λ (a : ℕ). Some (record { addr = a; before = 0 })) (sym means.1) ∙ turned (Into means.0) means.2

  pub spot-done : (guest : Option Spot) → entry_at e.reply ≡ None → is_guest e.op ≡ true → guest ≡ spot_of past h → place_behind guest ≡ spot_of (e ∷ past) h
  spot-done guest none does at =
      ap place_behind at ∙ behind-one (last_entry past h) (did past h) ((e.op, e.reply) ∷ did past h) refl
      ∙ turned (Does e.op e.reply) (turn-does e.op e.reply does (no-entry-of e.reply none))

  pub spot-still : (guest : Option Spot) → entry_at e.reply ≡ None → is_guest e.op ≡ false → guest ≡ spot_of past h → guest ≡ spot_of (e ∷ past) h
  spot-still guest none other at = at ∙ turned Still (turn-still e.op e.reply other (no-entry-of e.reply none))

spot-other : (past : List Event) (h : ℕ) (e : Event) → is_hart h e.actor ≡ false → spot_of past h ≡ spot_of (e ∷ past) h
spot-other past h e other =
    let still : meaning_of h e ≡ Still = ap (λ (b : Bool). if b then meaning_by e.op e.reply else Still) other in
    ap (λ (m : Meaning). place (entry_after m (last_entry past h)) (did_after m (did past h))) (sym still)

-- ---- the guests of all harts

pub guests-none : (harts : ℕ) (guests : List (Option Spot)) → guests ≡ replicate harts None → AreGuests harts [] guests
guests-none harts guests are =
    let all : AreGuests harts [] (replicate harts None) = record { many = length-replicate harts None; each = λ h d below. get_or-replicate harts h None d below } in
    subst (AreGuests harts []) (sym are) all

pub guests-put : (harts : ℕ) (past : List Event) (e : Event) (guests : List (Option Spot)) (h : ℕ) (actor : Actor) (next : Option Spot) → e.actor ≡ actor → actor ≡ Hart h
    → h < length guests → AreGuests harts past guests → ((k : ℕ) → k < harts → is_hart k actor ≡ true → next ≡ spot_of (e ∷ past) k) → AreGuests harts (e ∷ past) (set guests h next)
guests-put harts past e guests h actor next by is within are moves = record {
  many = length-set guests h next ∙ are.many;
  each = λ k d below. elim (cases_order k h) [
    | inl here ↦ (
        let mine : is_hart k actor ≡ true = ap (is_hart k) is ∙ eq-eqb k h here in
        subst (λ (n : ℕ). get_or (set guests h next) n d ≡ next) (sym here) (get_or-set_same guests h next d within) ∙ moves k below mine
        )
    | inr (inl less) ↦ (
        let apart : k ≢ h = λ same. absurd (omega arith) in
        get_or-set_other guests h k next d apart ∙ are.each k d below ∙ spot-other past k e (ap (is_hart k) (by ∙ is) ∙ ne_eqb k h apart)
        )
    | inr (inr more) ↦ (
        let apart : k ≢ h = λ same. absurd (omega arith) in
        get_or-set_other guests h k next d apart ∙ are.each k d below ∙ spot-other past k e (ap (is_hart k) (by ∙ is) ∙ ne_eqb k h apart)
        )
  ];
}

pub guests-outside : (harts : ℕ) (past : List Event) (e : Event) (guests : List (Option Spot)) (h : ℕ) → e.actor ≡ Hart h → length guests ≤ h
    → AreGuests harts past guests → AreGuests harts (e ∷ past) guests
guests-outside harts past e guests h by outside are = record {
  many = are.many;
  each = λ k d below.
      let many = are.many in
      let apart : k ≢ h = λ same. absurd (omega arith) in
      are.each k d below ∙ spot-other past k e (ap (is_hart k) by ∙ ne_eqb k h apart);
}

pub guests-clock : (harts : ℕ) (past : List Event) (e : Event) (guests : List (Option Spot)) → e.actor ≡ Clock → AreGuests harts past guests → AreGuests harts (e ∷ past) guests
guests-clock harts past e guests by are = record { many = are.many; each = λ k d below. are.each k d below ∙ spot-other past k e (ap (is_hart k) by) }

pub guest-at : (harts : ℕ) (past : List Event) (guests : List (Option Spot)) (actor : Actor) (h : ℕ) (d found : Option Spot) → actor ≡ Hart h → h < length guests
    → found ≡ get_or guests h d → AreGuests harts past guests → found ≡ spot_at harts past actor
guest-at harts past guests actor h d found is within at are =
    let below : h < harts = (let many = are.many in omega arith) in
    at ∙ are.each h d below ∙ ap (λ (b : Bool). if b then spot_of past h else None) (sym (lt-ltb h harts below)) ∙ ap (spot_at harts past) (sym is)

pub guest-outside : (harts : ℕ) (past : List Event) (guests : List (Option Spot)) (actor : Actor) (h : ℕ) → actor ≡ Hart h → length guests ≤ h
    → AreGuests harts past guests → None ≡ spot_at harts past actor
guest-outside harts past guests actor h is outside are =
    let above : harts ≤ h = (let many = are.many in omega arith) in
    ap (λ (b : Bool). if b then spot_of past h else None) (sym (le-ltb h harts above)) ∙ ap (spot_at harts past) (sym is)

pub guest-moves : (harts : ℕ) (past : List Event) (actor : Actor) (guest : Option Spot) → guest ≡ spot_at harts past actor
    → (h : ℕ) → h < harts → is_hart h actor ≡ true → guest ≡ spot_of past h
guest-moves harts past Clock guest at h below mine = absurd (let t = mine in cc)
guest-moves harts past (Hart n) guest at h below mine =
    let same : h ≡ n = eqb-true h n mine in
    let within : n < harts = omega arith in
    at ∙ ap (λ (b : Bool). if b then spot_of past n else None) (lt-ltb n harts within) ∙ ap (spot_of past) (sym same)

-- ---- entries and calls, event by event

iff-kept : {P E : Type 0} → (E → ⊥) → P ↔ (P ⊎ E)
iff-kept none = (
  (λ p. inl p),
  (λ either. elim either [
    | inl p ↦ p
    | inr e ↦ absurd (none e)
  ]),
)

iff-by : {N P D E : Type 0} → N ↔ (P ⊎ D) → (D → E) → (E → D) → N ↔ (P ⊎ E)
iff-by is to from = (
  (λ n. elim (is.0 n) [
    | inl p ↦ inl p
    | inr d ↦ inr (to d)
  ]),
  (λ either. elim either [
    | inl p ↦ is.1 (inl p)
    | inr e ↦ is.1 (inr (from e))
  ]),
)

iff-both : {L N P D E : Type 0} → N ↔ (P ⊎ D) → L ↔ (N ⊎ E) → L ↔ (P ⊎ (D ⊎ E))
iff-both first later = (
  (λ l. elim (later.0 l) [
    | inl n ↦ elim (first.0 n) [
      | inl p ↦ inl p
      | inr d ↦ inr (inl d)
    ]
    | inr e ↦ inr (inr e)
  ]),
  (λ either. elim either [
    | inl p ↦ later.1 (inl (first.1 (inl p)))
    | inr (inl d) ↦ later.1 (inl (first.1 (inr d)))
    | inr (inr e) ↦ later.1 (inr e)
  ]),
)

pub with-nothing : (E : ℕ → Type 0) (C : Spot → Bool → Type 0) (before : Visits) → ((addr : ℕ) → ¬ E addr) → ((spot : Spot) (fails : Bool) → ¬ C spot fails) → IsWith E C before before
with-nothing E C before none never = record {
  entered = λ addr. iff-kept (none addr);
  succeeded = λ spot. iff-kept (never spot false);
  failed = λ spot. iff-kept (never spot true);
}

pub with-entry : (reply : Reply) (addr : ℕ) (before after : Visits) → entry_at reply ≡ Some addr → Updates nat_cmp before.entered after.entered addr true
    → after.succeeded ≡ before.succeeded → after.failed ≡ before.failed → IsWith (λ a. entry_at reply ≡ Some a) (λ spot fails. ⊥) before after
with-entry reply addr before after at inserts succeeded failed = record {
  entered = λ a. iff-by (number-insert before.entered after.entered addr a inserts) (λ same. at ∙ ap (λ (n : ℕ). Some n) same) (λ is. let t = sym at ∙ is in cc);
  succeeded = λ spot. subst (λ s. HasKey s.keys spot ↔ (HasKey before.succeeded.keys spot ⊎ ⊥)) (sym succeeded) (iff-kept (λ no. no));
  failed = λ spot. subst (λ s. HasKey s.keys spot ↔ (HasKey before.failed.keys spot ⊎ ⊥)) (sym failed) (iff-kept (λ no. no));
}

pub no-entry : (reply : Reply) (before : Visits) → entry_at reply ≡ None → IsWith (λ a. entry_at reply ≡ Some a) (λ spot fails. ⊥) before before
no-entry reply before none = with-nothing (λ a. entry_at reply ≡ Some a) (λ spot fails. ⊥) before (λ a is. let t = sym none ∙ is in cc) (λ spot fails no. no)

pub no-call : (guest : Option Spot) (e : Event) (before : Visits) → (guest ≡ None) ⊎ (is_call e.op ≡ false) → IsWith (λ a. ⊥) (IsCallAt guest e) before before
no-call guest e before (inl none) = with-nothing (λ a. ⊥) (IsCallAt guest e) before (λ a no. no) (λ spot fails is. let t = sym none ∙ is.0 in cc)
no-call guest e before (inr other) = with-nothing (λ a. ⊥) (IsCallAt guest e) before (λ a no. no) (λ spot fails is. let t = sym other ∙ is.1 in cc)

module _ (guest : Option Spot) (e : Event) (spot : Spot) (before after : Visits) (at : guest ≡ Some spot) (calls : is_call e.op ≡ true) where
  call-here : (fails : Bool) (s : Spot) → is_error e.reply ≡ fails → spot ≡ s → IsCallAt guest e s fails
  call-here fails s is same = (at ∙ ap (λ (x : Spot). Some x) same, calls, is)

  call-there : (fails : Bool) (s : Spot) → IsCallAt guest e s fails → spot ≡ s
  call-there fails s is = let t = sym at ∙ is.0 in cc

  call-not : (fails told : Bool) (s : Spot) → is_error e.reply ≡ told → told ≢ fails → IsCallAt guest e s fails → ⊥
  call-not fails told s is apart call = apart (sym is ∙ call.2)

  pub with-failed : is_error e.reply ≡ true → Updates spot_cmp before.failed after.failed spot true → after.entered ≡ before.entered → after.succeeded ≡ before.succeeded
      → IsWith (λ a. ⊥) (IsCallAt guest e) before after
  with-failed is inserts entered succeeded = record {
    entered = λ a. subst (λ s. HasKey s.keys a ↔ (HasKey before.entered.keys a ⊎ ⊥)) (sym entered) (iff-kept (λ no. no));
    succeeded = λ s. subst (λ x. HasKey x.keys s ↔ (HasKey before.succeeded.keys s ⊎ IsCallAt guest e s false)) (sym succeeded)
        (iff-kept (call-not false true s is (λ bad. let t = bad in cc)));
    failed = λ s. iff-by (spot-insert before.failed after.failed spot s inserts) (call-here true s is) (call-there true s);
  }

  pub with-succeeded : is_error e.reply ≡ false → Updates spot_cmp before.succeeded after.succeeded spot true → after.entered ≡ before.entered → after.failed ≡ before.failed
      → IsWith (λ a. ⊥) (IsCallAt guest e) before after
  with-succeeded is inserts entered failed = record {
    entered = λ a. subst (λ s. HasKey s.keys a ↔ (HasKey before.entered.keys a ⊎ ⊥)) (sym entered) (iff-kept (λ no. no));
    succeeded = λ s. iff-by (spot-insert before.succeeded after.succeeded spot s inserts) (call-here false s is) (call-there false s);
    failed = λ s. subst (λ x. HasKey x.keys s ↔ (HasKey before.failed.keys s ⊎ IsCallAt guest e s true)) (sym failed)
        (iff-kept (call-not true false s is (λ bad. let t = bad in cc)));
  }

pub with-step : (guest : Option Spot) (e : Event) (a b c : Visits) → IsWith (λ addr. entry_at e.reply ≡ Some addr) (λ spot fails. ⊥) a b → IsWith (λ addr. ⊥) (IsCallAt guest e) b c
    → IsWith (λ addr. entry_at e.reply ≡ Some addr) (IsCallAt guest e) a c
with-step guest e a b c first later = record {
  entered = λ addr. iff-by (iff-both (first.entered addr) (later.entered addr)) (λ either. elim either [
    | inl d ↦ d
    | inr never ↦ absurd never
  ]) (λ d. inl d);
  succeeded = λ spot. iff-by (iff-both (first.succeeded spot) (later.succeeded spot)) (λ either. elim either [
    | inl never ↦ absurd never
    | inr d ↦ d
  ]) (λ d. inr d);
  failed = λ spot. iff-by (iff-both (first.failed spot) (later.failed spot)) (λ either. elim either [
    | inl never ↦ absurd never
    | inr d ↦ d
  ]) (λ d. inr d);
}

-- the first events of a record, the newest in front
pub past-next : (events : List Event) (i : ℕ) (e : Event) → i < length events → e ≡ get_or events i e → e ∷ reverse (take i events) ≡ reverse (take (i + 1) events)
past-next events i e within is =
    let more : take (suc i) events ≡ take i events ++ (get_or events i e ∷ []) = take-suc events i e within in
    let same : i + 1 ≡ suc i = omega arith in
    ap (λ (x : Event). x ∷ reverse (take i events)) is ∙ sym (reverse-append (take i events) (get_or events i e ∷ [])) ∙ ap (λ (xs : List Event). reverse xs) (sym more)
    ∙ ap (λ (n : ℕ). reverse (take n events)) (sym same)

pub past-all : (events : List Event) (i : ℕ) → length events ≤ i → reverse (take i events) ≡ reverse events
past-all events i over = ap (λ (xs : List Event). reverse xs) (take_all i events over)

pub with-next : (harts : ℕ) (past : List Event) (e : Event) (a b c : Visits) → IsWith (Enters past) (Calls harts past) a b
    → IsWith (λ addr. entry_at e.reply ≡ Some addr) (IsCallAt (spot_at harts past e.actor) e) b c → IsWith (Enters (e ∷ past)) (Calls harts (e ∷ past)) a c
with-next harts past e a b c first later = record {
  entered = λ addr. iff-both (first.entered addr) (later.entered addr);
  succeeded = λ spot. iff-both (first.succeeded spot) (later.succeeded spot);
  failed = λ spot. iff-both (first.failed spot) (later.failed spot);
}

-- ---- record by record

iff-next : {N P D E S : Type 0} → N ↔ (P ⊎ D) → (D → E) → (E → D) → P ↔ S → N ↔ (E ⊎ S)
iff-next is to from old = (
  (λ n. elim (is.0 n) [
    | inl p ↦ inr (old.0 p)
    | inr d ↦ inl (to d)
  ]),
  (λ either. elim either [
    | inl e ↦ is.1 (inr (from e))
    | inr s ↦ is.1 (inl (old.1 s))
  ]),
)

iff-more : {N P Q : Type 0} (R : Tried → Type 0) (tried more : List Tried) → N ↔ (P ⊎ Q) → P ↔ SomeIs R tried → Q ↔ SomeIs R more → N ↔ SomeIs R (more ++ tried)
iff-more R tried more is here there = (
  (λ n. elim (is.0 n) [
    | inl p ↦ some-before R more tried (here.0 p)
    | inr q ↦ some-behind R more tried (there.0 q)
  ]),
  (λ some. elim (some-of-both R more tried some) [
    | inl s ↦ is.1 (inl (here.1 s))
    | inr s ↦ is.1 (inr (there.1 s))
  ]),
)

pub visited-none : (harts : ℕ) (visits : Visits) → IsEmpty visits.entered → IsEmpty visits.succeeded → IsEmpty visits.failed → AreVisited harts [] visits
visited-none harts visits entered succeeded failed = record {
  entered = λ addr. some-none (λ y. y ≡ addr) visits.entered.keys entered;
  succeeded = λ spot. some-none (λ y. y ≡ spot) visits.succeeded.keys succeeded;
  failed = λ spot. some-none (λ y. y ≡ spot) visits.failed.keys failed;
}

pub visited-next : (harts : ℕ) (x : Tried) (events : List Event) (tried : List Tried) (before after : Visits) → x.events ≡ events
    → IsWith (Enters (reverse events)) (Calls harts (reverse events)) before after → AreVisited harts tried before → AreVisited harts (x ∷ tried) after
visited-next harts x events tried before after same sees have =
    let E : ℕ → List Event → Type 0 = λ addr xs. Enters (reverse xs) addr in
    let C : Spot → Bool → List Event → Type 0 = λ spot fails xs. Calls harts (reverse xs) spot fails in
    record {
      entered = λ addr. iff-next (sees.entered addr) (subst (E addr) (sym same)) (subst (E addr) same) (have.entered addr);
      succeeded = λ spot. iff-next (sees.succeeded spot) (subst (C spot false) (sym same)) (subst (C spot false) same) (have.succeeded spot);
      failed = λ spot. iff-next (sees.failed spot) (subst (C spot true) (sym same)) (subst (C spot true) same) (have.failed spot);
    }

pub visited-both : (harts : ℕ) (tried more : List Tried) (one other both : Visits) → InsertsAll nat_cmp one.entered other.entered.keys both.entered
    → InsertsAll spot_cmp one.succeeded other.succeeded.keys both.succeeded → InsertsAll spot_cmp one.failed other.failed.keys both.failed
    → AreVisited harts tried one → AreVisited harts more other → AreVisited harts (more ++ tried) both
visited-both harts tried more one other both entered succeeded failed here there = record {
  entered = λ addr. iff-more (λ x. Enters (reverse x.events) addr) tried more (number-append one.entered both.entered other.entered.keys addr entered) (here.entered addr) (there.entered addr);
  succeeded = λ spot.
      iff-more (λ x. Calls harts (reverse x.events) spot false) tried more (spot-append one.succeeded both.succeeded other.succeeded.keys spot succeeded) (here.succeeded spot) (there.succeeded spot);
  failed = λ spot.
      iff-more (λ x. Calls harts (reverse x.events) spot true) tried more (spot-append one.failed both.failed other.failed.keys spot failed) (here.failed spot) (there.failed spot);
}

pub records-none : (records : BTreeSet (Vec ℕ)) → IsEmpty records → AreRecords [] records
records-none records empty choices = some-none (λ v. v.items ≡ choices) records.keys empty

pub records-next : (x : Tried) (events : List Event) (tried : List Tried) (before after : BTreeSet (Vec ℕ)) (kept : Vec ℕ) → x.events ≡ events → kept.items ≡ map choice_of events
    → Updates choices_cmp before after kept true → AreRecords tried before → AreRecords (x ∷ tried) after
records-next x events tried before after kept same is inserts have choices =
    let all : kept.items ≡ map choice_of x.events = is ∙ ap (map choice_of) (sym same) in
    iff-next (choices-insert before after kept choices inserts) (λ told. sym all ∙ told) (λ told. all ∙ told) (have choices)

pub records-both : (tried more : List Tried) (one other both : BTreeSet (Vec ℕ)) → InsertsAll choices_cmp one other.keys both → AreRecords tried one → AreRecords more other
    → AreRecords (more ++ tried) both
records-both tried more one other both inserts here there choices =
    iff-more (λ x. map choice_of x.events ≡ choices) tried more (choices-append one both other.keys choices inserts) (here choices) (there choices)

pub only-then : (second : Bool) (F A : Type 0) → F → (second ≡ true) ↔ A → (not second ≡ true) ↔ (F × ¬ A)
only-then true F A has tells = ((λ bad. absurd (let t = bad in cc)), (λ both. absurd (both.1 (tells.0 refl))))
only-then false F A has tells = ((λ good. (has, (λ a. let t = tells.1 a in cc))), (λ both. refl))

pub only-else : (first : Bool) (F A : Type 0) → first ≡ false → (first ≡ true) ↔ F → (first ≡ true) ↔ (F × ¬ A)
only-else first F A off tells = ((λ on. absurd (let t = sym off ∙ on in cc)), (λ both. tells.1 both.0))
