-- Accesses that fence calls missed: by the places of a history, and event by event.
use Rattle.std.proofs.Common.{◌≡◌, ◌↔◌, ℕ, Bool, false, suc, ◌<◌, ◌≤◌, true, List, [], ◌∷◌, refl, sym, ap, subst, ◌∙◌, arith, Some, None, inl, inr}
use Rattle.std.specs.Prelude.{◌⊎◌, ◌&&◌}
use Rattle.std.proofs.lemmas.Bool.{cases_lt}
use Rattle.std.proofs.lemmas.Option.{same_Some}
use Rattle.tlb_model.specs.declared.fence.Fence.{Fence}
use Rattle.tlb_model.specs.Entries.{Entry}
use Rattle.hart_access.specs.AccessKinds.{kind_of}
use Rattle.board_terms.specs.declared.op.Actor.TheVariants.{Hart}
use Rattle.board_terms.specs.declared.op.Op.TheVariants.{Poll}
use Rattle.board_core.specs.History.{Event, Reach}
use Rattle.board_core.specs.Memory.{satp}
use Rattle.board_core.specs.Opening.{Opening, place_after}
use Rattle.board_core.specs.Resets.{reset_by}
use Rattle.board_laws.specs.Fences.{Succeeded}
use Rattle.board_laws.specs.Fresh.{is_of_page, is_of_space}
use Rattle.board_laws.specs.Places.{IsAtPlace, past_at}
use Rattle.board_laws.proofs.Places.{at-earlier, at-later, at-with, within}
use Rattle.any_tlb.specs.Stale.{IsMissed, WasAsked}
use Rattle.any_tlb.proofs.Sources.{all-of, before-more, last}
use Rattle.access_marks.specs.declared.entry_use.EntryUse.{EntryUse}
use Rattle.access_marks.specs.Inside.Missing.{HasAsked, HasMissed, IsOther, is_of_use}
use Rattle.access_marks.proofs.CallSteps.{AskedBy, asked-step, kept-step, polled-step, step-asked, step-kept, step-polled}

-- ---- places of a history, with one event more

module _ (o : Opening) (event : Event) (past : List Event) where
  before : past_at o (event ∷ past) (place_after o past) ≡ past
  before = before-more o event past (place_after o past) (omega arith) ∙ all-of o past

  up : (m : ℕ) (other : Event) → IsAtPlace o past m other → IsAtPlace o (event ∷ past) m other
  up m other at =
      at-later o (event ∷ past) (place_after o past) m other (omega arith) (omega arith) (subst (λ (past : List Event). IsAtPlace o past m other) (sym before) at)

  down : (m : ℕ) (other : Event) → m < place_after o past → IsAtPlace o (event ∷ past) m other → IsAtPlace o past m other
  down m other early at =
      subst (λ (past : List Event). IsAtPlace o past m other) before (at-earlier o (event ∷ past) (place_after o past) m other early (omega arith) at)

  -- the event at the last place is the last event
  newest : (m : ℕ) (other : Event) → place_after o past ≤ m → IsAtPlace o (event ∷ past) m other → (m ≡ place_after o past) × (other ≡ event)
  newest m other late at =
      let inside = within o (event ∷ past) m other at in
      let here : m ≡ place_after o past = omega arith in
      let top : suc m ≡ place_after o (event ∷ past) = omega arith in
      let made = sym (at-with o (event ∷ past) m other at) ∙ ap (past_at o (event ∷ past)) top ∙ all-of o (event ∷ past) in
      (here, (let e = made in cc))

-- ---- a call that was asked, and what came since

module _ (o : Opening) where
  later-asked : (event : Event) (past : List Event) (x place : ℕ) (fence : Fence) → WasAsked o past x place fence → WasAsked o (event ∷ past) x place fence
  later-asked event past x place fence a = record {
    event = a.event;
    happened = up o event past place a.event a.happened;
    by_hart = a.by_hart;
    regs = a.regs;
    call = a.call;
    accepted = a.accepted;
    remote = a.remote;
    fences = a.fences;
    drops = a.drops;
  }

  earlier-asked : (event : Event) (past : List Event) (x place : ℕ) (fence : Fence) → place < place_after o past → WasAsked o (event ∷ past) x place fence → WasAsked o past x place fence
  earlier-asked event past x place fence early a = record {
    event = a.event;
    happened = down o event past place a.event early a.happened;
    by_hart = a.by_hart;
    regs = a.regs;
    call = a.call;
    accepted = a.accepted;
    remote = a.remote;
    fences = a.fences;
    drops = a.drops;
  }

  asked-now : (event : Event) (past : List Event) (x : ℕ) (fence : Fence) → AskedBy o.config event.actor event.op event.reply x fence → WasAsked o (event ∷ past) x (place_after o past) fence
  asked-now event past x fence a = record {
    event = event;
    happened = last o event past;
    by_hart = a.by_hart;
    regs = a.regs;
    call = a.call;
    accepted = a.accepted;
    remote = a.remote;
    fences = a.fences;
    drops = a.drops;
  }

  asked-last : (event : Event) (past : List Event) (x place : ℕ) (fence : Fence) → place_after o past ≤ place → WasAsked o (event ∷ past) x place fence
      → (place ≡ place_after o past) × AskedBy o.config event.actor event.op event.reply x fence
  asked-last event past x place fence late a =
      let top = newest o event past place a.event late a.happened in (
        top.0,
        subst (λ (e : Event). AskedBy o.config e.actor e.op e.reply x fence) top.1 (record {
          by_hart = a.by_hart;
          regs = a.regs;
          call = a.call;
          accepted = a.accepted;
          remote = a.remote;
          fences = a.fences;
          drops = a.drops;
        }),
      )

  -- no reset came between two places
  abbrev NoReset : List Event → (from to : ℕ) → Type 0
  NoReset past from to = (m : ℕ) (e : Event) → from < m → m < to → IsAtPlace o past m e → reset_by e.op e.reply ≡ None

  no-reset-before : (event : Event) (past : List Event) (from to : ℕ) → NoReset (event ∷ past) from to → NoReset past from to
  no-reset-before event past from to kept = λ m e after until at. kept m e after until (up o event past m e at)

  no-reset-more : (event : Event) (past : List Event) (from to : ℕ) → to ≤ place_after o past → NoReset past from to → NoReset (event ∷ past) from to
  no-reset-more event past from to early kept = λ m e after until at. kept m e after until (down o event past m e (omega arith) at)

  no-reset-now : (event : Event) (past : List Event) (from : ℕ) → NoReset past from (place_after o past) → reset_by event.op event.reply ≡ None → NoReset (event ∷ past) from (place_after o (event ∷ past))
  no-reset-now event past from kept none m e after until at = by_place (cases_lt m (place_after o past))
    where
      by_place : (m < place_after o past) ⊎ (place_after o past ≤ m) → reset_by e.op e.reply ≡ None
      by_place (inl early) = kept m e after early (down o event past m e early at)
      by_place (inr late) = subst (λ (e : Event). reset_by e.op e.reply ≡ None) (sym (newest o event past m e late at).1) none

module _ (o : Opening) (of : EntryUse) where
  -- the page tables have given something else since a place
  abbrev OtherSince : List Event → (place : ℕ) → Type 0
  OtherSince past place = (m : ℕ) → place ≤ m → m ≤ place_after o past → IsOther o (past_at o past m) of

  other-now : (past : List Event) (place : ℕ) → place ≤ place_after o past → OtherSince past place → IsOther o past of
  other-now past place early since = subst (λ (past : List Event). IsOther o past of) (all-of o past) (since (place_after o past) early (omega arith))

  other-before : (event : Event) (past : List Event) (place : ℕ) → OtherSince (event ∷ past) place → OtherSince past place
  other-before event past place since = λ m after upto. subst (λ (past : List Event). IsOther o past of) (before-more o event past m upto) (since m after (omega arith))

  other-more : (event : Event) (past : List Event) (place : ℕ) → OtherSince past place → IsOther o (event ∷ past) of → OtherSince (event ∷ past) place
  other-more event past place since now m after upto = by_place (cases_lt (place_after o past) m)
    where
      by_place : (place_after o past < m) ⊎ (m ≤ place_after o past) → IsOther o (past_at o (event ∷ past) m) of
      by_place (inl late) =
          let top : m ≡ place_after o (event ∷ past) = omega arith in
          subst (λ (past : List Event). IsOther o past of) (sym (ap (past_at o (event ∷ past)) top ∙ all-of o (event ∷ past))) now
      by_place (inr early) = subst (λ (past : List Event). IsOther o past of) (sym (before-more o event past m early)) (since m after early)

  other-here : (past : List Event) → IsOther o past of → OtherSince past (place_after o past)
  other-here past now m after upto =
      let here : m ≡ place_after o past = omega arith in
      subst (λ (past : List Event). IsOther o past of) (sym (ap (past_at o past) here ∙ all-of o past)) now

  -- ---- what was asked

  asked-from : (past : List Event) (x place : ℕ) (fence : Fence) → is_of_use fence of ≡ true → WasAsked o past x place fence → OtherSince past place → NoReset o past place (place_after o past) → HasAsked o past of x
  asked-from [] x place fence covers a since kept = absurd (let inside = within o [] place a.event a.happened in let from = a.happened.since in omega arith)
  asked-from (event ∷ past) x place fence covers a since kept = by_place (cases_lt place (place_after o past)) (asked-from past x place fence covers)
    where
      now : IsOther o (event ∷ past) of
      now = let inside = within o (event ∷ past) place a.event a.happened in other-now (event ∷ past) place (omega arith) since

      by_place : (place < place_after o past) ⊎ (place_after o past ≤ place) → (WasAsked o past x place fence → OtherSince past place → NoReset o past place (place_after o past) → HasAsked o past of x)
          → HasAsked o (event ∷ past) of x
      by_place (inl early) rest =
          let none = kept (place_after o past) event early (omega arith) (last o event past) in (
            now,
            inr (
              rest (earlier-asked o event past x place fence early a) (other-before event past place since)
                  (λ m e after until at. kept m e after (omega arith) (up o event past m e at)),
              kept-step o.config event.actor event.op event.reply none,
            ),
          )
      by_place (inr late) rest =
          let top = asked-last o event past x place fence late a in
          let here = top.0 in (
            now,
            inl (
              (fence, asked-step o.config event.actor event.op event.reply x fence top.1, covers),
              other-now past place (omega arith) (other-before event past place since),
            ),
          )

  -- Hart x asked at some place, and nothing has ended that since.
  record Found (past : List Event) (x : ℕ) : Type 0 where
    place : ℕ
    fence : Fence
    covers : is_of_use fence of ≡ true
    asked : WasAsked o past x place fence
    since : OtherSince past place
    kept : NoReset o past place (place_after o past)

  found : (past : List Event) (x : ℕ) → HasAsked o past of x → Found past x
  found [] x h = absurd h
  found (event ∷ past) x (now, inl ((fence, is, covers), then)) = record {
    place = place_after o past;
    fence = fence;
    covers = covers;
    asked = asked-now o event past x fence (step-asked o.config event.actor event.op event.reply x fence is);
    since = other-more event past (place_after o past) (other-here past then) now;
    kept = λ m e after until at. absurd (omega arith);
  }
  found (event ∷ past) x (now, inr (h, kept)) =
      let f = found past x h in
      record {
        place = f.place;
        fence = f.fence;
        covers = f.covers;
        asked = later-asked o event past x f.place f.fence f.asked;
        since = other-more event past f.place f.since now;
        kept = no-reset-now o event past f.place f.kept (step-kept o.config event.actor event.op event.reply kept);
      }

  -- ---- what was missed

  record Missed (past : List Event) : Type 0 where
    caller : ℕ
    place : ℕ
    fence : Fence
    covers : is_of_use fence of ≡ true
    asked : WasAsked o past caller place fence
    since : OtherSince past place
    returned : Succeeded o past caller place

  missed-from : (past : List Event) → Missed past → HasMissed o past of
  missed-from [] x = absurd (let inside = within o [] x.place x.asked.event x.asked.happened in let from = x.asked.happened.since in omega arith)
  missed-from (event ∷ past) x = by_place (cases_lt x.returned.end (place_after o past)) (missed-from past)
    where
      now : IsOther o (event ∷ past) of
      now = let inside = within o (event ∷ past) x.place x.asked.event x.asked.happened in other-now (event ∷ past) x.place (omega arith) x.since

      by_place : (x.returned.end < place_after o past) ⊎ (place_after o past ≤ x.returned.end) → (Missed past → HasMissed o past of) → HasMissed o (event ∷ past) of
      by_place (inl early) rest =
          let r = x.returned in
          let later = r.later in (
            now,
            inl (rest (record {
              caller = x.caller;
              place = x.place;
              fence = x.fence;
              covers = x.covers;
              asked = earlier-asked o event past x.caller x.place x.fence (omega arith) x.asked;
              since = other-before event past x.place x.since;
              returned = record {
                end = r.end;
                later = later;
                event = r.event;
                happened = down o event past r.end r.event early r.happened;
                by_hart = r.by_hart;
                poll = r.poll;
                kept = no-reset-before o event past x.place r.end r.kept;
              };
            })),
          )
      by_place (inr late) rest =
          let r = x.returned in
          let later = r.later in
          let top = newest o event past r.end r.event late r.happened in
          let here = top.0 in
          let own : event.actor ≡ Hart x.caller = ap (λ (e : Event). e.actor) (sym top.1) ∙ r.by_hart in
          let poll : event.op ≡ Poll = ap (λ (e : Event). e.op) (sym top.1) ∙ r.poll in (
            now,
            inr (
              x.caller,
              polled-step o.config event.actor event.op event.reply x.caller own poll,
              asked-from past x.caller x.place x.fence x.covers (earlier-asked o event past x.caller x.place x.fence (omega arith) x.asked) (other-before event past x.place x.since)
                  (λ m e after until at. r.kept m e after (omega arith) (up o event past m e at)),
            ),
          )

  found-missed : (past : List Event) → HasMissed o past of → Missed past
  found-missed [] h = absurd h
  found-missed (event ∷ past) (now, inl h) =
      let x = found-missed past h in
      let r = x.returned in
      let inside = within o past r.end r.event r.happened in
      record {
        caller = x.caller;
        place = x.place;
        fence = x.fence;
        covers = x.covers;
        asked = later-asked o event past x.caller x.place x.fence x.asked;
        since = other-more event past x.place x.since now;
        returned = record {
          end = r.end;
          later = r.later;
          event = r.event;
          happened = up o event past r.end r.event r.happened;
          by_hart = r.by_hart;
          poll = r.poll;
          kept = no-reset-more o event past x.place r.end (omega arith) r.kept;
        };
      }
  found-missed (event ∷ past) (now, inr (caller, polled, h)) =
      let f = found past caller h in
      let does = step-polled o.config event.actor event.op event.reply caller polled in
      record {
        caller = caller;
        place = f.place;
        fence = f.fence;
        covers = f.covers;
        asked = later-asked o event past caller f.place f.fence f.asked;
        since = other-more event past f.place f.since now;
        returned = record {
          end = place_after o past;
          later = within o past f.place f.asked.event f.asked.happened;
          event = event;
          happened = last o event past;
          by_hart = does.0;
          poll = does.1;
          kept = no-reset-more o event past f.place (place_after o past) (omega arith) f.kept;
        };
      }

-- ---- an access

both : (a b : Bool) → (a && b) ≡ true → (a ≡ true) × (b ≡ true)
both true true is = (refl, refl)
both true false is = cc
both false b is = cc

either-way : (a b : Bool) → a ≡ true → b ≡ true → (a && b) ≡ true
either-way a b first second = (λ i. first i && second i)

-- an access of hart h that used this entry
abbrev pub use_of : Opening → List Event → (h : ℕ) → Reach → Entry → EntryUse
use_of o past h reach entry = record { at = record { hart = h; address = reach.va }; kind = kind_of reach.access; entry = entry; satp = satp o past h }

pub missed_is : (o : Opening) (past : List Event) (h : ℕ) (event : Event) (reach : Reach) (entry : Entry) → event.translation ≡ Some entry
    → IsMissed o past h event reach ↔ HasMissed o past (use_of o past h reach entry)
missed_is o past h event reach entry uses = (there, back)
  where
    there : IsMissed o past h event reach → HasMissed o past (use_of o past h reach entry)
    there x =
        subst (λ (e : Entry). HasMissed o past (use_of o past h reach e)) (same_Some x.entry entry (sym x.uses ∙ uses))
        (missed-from o (use_of o past h reach x.entry) past (record {
          caller = x.caller;
          place = x.place;
          fence = x.fence;
          covers = either-way (is_of_page x.fence.range reach.va) (is_of_space x.fence.asid (satp o past h) x.entry.leaf) x.page x.space;
          asked = x.asked;
          since = λ m after upto. (x.other_then m after upto, x.other_now m after upto);
          returned = x.returned;
        }))

    back : HasMissed o past (use_of o past h reach entry) → IsMissed o past h event reach
    back missed =
        let x = found-missed o (use_of o past h reach entry) past missed in
        let covers = both (is_of_page x.fence.range reach.va) (is_of_space x.fence.asid (satp o past h) entry.leaf) x.covers in
        record {
          entry = entry;
          uses = uses;
          caller = x.caller;
          place = x.place;
          fence = x.fence;
          asked = x.asked;
          page = covers.0;
          space = covers.1;
          returned = x.returned;
          other_then = λ m after upto. (x.since m after upto).0;
          other_now = λ m after upto. (x.since m after upto).1;
        }
