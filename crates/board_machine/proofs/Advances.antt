-- What an Advance tells of a hart, beside what the past says.
use Rattle.std.proofs.Common.{◌≡◌, ℕ, ◌<◌, Bool, true, false, List, length, subst, refl, sym, ap, ◌∙◌}
use Rattle.std.proofs.lemmas.Option.{same_Some}
use Rattle.std.specs.Prelude.{Option, Some, None, option_map, slice_set}
use Rattle.hsm.specs.declared.hart.HartState.{HartState}
use Rattle.hsm.specs.declared.hart.HartState.TheVariants.{Started, Stopped, StartPending, StopPending, Suspended, SuspendPending, ResumePending}
use Rattle.hsm.specs.declared.hart.EntryPoint.{EntryPoint}
use Rattle.hsm.specs.declared.hart.Moved.{Moved}
use Rattle.hsm.specs.declared.hart.Moved.TheVariants as moves
use Rattle.hsm.specs.Harts.{Hart, running}
use Rattle.hsm.specs.States.{is_start_pending}
use Rattle.hsm.specs.Transitions.{Step, advanced, advanced_from, changed, hart_at, resumed}
use Rattle.board_rules.specs.Opening.{Opening}
use Rattle.board_rules.specs.History.{Event}
use Rattle.board_terms.specs.declared.reply.Reply.{Reply}
use Rattle.board_terms.specs.declared.reply.Reply.TheVariants as replies
use Rattle.board_rules.specs.Replies.{advance_reply, success}
use Rattle.board_rules.specs.Starts.{Start, kept_in, last_start}
use Rattle.board_machine.specs.Stands.{HartsStand}
use Rattle.board_rules.specs.States.{state}
use Rattle.board_rules.specs.Suspends.{resume_point}
use Rattle.board_machine.proofs.HartsStanding.{hart_at-inside}

-- the reply to what a step tells, the state that it brings to, and whether it enters a start
abbrev pub reply_of : (x : ℕ) → Moved → Reply
reply_of x (moves.Entered start) = replies.Entry start.addr x start.opaque
reply_of x (moves.Resumed resume) = replies.Entry resume.addr x resume.opaque
reply_of x moves.Returned = replies.Ret (success 0)
reply_of x (moves.To s) = replies.Moved s

abbrev pub state_after : Moved → HartState
state_after (moves.Entered start) = Started
state_after (moves.Resumed resume) = Started
state_after moves.Returned = Started
state_after (moves.To s) = s

abbrev pub is_entered : Moved → Bool
is_entered (moves.Entered start) = true
is_entered moved = false

-- a row of the table, by what the past says of the hart: the reply, the hart afterwards, and whether it is an entry
pub record Row (x : ℕ) (s : HartState) (start : Start) (resume : Option EntryPoint) (moved : Moved) (hart : Hart) : Type 0 where
  pub reply : reply_of x moved ≡ advance_reply x s start resume
  pub after : hart ≡ record { state = state_after moved; kept = kept_in (state_after moved) start resume }
  pub enters : is_start_pending s ≡ is_entered moved

resume_row : (x : ℕ) (start : Start) (resume : Option EntryPoint) → Row x ResumePending start resume (resumed resume) running
resume_row x start None = record { reply = refl; after = refl; enters = refl }
resume_row x start (Some kept) = record { reply = refl; after = refl; enters = refl }

module _ (x : ℕ) (start : Start) (resume : Option EntryPoint) where
  row : (wake : Bool) (s : HartState) (step : Step) → advanced_from wake s (kept_in s start resume) ≡ Some step → Row x s start resume step.moved step.hart
  row wake Started step is = absurd cc
  row wake Stopped step is = absurd cc
  row wake StartPending step is = subst (λ st. Row x StartPending start resume st.moved st.hart) (same_Some _ _ is) (record { reply = refl; after = refl; enters = refl })
  row wake StopPending step is = subst (λ st. Row x StopPending start resume st.moved st.hart) (same_Some _ _ is) (record { reply = refl; after = refl; enters = refl })
  row wake SuspendPending step is = subst (λ st. Row x SuspendPending start resume st.moved st.hart) (same_Some _ _ is) (record { reply = refl; after = refl; enters = refl })
  row true Suspended step is = subst (λ st. Row x Suspended start resume st.moved st.hart) (same_Some _ _ is) (record { reply = refl; after = refl; enters = refl })
  row false Suspended step is = absurd cc
  row wake ResumePending step is = subst (λ st. Row x ResumePending start resume st.moved st.hart) (same_Some _ _ is) (resume_row x start resume)

-- what a step of the hart's firmware told, by the past
pub record Told (o : Opening) (past : List Event) (harts : List Hart) (x : ℕ) (wake : Bool) (moved : Moved) : Type 0 where
  pub reply : reply_of x moved ≡ advance_reply x (state o past x) (last_start o past x) (resume_point o past x)
  pub after : changed harts x (option_map (λ (step : Step). step.hart) (advanced wake (hart_at harts x)))
      ≡ slice_set harts x (record { state = state_after moved; kept = kept_in (state_after moved) (last_start o past x) (resume_point o past x) })
  pub enters : is_start_pending (state o past x) ≡ is_entered moved

module _ (o : Opening) (past : List Event) (harts : List Hart) (x : ℕ) (wake : Bool) (moved : Moved) where
  pub told : HartsStand o past harts → x < length harts → option_map (λ (step : Step). step.moved) (advanced wake (hart_at harts x)) ≡ Some moved → Told o past harts x wake moved
  told stand inside is = by_step (advanced wake (hart_at harts x)) refl is
    where
      own : advanced wake (hart_at harts x) ≡ advanced_from wake (state o past x) (kept_in (state o past x) (last_start o past x) (resume_point o past x))
      own = ap (advanced wake) (hart_at-inside o past harts stand x inside)

      by_step : (found : Option Step) → advanced wake (hart_at harts x) ≡ found → option_map (λ (step : Step). step.moved) found ≡ Some moved → Told o past harts x wake moved
      by_step None at e = absurd cc
      by_step (Some step) at e =
          let same : step.moved ≡ moved = same_Some step.moved moved e in
          let r = row x (last_start o past x) (resume_point o past x) wake (state o past x) step (sym own ∙ at) in
          subst (Told o past harts x wake) same (record {
            reply = r.reply;
            after = ap (λ o. changed harts x (option_map (λ (st : Step). st.hart) o)) at ∙ ap (slice_set harts x) r.after;
            enters = r.enters;
          })
