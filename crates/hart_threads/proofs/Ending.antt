-- What threads did, by how their run ended.
use Rattle.std.proofs.Common.{◌≡◌, ◌≢◌, ◌⊎◌, ℕ, ◌+◌, ◌≤◌, Bool, true, false, List, [], ◌∷◌, length, refl, sym, ap, subst, ◌∙◌, inl, inr, arith}
use Rattle.std.specs.Prelude.{Err, nat_le, not}
use Rattle.std.proofs.lemmas.Bool.{eqb-true}
use Rattle.std.proofs.lemmas.List.{length-append}
use Rattle.board_terms.specs.declared.op.Actor.{Actor}
use Rattle.board_terms.specs.declared.op.Actor.TheVariants.{Hart, Clock}
use Rattle.board_terms.specs.declared.op.Op.{Op}
use Rattle.board_terms.specs.declared.reply.Refusal.TheVariants as refusals
use Rattle.board_terms.specs.declared.reply.Reply.{Reply}
use Rattle.board_terms.specs.declared.reply.Reply.TheVariants.{Done}
use Rattle.board_core.specs.History.{Event}
use Rattle.board_core.specs.Opening.{Opening}
use Rattle.board_core.specs.Refusals.{first_that_holds, has_nothing_to_do, is_full, is_out_of_phase, is_tick, situation}
use Rattle.board_core.specs.Replies.{answer, refused_or, reply}
use Rattle.board_core.specs.Resets.{is_off}
use Rattle.board_lock.specs.Receipts.{AcceptedCall}
use Rattle.guest_programs.specs.Guests.{Next}
use Rattle.guest_programs.specs.declared.ends.End.{End}
use Rattle.guest_programs.specs.declared.ends.End.TheVariants.{GateLimit, Off, HistoryFull, Quiet, Stuck}
use Rattle.guest_programs.specs.declared.met.Met.{Met}
use Rattle.guest_programs.specs.declared.met.Met.TheVariants.{Nothing, FullHistory, ClosedGate}
use Rattle.guest_programs.specs.Ends.{IsEndBy}
use Rattle.guest_programs.specs.Met.{met_by_both}
use Rattle.hart_threads.specs.Shares.{AreThreads, HasMetFull, HasNoMore, HasStopped, IsClosed, IsOverFull, IsRun}

-- ---- a call that was refused for a full history: the history is full

full-for-hart : (off missing phase idle full : Bool) (r : Reply)
    → refused_or (first_that_holds ((off, refusals.Off) ∷ (missing, refusals.WrongPhase) ∷ (phase, refusals.WrongPhase) ∷ (idle, refusals.Nothing) ∷ (full, refusals.HistoryFull) ∷ [])) r
    ≡ Err refusals.HistoryFull
    → full ≡ true
full-for-hart true missing phase idle full r is = absurd (let t = is in cc)
full-for-hart false true phase idle full r is = absurd (let t = is in cc)
full-for-hart false false true idle full r is = absurd (let t = is in cc)
full-for-hart false false false true full r is = absurd (let t = is in cc)
full-for-hart false false false false true r is = refl
full-for-hart false false false false false r is = absurd (let t = is in cc)

full-for-clock : (off other full late : Bool) (r : Reply)
    → refused_or (first_that_holds ((off, refusals.Off) ∷ (other, refusals.WrongPhase) ∷ (full, refusals.HistoryFull) ∷ (late, refusals.TimeFull) ∷ [])) r ≡ Err refusals.HistoryFull
    → full ≡ true
full-for-clock true other full late r is = absurd (let t = is in cc)
full-for-clock false true full late r is = absurd (let t = is in cc)
full-for-clock false false true late r is = refl
full-for-clock false false false true r is = absurd (let t = is in cc)
full-for-clock false false false false r is = absurd (let t = is in cc)

full-for : (o : Opening) (seen : List Event) (a : Actor) (op : Op) → answer o seen a op ≡ Err refusals.HistoryFull → is_full o seen ≡ true
full-for o seen (Hart h) op is =
    let s = situation o seen h in
    full-for-hart (is_off o seen) (nat_le o.config.harts h) (is_out_of_phase op s) (has_nothing_to_do op s) (is_full o seen) (reply o seen h op) is
full-for o seen Clock op is = full-for-clock (is_off o seen) (not (is_tick op)) (is_full o seen) _ Done is

full-met : (met : Met) → met_by_both FullHistory met ≡ met → met ≢ ClosedGate → met ≡ FullHistory
full-met ClosedGate part still = absurd (still refl)
full-met FullHistory part still = refl
full-met Nothing part still = absurd (let t = part in cc)

module _ (lets : ℕ → ℕ → Bool → Type 0) (o : Opening) (guests : Next) (ticks : List ℕ) (past : List Event) (met : Met) where
  with-closed : (end : End) → met ≡ ClosedGate → IsEndBy met o past guests end → end ≡ GateLimit
  with-closed GateLimit is by = refl
  with-closed Off is by = absurd (by.0 is)
  with-closed HistoryFull is by = absurd (let t = sym is ∙ by.0 in cc)
  with-closed Quiet is by = absurd (by.0 is)
  with-closed Stuck is by = absurd (by.0 is)

  was-closed : (end : End) → end ≡ GateLimit → IsEndBy met o past guests end → met ≡ ClosedGate
  was-closed GateLimit is by = by
  was-closed Off is by = absurd (let t = is in cc)
  was-closed HistoryFull is by = absurd (let t = is in cc)
  was-closed Quiet is by = absurd (let t = is in cc)
  was-closed Stuck is by = absurd (let t = is in cc)

  was-full : (end : End) → end ≡ HistoryFull → IsEndBy met o past guests end → met ≡ FullHistory
  was-full GateLimit is by = absurd (let t = is in cc)
  was-full Off is by = absurd (let t = is in cc)
  was-full HistoryFull is by = by.0
  was-full Quiet is by = absurd (let t = is in cc)
  was-full Stuck is by = absurd (let t = is in cc)

  is-at-limit : (a : Actor) → length past ≤ o.config.limit → HasMetFull o guests ticks past a → length past ≡ o.config.limit
  is-at-limit a within (op, met_full) =
      let seen : List Event = met_full.seen in
      let since = met_full.earlier in
      let full : length seen ≡ o.config.limit = eqb-true (length seen) o.config.limit (full-for o seen a op met_full.holds.1) in
      let long : length since.0 + length seen ≡ length past = sym (length-append since.0 seen) ∙ ap length since.1 in
      omega arith

  full-over : (end : End) → met_by_both FullHistory met ≡ met → length past ≡ o.config.limit → IsEndBy met o past guests end → IsOverFull end
  full-over GateLimit part full by = ((λ e. let t = e in cc), (λ e. let t = e in cc))
  full-over Off part full by = ((λ e. let t = e in cc), (λ e. let t = e in cc))
  full-over HistoryFull part full by = ((λ e. let t = e in cc), (λ e. let t = e in cc))
  full-over Quiet part full by = absurd (by.2 (full-met met part by.0, full))
  full-over Stuck part full by = absurd (by.2 (full-met met part by.0, full))

  why : (a : Actor) (m : Met) (end : End) → length past ≤ o.config.limit → met_by_both m met ≡ met → HasStopped lets o guests ticks past a m → IsEndBy met o past guests end
      → (IsClosed lets o past a × (end ≡ GateLimit)) ⊎ ((HasMetFull o guests ticks past a × IsOverFull end) ⊎ HasNoMore o guests ticks past a)
  why a ClosedGate end within part stopped by = inl (stopped, with-closed end (sym part) by)
  why a FullHistory end within part stopped by = inr (inl (stopped, full-over end part (is-at-limit a within stopped) by))
  why a Nothing end within part stopped by = inr (inr stopped)

  pub is-run : (heard : AcceptedCall → Type 0) (end : End) → length past ≤ o.config.limit → AreThreads lets heard o guests ticks past met → IsEndBy met o past guests end → IsRun lets o guests ticks past end
  is-run heard end within threads by = record {
    due = threads.due;
    stopped = λ a acting. let s = threads.stopped a acting in why a s.0 end within s.1 s.2 by;
    closed = λ is. let s = threads.met_by in (s.0, s.1, subst (HasStopped lets o guests ticks past s.0) (was-closed end is by) s.2);
    full = λ is. let s = threads.met_by in (s.0, s.1, subst (HasStopped lets o guests ticks past s.0) (was-full end is by) s.2);
  }
