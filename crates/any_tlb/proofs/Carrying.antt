-- What an event does to caches after a cut is what it does without one.
use Rattle.std.proofs.Common.{◌≡◌, ℕ, suc, ◌<◌, List, [], ◌∷◌, ◌++◌, length, refl, sym, ap, ◌∙◌, arith, Option, Some, Result, Ok, Err, inl, inr}
use Rattle.std.specs.Prelude.{if◌then◌else◌}
use Rattle.std.proofs.lemmas.Bool.{cases_lt}
use Rattle.hsm.specs.Harts.{Hart as HartSeen}
use Rattle.rfence.specs.Applied.{Empties, applied_by, effect, first_drop}
use Rattle.rfence.specs.Opening as fences
use Rattle.rfence.specs.Turns.{Turn, Ask, empties}
use Rattle.rfence.proofs.Seams.{waited-after}
use Rattle.sbi_abi.specs.declared.answer.SbiError.{SbiError}
use Rattle.sbi_abi.specs.declared.call.Call.{Call}
use Rattle.sbi_abi.specs.declared.call.Call.TheVariants.{Hsm, Srst}
use Rattle.sbi_abi.specs.Calls.{call_of}
use Rattle.tlb_model.specs.declared.fence.Flush.{Flush}
use Rattle.board_terms.specs.declared.op.Actor.{Actor}
use Rattle.board_terms.specs.declared.op.Actor.TheVariants.{Hart, Clock}
use Rattle.board_terms.specs.declared.op.Op.{Op}
use Rattle.board_terms.specs.declared.op.Op.TheVariants.{Ecall}
use Rattle.board_terms.specs.declared.reply.Reply.{Reply}
use Rattle.board_terms.specs.declared.reply.Reply.TheVariants as replies
use Rattle.board_core.specs.Cuts.{IsHeld, IsOpened, opening_of}
use Rattle.board_core.specs.Fences.{Remote, remote_of, turn_by_call, turn_by_flush, turn_by_remote, turn_of, turns}
use Rattle.board_core.specs.History.{Event}
use Rattle.board_core.specs.Memory.{memory}
use Rattle.board_core.specs.Opening.{Opening}
use Rattle.board_core.specs.Replies.{IsLegal}
use Rattle.board_core.specs.States.{state}
use Rattle.board_core.specs.Targets.{is_reached}
use Rattle.board_core.proofs.Cutting.{hart-cut, hart-past}
use Rattle.board_laws.proofs.Held.{held-by}
use Rattle.board_laws.specs.Limits.{with_limit}
use Rattle.board_laws.specs.Seams.{AreLegal, joined, left_by as opening_left}
use Rattle.board_laws.proofs.Parting.{joined-are-one, parted-are-seamless, parts-are-one}
use Rattle.board_laws.proofs.Places.{legal-older}
use Rattle.board_core.proofs.Right.{stopped-outside}
use Rattle.any_tlb.specs.declared.watcher.Walking.TheVariants.{Had}
use Rattle.any_tlb.specs.Carried.{walks_from, watched_from, watched_words_from}
use Rattle.any_tlb.specs.Effects.{effect_at, effect_by}
use Rattle.any_tlb.specs.Watch.{given_by, logged, spared, walks_of, watched}
use Rattle.any_tlb.specs.WatchedWords.{spared_words, watched_words, word_or_none}

-- ---- the first event after a cut

module _ (o : Opening) (past : List Event) (held : IsHeld o past) where
  abbrev cut : Opening
  cut = opening_of o past

  state-cut : (t : ℕ) → state cut [] t ≡ state o past t
  state-cut t = elim (cases_lt t o.config.harts) [
    | inl near ↦ ap (λ (hart : HartSeen). hart.state) (hart-cut o past held t near)
    | inr far ↦ ap (λ (hart : HartSeen). hart.state) (hart-past o past held t far) ∙ sym (stopped-outside o past t held.boot_hart_is_there held.legal far)
  ]

  remote-cut : (x : ℕ) (remote : Option Remote) (r : Reply) → turn_by_remote cut [] x remote r ≡ turn_by_remote o past x remote r
  remote-cut x (Some remote) replies.Waiting = by_flush remote.flush
    where
      by_flush : (flush : Result Flush SbiError) → turn_by_flush cut [] x remote.mask remote.base flush ≡ turn_by_flush o past x remote.mask remote.base flush
      by_flush (Ok flush) = λ i. Ask x (λ t. is_reached o.config (λ s. state-cut s i) remote.mask remote.base t) flush
      by_flush (Err error) = refl
  remote-cut x remote r = refl

  call-cut : (x : ℕ) (call : Call) (r : Reply) → turn_by_call cut [] x call r ≡ turn_by_call o past x call r
  call-cut x (Hsm call) r = refl
  call-cut x (Srst call) r = refl
  call-cut x call r = remote-cut x (remote_of o.config call) r

  turn-cut : (actor : Actor) (op : Op) (r : Reply) → turn_of cut [] actor op r ≡ turn_of o past actor op r
  turn-cut (Hart x) (Ecall regs) r = call-cut x (call_of regs) r
  turn-cut (Hart x) op r = refl
  turn-cut Clock op r = refl

  effect-cut : (turn : Turn Flush) (h : ℕ) → effect cut.fences [] turn h ≡ effect o.fences (turns o past) turn h
  effect-cut turn h =
      let place : fences.place_after cut.fences [] ≡ fences.place_after o.fences (turns o past) = omega arith in
      λ i. if empties turn h then Empties else first_drop (applied_by (place i) (waited-after o.fences o.config.harts (turns o past) held.right h i) turn h)

  first-effect : (event : Event) (h : ℕ) → effect_at cut [] event h ≡ effect_at o past event h
  first-effect event h =
      let turn = turn-cut event.actor event.op event.reply in
      let done : effect cut.fences [] (turn_of cut [] event.actor event.op event.reply) h ≡ effect o.fences (turns o past) (turn_of o past event.actor event.op event.reply) h =
      ap (λ turn. effect cut.fences [] turn h) turn ∙ effect-cut (turn_of o past event.actor event.op event.reply) h in
      λ i. effect_by (turn i) (done i)

-- ---- and each later one

module _ (o : Opening) (older : List Event) (opened : IsOpened o) where
  abbrev parted : Opening
  parted = opening_of o older

  parted-opened : IsLegal o older → IsOpened parted
  parted-opened legal = record { cuts = suc opened.cuts; opens = (o, older, opened.opens, legal, refl) }

  effects : (newer : List Event) → IsLegal o (newer ++ older) → (event : Event) (h : ℕ) → effect_at parted newer event h ≡ effect_at o (newer ++ older) event h
  effects newer legal event h =
      let seam = parted-are-seamless o newer older opened legal in
      sym (first-effect parted newer (held-by parted newer (parted-opened (legal-older o newer older legal)) seam.legal) event h)
      ∙ ap (λ q. effect_at q [] event h) seam.leaves
      ∙ first-effect o (newer ++ older) (held-by o (newer ++ older) opened legal) event h

  memories : (newer : List Event) → IsLegal o (newer ++ older) → memory parted newer ≡ memory o (newer ++ older)
  memories newer legal = (parted-are-seamless o newer older opened legal).alike.word

  walks-on : (newer : List Event) → IsLegal o (newer ++ older) → (h : ℕ) → h < o.config.harts → walks_from (walks_of o older h) parted newer h ≡ walks_of o (newer ++ older) h
  walks-on [] legal h inside = refl
  walks-on (event ∷ newer) legal h inside =
      let done = effects newer legal.2 event h in
      let before = walks-on newer legal.2 h inside in
      let satps = (parted-are-seamless o (event ∷ newer) older opened legal).alike.satp h inside in
      λ i. logged (done i) (before i) ++ Had (satps i) ∷ []

  watched-on : (newer : List Event) → IsLegal o (newer ++ older) → (h va : ℕ) → h < o.config.harts
      → watched_from (watched o older h va) (walks_of o older h) parted newer h va ≡ watched o (newer ++ older) h va
  watched-on [] legal h va inside = refl
  watched-on (event ∷ newer) legal h va inside =
      let done = effects newer legal.2 event h in
      let before = watched-on newer legal.2 h va inside in
      let memory_now = memories (event ∷ newer) legal in
      let walks = walks-on (event ∷ newer) legal h inside in
      λ i. spared (done i) (before i) ++ given_by (memory_now i) va [] (walks i)

  words-on : (newer : List Event) → IsLegal o (newer ++ older) → (h pa : ℕ) → watched_words_from (watched_words o older h pa) parted newer h pa ≡ watched_words o (newer ++ older) h pa
  words-on [] legal h pa = refl
  words-on (event ∷ newer) legal h pa =
      let done = effects newer legal.2 event h in
      let before = words-on newer legal.2 h pa in
      let memory_now = memories (event ∷ newer) legal in
      λ i. spared_words (done i) (before i) ++ word_or_none (memory_now i pa)

pub effects_go_on_over_cuts : (o : Opening) (newer older : List Event) (event : Event) (h : ℕ) → IsOpened o → IsLegal o (newer ++ older)
    → effect_at (opening_of o older) newer event h ≡ effect_at o (newer ++ older) event h
effects_go_on_over_cuts o newer older event h opened legal = effects o older opened newer legal event h

pub watched_go_on_over_cuts : (o : Opening) (newer older : List Event) (h va : ℕ) → IsOpened o → IsLegal o (newer ++ older) → h < o.config.harts
    → watched_from (watched o older h va) (walks_of o older h) (opening_of o older) newer h va ≡ watched o (newer ++ older) h va
watched_go_on_over_cuts o newer older h va opened legal inside = watched-on o older opened newer legal h va inside

pub watched_words_go_on_over_cuts : (o : Opening) (newer older : List Event) (h pa : ℕ) → IsOpened o → IsLegal o (newer ++ older)
    → watched_words_from (watched_words o older h pa) (opening_of o older) newer h pa ≡ watched_words o (newer ++ older) h pa
watched_words_go_on_over_cuts o newer older h pa opened legal = words-on o older opened newer legal h pa

-- ---- however often the history was cut

module _ (o : Opening) (parts : List (List Event)) (opened : IsOpened o) where
  abbrev last_opening : Opening
  last_opening = opening_left o parts

  effects-of-all : (newer : List Event) → AreLegal o (newer ∷ parts) → (event : Event) (h : ℕ) → effect_at last_opening newer event h ≡ effect_at o (newer ++ joined parts) event h
  effects-of-all newer legal event h =
      let limit = length (newer ++ joined parts) in
      let p = parts-are-one o limit newer parts opened legal (omega arith) in
      sym (first-effect last_opening newer p.part event h)
      ∙ ap (λ q. effect_at q [] event h) p.leaves
      ∙ first-effect (with_limit limit o) (newer ++ joined parts) p.all event h

  walks-of-all : (newer : List Event) → AreLegal o (newer ∷ parts) → (h : ℕ) → h < o.config.harts → walks_from (walks_of o (joined parts) h) last_opening newer h ≡ walks_of o (newer ++ joined parts) h
  walks-of-all [] legal h inside = refl
  walks-of-all (event ∷ newer) legal h inside =
      let done = effects-of-all newer (legal.0.2, legal.1) event h in
      let before = walks-of-all newer (legal.0.2, legal.1) h inside in
      let satps = (joined-are-one o (event ∷ newer) parts opened legal).alike.satp h inside in
      λ i. logged (done i) (before i) ++ Had (satps i) ∷ []

  pub watched-of-all : (newer : List Event) → AreLegal o (newer ∷ parts) → (h va : ℕ) → h < o.config.harts
      → watched_from (watched o (joined parts) h va) (walks_of o (joined parts) h) last_opening newer h va ≡ watched o (newer ++ joined parts) h va
  watched-of-all [] legal h va inside = refl
  watched-of-all (event ∷ newer) legal h va inside =
      let done = effects-of-all newer (legal.0.2, legal.1) event h in
      let before = watched-of-all newer (legal.0.2, legal.1) h va inside in
      let memory_now = (joined-are-one o (event ∷ newer) parts opened legal).alike.word in
      let walks = walks-of-all (event ∷ newer) legal h inside in
      λ i. spared (done i) (before i) ++ given_by (memory_now i) va [] (walks i)

  pub words-of-all : (newer : List Event) → AreLegal o (newer ∷ parts) → (h pa : ℕ)
      → watched_words_from (watched_words o (joined parts) h pa) last_opening newer h pa ≡ watched_words o (newer ++ joined parts) h pa
  words-of-all [] legal h pa = refl
  words-of-all (event ∷ newer) legal h pa =
      let done = effects-of-all newer (legal.0.2, legal.1) event h in
      let before = words-of-all newer (legal.0.2, legal.1) h pa in
      let memory_now = (joined-are-one o (event ∷ newer) parts opened legal).alike.word in
      λ i. spared_words (done i) (before i) ++ word_or_none (memory_now i pa)

pub watched_go_on_over_many_cuts : (o : Opening) (newer : List Event) (parts : List (List Event)) (h va : ℕ) → IsOpened o → AreLegal o (newer ∷ parts) → h < o.config.harts
    → watched_from (watched o (joined parts) h va) (walks_of o (joined parts) h) (opening_left o parts) newer h va ≡ watched o (newer ++ joined parts) h va
watched_go_on_over_many_cuts o newer parts h va opened legal inside = watched-of-all o parts opened newer legal h va inside

pub watched_words_go_on_over_many_cuts : (o : Opening) (newer : List Event) (parts : List (List Event)) (h pa : ℕ) → IsOpened o → AreLegal o (newer ∷ parts)
    → watched_words_from (watched_words o (joined parts) h pa) (opening_left o parts) newer h pa ≡ watched_words o (newer ++ joined parts) h pa
watched_words_go_on_over_many_cuts o newer parts h pa opened legal = words-of-all o parts opened newer legal h pa
