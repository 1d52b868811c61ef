use Rattle.std.proofs.Common.{ℕ, ◌≤◌, ap, length, subst, sym, ◌∙◌}
use Rattle.std.proofs.lemmas.List.{length-reverse}
use Rattle.board_core.specs.Opening.{Opening}
use Rattle.guest_programs.specs.Guests.{Next}
use Rattle.guest_programs.specs.Ends.{IsEndBy}
use Rattle.hart_threads.specs.Shares.{AreThreads}
use Rattle.hart_threads.proofs.Ending.{is-run}
use Rattle.hart_threads.proofs.Owning.{all-told}
use Rattle.hart_threads.proofs.program_run.run_in.Goals as goal

pub returns-clause-threads : goal.returns-clause-threads
returns-clause-threads g c =
    let b = c.in_ok-board in
    let p = c.in_ok-program in
    let same = p.ensures.blocks ∙ c.requires.guests in
    let threads : AreThreads g.K.Plan.lets g.K.Plan.heard b.board.opening g.K.Plan.guests g.K.Plan.ticks b.board.past b.met =
    subst (λ (opening : Opening). AreThreads g.K.Plan.lets g.K.Plan.heard opening g.K.Plan.guests g.K.Plan.ticks b.board.past b.met) (sym b.ensures.opening) b.ensures.threads in
    let within : length b.board.past ≤ b.board.opening.config.limit =
    subst (λ (many : ℕ). many ≤ b.board.opening.config.limit) (sym (length-reverse c.history-legal.result.now) ∙ ap length c.history-legal.ensures.events) c.history-legal.ensures.within in
    is-run g.K.Plan.lets b.board.opening g.K.Plan.guests g.K.Plan.ticks b.board.past b.met g.K.Plan.heard c.in_ok-end.end within threads
    (subst (λ (bs : Next). IsEndBy b.met b.board.opening b.board.past bs c.in_ok-end.end) same c.in_ok-end.ensures.by)

pub returns-clause-told : goal.returns-clause-told
returns-clause-told g c =
    let b = c.in_ok-board in
    let threads : AreThreads g.K.Plan.lets g.K.Plan.heard b.board.opening g.K.Plan.guests g.K.Plan.ticks b.board.past b.met =
    subst (λ (opening : Opening). AreThreads g.K.Plan.lets g.K.Plan.heard opening g.K.Plan.guests g.K.Plan.ticks b.board.past b.met) (sym b.ensures.opening) b.ensures.threads in
    all-told g.K.Plan.heard b.board.opening b.board.past c.history-legal.ensures.legal threads.told
