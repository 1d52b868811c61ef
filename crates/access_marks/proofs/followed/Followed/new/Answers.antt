use Rattle.std.proofs.Common.{[], List, sym, ap, subst, ◌∙◌, map}
use Rattle.std.specs.Prelude.{IfSome}
use Rattle.std.specs.List.{All}
use Rattle.std.proofs.lemmas.List.Elements.{All-nil}
use Rattle.board_core.specs.Course.{Course}
use Rattle.board_core.specs.Opening.{opening_at}
use Rattle.board_core.specs.Replies.{IsLegal}
use Rattle.tlb_watch.specs.Tracked.{IsTracking, addresses_of, first_watch}
use Rattle.tlb_watch.specs.Watched.{WatchedAddress}
use Rattle.access_marks.specs.declared.words.WordNote.{WordNote}
use Rattle.access_marks.specs.declared.use_watch.UseWatch.{UseWatch}
use Rattle.access_marks.specs.Inside.Missing.{IsKept}
use Rattle.access_marks.specs.Inside.Words.{AreNoted}
use Rattle.walk_watch.specs.Logged.{IsLogged, listed}
use Rattle.access_marks.proofs.Following.{of-own}
use Rattle.access_marks.proofs.Wording.{noted-first}
use Rattle.access_marks.proofs.followed.Followed.new.Goals as goal

pub invariant_of-result : goal.invariant_of-result
invariant_of-result c =
    let config = c.args.config.now in
    let addresses = c.args.addresses.now in
    let first = c.first_watches_are_watches.ensures config addresses c.requires.present in
    let tracks = subst (λ (watches : List WatchedAddress). IsTracking (opening_at config) [] (addresses_of watches) watches) (sym c.in_ok-tracker.ensures)
    (of-own (opening_at config) [] addresses (map first_watch addresses) first) in
    let made = sym c.in-Ok.ensures.made.1 in (
      subst (λ (b : Course). IsTracking b.opening b.past (addresses_of c.in_ok-tracker.tracker) c.in_ok-tracker.tracker) made tracks,
      subst (λ (b : Course). AreNoted b.opening b.past c.new-2.result.items) made (subst (λ (notes : List WordNote). AreNoted (opening_at config) [] notes) (sym c.new-2.ensures.items) (noted-first config)),
      subst (λ (b : Course). All (IsKept b.opening b.past) c.new-3.result.watches.items) made (subst (λ (l : List UseWatch). All (IsKept (opening_at config) []) l) (sym c.new-3.ensures) (All-nil (IsKept (opening_at config) []))),
      subst (λ (b : Course). IfSome c.first_log.result (λ log. IsLogged b.opening b.past (listed log))) made c.first_log.ensures.empty,
    )

pub returns-clause-made : goal.returns-clause-made
returns-clause-made c =
    let config = c.args.config.now in
    let addresses = c.args.addresses.now in
    let first = c.first_watches_are_watches.ensures config addresses c.requires.present in
    (λ i. record { course = c.in-Ok.ensures.made.1 i; addresses = (ap addresses_of c.in_ok-tracker.ensures ∙ first.are) i; walks = c.first_log.ensures.there i })

pub returns-clause-legal : goal.returns-clause-legal
returns-clause-legal c = subst (λ (b : Course). IsLegal b.opening b.past) c.in-Ok.ensures.made.1 c.history-legal.ensures.legal
