use Rattle.std.proofs.Common.{◌≡◌, ◌<◌, ◌∷◌, List, subst, sym}
use Rattle.std.specs.List.{All}
use Rattle.std.specs.Vec.Iter.{into_iter_items}
use Rattle.std.proofs.lemmas.List.Elements.{All-head, All-push, All-tail}
use Rattle.access_marks.specs.declared.entry_use.EntryUse.{EntryUse}
use Rattle.access_marks.specs.declared.use_watch.UseWatch.{UseWatch}
use Rattle.access_marks.specs.Inside.Missing.{IsKept}
use Rattle.access_marks.proofs.missing.UseWatches.happened.Goals as goal

pub loop-watch-preserved : goal.loop-watch-preserved
loop-watch-preserved c =
    let o = c.args.board.now.opening in
    let at = c.loop-watch in
    let w : UseWatch = c.in-Some.watch in
    let after : UseWatch = c.happened.new.self in
    let rest = into_iter_items c.next.new.self in
    let Present : UseWatch → Type 0 = λ w. w.of.at.hart < o.config.harts in
    let steps : into_iter_items at.watch-iterator ≡ w ∷ rest = c.in-Some.ensures.steps.0 in (
      All-tail Present w rest (subst (λ (l : List UseWatch). All Present l) steps at.invariant.0),
      λ event past grew is all.
          let before = at.invariant.1 event past grew is all in
          let here = subst (λ (l : List UseWatch). All (IsKept o past) l) steps before.0 in
          let head = All-head (IsKept o past) w rest here in (
            All-tail (IsKept o past) w rest here,
            subst (λ (l : List UseWatch). All (IsKept o (event ∷ past)) l) (sym c.in_ok-push.ensures.items)
                (All-push (IsKept o (event ∷ past)) at.after.items after before.1 (record {
                  present = subst (λ (of : EntryUse). of.at.hart < o.config.harts) (sym c.in_ok-happened.ensures.of) head.present;
                  watch = c.in_ok-happened.ensures.watch event past grew is head.watch;
                })),
          ),
    )

pub returns : goal.returns
returns c = λ event past grew is all.
    (c.loop-watch.invariant.1 event past grew is
    (subst (λ (l : List UseWatch). All (IsKept c.args.board.now.opening past) l) (sym c.into_iter-watch-iterator.ensures.into_iter_gives.0) all)).1
