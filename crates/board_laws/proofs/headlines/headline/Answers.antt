use Rattle.board_laws.proofs.headlines.headline.Goals as goal

pub returns : goal.returns
returns c =
    let good = c.history-history.ensures.good in
    let opened = c.history-history.ensures.opened in
    let legal = c.history-history.ensures.legal in
    record {
      by_the_rules = legal;
      starts_are_entered = c.starts_are_entered.ensures _ _ legal;
      applied_once = λ t place event at. c.applied_once.ensures _ _ t place event good legal at;
      opened_once = λ h t call. c.opened_once.ensures _ _ h t call good legal;
      fenced_is_gone = λ t place flush reached. c.fenced_is_gone.ensures _ _ t place flush good.boot_hart_is_there legal reached;
      opened_is_gone = λ h t call reached. c.opened_is_gone.ensures _ _ h t call opened legal reached;
      needs_are_few = λ h. c.needs_are_few.ensures _ _ h good legal;
      needed_serves_are_accepted = λ h t needs. c.needed_serves_are_accepted.ensures _ _ h t opened legal needs;
      served_calls_can_end = λ newer h on room have. c.served_calls_can_end.ensures _ newer _ h opened on room have;
    }
