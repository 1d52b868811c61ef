use denote.RattleType.{RattleType}
use denote.Param.Send.{IsSend}
use Rattle.ghost_log.specs.contracts.tokens.Prefix.{the_row}
use Rattle.ghost_log.proofs.Values.{begun_keyless}

pub send : (E : RattleType) → IsSend (the_row E)
send E = record { owned = λ d vs. ((λ vss. (tt, ((λ uss. (tt, tt)), tt))), begun_keyless E.coded.code d.name d.list); leaving = λ k f vs. tt }
