use Rattle.condition_script.proofs.asking.asks.Goals as goal

pub returns-in-Never : goal.returns-in-Never
returns-in-Never c = rw c.in-Never.is c.never.ensures

pub returns-in-Some : goal.returns-in-Some
returns-in-Some c = rw c.in-Some.is c.some.ensures

pub returns-in-Each : goal.returns-in-Each
returns-in-Each c = rw c.in-Each.is c.each.ensures

pub returns-in-End : goal.returns-in-End
returns-in-End c = rw c.in-End.is c.ends.ensures

pub returns-in-Before : goal.returns-in-Before
returns-in-Before c = rw c.in-Before.is c.ordered.ensures

pub returns-in-Can : goal.returns-in-Can
returns-in-Can c = rw c.in-Can.is c.can_end.ensures

pub returns-in-Steady : goal.returns-in-Steady
returns-in-Steady c = rw c.in-Steady.is c.without.ensures

pub returns-in-Firm : goal.returns-in-Firm
returns-in-Firm c = rw c.in-Firm.is c.without-in-Firm.ensures

pub returns-in-Lenient : goal.returns-in-Lenient
returns-in-Lenient c = rw c.in-Lenient.is c.without-in-Lenient.ensures
