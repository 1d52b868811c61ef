use Rattle.std.specs.Prelude.{Some}
use Rattle.test_report.proofs.tap.put_details.Goals as goal

pub returns : goal.returns
returns c = (Some c.as_str.result.now, c.in_ok-put_indented.ensures)
