use Rattle.script_tasks.proofs.Comments.{table_is_comments}
use Rattle.script_tasks.proofs.ReadBack.{line_read_back, number_read_back, signed_read_back, trace_read_back}
use Rattle.script_tasks.proofs.laws.read_back.Goals as goal

pub returns-clause-number : goal.returns-clause-number
returns-clause-number c = number_read_back

pub returns-clause-signed : goal.returns-clause-signed
returns-clause-signed c = signed_read_back

pub returns-clause-line : goal.returns-clause-line
returns-clause-line c = line_read_back

pub returns-clause-table : goal.returns-clause-table
returns-clause-table c = table_is_comments

pub returns-clause-trace : goal.returns-clause-trace
returns-clause-trace c = trace_read_back
