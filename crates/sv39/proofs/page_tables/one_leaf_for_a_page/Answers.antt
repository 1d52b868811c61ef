use Rattle.sv39.proofs.PageLaw.{leaf_page, one_leaf_for_a_page}
use Rattle.sv39.proofs.page_tables.one_leaf_for_a_page.Goals as goal

pub returns : goal.returns
returns c = record { page = leaf_page; decides = one_leaf_for_a_page }
