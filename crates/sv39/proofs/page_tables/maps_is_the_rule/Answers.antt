use Rattle.sv39.proofs.MapsLaws.{maps_is_the_rule}
use Rattle.sv39.proofs.page_tables.maps_is_the_rule.Goals as goal

pub returns : goal.returns
returns c = maps_is_the_rule
