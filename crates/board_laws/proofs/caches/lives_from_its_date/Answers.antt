use Rattle.board_laws.proofs.Lives.{lives_from_its_date}
use Rattle.board_laws.proofs.caches.lives_from_its_date.Goals as goal

pub returns : goal.returns
returns c = lives_from_its_date
