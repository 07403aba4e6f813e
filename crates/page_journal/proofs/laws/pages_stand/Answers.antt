use Rattle.page_journal.proofs.PagesStand.{pages_stand}
use Rattle.page_journal.proofs.laws.pages_stand.Goals as goal

pub returns : goal.returns
returns c = pages_stand
