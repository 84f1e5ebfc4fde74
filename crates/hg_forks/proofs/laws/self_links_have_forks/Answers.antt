use Rattle.hg_forks.proofs.SelfLaws.{self_links_serve}
use Rattle.hg_forks.proofs.laws.self_links_have_forks.Goals as goal

pub returns : goal.returns
returns c = self_links_serve
