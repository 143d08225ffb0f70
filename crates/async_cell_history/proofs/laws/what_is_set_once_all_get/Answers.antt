use Rattle.async_cell_history.proofs.GoingOn.{all_get}
use Rattle.async_cell_history.proofs.laws.what_is_set_once_all_get.Goals as goal

pub returns : goal.returns
returns g c now v w only lawful first other = all_get _ _ g.N.Protocol.may g.N.Protocol.named now v w only lawful first other
