use Rattle.std.proofs.Common.{◌≡◌, true}
use Rattle.async_cell_history.proofs.GoingOn.{never_back}
use Rattle.async_cell_history.proofs.laws.what_is_got_never_goes_back.Goals as goal

pub returns : goal.returns
returns g c follows seen first later now v w itself on only lawful before leads told =
    never_back _ g.N.Protocol.may g.N.Protocol.named (λ a b. follows a b ≡ true) itself on seen first later now v w only lawful before leads told
