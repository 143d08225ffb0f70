use Rattle.std.proofs.Common.{◌≡◌, true}
use Rattle.async_cell_history.proofs.GoingOn.{follows_put}
use Rattle.async_cell_history.proofs.laws.what_is_got_follows_what_was_put.Goals as goal

pub returns : goal.returns
returns g c follows seen first later now saw v w itself on only lawful before leads told =
    follows_put _ g.N.Protocol.may g.N.Protocol.named (λ a b. follows a b ≡ true) itself on seen first later now saw v w only lawful before leads told
