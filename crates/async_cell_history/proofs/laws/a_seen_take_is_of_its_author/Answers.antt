use Rattle.async_cell_history.proofs.TwoTakers.{took, still_took}
use Rattle.async_cell_history.proofs.laws.a_seen_take_is_of_its_author.Goals as goal

pub returns : goal.returns
returns g c = record {
  linearized = λ seen now v told signed many. took _ g.N.Protocol.named seen now v told signed many;
  later = λ seen all n v is calls authors. still_took seen all n v is calls authors;
}
