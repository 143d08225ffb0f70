use Rattle.std.proofs.Common.{IfSome, arith}
use Rattle.futures.proofs.LoanLemmas.{IfSome-map}
use Rattle.async_cell_history.specs.History.{Took}
use Rattle.example_theorems.proofs.job.share_named.Goals as goal

-- if all takes are by one author, the first and the second did not both take
pub returns : goal.returns
returns g c =
    let all = c.longer-seen.result in
    let one = c.join-one.result.0 in
    let two = c.join-one.result.1 in
    let later = c.a_seen_take_is_of_its_author.ensures.later in
    record {
      once = IfSome-map (λ v. Took 1 v one.1) (λ _. IfSome two.0 (λ _. ⊥)) one.0 (λ v took. IfSome-map (λ w. Took 2 w two.1) (λ _. ⊥) two.0
          (λ w other. omega (
            arith,
            c.of_takers_alone_one_gets.ensures all 1 2 v w c.requires.only c.lawful.ensures.lawful
                (later one.1 all 1 v took c.longer-seen.ensures.begins c.longer-seen.ensures.authors_begin)
                (later two.1 all 2 w other c.longer-seen.ensures.other_begins c.longer-seen.ensures.others_begin),
          ))
          c.join-one.ensures.second) c.join-one.ensures.first;
    }
