use Rattle.std.proofs.Common.{ap, arith}
use Rattle.std.specs.Prelude.{option_to_list}
use Rattle.std.specs.List.{count_by}
use Rattle.example_theorems.proofs.account.settle.Goals as goal

-- nothing was there at first, and nothing is dropped or left
pub returns : goal.returns
returns g c =
    let now = c.try_into_inner_as.new.seen.calls in
    record {
      balanced = λ is_counted. omega (
        arith,
        c.after_a_close_nothing_is_left.ensures.as_many is_counted now c.lawful.ensures.lawful c.in_ok-left.ensures.closed,
        ap (count_by is_counted) (c.as_many_come_out_or_are_left_as_went_in.ensures.none_dropped c.requires.only now c.lawful.ensures.lawful),
        ap (λ held. count_by is_counted (option_to_list held)) c.requires.empty,
      );
    }
