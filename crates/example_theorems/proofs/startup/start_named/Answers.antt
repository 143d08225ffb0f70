use Rattle.std.proofs.Common.{Some, IfOk, Result, Ok, Err}
use Rattle.async_cell_model.specs.declared.entry.Kept.TheVariants.{TryGet}
use Rattle.async_cell_model.specs.declared.reply.Reply.TheVariants.{Value}
use Rattle.example_theorems.proofs.startup.start_named.Goals as goal

-- what follows for each value follows for a result
of_value : {T E : Type 0} {P Q : T → Type 0} (r : Result T E) → ((v : T) → P v → Q v) → IfOk r P → IfOk r Q
of_value (Ok v) law held = law v held
of_value (Err why) law held = tt

pub returns : goal.returns
returns g c =
    let h = c.longer-seen.result.calls in
    let one = c.join-one.result.0 in
    let two = c.join-one.result.1 in
    let stays = c.what_was_seen_stays.ensures.stays in
    record {
      alike = of_value one.0 (λ v got. of_value two.0 (λ w other. c.what_is_set_once_all_get.ensures h v w c.requires.only c.lawful.ensures.lawful
          (stays one.1.calls h TryGet (Value (Some v)) c.longer-seen.ensures.begins got)
          (stays two.1.calls h TryGet (Value (Some w)) c.longer-seen.ensures.other_begins other)) c.join-one.ensures.second) c.join-one.ensures.first;
    }
