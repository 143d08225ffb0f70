use Rattle.std.proofs.Common.{rules, Some}
use Rattle.async_cell_model.specs.declared.entry.Kept.TheVariants.{TryGet}
use Rattle.async_cell_model.specs.declared.reply.Reply.TheVariants.{Value}
use Rattle.example_theorems.proofs.startup.offer.Goals as goal

pub returns : goal.returns
returns g c =
    let value = c.in_ok-value.value in
    let now = c.in_ok-value.now.calls in
    let before = c.get_as.result.polled.seen.calls in
    record {
      got = c.what_was_seen_stays.ensures.linearized before now TryGet (Value (Some value)) (c.an_exact_get_is_linearized.ensures (λ a b is. is) before now value (search rules));
    }
