use Rattle.example_theorems.proofs.shutdown.stop.Goals as goal

pub returns : goal.returns
returns g c = record {
  wakes = (
    c.in_ok-set_as.ensures.linearized,
    λ w waits. c.a_set_wakes_who_waits.ensures c.args.seen.now.calls c.set_as.new.seen.calls tt w c.in_ok-set_as.ensures.linearized c.lawful.ensures.lawful waits,
  );
}
