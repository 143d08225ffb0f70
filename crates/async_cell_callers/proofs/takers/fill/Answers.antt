use Rattle.async_cell_callers.proofs.takers.fill.Goals as goal

pub returns : goal.returns
returns g c = record {
  wakes = (
    c.or_set_as-set.ensures.linearized,
    λ w waits ends. c.a_fill_or_close_wakes_who_waits.ensures c.args.seen.now.calls c.or_set_as-set.new.seen.calls _ _ w c.or_set_as-set.ensures.linearized c.lawful.ensures.lawful waits ends,
  );
}
