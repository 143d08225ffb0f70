use Rattle.async_cell_calls.proofs.cell_store.CellStore.make.Goals as goal

pub returns-in-Ok : goal.returns-in-Ok
returns-in-Ok g c = record {
  made =
      let seen = c.see.ensures.sees c.args.seen.now _ _ _ _ c.catch_up.ensures.ready c.in-Ok.ensures.made in
      rw c.finish.ensures.answers
      (c.proves_open.new.core.inner, c.fast.new.self.inner, c.in-Ok.ensures.gives, λ _. (λ owns. cc (c.proves_open.ensures.open owns), seen));
}

pub returns-2 : goal.returns-2
returns-2 g c = record {
  made =
      let seen = c.see-2.ensures.sees c.args.seen.now _ _ _ _ c.catch_up.ensures.ready c.make-held.ensures.made in
      rw c.finish-2.ensures.answers
      (c.proves_open.new.core.inner, c.make-held.new.self.inner, c.make-held.ensures.gives, λ _. (λ owns. cc (c.proves_open.ensures.open owns), seen));
}

pub returns-in-Ok-fast : goal.returns-in-Ok-fast
returns-in-Ok-fast g c = record {
  made =
      let seen = c.see-in-Ok-fast.ensures.sees c.args.seen.now _ _ _ _ c.catch_up.ensures.ready c.in-Ok-fast.ensures.made in
      rw c.finish-in-Ok-fast.ensures.answers
      (c.proves_open.new.core.inner, c.fast-then-IS_FAST.new.self.inner, c.in-Ok-fast.ensures.gives, λ _. (λ owns. cc (c.proves_open.ensures.open owns), seen));
}
