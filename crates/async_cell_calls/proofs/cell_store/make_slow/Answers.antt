use Rattle.async_cell_calls.proofs.cell_store.make_slow.Goals as goal

pub returns : goal.returns
returns g c = record {
  made = λ first was ready.
      let seen = c.see.ensures.sees first _ _ _ _ (c.catch_up.ensures.again first was ready) c.make-held.ensures.made in
      rw c.finish.ensures.answers
      (c.proves_open.new.core.inner, c.make-held.new.self.inner, c.make-held.ensures.gives, λ owns. cc (c.proves_open.ensures.open owns), seen);
}
