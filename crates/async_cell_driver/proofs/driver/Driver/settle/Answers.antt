use Rattle.async_cell_driver.proofs.Words.{DriverState, is_ready, [], arith, below_more, false, refl, rules, sym, true, ◌∙◌, ◌≡◌, err_from_is_err_and}
use Rattle.async_cell_driver.proofs.{Logs.drives_nil, Settled.so_far_nil, Settled.so_far_skip, Settled.so_far_more, Settled.settles_refused}
use Rattle.async_cell_driver.proofs.driver.Driver.settle.Goals as goal

pub loop-i-init : goal.loop-i-init
loop-i-init g c =
    let at : DriverState g.row.T.Denot = record { core = c.self.inside.core; tasks = c.self.inside.tasks } in record {
      within = search rules;
      ends = search rules;
      size = refl;
      settled = ([], rw (← c.self.view_is) (so_far_nil g.T.Clone.is_clone at (drives_nil g.T.Clone.is_clone at c.soundness.ensures c.self.invariant)));
      passed = λ j below. absurd (omega arith);
      left = λ j above. refl;
    }

pub loop-i-preserved-then-not-is_ready : goal.loop-i-preserved-then-not-is_ready
loop-i-preserved-then-not-is_ready g c =
    let here = c.loop-i.invariant in
    let not_ready : is_ready c.loop-i.self [] c.loop-i.i ≡ false = sym c.if-not-is_ready.ensures in record {
      within = omega (arith, here.within);
      ends = here.ends;
      size = here.size;
      settled = (here.settled.0, so_far_skip _ c.args.self.now c.loop-i.self c.loop-i.i c.loop-i.polls here.settled.0 here.settled.1 (sym (here.left c.loop-i.i (omega arith)) ∙ not_ready));
      passed = below_more _ _ here.passed not_ready;
      left = λ j above. here.left j (omega arith);
    }

pub returns-in_err-poll_and_keep-clause-settles : goal.returns-in_err-poll_and_keep-clause-settles
returns-in_err-poll_and_keep-clause-settles g c =
    let here = c.loop-i.invariant in
    let p = err_from_is_err_and c.from_residual.result c.from_residual.ensures.1 in
    let ready : is_ready c.args.self.now [] c.loop-i.i ≡ true = sym (here.left c.loop-i.i (omega arith)) ∙ sym c.if-not-is_ready.ensures in
    let one = c.in_err-poll_and_keep.ensures.settles in
    rw (p.1, p.2) (_, settles_refused _ c.args.self.now c.loop-i.self _ c.loop-i.i c.loop-i.polls here.settled.0 one.0 _ here.settled.1 ready (omega (arith, here.ends)) one.1)

pub loop-i-preserved : goal.loop-i-preserved
loop-i-preserved g c =
    let here = c.loop-i.invariant in
    let ready : is_ready c.args.self.now [] c.loop-i.i ≡ true = sym (here.left c.loop-i.i (omega arith)) ∙ sym c.if-not-is_ready.ensures in
    let one = c.in_ok-poll_and_keep.ensures in record {
      within = omega (arith, here.within);
      ends = here.ends;
      size = one.size ∙ here.size;
      settled = (_, so_far_more g.T.Clone.is_clone c.args.self.now c.loop-i.self c.poll_and_keep.new.self c.loop-i.i c.loop-i.polls here.settled.0 one.settles.0 here.settled.1 ready one.settles.1);
      passed = below_more _ _ (λ j below. one.others_stay j (omega arith) ∙ here.passed j below) one.ready_no_more;
      left = λ j above. one.others_stay j (omega arith) ∙ here.left j (omega arith);
    }
