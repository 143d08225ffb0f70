use Rattle.std.proofs.Common.{ap, ◌∙◌}
use Rattle.async_cell_history.proofs.Linearizing.{seen_of}
use Rattle.async_cell_history.proofs.sees.WitnessSees.see.Goals as goal

pub returns : goal.returns
returns g c = record {
  sees = λ first from call reply woken ready made.
      let learned = c.learn_own.ensures in
      seen_of _ g.N.Protocol.named g.N.Protocol.holds first c.args.self.now c.learn_own.new.self from c.args.core.now call reply woken ready made
      (learned.calls ∙ ap (λ v. v.past.calls) c.core.view_is) (learned.authors ∙ ap (λ v. v.past.authors) c.core.view_is) learned.author learned.own;
}
