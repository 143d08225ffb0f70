use Rattle.std.proofs.Common.{ap}
use Rattle.async_cell_history.proofs.Linearizing.{begins_map}
use Rattle.async_cell_history.proofs.witness.Witness.learn.Goals as goal

pub returns-clause-goes_on : goal.returns-clause-goes_on
returns-clause-goes_on g c =
    begins_map (λ s. s.entry) _ _ c.args.self.now.calls c.args.past.now.calls (ap (λ v. v.calls) c.self.view_is) (ap (λ v. v.calls) c.past.view_is) c.learn.ensures.begins

pub returns-clause-authors_go_on : goal.returns-clause-authors_go_on
returns-clause-authors_go_on g c =
    begins_map (λ s. s.who) _ _ c.args.self.now.authors c.args.past.now.authors (ap (λ v. v.authors) c.self.view_is) (ap (λ v. v.authors) c.past.view_is) c.learn.ensures.begins
