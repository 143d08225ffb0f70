use Rattle.std.proofs.Common.{ap, refl}
use Rattle.async_cell_history.proofs.Linearizing.{begins_map}
use Rattle.async_cell_history.proofs.witness.Witness.longer.Goals as goal

pub returns-clause-begins : goal.returns-clause-begins
returns-clause-begins g c =
    begins_map (λ s. s.entry) _ _ c.args.self.now.calls _ (ap (λ v. v.calls) c.self.view_is) refl c.longer.ensures.begins

pub returns-clause-other_begins : goal.returns-clause-other_begins
returns-clause-other_begins g c =
    begins_map (λ s. s.entry) _ _ c.args.other.now.calls _ (ap (λ v. v.calls) c.other.view_is) refl c.longer.ensures.other_begins

pub returns-clause-authors_begin : goal.returns-clause-authors_begin
returns-clause-authors_begin g c =
    begins_map (λ s. s.who) _ _ c.args.self.now.authors _ (ap (λ v. v.authors) c.self.view_is) refl c.longer.ensures.begins

pub returns-clause-others_begin : goal.returns-clause-others_begin
returns-clause-others_begin g c =
    begins_map (λ s. s.who) _ _ c.args.other.now.authors _ (ap (λ v. v.authors) c.other.view_is) refl c.longer.ensures.other_begins
